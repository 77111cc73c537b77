use Rattle.std.proofs.Common.{arith}
use Rattle.bl_core.proofs.BookLemmas.{few_nodes, node_count}
use Rattle.bl_core.proofs.book.Book.made.Goals as goal

pub overflow_cast-result : goal.overflow_cast-result
overflow_cast-result c =
    let few = few_nodes c.self.inside c.self.invariant in
    let count = node_count c.self.inside c.self.invariant in
    omega (arith, few, count, c.len.ensures)

pub returns-clause-value : goal.returns-clause-value
returns-clause-value c =
    rw (← c.self.view_is) (let count = node_count c.self.inside c.self.invariant in omega (arith, count, c.len.ensures))

pub returns-clause-few : goal.returns-clause-few
returns-clause-few c = rw (← c.self.view_is) (few_nodes c.self.inside c.self.invariant)
