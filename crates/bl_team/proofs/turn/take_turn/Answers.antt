use Rattle.std.proofs.Common.{sym, subst}
use Rattle.bl_book_terms.specs.Books.{Ledger}
use Rattle.bl_team.specs.Turns.{IsBegun}
use Rattle.bl_team.proofs.Turns.{turn_from}
use Rattle.bl_team.proofs.turn.take_turn.Goals as goal

pub returns-in-Ok-Divide : goal.returns-in-Ok-Divide
returns-in-Ok-Divide g c =
    let begun = subst (λ (l : Ledger). IsBegun c.args.book.now.ledger.book c.args.node l.book)
    (sym c.make_room.ensures.ledger) c.in_ok-task.ensures.begun in
    turn_from c.args.follower_nodes c.args.book.now.ledger.book c.make_room.new.self.ledger.book c.args.node
    c.split.result c.split.new.book.ledger begun (c.split.ensures c.args.follower_nodes)
