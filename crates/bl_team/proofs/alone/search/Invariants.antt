use Rattle.bl_team.specs.Turns.{IsIdle, IsSameSearch, left_of}
use Rattle.bl_team.proofs.alone.search.Given as goal

abbrev pub invariant-nodes : goal.invariant-nodes
invariant-nodes g l = record {
  same : IsSameSearch l.initial.book.ledger.book l.book.ledger.book;
  idle : IsIdle l.book.ledger.book;
}

abbrev pub decreases-nodes : goal.decreases-nodes
decreases-nodes g l = left_of l.book.ledger.book
