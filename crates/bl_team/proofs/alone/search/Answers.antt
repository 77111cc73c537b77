use Rattle.std.proofs.Common.{sym, subst}
use Rattle.bl_core.specs.Outcomes.{Ending}
use Rattle.bl_team.specs.Turns.{IsEnd, IsTurn}
use Rattle.bl_team.specs.declared.turn.Turn.{Turn}
use Rattle.bl_team.proofs.Turns.{end_from}
use Rattle.bl_team.proofs.alone.search.Goals as goal

pub returns-in-Ended : goal.returns-in-Ended
returns-in-Ended g c =
    let n = c.args.follower_nodes in
    let first = c.args.book.ledger.book in
    let before = c.nodes.book.ledger.book in
    let l = c.take_turn.new.book.ledger in
    let is : IsEnd n before l c.in-Ended.end =
    subst (λ (t : Turn). IsTurn n before t l) c.in-Ended.is c.in_ok-take_turn.ensures in
    subst (λ (o : Ending). IsEnd n first o.book.ledger o.end) (sym c.make-in-Ended.ensures)
    (end_from n first before l c.in-Ended.end c.nodes.invariant.same is)
