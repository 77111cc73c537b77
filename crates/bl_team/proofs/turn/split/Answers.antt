use Rattle.std.proofs.Common.{sym, subst, zero}
use Rattle.bl_core.specs.Accounts.{KeptBook}
use Rattle.bl_core.specs.Refusals.{IsSplitFailure}
use Rattle.bl_core.specs.declared.fail.SplitFail.TheVariants.{Full}
use Rattle.bl_core.specs.declared.outcome.Ended.TheVariants.{Nodes}
use Rattle.bl_team.specs.Turns.{IsEnd}
use Rattle.bl_team.proofs.Turns.{over_by_split, full_end}
use Rattle.bl_team.proofs.turn.split.Goals as goal

pub returns-in-Ok : goal.returns-in-Ok
returns-in-Ok c = λ n.
    over_by_split c.args.book.now c.split.new.self c.args.node c.args.halves c.args.why c.args.cuts c.in-Ok.ensures.ok
    c.in-Ok.ensures.allowed c.requires.work

pub returns-in-Err-Full : goal.returns-in-Err-Full
returns-in-Err-Full c = λ n.
    let l = c.args.book.now.ledger in
    let fails : IsSplitFailure l.book zero c.args.node c.args.halves c.args.why
    (Full c.in-Err-Full.field-0-0 c.in-Err-Full.why) =
    rw c.in-Err-Full.field-0-is at c.in-Err-Full.ensures.err in
    subst (λ (x : KeptBook). IsEnd n l.book x.ledger (Nodes c.args.node c.in-Err-Full.why))
    (sym c.in-Err-Full.ensures.unchanged)
    (full_end n l c.args.node c.in-Err-Full.field-0-0 c.args.halves c.args.why c.in-Err-Full.why
    c.limit-kept.ensures.kept c.requires.work.workers c.parent-halves.ensures.split c.model-licence.ensures.licence
    fails)
