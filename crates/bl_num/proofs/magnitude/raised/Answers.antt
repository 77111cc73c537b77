use Rattle.std.proofs.Common.{ℕ, ◌*◌, ap, min, ◌∙◌, arith}
use Rattle.bl_num.proofs.Capping.{capped-power-more, capped-power-end}
use Rattle.bl_num.proofs.magnitude.raised.Goals as goal

pub loop-step-preserved : goal.loop-step-preserved
loop-step-preserved c =
    c.min-raised.ensures
    ∙ ap (λ (r : ℕ). min (r * 10) 1000000000000000000000000000000000001) c.loop-step.invariant
    ∙ capped-power-more c.args.number c.loop-step._step

pub returns : goal.returns
returns c = c.loop-step.invariant
    ∙ capped-power-end c.args.number c.args.power c.loop-step._step (omega (arith, c.min-step-end.ensures))
