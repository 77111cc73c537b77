use Rattle.std.proofs.Common.{◌≡◌, pos}
use Rattle.bl_frac.proofs.LowestTerms.{IsReduced-reciprocal_of_negative, IsReduced-reciprocal_of_positive}
use Rattle.bl_frac.proofs.arithmetic.reciprocal_of.Goals as goal

pub invariant_of-t-4 : goal.invariant_of-t-4
invariant_of-t-4 c =
    IsReduced-reciprocal_of_negative _ _ _ c.a.invariant c.unsigned_abs-den.ensures.value c.if-a-lt0.true

pub invariant_of-result : goal.invariant_of-result
invariant_of-result c =
    let nonzero : c.a.inside.num ≡ pos 0 → ⊥ = rw (← c.a.view_is) at c.requires in
    IsReduced-reciprocal_of_positive _ _ _ c.a.invariant nonzero c.unsigned_abs-den.ensures.value c.if-a-lt0.false
