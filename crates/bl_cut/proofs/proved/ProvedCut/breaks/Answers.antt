use Rattle.std.proofs.Common.{◌≡◌, length, subst, sym}
use Rattle.std.specs.Prelude.{ℤ, List}
use Rattle.std.specs.Int.{w128}
use Rattle.bl_whole.specs.Within.{PartialDotsFit}
use Rattle.bl_cut.proofs.CutLemmas.{row_places, row_fits}
use Rattle.bl_cut.proofs.proved.ProvedCut.breaks.Goals as goal

pub exceeds-requires-clause-places : goal.exceeds-requires-clause-places
exceeds-requires-clause-places c =
    subst (λ (cs : List ℤ). length c.args.z.now ≡ length cs) (sym c.coef.ensures.value)
    (row_places c.args.self.now c.args.z.now c.coef.ensures.proved c.requires)

pub exceeds-requires-clause-fits : goal.exceeds-requires-clause-fits
exceeds-requires-clause-fits c =
    subst (λ (cs : List ℤ). PartialDotsFit w128 cs c.args.z.now) (sym c.coef.ensures.value)
    (row_fits c.args.self.now c.args.z.now c.coef.ensures.proved c.requires)
