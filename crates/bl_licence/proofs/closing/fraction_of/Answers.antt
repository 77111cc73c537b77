use Rattle.std.proofs.Common.{◌^◌, ◌<◌, unsigned_abs, sym, subst, arith}
use Rattle.std.proofs.lemmas.Int.{ints}
use Rattle.bl_frac.proofs.Signed.{signed_back}
use Rattle.bl_frac.proofs.LowestTerms.{IsReduced-whole}
use Rattle.bl_tableau.proofs.OpeningSteps.{some_if}
use Rattle.bl_licence.proofs.closing.fraction_of.Goals as goal

pub unwrap-requires : goal.unwrap-requires
unwrap-requires c =
    let back = signed_back c.args.number c.requires in
    some_if c.reduced.result _ c.reduced.ensures
    (omega (arith, ints), IsReduced-whole _ (subst (λ z. unsigned_abs z < 2 ^ 127) (sym back) c.requires))
