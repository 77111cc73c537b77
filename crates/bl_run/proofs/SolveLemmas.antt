-- Sizes of a point's value.
use Rattle.std.proofs.Common.{◌≡◌, ◌≤◌, length, ⊎_elim, arith}
use Rattle.std.specs.Prelude.{ℤ, List, ◌*ℤ◌, FitsSigned}
use Rattle.std.specs.Int.{w64}
use Rattle.bl_whole.specs.Within.{IsWithin, AreWithin}
use Rattle.bl_whole.proofs.WithinLemmas.{within_dot, within_product, within_more, fits_from_within}
use Rattle.bl_terms.specs.Programs.{Program, InBox, columns, follower_at}
use Rattle.std.proofs.lemmas.List.{length-map}
use Rattle.bl_model.specs.View.{IsModel}
use Rattle.bl_raw.specs.declared.raw.RawMps.{RawMps}
use Rattle.bl_raw.specs.declared.raw.RawAux.{RawAux}
use Rattle.bl_model.specs.Build.{program_of}
use Rattle.bl_model.proofs.PointLemmas.{InBox-within}

-- the follower's value of a point of the box fits 64 bits, turned round or not
pub follower_fits : (p : Program) (z : List ℤ) → IsModel p → InBox p z → FitsSigned w64 (follower_at p z *ℤ p.sense)
follower_fits p z m is =
    let costs : AreWithin 10000000 p.follower_cost = record { each = λ k _. m.limits.follower_costs k } in
    let few : length p.follower_cost ≤ 120 = omega (arith, m.sound.follower_cost_columns, m.limits.few_columns) in
    let value : IsWithin 12000000000000000 (follower_at p z) = within_more (within_dot costs (InBox-within p z m is))
    (omega (arith, few)) in
    let sense : IsWithin 1 p.sense = ⊎_elim (λ e. record { magnitude = rw e (omega arith) })
    (λ e. record { magnitude = rw e (omega arith) }) m.sound.sign in
    fits_from_within w64 (within_product value sense) (omega arith)

-- the program has the text's columns
pub program-columns : (mps : RawMps) (aux : RawAux) → columns (program_of mps aux) ≡ length mps.columns
unfolding program_of
program-columns mps aux = length-map mps.columns (λ c. c.lo)
