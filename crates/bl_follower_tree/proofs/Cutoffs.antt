-- A bound proof for a cutoff is one for each lower cutoff.
use Rattle.std.proofs.Common.{sym, ◌∙◌, ap, refl, arith}
use Rattle.std.specs.Prelude.{ℤ, pos, ◌-ℤ◌, ◌*ℤ◌, ◌≤ℤ◌, Option, Some, None}
use Rattle.std.proofs.lemmas.Int.{ints}
use Rattle.std.proofs.lemmas.Option.{none-some}
use Rattle.std.proofs.Math.IntN.{zero-*ℤ}
use Rattle.bl_whole.proofs.Products.{mul_le_left}
use Rattle.bl_terms.specs.Bounds.{Problem, Multipliers, Proves}
use Rattle.bl_follower_tree.specs.Growth.{IsLowered}

pub proves_too : (q : Problem) (u v : Option ℤ) (w : Multipliers) → IsLowered u v → Proves q u w → Proves q v w
proves_too q None None w h p = p
proves_too q None (Some y) w h p =
    let zero = ap (λ d. d *ℤ (y -ℤ pos 1)) (p.free refl) ∙ zero-*ℤ (y -ℤ pos 1) in
    let beyond = p.beyond in
    record {
      rows = p.rows;
      multipliers = p.multipliers;
      free = λ e. absurd (none-some y (sym e));
      beyond = omega (arith, ints);
    }
proves_too q (Some x) None w h p = absurd h
proves_too q (Some x) (Some y) w h p =
    let one : (y -ℤ pos 1) ≤ℤ (x -ℤ pos 1) = omega (arith, ints) in
    let less = mul_le_left w.den p.multipliers.den_least one in
    let beyond = p.beyond in
    record {
      rows = p.rows;
      multipliers = p.multipliers;
      free = λ e. absurd (none-some y (sym e));
      beyond = omega (arith, ints);
    }
