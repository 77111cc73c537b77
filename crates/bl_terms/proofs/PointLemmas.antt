-- Boxes within boxes, and the row of zeros.
use Rattle.std.proofs.Common.{◌≡◌, ℕ, zero, suc, refl, ◌∙◌, ap, arith, List, length}
use Rattle.std.specs.Prelude.{ℤ, pos, ◌*ℤ◌}
use Rattle.std.proofs.Math.IntN.{zero-*ℤ}
use Rattle.std.proofs.lemmas.Int.{ints}
use Rattle.bl_whole.specs.Sums.{component}
use Rattle.bl_whole.proofs.SumLemmas.{sum_below-zero}
use Rattle.bl_terms.specs.Points.{Area, InArea, IsWithinArea, zeros, ZerosAskNothing}

pub point_of_part : {a outer : Area} {z : List ℤ} → IsWithinArea a outer → InArea a z → InArea outer z
point_of_part part inside = record {
  columns = inside.columns ∙ part.columns;
  least = λ k b. let e = part.columns in let h = part.least k b in let g = inside.least k (omega arith) in
      omega (arith, ints);
  most = λ k b. let e = part.columns in let h = part.most k b in let g = inside.most k (omega arith) in
      omega (arith, ints);
}

pub part_of_itself : (a : Area) → IsWithinArea a a
part_of_itself a = record { columns = refl; least = λ k b. omega (arith, ints); most = λ k b. omega (arith, ints) }

pub part_of_part : {a b c : Area} → IsWithinArea a b → IsWithinArea b c → IsWithinArea a c
part_of_part g h = record {
  columns = g.columns ∙ h.columns;
  least = λ k b. let e = h.columns in let x = h.least k b in let y = g.least k (omega arith) in omega (arith, ints);
  most = λ k b. let e = h.columns in let x = h.most k b in let y = g.most k (omega arith) in omega (arith, ints);
}

zero_at : (n k : ℕ) → component (zeros n) k ≡ pos 0
zero_at zero k = refl
zero_at (suc n) zero = refl
zero_at (suc n) (suc k) = zero_at n k

pub zeros_ask_nothing : ZerosAskNothing
zeros_ask_nothing n z = record {
  holds =
      let none = sum_below-zero (length (zeros n)) (λ k. component (zeros n) k *ℤ component z k)
      (λ k b. ap (λ x. x *ℤ component z k) (zero_at n k) ∙ zero-*ℤ (component z k)) in
      omega (arith, ints);
}
