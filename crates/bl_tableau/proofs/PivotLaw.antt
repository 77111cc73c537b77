-- A pivot keeps the solutions.
use Rattle.std.proofs.Common.{◌≡◌, ◌≢◌, ℕ, ◌<◌, ◌≤◌, inl, inr, pos, refl, sym, ap, ◌∙◌, subst, arith}
use Rattle.std.specs.Prelude.{Option, Some, None, IsSome, unwrap_or, option_map, option_and_then, ◌==◌}
use Rattle.std.proofs.lemmas.Bool.{cases_eq}
use Rattle.bl_terms.specs.Bounds.{Problem}
use Rattle.bl_simplex.specs.Fractions.{Fraction, negated, product_of, quotient_of, difference_of, whole_fraction}
use Rattle.bl_frac.proofs.Rationals.{product_of-positive, quotient_of-positive, difference_of-positive}
use Rattle.bl_simplex.specs.Dictionaries.{Dictionary, columns, cost_row}
use Rattle.bl_simplex.specs.Pivots.{scaled_entry, eliminated_entry, scaled_row, pivot_place, pivoted, IsNarrowPivot}
use Rattle.bl_tableau.proofs.RowSteps.{test_same, test_other, pivot_place-own, pivot_place-other}

-- ---- what stands at the places after a narrow pivot

there : (o : Option Fraction) (z : Fraction) → IsSome o → o ≡ Some (unwrap_or o z)
there None z h = cc
there (Some x) z h = refl

-- the place after the pivot is the one that was computed
pub computed : (q : Problem) (d : Dictionary) (r c i j : ℕ) → IsNarrowPivot q d r c → i ≤ cost_row q → j ≤ columns q
    → pivot_place d.place r c i j ≡ Some ((pivoted d r c).place i j)
unfolding pivoted
computed q d r c i j h hi hj = there (pivot_place d.place r c i j) (whole_fraction (pos 0)) (h.each i j hi hj)

pub own_share : (q : Problem) (d : Dictionary) (r c : ℕ) → IsNarrowPivot q d r c
    → quotient_of (whole_fraction (pos 1)) (d.place r c) ≡ Some ((pivoted d r c).place r c)
own_share q d r c h =
    let e = computed q d r c r c h h.possible.row_in (omega (arith, h.possible.column_in)) in
    sym (ap (scaled_entry (d.place r c) (d.place r c)) (test_same c)) ∙ sym (pivot_place-own d.place r c c) ∙ e

pub other_share : (q : Problem) (d : Dictionary) (r c j : ℕ) → IsNarrowPivot q d r c → j ≤ columns q → j ≢ c
    → quotient_of (d.place r j) (d.place r c) ≡ Some ((pivoted d r c).place r j)
other_share q d r c j h hj ne =
    let e = computed q d r c r j h h.possible.row_in hj in
    sym (ap (scaled_entry (d.place r j) (d.place r c)) (test_other j c ne)) ∙ sym (pivot_place-own d.place r c j) ∙ e

share_is_place : (d : Dictionary) (r c j : ℕ) → scaled_row d.place r c j ≡ (pivoted d r c).place r j
unfolding pivoted
share_is_place d r c j = ap (λ o. unwrap_or o (whole_fraction (pos 0))) (sym (pivot_place-own d.place r c j))

remainder_place : (q : Problem) (d : Dictionary) (r c i j : ℕ) → IsNarrowPivot q d r c → i ≤ cost_row q → j ≤ columns q
    → i ≢ r → eliminated_entry (d.place i c) (d.place i j) ((pivoted d r c).place r j) (j == c)
    ≡ Some ((pivoted d r c).place i j)
remainder_place q d r c i j h hi hj ne =
    ap (λ f. eliminated_entry (d.place i c) (d.place i j) f (j == c)) (sym (share_is_place d r c j))
    ∙ sym (pivot_place-other d.place r c i j ne) ∙ computed q d r c i j h hi hj

mapped : (o : Option Fraction) (v : Fraction) → option_map negated o ≡ Some v
    → (t : Fraction) × (o ≡ Some t) × (v ≡ negated t)
mapped None v h = cc
mapped (Some t) v h = (t, refl, cc)

chained : (x : Fraction) (o : Option Fraction) (v : Fraction) → option_and_then (difference_of x) o ≡ Some v
    → (t : Fraction) × (o ≡ Some t) × (difference_of x t ≡ Some v)
chained x None v h = cc
chained x (Some t) v h = (t, refl, h)

pub own_remainder : (q : Problem) (d : Dictionary) (r c i : ℕ) → IsNarrowPivot q d r c → i ≤ cost_row q → i ≢ r
    → (t : Fraction) × (product_of (d.place i c) ((pivoted d r c).place r c) ≡ Some t)
    × ((pivoted d r c).place i c ≡ negated t)
own_remainder q d r c i h hi ne =
    let e = remainder_place q d r c i c h hi (omega (arith, h.possible.column_in)) ne in
    mapped (product_of (d.place i c) ((pivoted d r c).place r c)) _
    (sym (ap (eliminated_entry (d.place i c) (d.place i c) ((pivoted d r c).place r c)) (test_same c)) ∙ e)

pub other_remainder : (q : Problem) (d : Dictionary) (r c i j : ℕ) → IsNarrowPivot q d r c → i ≤ cost_row q
    → j ≤ columns q → i ≢ r → j ≢ c
    → (t : Fraction) × (product_of (d.place i c) ((pivoted d r c).place r j) ≡ Some t)
    × (difference_of (d.place i j) t ≡ Some ((pivoted d r c).place i j))
other_remainder q d r c i j h hi hj ne apart =
    let e = remainder_place q d r c i j h hi hj ne in
    chained (d.place i j) (product_of (d.place i c) ((pivoted d r c).place r j)) _
    (sym (ap (eliminated_entry (d.place i c) (d.place i j) ((pivoted d r c).place r j)) (test_other j c apart)) ∙ e)

-- ---- positive denominators

pub record ArePositive (q : Problem) (d : Dictionary) : Type 0 where
  pub each : (i j : ℕ) → i ≤ cost_row q → j ≤ columns q → 0 < (d.place i j).den

positive_share : (q : Problem) (d : Dictionary) (r c j : ℕ) → IsNarrowPivot q d r c → ArePositive q d → j ≤ columns q
    → 0 < ((pivoted d r c).place r j).den
positive_share q d r c j h all hj =
    elim (cases_eq j c) [
      | inl e ↦ subst (λ k. 0 < ((pivoted d r c).place r k).den) (sym e)
          (quotient_of-positive (whole_fraction (pos 1)) (d.place r c) _ (omega arith) h.possible.nonzero
          (own_share q d r c h))
      | inr ne ↦ quotient_of-positive (d.place r j) (d.place r c) _
          (all.each r j h.possible.row_in hj) h.possible.nonzero (other_share q d r c j h hj ne)
    ]

positive_remainder : (q : Problem) (d : Dictionary) (r c i j : ℕ) → IsNarrowPivot q d r c → ArePositive q d
    → i ≤ cost_row q → j ≤ columns q → i ≢ r → 0 < ((pivoted d r c).place i j).den
positive_remainder q d r c i j h all hi hj ne =
    let factor = all.each i c hi (omega (arith, h.possible.column_in)) in
    elim (cases_eq j c) [
      | inl e ↦
          let w = own_remainder q d r c i h hi ne in
          let t = product_of-positive (d.place i c) ((pivoted d r c).place r c) w.0 factor
          (positive_share q d r c c h all (omega (arith, h.possible.column_in))) w.1 in
          let at : 0 < ((pivoted d r c).place i c).den = subst (λ f. 0 < f.den) (sym w.2) t in
          subst (λ k. 0 < ((pivoted d r c).place i k).den) (sym e) at
      | inr apart ↦
          let w = other_remainder q d r c i j h hi hj ne apart in
          let t = product_of-positive (d.place i c) ((pivoted d r c).place r j) w.0 factor
          (positive_share q d r c j h all hj) w.1 in
          difference_of-positive (d.place i j) w.0 _ (all.each i j hi hj) t w.2
    ]

pub positive_after : (q : Problem) (d : Dictionary) (r c : ℕ) → IsNarrowPivot q d r c → ArePositive q d
    → ArePositive q (pivoted d r c)
positive_after q d r c h all = record {
  each = λ i j hi hj.
      elim (cases_eq i r) [
        | inl e ↦ subst (λ k. 0 < ((pivoted d r c).place k j).den) (sym e) (positive_share q d r c j h all hj)
        | inr ne ↦ positive_remainder q d r c i j h all hi hj ne
      ];
}
