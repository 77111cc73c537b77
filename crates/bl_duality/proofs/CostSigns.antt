-- Steps keep the cost row's entries from being positive: the dual ratio test.
use Rattle.std.proofs.Common.{◌≡◌, ◌≢◌, ℕ, ◌+◌, ◌*◌, ◌/◌, ◌<◌, ◌≤◌, inl, inr, List, [], ◌∷◌, ℤ, pos, neg_ℤ, ◌-ℤ◌}
use Rattle.std.proofs.Common.{◌*ℤ◌, ◌≤ℤ◌, ◌<ℤ◌, unsigned_abs, int_div, sym, ap, ◌∙◌, subst, arith, refl}
use Rattle.std.specs.Prelude.{Option, Some, None, negsuc}
use Rattle.std.proofs.Math.Nat.{div-one}
use Rattle.std.proofs.lemmas.Bool.{cases_eq}
use Rattle.std.proofs.lemmas.Int.{ints, by_lt_z}
use Rattle.bl_terms.specs.Bounds.{Problem}
use Rattle.bl_simplex.specs.Gcd.{gcd}
use Rattle.bl_simplex.specs.Fractions.{Fraction, whole_fraction, reciprocal, product_top, product_bottom, product_of}
use Rattle.bl_simplex.specs.Fractions.{quotient_of}
use Rattle.bl_simplex.specs.Dictionaries.{Dictionary, columns, cost_row, opening}
use Rattle.bl_simplex.specs.Pivots.{pivoted, IsNarrowPivot, replay, AllNarrow}
use Rattle.bl_simplex.specs.LegalPivots.{ratio_of, IsCandidate, LosesRatioTest, HasLeastRatio, IsLegal}
use Rattle.bl_simplex.specs.Licences.{IsStep, AreSteps}
use Rattle.bl_frac.proofs.GcdLaws.{gcd_one, gcd_comm}
use Rattle.bl_frac.proofs.Terms.{product_of-some}
use Rattle.bl_frac.proofs.Rationals.{quotient_of-positive}
use Rattle.bl_whole.specs.Sums.{component}
use Rattle.bl_tableau.proofs.OpeningSteps.{entry_of_cost}
use Rattle.bl_tableau.proofs.Scaling.{over}
use Rattle.bl_tableau.proofs.PivotLaw.{own_share, other_share, own_remainder, other_remainder, ArePositive}
use Rattle.bl_tableau.proofs.PivotLaw.{positive_after}
use Rattle.bl_tableau.proofs.RowEquations.{quotient_over, one_quotient_over, negated_over, difference_over}
use Rattle.bl_tableau.proofs.ReplayProof.{Setting, row_label_other}
use Rattle.bl_tableau.proofs.ReplayInduction.{common, setting}
use Rattle.bl_duality.proofs.Signs.{own_sign, other_sign, candidate_sign, ratios_in_order, over_nonnegative}
use Rattle.bl_duality.proofs.Signs.{over_nonpositive, over_negative, nonpositive_from_over, quotient_tied}
use Rattle.bl_duality.proofs.Signs.{IsMultiple, at_most_from_order}

-- no entry of the cost row is positive
pub record IsDualFeasible (q : Problem) (d : Dictionary) : Type 0 where
  pub each : (j : ℕ) → j < columns q → (d.place (cost_row q) j).num ≤ℤ pos 0

-- ---- the ratio of a narrow pivot exists: its quotient is computed on the way

int_div_one : (z : ℤ) → int_div z (pos 1) ≡ z
int_div_one (pos n) = ap pos (div-one n)
int_div_one (negsuc n) = ap (λ k. neg_ℤ (pos k)) (div-one _)

one_over : (p f : Fraction) → quotient_of (whole_fraction (pos 1)) p ≡ Some f → reciprocal p ≡ f
unfolding quotient_of
one_over p f e =
    let r = reciprocal p in
    let one = whole_fraction (pos 1) in
    let left : gcd 1 r.den ≡ 1 = gcd_comm 1 r.den ∙ gcd_one r.den in
    let right : gcd (unsigned_abs r.num) 1 ≡ 1 = gcd_one (unsigned_abs r.num) in
    let top : product_top one r ≡ r.num =
    ap (λ g. int_div (pos 1) (pos g) *ℤ int_div r.num (pos (gcd (unsigned_abs r.num) 1))) left
    ∙ ap (λ g. int_div (pos 1) (pos 1) *ℤ int_div r.num (pos g)) right
    ∙ ap (λ z. pos 1 *ℤ z) (int_div_one r.num) ∙ omega (arith, ints) in
    let bottom : product_bottom one r ≡ r.den =
    ap (λ g. (1 / g) * (r.den / gcd 1 r.den)) right ∙ ap (λ g. (1 / 1) * (r.den / g)) left
    ∙ ap (λ k. (1 / 1) * k) (div-one r.den) ∙ omega arith in
    let num : ℤ → Fraction = λ z. record { num = z; den = r.den } in
    let den : ℕ → Fraction = λ n. record { num = product_top one r; den = n } in
    sym (ap den bottom ∙ ap num top) ∙ (product_of-some one r f e).0

ratio_there : (q : Problem) (d : Dictionary) (r c : ℕ) → IsNarrowPivot q d r c → r < cost_row q
    → (t : Fraction) × (ratio_of (d.place (cost_row q)) (d.place r) c ≡ Some t)
unfolding quotient_of
ratio_there q d r c narrow below =
    let w = own_remainder q d r c (cost_row q) narrow (omega arith) (λ e. absurd (omega arith)) in
    let e = one_over (d.place r c) ((pivoted d r c).place r c) (own_share q d r c narrow) in
    (w.0, ap (product_of (d.place (cost_row q) c)) e ∙ w.1)

-- so the entering column of a narrow pivot has the least ratio
pub least_ratio : (q : Problem) (d : Dictionary) (r c : ℕ) → IsLegal q d r c → IsNarrowPivot q d r c
    → HasLeastRatio (columns q) (d.place (cost_row q)) (d.place r) d.column_label c
least_ratio q d r c legal narrow =
    elim legal.entering [
      | inl l ↦ l
      | inr wide ↦
          let there = ratio_there q d r c narrow legal.row_in in
          let clash : None ≡ Some there.0 = sym wide.wide ∙ there.1 in
          absurd (cc clash)
    ]

-- ---- one pivot

-- the common denominator of both rows before and after the pivot
abbrev at_pivot : Problem → Dictionary → ℕ → ℕ → ℕ
at_pivot q d r c = common (columns q) d (pivoted d r c) r (cost_row q) (λ l. whole_fraction (pos 0))

pub record IsDualPivot (q : Problem) (d : Dictionary) (r c : ℕ) : Type 0 where
  pub legal : IsLegal q d r c
  pub narrow : IsNarrowPivot q d r c
  pub positive : ArePositive q d
  pub feasible : IsDualFeasible q d

at_both : (q : Problem) (d : Dictionary) (r c : ℕ) → IsDualPivot q d r c
    → Setting q d r c (cost_row q) (λ l. whole_fraction (pos 0)) (at_pivot q d r c)
at_both q d r c p =
    setting q d r c (cost_row q) (λ l. whole_fraction (pos 0)) p.narrow p.positive
    (record { each = λ k. omega arith }) (omega arith)

-- the common denominator is a multiple of those of the old rows and of the new cost row
old_cost : (q : Problem) (d : Dictionary) (r c j : ℕ) → IsDualPivot q d r c → j ≤ columns q
    → IsMultiple (at_pivot q d r c) (d.place (cost_row q) j)
old_cost q d r c j p hj =
    let s = at_both q d r c p in
    record {
      some = s.some;
      positive = p.positive.each (cost_row q) j (omega arith) hj;
      divides = s.old_row.places j hj;
    }

old_pivot : (q : Problem) (d : Dictionary) (r c j : ℕ) → IsDualPivot q d r c → j ≤ columns q
    → IsMultiple (at_pivot q d r c) (d.place r j)
old_pivot q d r c j p hj =
    let s = at_both q d r c p in
    record {
      some = s.some;
      positive = p.positive.each r j p.narrow.possible.row_in hj;
      divides = s.old_pivot.places j hj;
    }

new_cost : (q : Problem) (d : Dictionary) (r c j : ℕ) → IsDualPivot q d r c → j ≤ columns q
    → IsMultiple (at_pivot q d r c) ((pivoted d r c).place (cost_row q) j)
new_cost q d r c j p hj =
    let s = at_both q d r c p in
    record {
      some = s.some;
      positive = (positive_after q d r c p.narrow p.positive).each (cost_row q) j (omega arith) hj;
      divides = s.new_row.places j hj;
    }

pivot_negative : (q : Problem) (d : Dictionary) (r c : ℕ) → IsDualPivot q d r c
    → over (at_pivot q d r c) (d.place r c) <ℤ pos 0
pivot_negative q d r c p =
    over_negative (at_pivot q d r c) (d.place r c)
    (old_pivot q d r c c p (omega (arith, p.narrow.possible.column_in))) p.legal.candidate.negative

some_at : (m : ℕ) → 0 < m → pos 0 <ℤ pos m
some_at m h = omega (arith, ints)

cost_apart : (q : Problem) (r : ℕ) → r < cost_row q → cost_row q ≢ r
cost_apart q r h e = omega arith

own_entry : (q : Problem) (d : Dictionary) (r c : ℕ) → IsDualPivot q d r c
    → ((pivoted d r c).place (cost_row q) c).num ≤ℤ pos 0
own_entry q d r c p =
    let h = cost_row q in
    let e = pivoted d r c in
    let m = at_pivot q d r c in
    let s = at_both q d r c p in
    let can = p.narrow.possible in
    let inside : c ≤ columns q = omega (arith, can.column_in) in
    let after = positive_after q d r c p.narrow p.positive in
    let w = own_remainder q d r c h p.narrow (omega arith) (cost_apart q r p.legal.row_in) in
    let one = one_quotient_over m (d.place r c) (e.place r c) (after.each r c can.row_in inside)
    (p.positive.each r c can.row_in inside) (s.old_pivot.places c inside) (s.new_pivot.places c inside)
    (own_share q d r c p.narrow) in
    let new = negated_over m (d.place h c) (e.place r c) w.0 (e.place h c) (p.positive.each h c (omega arith) inside)
    (after.each r c can.row_in inside) (after.each h c (omega arith) inside) (s.old_row.places c inside)
    (s.new_pivot.places c inside) (s.new_row.places c inside) w.1 w.2 in
    nonpositive_from_over m (e.place h c) (new_cost q d r c c p inside)
    (own_sign (pos m) (over m (d.place h c)) (over m (e.place r c)) (over m (d.place r c)) (over m (e.place h c))
    (some_at m s.some) (pivot_negative q d r c p)
    (over_nonpositive m (d.place h c) (old_cost q d r c c p inside) (p.feasible.each c can.column_in)) one new)

-- what the other entries of the two rows are over the common denominator
record Entry (q : Problem) (d : Dictionary) (r c j : ℕ) : Type 0 where
  pub share : over (at_pivot q d r c) (d.place r j) *ℤ pos (at_pivot q d r c)
      ≡ over (at_pivot q d r c) ((pivoted d r c).place r j) *ℤ over (at_pivot q d r c) (d.place r c)
  pub new : over (at_pivot q d r c) ((pivoted d r c).place (cost_row q) j) *ℤ pos (at_pivot q d r c)
      ≡ over (at_pivot q d r c) (d.place (cost_row q) j) *ℤ pos (at_pivot q d r c)
      -ℤ over (at_pivot q d r c) (d.place (cost_row q) c)
      *ℤ over (at_pivot q d r c) ((pivoted d r c).place r j)

entry_at : (q : Problem) (d : Dictionary) (r c j : ℕ) → IsDualPivot q d r c → j < columns q → j ≢ c
    → Entry q d r c j
entry_at q d r c j p hj ne =
    let h = cost_row q in
    let e = pivoted d r c in
    let m = at_pivot q d r c in
    let s = at_both q d r c p in
    let can = p.narrow.possible in
    let inside : c ≤ columns q = omega (arith, can.column_in) in
    let here : j ≤ columns q = omega arith in
    let last : h ≤ cost_row q = omega arith in
    let after = positive_after q d r c p.narrow p.positive in
    let w = other_remainder q d r c h j p.narrow last here (cost_apart q r p.legal.row_in) ne in
    record {
      share = quotient_over m (d.place r j) (d.place r c) (e.place r j) (after.each r j can.row_in here)
          (p.positive.each r c can.row_in inside) (s.old_pivot.places j here) (s.old_pivot.places c inside)
          (s.new_pivot.places j here) (p.positive.each r j can.row_in here) (other_share q d r c j p.narrow here ne);
      new = difference_over m (d.place h c) (e.place r j) w.0 (d.place h j) (e.place h j)
          (p.positive.each h c last inside) (after.each r j can.row_in here) (p.positive.each h j last here)
          (after.each h j last here) (s.old_row.places c inside) (s.new_pivot.places j here)
          (s.old_row.places j here) (s.new_row.places j here) w.1 w.2;
    }

-- the ratio of a candidate other than the entering column isn't less
ratio_behind : (label : ℕ → ℕ) (c j : ℕ) (least : Fraction) (o : Option Fraction) → j ≢ c
    → LosesRatioTest label c j least o
    → (y : Fraction) × (o ≡ Some y) × ((least.num *ℤ pos y.den) ≤ℤ (y.num *ℤ pos least.den))
ratio_behind label c j least None ne h = absurd h
ratio_behind label c j least (Some y) ne (inl e) = absurd (ne e)
ratio_behind label c j least (Some y) ne (inr (inl less)) = (y, refl, at_most_from_order least y (inl less))
ratio_behind label c j least (Some y) ne (inr (inr same)) = (y, refl, at_most_from_order least y (inr same.0))

negative_nonzero : (z : ℤ) → z <ℤ pos 0 → z ≡ pos 0 → ⊥
negative_nonzero z h e = omega (arith, ints)

den_above : (n : ℕ) → 0 < n → pos 0 <ℤ pos n
den_above n h = omega (arith, ints)

-- the products of a candidate's entries with those of the entering column
in_order : (q : Problem) (d : Dictionary) (r c j : ℕ) → IsDualPivot q d r c → IsCandidate (columns q) (d.place r) j
    → j ≢ c
    → (over (at_pivot q d r c) (d.place (cost_row q) c) *ℤ over (at_pivot q d r c) (d.place r j))
    ≤ℤ (over (at_pivot q d r c) (d.place (cost_row q) j) *ℤ over (at_pivot q d r c) (d.place r c))
in_order q d r c j p can_j ne =
    let h = cost_row q in
    let m = at_pivot q d r c in
    let s = at_both q d r c p in
    let can = p.narrow.possible in
    let inside : c ≤ columns q = omega (arith, can.column_in) in
    let here : j ≤ columns q = omega (arith, can_j.column_in) in
    let last : h ≤ cost_row q = omega arith in
    let l = least_ratio q d r c p.legal p.narrow in
    let w = ratio_behind d.column_label c j l.least (ratio_of (d.place h) (d.place r) j) ne (l.others j can_j) in
    let first = quotient_tied m (d.place h c) (d.place r c) l.least (p.positive.each h c last inside)
    (p.positive.each r c can.row_in inside) can.nonzero (s.old_row.places c inside) (s.old_pivot.places c inside)
    l.ratio in
    let nonzero = negative_nonzero (d.place r j).num can_j.negative in
    let second = quotient_tied m (d.place h j) (d.place r j) w.0 (p.positive.each h j last here)
    (p.positive.each r j can.row_in here) nonzero (s.old_row.places j here) (s.old_pivot.places j here) w.1 in
    ratios_in_order (over m (d.place h c)) (over m (d.place r c)) (over m (d.place h j)) (over m (d.place r j))
    l.least.num w.0.num (pos l.least.den) (pos w.0.den)
    (pivot_negative q d r c p) (over_negative m (d.place r j) (old_pivot q d r c j p here) can_j.negative)
    (den_above l.least.den (quotient_of-positive (d.place h c) (d.place r c) l.least
    (p.positive.each h c last inside) can.nonzero l.ratio))
    (den_above w.0.den (quotient_of-positive (d.place h j) (d.place r j) w.0
    (p.positive.each h j last here) nonzero w.1)) first second w.2

other_entry : (q : Problem) (d : Dictionary) (r c j : ℕ) → IsDualPivot q d r c → j < columns q → j ≢ c
    → ((pivoted d r c).place (cost_row q) j).num ≤ℤ pos 0
other_entry q d r c j p hj ne =
    let h = cost_row q in
    let e = pivoted d r c in
    let m = at_pivot q d r c in
    let s = at_both q d r c p in
    let inside : c ≤ columns q = omega (arith, p.narrow.possible.column_in) in
    let here : j ≤ columns q = omega arith in
    let entry = entry_at q d r c j p hj ne in
    let pivot = pivot_negative q d r c p in
    nonpositive_from_over m (e.place h j) (new_cost q d r c j p here)
    (by_lt_z (d.place r j).num (pos 0)
    (λ negative. candidate_sign (pos m) (over m (d.place h c)) (over m (d.place r c)) (over m (d.place r j))
    (over m (e.place r j)) (over m (d.place h j)) (over m (e.place h j)) (some_at m s.some) pivot
    (in_order q d r c j p (record { column_in = hj; negative = negative }) ne) entry.share entry.new)
    (λ least. other_sign (pos m) (over m (d.place h c)) (over m (d.place r c)) (over m (d.place r j))
    (over m (e.place r j)) (over m (d.place h j)) (over m (e.place h j)) (some_at m s.some) pivot
    (over_nonpositive m (d.place h c) (old_cost q d r c c p inside)
    (p.feasible.each c p.narrow.possible.column_in))
    (over_nonpositive m (d.place h j) (old_cost q d r c j p here) (p.feasible.each j hj))
    (over_nonnegative m (d.place r j) (old_pivot q d r c j p here) least) entry.share entry.new))

pub pivot_keeps_signs : (q : Problem) (d : Dictionary) (r c : ℕ) → IsDualPivot q d r c
    → IsDualFeasible q (pivoted d r c)
pivot_keeps_signs q d r c p = record {
  each = λ j hj.
      elim (cases_eq j c) [
        | inl e ↦ subst (λ k. ((pivoted d r c).place (cost_row q) k).num ≤ℤ pos 0) (sym e) (own_entry q d r c p)
        | inr ne ↦ other_entry q d r c j p hj ne
      ];
}

-- ---- all steps

not_positive : (n : ℕ) → neg_ℤ (pos n) ≤ℤ pos 0
not_positive n = omega (arith, ints)

pub opening_feasible : (q : Problem) → IsDualFeasible q (opening q)
unfolding opening
opening_feasible q = record {
  each = λ j hj. subst (λ z. z ≤ℤ pos 0) (sym (entry_of_cost q j hj))
      (not_positive (unsigned_abs (component q.cost j)));
}

pub opening_positive : (q : Problem) → ArePositive q (opening q)
unfolding opening
opening_positive q = record { each = λ i j hi hj. omega arith }

pub steps_narrow : (q : Problem) (u : Option ℤ) (d : Dictionary) (pivots : List (ℕ × ℕ)) → AreSteps q u d pivots
    → AllNarrow q d pivots
steps_narrow q u d [] steps = tt
steps_narrow q u d (p ∷ ps) steps = (steps.0.narrow, steps_narrow q u (pivoted d p.0 p.1) ps steps.1)

-- what steps keep: positive denominators, the cost row's signs and its label
pub record IsReached (q : Problem) (d : Dictionary) : Type 0 where
  pub positive : ArePositive q d
  pub feasible : IsDualFeasible q d
  pub label : d.row_label (cost_row q) ≡ columns q + cost_row q

step_reached : (q : Problem) (u : Option ℤ) (d : Dictionary) (p : ℕ × ℕ) → IsStep q u d p → IsReached q d
    → IsReached q (pivoted d p.0 p.1)
step_reached q u d p step h = record {
  positive = positive_after q d p.0 p.1 step.narrow h.positive;
  feasible = pivot_keeps_signs q d p.0 p.1 (record {
    legal = step.legal;
    narrow = step.narrow;
    positive = h.positive;
    feasible = h.feasible;
  });
  label = row_label_other d p.0 p.1 (cost_row q) (cost_apart q p.0 step.legal.row_in) ∙ h.label;
}

steps_reached : (q : Problem) (u : Option ℤ) (d : Dictionary) (pivots : List (ℕ × ℕ)) → AreSteps q u d pivots
    → IsReached q d → IsReached q (replay d pivots)
steps_reached q u d [] steps h = h
steps_reached q u d (p ∷ ps) steps h =
    steps_reached q u (pivoted d p.0 p.1) ps steps.1 (step_reached q u d p steps.0 h)

opening_reached : (q : Problem) → IsReached q (opening q)
unfolding opening
opening_reached q = record { positive = opening_positive q; feasible = opening_feasible q; label = refl }

-- what stands of every dictionary that steps lead to
pub reached : (q : Problem) (u : Option ℤ) (pivots : List (ℕ × ℕ)) → AreSteps q u (opening q) pivots
    → IsReached q (replay (opening q) pivots)
reached q u pivots steps = steps_reached q u (opening q) pivots steps (opening_reached q)
