-- The multipliers of a row of a reached dictionary, made whole.
use Rattle.std.proofs.Common.{◌≡◌, ℕ, suc, ◌+◌, ◌*◌, ◌/◌, ◌<◌, ◌≤◌, inr, ℤ}
use Rattle.std.proofs.Common.{pos, ◌*ℤ◌, ◌≤ℤ◌, ◌<ℤ◌, unsigned_abs, List, length, sym}
use Rattle.std.proofs.Common.{ap, ◌∙◌, subst, arith}
use Rattle.std.specs.Prelude.{Option}
use Rattle.std.specs.Int.{◌∣◌}
use Rattle.std.proofs.Math.Nat.{dvd_trans, dvd-mul_left, dvd-mul_right, one-dvd, div-mul_cancel}
use Rattle.std.proofs.Math.IntN.{*ℤ_comm, pos-*ℤ-pos}
use Rattle.std.proofs.lemmas.Int.{ints, by_lt_z}
use Rattle.bl_limits.specs.declared.TheConstants.{MAX_PROOF_NUMBER}
use Rattle.bl_whole.specs.Sums.{component}
use Rattle.bl_whole.proofs.Products.{*ℤ_assoc, *ℤ_one, mul_nonneg}
use Rattle.bl_whole.proofs.SumLemmas.{sum_below-agree, sum_below-scale}
use Rattle.bl_terms.specs.Bounds.{Problem, IsProblem, Multipliers, AreMultipliers}
use Rattle.bl_simplex.specs.Fractions.{Fraction, whole_fraction}
use Rattle.bl_simplex.specs.Rationals.{common_denominator, times_multiple}
use Rattle.bl_simplex.specs.Dictionaries.{Dictionary, columns, cost_row, opening}
use Rattle.bl_simplex.specs.Pivots.{replay}
use Rattle.bl_simplex.specs.Closing.{PassLimit}
use Rattle.bl_simplex.specs.Licences.{AreSteps}
use Rattle.bl_tableau.specs.Solutions.{SolvesRow}
use Rattle.bl_tableau.proofs.Scaling.{over, over_is, over_more, over_unique, multiple}
use Rattle.bl_tableau.proofs.Scaling.{multiple_positive, dvd_multiple}
use Rattle.bl_tableau.proofs.PivotLaw.{ArePositive}
use Rattle.bl_tableau.proofs.RowEquations.{product_positive}
use Rattle.bl_tableau.proofs.ReplayInduction.{replay_law}
use Rattle.bl_licence.proofs.Multiples.{common_positive, common_divides}
use Rattle.bl_duality.specs.Laws.{AreMadeWhole}
use Rattle.bl_duality.proofs.Labels.{permuted}
use Rattle.bl_duality.proofs.PointValues.{slack, value_list, list_is}
use Rattle.bl_duality.proofs.PointValues.{list_rational, opening_solved}
use Rattle.bl_duality.proofs.Signs.{IsMultiple}
use Rattle.bl_duality.proofs.CostSigns.{reached, steps_narrow}
use Rattle.bl_duality.proofs.DualBounds.{slack_sum}
use Rattle.bl_duality.proofs.RowsByLabel.{row_coefficient, IsRowAt, slack_part}

-- ---- one multiple of all denominators of a row and its multipliers

-- the product of the row's denominators
abbrev pub rest_of : Problem → Dictionary → ℕ → ℕ
rest_of q d i = multiple (suc (columns q)) (λ j. (d.place i j).den)

-- the multipliers' common denominator
abbrev pub common_of : Problem → (ℕ → Fraction) → ℕ
common_of q f = common_denominator (length q.rows) f

-- times the row's denominators
abbrev pub total_of : Problem → Dictionary → ℕ → (ℕ → Fraction) → ℕ
total_of q d i f = common_of q f * rest_of q d i

-- multipliers f of the problem's rows with positive denominators, none negative, made whole within the limit
pub record AreSound (q : Problem) (f : ℕ → Fraction) (mult : List ℤ) : Type 0 where
  pub positive : (k : ℕ) → k < length q.rows → 0 < (f k).den
  pub least : (k : ℕ) → k < length q.rows → pos 0 ≤ℤ (f k).num
  pub within : ¬ PassLimit q f
  pub whole : AreMadeWhole q f mult

pub rest_positive : (q : Problem) (d : Dictionary) (i : ℕ) → ArePositive q d → i ≤ cost_row q → 0 < rest_of q d i
rest_positive q d i all hi =
    multiple_positive (suc (columns q)) (λ j. (d.place i j).den) (λ j h. all.each i j hi (omega arith))

pub common_above : (q : Problem) (f : ℕ → Fraction) (mult : List ℤ) → AreSound q f mult → 0 < common_of q f
common_above q f mult sound = common_positive (length q.rows) f sound.positive

total_divides : (q : Problem) (d : Dictionary) (i : ℕ) (f : ℕ → Fraction) (j : ℕ) → j ≤ columns q
    → (d.place i j).den ∣ total_of q d i f
total_divides q d i f j h =
    dvd_trans (d.place i j).den (dvd_multiple (suc (columns q)) (λ k. (d.place i k).den) j (omega arith))
    (dvd-mul_left (rest_of q d i) (common_of q f))

-- a fraction made whole, and the same over a multiple of the common denominator
over_whole_multiple : (c k : ℕ) (f : Fraction) → 0 < f.den → f.den ∣ c → over (c * k) f ≡ times_multiple c f *ℤ pos k
over_whole_multiple c k f some h =
    let scaled : f.num *ℤ pos c ≡ times_multiple c f *ℤ pos f.den =
    ap (λ n. f.num *ℤ pos n) (sym (div-mul_cancel f.den h))
    ∙ ap (λ z. f.num *ℤ z) (sym (pos-*ℤ-pos (c / f.den) f.den)) ∙ sym (*ℤ_assoc f.num (pos (c / f.den)) (pos f.den)) in
    over_unique (c * k) f _ _ some (over_is (c * k) f (dvd_trans f.den h (dvd-mul_right c k)))
    (over_more c k f (times_multiple c f) (record { scaled = scaled }))

pub multiplier_over : (q : Problem) (d : Dictionary) (i : ℕ) (f : ℕ → Fraction) (mult : List ℤ) (k : ℕ)
    → AreSound q f mult → k < length q.rows
    → over (total_of q d i f) (f k) ≡ component mult k *ℤ pos (rest_of q d i)
multiplier_over q d i f mult k sound h =
    over_whole_multiple (common_of q f) (rest_of q d i) (f k) (sound.positive k h)
    (common_divides (length q.rows) f k h)
    ∙ ap (λ x. x *ℤ pos (rest_of q d i)) (sym (sound.whole.each k h))

-- this product is a positive multiple of the row's denominators, and of the multipliers'
pub total_multiple : (q : Problem) (d : Dictionary) (i : ℕ) (f : ℕ → Fraction) (mult : List ℤ) (j : ℕ)
    → ArePositive q d → i ≤ cost_row q → AreSound q f mult → j ≤ columns q
    → IsMultiple (total_of q d i f) (d.place i j)
total_multiple q d i f mult j all hi sound h = record {
  some = product_positive (common_of q f) (rest_of q d i) (common_above q f mult sound) (rest_positive q d i all hi);
  positive = all.each i j hi h;
  divides = total_divides q d i f j h;
}

pub multiplier_multiple : (q : Problem) (d : Dictionary) (i : ℕ) (f : ℕ → Fraction) (mult : List ℤ) (k : ℕ)
    → ArePositive q d → i ≤ cost_row q → AreSound q f mult → k < length q.rows → IsMultiple (total_of q d i f) (f k)
multiplier_multiple q d i f mult k all hi sound h = record {
  some = product_positive (common_of q f) (rest_of q d i) (common_above q f mult sound) (rest_positive q d i all hi);
  positive = sound.positive k h;
  divides = dvd_trans (f k).den (common_divides (length q.rows) f k h) (dvd-mul_right (common_of q f) (rest_of q d i));
}

-- ---- the multipliers are proof numbers

pub not_above : (m x : ℤ) → ((m <ℤ x) → ⊥) → x ≤ℤ m
not_above m x h = by_lt_z m x (λ more. absurd (h more)) (λ l. l)

magnitude_least : (x : ℤ) → x ≤ℤ pos (unsigned_abs x)
magnitude_least x = omega (arith, ints)

sound_least : (q : Problem) (f : ℕ → Fraction) (mult : List ℤ) (k : ℕ) → AreSound q f mult → k < length q.rows
    → pos 0 ≤ℤ component mult k
sound_least q f mult k sound h =
    subst (λ x. pos 0 ≤ℤ x) (sym (sound.whole.each k h))
    (mul_nonneg {a = (f k).num} {b = pos (common_of q f / (f k).den)} (sound.least k h) (omega (arith, ints)))

sound_most : (q : Problem) (f : ℕ → Fraction) (mult : List ℤ) (k : ℕ) → AreSound q f mult → k < length q.rows
    → component mult k ≤ℤ MAX_PROOF_NUMBER
sound_most q f mult k sound h =
    let x = times_multiple (common_of q f) (f k) in
    let small : pos (unsigned_abs x) ≤ℤ MAX_PROOF_NUMBER =
    not_above MAX_PROOF_NUMBER (pos (unsigned_abs x)) (λ more. sound.within (inr (k, h, more))) in
    let own = magnitude_least x in
    subst (λ y. y ≤ℤ MAX_PROOF_NUMBER) (sym (sound.whole.each k h)) (omega (arith, ints))

pub multipliers_from : (q : Problem) (f : ℕ → Fraction) (den : ℤ) (mult : List ℤ) → AreSound q f mult → pos 0 ≤ℤ den
    → den ≤ℤ MAX_PROOF_NUMBER → AreMultipliers (record { den = den; mult = mult })
multipliers_from q f den mult sound low high = record {
  den_least = low;
  den_most = high;
  least = λ k h. sound_least q f mult k sound (omega (arith, sound.whole.size));
  most = λ k h. sound_most q f mult k sound (omega (arith, sound.whole.size));
}

-- ---- a dictionary that steps lead to, at the values of a point

pub row_at : (q : Problem) (u : Option ℤ) (pivots : List (ℕ × ℕ)) (z : List ℤ) (i : ℕ) (f : ℕ → Fraction) → IsProblem q
    → AreSteps q u (opening q) pivots → i ≤ cost_row q
    → IsRowAt q (replay (opening q) pivots) z i (total_of q (replay (opening q) pivots) i f)
row_at q u pivots z i f shape steps hi =
    let d = replay (opening q) pivots in
    let narrow = steps_narrow q u (opening q) pivots steps in
    let solved = (replay_law q pivots (value_list q z) narrow (list_rational q z)).0 (opening_solved q z shape) in
    record {
      labels = permuted q pivots narrow;
      positive = (reached q u pivots steps).positive;
      row_in = hi;
      divides = total_divides q d i f;
      solved = subst (λ x. SolvesRow (columns q) d x i) (list_is q z) (solved.each i hi);
    }

-- the slacks' part is the weighted slacks times s, where their coefficients are the multipliers times s
pub slack_part_is : (q : Problem) (d : Dictionary) (z : List ℤ) (i m : ℕ) (w : Multipliers) (s : ℤ)
    → ((k : ℕ) → k < length q.rows → row_coefficient q d i m (columns q + k) ≡ component w.mult k *ℤ s)
    → slack_part q d z i m ≡ s *ℤ slack_sum q w z
slack_part_is q d z i m w s each =
    let turned : (a b : ℤ) → (a *ℤ s) *ℤ b ≡ s *ℤ (a *ℤ b) =
    λ a b. ap (λ x. x *ℤ b) (*ℤ_comm a s) ∙ *ℤ_assoc s a b in
    sum_below-agree (length q.rows) (λ k. row_coefficient q d i m (columns q + k) *ℤ slack q z k)
    (λ k. s *ℤ (component w.mult k *ℤ slack q z k))
    (λ k h. ap (λ x. x *ℤ slack q z k) (each k h) ∙ turned (component w.mult k) (slack q z k))
    ∙ sum_below-scale (length q.rows) s (λ k. component w.mult k *ℤ slack q z k)

pub whole_over : (m : ℕ) (z : ℤ) → over m (whole_fraction z) ≡ z *ℤ pos m
whole_over m z =
    over_unique m (whole_fraction z) _ _ (omega arith) (over_is m (whole_fraction z) (one-dvd m))
    (record { scaled = sym (*ℤ_one (z *ℤ pos m)) })
