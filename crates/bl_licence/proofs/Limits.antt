-- Numbers that pass their limit.
use Rattle.std.proofs.Common.{◌≡◌, ◌≢◌, ℕ, zero, suc, ◌+◌, ◌^◌, ◌<◌, ◌≤◌, ◌⊎◌, ◌↔◌, inl, inr, ℤ, pos, ◌≤ℤ◌, ◌<ℤ◌}
use Rattle.std.proofs.Common.{unsigned_abs, false, List, [], length, refl, sym, ap, ◌∙◌, subst, arith}
use Rattle.std.specs.Prelude.{Bool, IsTrue, Option}
use Rattle.std.proofs.lemmas.Bool.{cases_order}
use Rattle.std.proofs.lemmas.Int.{ints}
use Rattle.bl_limits.specs.declared.TheConstants.{MAX_PROOF_NUMBER}
use Rattle.bl_terms.specs.Bounds.{Problem}
use Rattle.bl_simplex.specs.Gcd.{lcm}
use Rattle.bl_simplex.specs.Fractions.{Fraction}
use Rattle.bl_simplex.specs.Rationals.{fraction_at, common_denominator, times_multiple}
use Rattle.bl_simplex.specs.Dictionaries.{Dictionary, columns, opening}
use Rattle.bl_simplex.specs.Pivots.{replay}
use Rattle.bl_simplex.specs.Closing.{Closes, ClosesByRow, ClosesByCost, IsFirstClosingRow, PassLimit, row_multiplier}
use Rattle.bl_simplex.specs.Closing.{cost_multiplier, basic_value}
use Rattle.bl_simplex.specs.Licences.{AreSteps, ClosesPastLimit, IsFeasible, IsPointPastLimit, PassesNumbers}
use Rattle.bl_tableau.specs.Runs.{Run, current}
use Rattle.bl_licence.specs.Steps.{AreWhole, PassesLimit, IsListOf, Took}
use Rattle.bl_licence.proofs.StepLaws.{took_opening, current_opening}

common_agree : (n : ℕ) (f g : ℕ → Fraction) → ((k : ℕ) → k < n → f k ≡ g k)
    → common_denominator n f ≡ common_denominator n g
common_agree zero f g h = refl
common_agree (suc n) f g h =
    ap (λ c. lcm c (f n).den) (common_agree n f g (λ k l. h k (omega arith)))
    ∙ ap (λ x. lcm (common_denominator n g) x.den) (h n (omega arith))

pub list_common : (n : ℕ) (f : ℕ → Fraction) (fs : List Fraction) → IsListOf n f fs
    → common_denominator (length fs) (fraction_at fs) ≡ common_denominator n f
list_common n f fs l = ap (λ m. common_denominator m (fraction_at fs)) l.size ∙ common_agree n (fraction_at fs) f l.each

passes_more : (n m c e : ℕ) (f g : ℕ → Fraction) → n ≡ m → c ≡ e → ((k : ℕ) → k < n → f k ≡ g k)
    → (MAX_PROOF_NUMBER <ℤ pos c)
    ⊎ ((i : ℕ) × (i < n) × (MAX_PROOF_NUMBER <ℤ pos (unsigned_abs (times_multiple c (f i)))))
    → (MAX_PROOF_NUMBER <ℤ pos e)
    ⊎ ((i : ℕ) × (i < m) × (MAX_PROOF_NUMBER <ℤ pos (unsigned_abs (times_multiple e (g i)))))
passes_more n m c e f g en ec same (inl h) = inl (subst (λ k. MAX_PROOF_NUMBER <ℤ pos k) ec h)
passes_more n m c e f g en ec same (inr (i, l, h)) =
    inr (
      i,
      omega arith,
      subst (λ x. MAX_PROOF_NUMBER <ℤ pos (unsigned_abs (times_multiple e x))) (same i l)
          (subst (λ k. MAX_PROOF_NUMBER <ℤ pos (unsigned_abs (times_multiple k (f i)))) ec h),
    )

pub passes_list : (n : ℕ) (f : ℕ → Fraction) (fs : List Fraction) → IsListOf n f fs
    → PassesLimit (length fs) (fraction_at fs) ↔ PassesLimit n f
passes_list n f fs l =
    let e = list_common n f fs l in (
      passes_more (length fs) n (common_denominator (length fs) (fraction_at fs)) (common_denominator n f)
          (fraction_at fs) f l.size e (λ k b. let s = l.size in l.each k (omega arith)),
      passes_more n (length fs) (common_denominator n f) (common_denominator (length fs) (fraction_at fs)) f
          (fraction_at fs) (sym l.size) (sym e) (λ k b. sym (l.each k b)),
    )

above : (a b : ℤ) → a <ℤ b → b ≤ℤ a → ⊥
above a b h l = omega (arith, ints)

whole_stays : (n c : ℕ) (f : ℕ → Fraction) → pos c ≤ℤ MAX_PROOF_NUMBER
    → ((k : ℕ) → k < n → pos (unsigned_abs (times_multiple c (f k))) ≤ℤ MAX_PROOF_NUMBER)
    → (MAX_PROOF_NUMBER <ℤ pos c)
    ⊎ ((i : ℕ) × (i < n) × (MAX_PROOF_NUMBER <ℤ pos (unsigned_abs (times_multiple c (f i))))) → ⊥
whole_stays n c f small each (inl h) = above MAX_PROOF_NUMBER (pos c) h small
whole_stays n c f small each (inr (i, l, h)) =
    above MAX_PROOF_NUMBER (pos (unsigned_abs (times_multiple c (f i)))) h (each i l)

pub whole_passes_not : (fs : List Fraction) (c : ℕ) (xs : List ℤ) → AreWhole fs c xs
    → PassesLimit (length fs) (fraction_at fs) → ⊥
whole_passes_not fs c xs w =
    let P : ℕ → Type 0 =
    λ k. (MAX_PROOF_NUMBER <ℤ pos k)
    ⊎ ((i : ℕ) × (i < length fs)
    × (MAX_PROOF_NUMBER <ℤ pos (unsigned_abs (times_multiple k (fraction_at fs i))))) in
    λ h. whole_stays (length fs) c (fraction_at fs) w.small w.numbers (subst P (sym w.multiple) h)

-- ---- dictionaries that close past the limit

one_first : (q : Problem) (d : Dictionary) (r k : ℕ) → IsFirstClosingRow q d r → IsFirstClosingRow q d k → r ≡ k
one_first q d r k a b = by (cases_order r k)
  where
    by : (r ≡ k) ⊎ ((r < k) ⊎ (k < r)) → r ≡ k
    by (inl e) = e
    by (inr (inl l)) = absurd (b.earlier r l a.closes)
    by (inr (inr l)) = absurd (a.earlier k l b.closes)

row_past : (q : Problem) (u : Option ℤ) (d : Dictionary) (row : ℕ) → IsFirstClosingRow q d row → ClosesPastLimit q u d
    → PassLimit q (row_multiplier q d row)
row_past q u d row first (inl (r, other, h)) =
    subst (λ k. PassLimit q (row_multiplier q d k)) (one_first q d r row other first) h
row_past q u d row first (inr (none, cost, h)) = absurd (none row first.closes)

cost_past : (q : Problem) (u : Option ℤ) (d : Dictionary) → ((r : ℕ) → ¬ ClosesByRow q d r) → ClosesPastLimit q u d
    → PassLimit q (cost_multiplier q d)
cost_past q u d none (inl (r, other, h)) = absurd (none r other.closes)
cost_past q u d none (inr (none', cost, h)) = h

pub past_by_row : (q : Problem) (u : Option ℤ) (d : Dictionary) (row : ℕ) (b : Bool) (fs : List Fraction)
    → IsFirstClosingRow q d row → IsListOf (length q.rows) (row_multiplier q d row) fs
    → IsTrue b ↔ PassesLimit (length fs) (fraction_at fs) → IsTrue b ↔ ClosesPastLimit q u d
past_by_row q u d row b fs first l test = (
  λ t. inl (row, first, (passes_list (length q.rows) (row_multiplier q d row) fs l).0 (test.0 t)),
  λ h. test.1 ((passes_list (length q.rows) (row_multiplier q d row) fs l).1 (row_past q u d row first h)),
)

pub past_by_cost : (q : Problem) (u : Option ℤ) (d : Dictionary) (b : Bool) (fs : List Fraction)
    → ((r : ℕ) → ¬ ClosesByRow q d r) → ClosesByCost q u d → IsListOf (length q.rows) (cost_multiplier q d) fs
    → IsTrue b ↔ PassesLimit (length fs) (fraction_at fs) → IsTrue b ↔ ClosesPastLimit q u d
past_by_cost q u d b fs none cost l test = (
  λ t. inr (none, cost, (passes_list (length q.rows) (cost_multiplier q d) fs l).0 (test.0 t)),
  λ h. test.1 ((passes_list (length q.rows) (cost_multiplier q d) fs l).1 (cost_past q u d none h)),
)

pub past_not : (q : Problem) (u : Option ℤ) (d : Dictionary) → ((r : ℕ) → ¬ ClosesByRow q d r) → ¬ ClosesByCost q u d
    → ClosesPastLimit q u d → ⊥
past_not q u d none cost (inl (r, other, h)) = none r other.closes
past_not q u d none cost (inr (none', closes, h)) = cost closes

-- ---- points past the limit

pub point_past : (q : Problem) (u : Option ℤ) (d : Dictionary) (fs : List Fraction) → ¬ Closes q u d → IsFeasible q d
    → IsListOf (columns q) (basic_value q d) fs
    → (common_denominator (length fs) (fraction_at fs) ≤ 2 ^ 50 → ⊥) → IsPointPastLimit q u d
point_past q u d fs unclosed feasible l past = record {
  open_box = unclosed;
  feasible = feasible;
  common =
      let e = list_common (columns q) (basic_value q d) fs l in
      let more : 2 ^ 50 < common_denominator (columns q) (basic_value q d) = omega arith in
      omega (arith, ints);
}

pub point_past_not : (q : Problem) (u : Option ℤ) (d : Dictionary) (fs : List Fraction)
    → IsListOf (columns q) (basic_value q d) fs
    → common_denominator (length fs) (fraction_at fs) ≤ 2 ^ 50 → IsPointPastLimit q u d → ⊥
point_past_not q u d fs l small h =
    let e = list_common (columns q) (basic_value q d) fs l in
    let more = h.common in
    omega (arith, ints)

-- ---- the licence of numbers

abbrev pub EndsPast : Problem → Option ℤ → Dictionary → Type 0
EndsPast q u d = ClosesPastLimit q u d ⊎ IsPointPastLimit q u d

abbrev pub opened : Problem → ℕ → Run
opened q n = record { problem = q; most = n; pivots = []; spent = false }

pub numbers_from : (q : Problem) (u : Option ℤ) (n : ℕ) (start now : Run) (pivots : List (ℕ × ℕ)) → start ≡ opened q n
    → AreSteps start.problem u (current start) pivots → Took start pivots now
    → EndsPast now.problem u (current now) → PassesNumbers q u pivots
numbers_from q u n start now pivots e steps took ending =
    let problem : now.problem ≡ q = took.problem ∙ ap (λ r. r.problem) e in
    let none : start.pivots ≡ [] = ap (λ r. r.pivots) e in
    let dictionary : current now ≡ replay (opening q) pivots =
    took_opening start now pivots none took ∙ ap (λ p. replay (opening p) pivots) (ap (λ r. r.problem) e) in
    let opened_at : current start ≡ opening q = current_opening start none ∙ ap (λ r. opening r.problem) e in
    record {
      steps = subst (λ p. AreSteps p u (opening q) pivots) (ap (λ r. r.problem) e)
          (subst (λ d. AreSteps start.problem u d pivots) opened_at steps);
      ending = subst (λ p. EndsPast p u (replay (opening q) pivots)) problem
          (subst (EndsPast now.problem u) dictionary ending);
    }

pub numbers_to : (q : Problem) (u : Option ℤ) (n : ℕ) (start now : Run) (pivots : List (ℕ × ℕ)) → start ≡ opened q n
    → Took start pivots now → PassesNumbers q u pivots → EndsPast now.problem u (current now)
numbers_to q u n start now pivots e took h =
    let problem : now.problem ≡ q = took.problem ∙ ap (λ r. r.problem) e in
    let none : start.pivots ≡ [] = ap (λ r. r.pivots) e in
    let dictionary : current now ≡ replay (opening q) pivots =
    took_opening start now pivots none took ∙ ap (λ p. replay (opening p) pivots) (ap (λ r. r.problem) e) in
    subst (EndsPast now.problem u) (sym dictionary)
    (subst (λ p. EndsPast p u (replay (opening q) pivots)) (sym problem) h.ending)
