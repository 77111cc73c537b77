-- The opening dictionary, number by number.
use Rattle.std.proofs.Common.{◌≡◌, ℕ, ◌+◌, ◌*◌, ◌-◌, ◌^◌, ◌<◌, ◌≤◌, inl, inr, true, false, Bool, cond, List, [], ◌∷◌}
use Rattle.std.proofs.Common.{◌++◌, length, ℤ, pos, negsuc, neg_ℤ, ◌-ℤ◌, ◌*ℤ◌, unsigned_abs, FitsSigned, to_z, of_z}
use Rattle.std.proofs.Common.{lit<, lit≤, refl, sym, ap, ◌∙◌, subst, arith, length-append}
use Rattle.std.specs.Prelude.{Option, Some, None, IsSome, ◌==◌, slice_index_or, nat_lt, int_lt}
use Rattle.std.specs.Option.{SomeIff}
use Rattle.std.specs.Int.{w64, w128, from_bool}
use Rattle.std.proofs.lemmas.Int.{to_z-of_z, fits_signed_from_abs}
use Rattle.std.proofs.lemmas.List.{get_or_read}
use Rattle.std.proofs.lemmas.Bool.Decides.{nat_tests}
use Rattle.std.proofs.lemmas.Grind.{common_steps}
use Rattle.std.proofs.lemmas.Bool.{cases_eq}
use Rattle.bl_whole.specs.Sums.{component, dot}
use Rattle.bl_whole.specs.Within.{IsWithin, AreWithin, PartialDotsFit}
use Rattle.bl_whole.proofs.SumLemmas.{sum_below-agree}
use Rattle.bl_whole.proofs.WithinLemmas.{within_more, within_dot, within_entry, within_product, within_negation}
use Rattle.bl_whole.proofs.WithinLemmas.{dots_fit, fits_from_within, within_difference}
use Rattle.bl_terms.specs.Bounds.{Problem, Fits, linear_at, no_linear}
use Rattle.bl_terms.specs.Points.{Linear}
use Rattle.bl_simplex.specs.Fractions.{Fraction, IsReduced, whole_fraction}
use Rattle.bl_frac.proofs.Signed.{signed_back}
use Rattle.bl_frac.proofs.LowestTerms.{minus_natural}
use Rattle.bl_simplex.specs.Dictionaries.{columns, cost_row, start_at, at_start, descends, sign_at, opening_number}
use Rattle.bl_simplex.specs.Dictionaries.{opening_entry, opening_right, width_of}
use Rattle.bl_simplex.specs.Rationals.{fraction_at}
use Rattle.bl_tableau.specs.Cells.{placed, AreReduced}
use Rattle.bl_tableau.proofs.RowSteps.{row_within, test_other}
use Rattle.bl_tableau.specs.Opening.{Appends, AreStarts}

-- a fraction is there where its parts are in lowest terms
pub some_if : {P : Type 0} (o : Option Fraction) (v : Fraction) → SomeIff o P v → P → IsSome o
some_if None v h p = absurd (h p)
some_if (Some x) v h p = refl

pub appends_none : (old : List Fraction) (f : ℕ → ℤ) → Appends old old 0 f
appends_none old f =
    record { size = omega arith; before = λ k h. refl; after = λ j h. absurd (omega arith); numbers = λ h. h }

pushed_before : (cur : List Fraction) (x : Fraction) (k : ℕ) → k < length cur
    → fraction_at (cur ++ x ∷ []) k ≡ fraction_at cur k
pushed_before cur x k h = grind (arith, common_steps)

pushed_last : (cur : List Fraction) (x : Fraction) (k : ℕ) → k ≡ length cur → fraction_at (cur ++ x ∷ []) k ≡ x
pushed_last cur x k e = grind (arith, common_steps)

pushed_reduced : (cur : List Fraction) (x : Fraction) → AreReduced cur → IsReduced x → AreReduced (cur ++ x ∷ [])
pushed_reduced cur x all h = record {
  each = λ k l.
      elim (cases_eq k (length cur)) [
        | inl e ↦ subst IsReduced (sym (pushed_last cur x k e)) h
        | inr ne ↦
            let below : k < length cur = omega (arith, length-append cur (x ∷ []), l) in
            subst IsReduced (sym (pushed_before cur x k below)) (all.each k below)
      ];
}

pub appends_one : (old cur new : List Fraction) (n : ℕ) (f : ℕ → ℤ) (x : Fraction) → Appends old cur n f
    → new ≡ cur ++ x ∷ [] → x ≡ whole_fraction (f n) → IsReduced x → Appends old new (n + 1) f
appends_one old cur new n f x h e value reduced = subst (λ ys. Appends old ys (n + 1) f) (sym e) (record {
  size = omega (arith, length-append cur (x ∷ []), h.size);
  before = λ k l. pushed_before cur x k (omega (arith, h.size)) ∙ h.before k l;
  after = λ j l.
      elim (cases_eq j n) [
        | inl same ↦ pushed_last cur x (length old + j) (omega (arith, h.size)) ∙ value
            ∙ ap (λ k. whole_fraction (f k)) (sym same)
        | inr other ↦ pushed_before cur x (length old + j) (omega (arith, h.size)) ∙ h.after j (omega arith)
      ];
  numbers = λ all. pushed_reduced cur x (h.numbers all) reduced;
})

-- one run of numbers after another
pub appends_more : (a b c : List Fraction) (m n : ℕ) (f g : ℕ → ℤ) → Appends a b m f → Appends b c n g → (k : ℕ)
    → k < length a + m → fraction_at c k ≡ fraction_at b k
appends_more a b c m n f g h k i l = k.before i (omega (arith, h.size))

-- the products with the starts are the value where every column is at its start
pub dot_starts : (q : Problem) (cs starts : List ℤ) → AreStarts q starts → length cs ≡ columns q
    → dot cs starts ≡ at_start q cs
dot_starts q cs starts h size =
    sum_below-agree (length cs) (λ j. component cs j *ℤ component starts j) (λ j. component cs j *ℤ start_at q j)
    (λ j l. ap (λ z. component cs j *ℤ z) (h.each j (omega arith)))

small_product : (n : ℕ) → n ≤ 120 → n * (2 ^ 36 * 10000000) < 2 ^ 127
small_product n h = omega arith

-- such products fit, and so does a right side less them
pub starts_fit : (q : Problem) (cs starts : List ℤ) → AreStarts q starts → length cs ≡ columns q → columns q ≤ 120
    → AreWithin (2 ^ 36) cs → PartialDotsFit w128 cs starts
starts_fit q cs starts h size few within =
    dots_fit w128 within h.within (small_product (length cs) (omega arith))

pub dot_within : (q : Problem) (cs starts : List ℤ) → AreStarts q starts → length cs ≡ columns q → columns q ≤ 120
    → AreWithin (2 ^ 36) cs → unsigned_abs (dot cs starts) ≤ 2 ^ 70
dot_within q cs starts h size few within =
    let d = within_dot within h.within in
    let bound : length cs * (2 ^ 36 * 10000000) ≤ 2 ^ 70 = omega arith in
    omega (arith, d.magnitude, bound)

-- the first n rows of the opening dictionary are there
pub record RowsOpened (q : Problem) (cells : List Fraction) (n : ℕ) : Type 0 where
  pub size : length cells ≡ n * width_of q
  pub places : (i j : ℕ) → i < n → j < width_of q
      → placed cells (width_of q) i j ≡ whole_fraction (opening_number q i j)
  pub numbers : AreReduced cells

pub rows_opened_none : (q : Problem) → RowsOpened q [] 0
rows_opened_none q =
    record {
      size = omega arith;
      places = λ i j h l. absurd (omega arith);
      numbers =
          record { each = λ k h. absurd (omega arith) };
    }

pub rows_opened_more : (q : Problem) (old new : List Fraction) (n : ℕ) → RowsOpened q old n
    → Appends old new (width_of q) (opening_number q n) → RowsOpened q new (n + 1)
rows_opened_more q old new n h more = record {
  size = omega (arith, h.size, more.size);
  places = λ i j hi hj.
      elim (cases_eq i n) [
        | inl e ↦
            let at : i * width_of q + j ≡ length old + j = ap (λ k. k * width_of q + j) e ∙ omega (arith, h.size) in
            ap (fraction_at new) at ∙ more.after j hj ∙ ap (λ k. whole_fraction (opening_number q k j)) (sym e)
        | inr ne ↦
            let below = row_within i n (width_of q) (omega arith) in
            more.before (i * width_of q + j) (omega (arith, below, h.size)) ∙ h.places i j (omega arith) hj
      ];
  numbers = more.numbers h.numbers;
}

-- ---- which number stands where

test_yes : (j k : ℕ) → j ≡ k → (j == k) ≡ true
test_yes j k h = grind (arith, nat_tests)

less : (a b : ℕ) → a < b → nat_lt a b ≡ true
less a b h = grind (arith, nat_tests)

not_less : (a b : ℕ) → b ≤ a → nat_lt a b ≡ false
not_less a b h = grind (arith, nat_tests)

chosen : {X : Type 0} (t : Bool) (x y : X) → t ≡ true → cond t x y ≡ x
chosen t x y e = ap (λ b. cond b x y) e

other : {X : Type 0} (t : Bool) (x y : X) → t ≡ false → cond t x y ≡ y
other t x y e = ap (λ b. cond b x y) e

number_of_entry : (q : Problem) (i j : ℕ) → j < columns q → opening_number q i j ≡ opening_entry q i j
number_of_entry q i j h = chosen (nat_lt j (columns q)) (opening_entry q i j) (opening_right q i) (less j (columns q) h)

number_of_right : (q : Problem) (i : ℕ) → opening_number q i (columns q) ≡ opening_right q i
number_of_right q i =
    other (nat_lt (columns q) (columns q)) (opening_entry q i (columns q)) (opening_right q i)
    (not_less (columns q) (columns q) (omega arith))

pub entry_of_row : (q : Problem) (i j : ℕ) → i < length q.rows → j < columns q
    → opening_number q i j ≡ component (linear_at q.rows i).coef j *ℤ sign_at q j
entry_of_row q i j hi hj = number_of_entry q i j hj ∙ chosen (nat_lt i (length q.rows)) _ _ (less i (length q.rows) hi)

pub right_of_row : (q : Problem) (i : ℕ) → i < length q.rows
    → opening_number q i (columns q) ≡ (linear_at q.rows i).rhs -ℤ at_start q (linear_at q.rows i).coef
right_of_row q i hi = number_of_right q i ∙ chosen (nat_lt i (length q.rows)) _ _ (less i (length q.rows) hi)

pub entry_of_range : (q : Problem) (k j : ℕ) → k < columns q → j < columns q
    → opening_number q (length q.rows + k) j ≡ cond (length q.rows + k == length q.rows + j) (pos 1) (pos 0)
entry_of_range q k j hk hj =
    number_of_entry q (length q.rows + k) j hj
    ∙ other (nat_lt (length q.rows + k) (length q.rows)) _ _
    (not_less (length q.rows + k) (length q.rows) (omega arith))
    ∙ chosen (nat_lt (length q.rows + k) (cost_row q)) _ _ (less (length q.rows + k) (cost_row q) (omega arith))

pub right_of_range : (q : Problem) (k : ℕ) → k < columns q
    → opening_number q (length q.rows + k) (columns q) ≡ component q.area.hi k -ℤ component q.area.lo k
right_of_range q k hk =
    let same : (length q.rows + k) - length q.rows ≡ k = omega arith in
    number_of_right q (length q.rows + k)
    ∙ other (nat_lt (length q.rows + k) (length q.rows)) _ _
    (not_less (length q.rows + k) (length q.rows) (omega arith))
    ∙ chosen (nat_lt (length q.rows + k) (cost_row q)) _ _ (less (length q.rows + k) (cost_row q) (omega arith))
    ∙ ap (λ n. component q.area.hi n -ℤ component q.area.lo n) same

pub entry_of_cost : (q : Problem) (j : ℕ) → j < columns q
    → opening_number q (cost_row q) j ≡ neg_ℤ (pos (unsigned_abs (component q.cost j)))
entry_of_cost q j hj =
    number_of_entry q (cost_row q) j hj
    ∙ other (nat_lt (cost_row q) (length q.rows)) _ _ (not_less (cost_row q) (length q.rows) (omega arith))
    ∙ other (nat_lt (cost_row q) (cost_row q)) _ _ (not_less (cost_row q) (cost_row q) (omega arith))

pub right_of_cost : (q : Problem) → opening_number q (cost_row q) (columns q) ≡ at_start q q.cost
right_of_cost q =
    number_of_right q (cost_row q)
    ∙ other (nat_lt (cost_row q) (length q.rows)) _ _ (not_less (cost_row q) (length q.rows) (omega arith))
    ∙ other (nat_lt (cost_row q) (cost_row q)) _ _ (not_less (cost_row q) (cost_row q) (omega arith))

-- ---- the numbers as the code makes them

read64 : (m : ℕ) (z : ℤ) → IsWithin m z → m < 2 ^ 63 → to_z w64 (of_z w64 z) ≡ z
read64 m z h l = to_z-of_z w64 z (fits_from_within w64 h l)

whole_number : (s z : ℤ) (m : ℕ) (w : Fraction) → w ≡ record { num = to_z w64 (of_z w64 s); den = 1 } → s ≡ z
    → IsWithin m z → m < 2 ^ 63 → w ≡ whole_fraction z
whole_number s z m w ew es h l =
    ew ∙ ap (λ x. whole_fraction (to_z w64 (of_z w64 x))) es ∙ ap whole_fraction (read64 m z h l)

sign_within : (t : Bool) → IsWithin 1 (cond t (negsuc 0) (pos 1))
sign_within true = record { magnitude = omega arith }
sign_within false = record { magnitude = omega arith }

-- the coefficient as the code turns it round
pub row_number : (q : Problem) (i j : ℕ) (coef cost : List ℤ) (s : ℤ) (w : Fraction) → Fits q → i < length q.rows
    → j < columns q → coef ≡ (linear_at q.rows i).coef → cost ≡ q.cost
    → w ≡ record { num = to_z w64 (of_z w64 s); den = 1 }
    → s ≡ to_z w64 (of_z w64 (component coef j))
    *ℤ cond (int_lt (to_z w64 (of_z w64 (component cost j))) (pos 0)) (negsuc 0) (pos 1)
    → w ≡ whole_fraction (opening_number q i j)
row_number q i j coef cost s w fits hi hj ec ed ew es =
    let a = component (linear_at q.rows i).coef j in
    let size : IsWithin (2 ^ 36) a = within_entry (fits.coefs i hi) j in
    let first : to_z w64 (of_z w64 (component coef j)) ≡ a =
    ap (λ xs. to_z w64 (of_z w64 (component xs j))) ec ∙ read64 (2 ^ 36) a size (lit< tt) in
    let second : to_z w64 (of_z w64 (component cost j)) ≡ component q.cost j =
    ap (λ xs. to_z w64 (of_z w64 (component xs j))) ed
    ∙ read64 10000000 (component q.cost j) (within_entry fits.costs j) (lit< tt) in
    let value : s ≡ a *ℤ sign_at q j =
    es ∙ ap (λ z. z *ℤ cond (int_lt (to_z w64 (of_z w64 (component cost j))) (pos 0)) (negsuc 0) (pos 1)) first
    ∙ ap (λ z. a *ℤ cond (int_lt z (pos 0)) (negsuc 0) (pos 1)) second in
    whole_number s (a *ℤ sign_at q j) (2 ^ 36 * 1) w ew value (within_product size (sign_within (descends q j)))
    (lit< tt) ∙ ap whole_fraction (sym (entry_of_row q i j hi hj))

pub slack_value : (q : Problem) (i : ℕ) (coef starts : List ℤ) (r f d s : ℤ) → Fits q → i < length q.rows
    → AreStarts q starts → coef ≡ (linear_at q.rows i).coef → r ≡ (linear_at q.rows i).rhs
    → f ≡ to_z w64 (of_z w64 r) → d ≡ dot coef starts
    → (f ≡ (linear_at q.rows i).rhs) × (d ≡ at_start q (linear_at q.rows i).coef) × (unsigned_abs f ≤ 2 ^ 62)
    × (unsigned_abs d ≤ 2 ^ 70)
slack_value q i coef starts r f d s fits hi starts_are ec er ef ed =
    let cs = (linear_at q.rows i).coef in
    let b = (linear_at q.rows i).rhs in
    let size = fits.rhs i hi in
    let columns_of = fits.shape.row_columns i hi in
    let right : f ≡ b = ef ∙ ap (λ z. to_z w64 (of_z w64 z)) er ∙ read64 (2 ^ 62) b size (lit< tt) in
    let sum : d ≡ dot cs starts = ed ∙ ap (λ xs. dot xs starts) ec in
    let small = dot_within q cs starts starts_are columns_of fits.few_columns (fits.coefs i hi) in (
      right,
      sum ∙ dot_starts q cs starts starts_are columns_of,
      subst (λ z. unsigned_abs z ≤ 2 ^ 62) (sym right) size.magnitude,
      subst (λ z. unsigned_abs z ≤ 2 ^ 70) (sym sum) small,
    )

flag_within : (t : Bool) → IsWithin 1 (cond t (pos 1) (pos 0))
flag_within true = record { magnitude = omega arith }
flag_within false = record { magnitude = omega arith }

same_flag : (m j k : ℕ) → pos (cond (j == k) 1 0) ≡ cond (m + k == m + j) (pos 1) (pos 0)
same_flag m j k =
    elim (cases_eq j k) [
      | inl e ↦ ap pos (chosen (j == k) 1 0 (test_yes j k e))
          ∙ sym (chosen (m + k == m + j) (pos 1) (pos 0) (test_yes (m + k) (m + j) (omega arith)))
      | inr ne ↦ ap pos (other (j == k) 1 0 (test_other j k ne))
          ∙ sym (other (m + k == m + j) (pos 1) (pos 0) (test_other (m + k) (m + j) (omega arith)))
    ]

-- a sum of sizes below 128 bits
pub difference_narrow : (f d : ℤ) → unsigned_abs f ≤ 2 ^ 62 → unsigned_abs d ≤ 2 ^ 70 → unsigned_abs (f -ℤ d) < 2 ^ 127
difference_narrow f d hf hd =
    let w = within_difference {m = 2 ^ 62} {n = 2 ^ 70} {a = f} {b = d} (record { magnitude = hf })
    (record { magnitude = hd }) in
    omega (arith, w.magnitude)

pub read128 : (z : ℤ) → unsigned_abs z < 2 ^ 127 → to_z w128 (of_z w128 z) ≡ z
read128 z h = signed_back z h

pub range_number : (q : Problem) (k j : ℕ) (s : ℤ) (w : Fraction) → k < columns q → j < columns q
    → w ≡ record { num = to_z w64 (of_z w64 s); den = 1 } → s ≡ pos (cond (j == k) 1 0)
    → w ≡ whole_fraction (opening_number q (length q.rows + k) j)
range_number q k j s w hk hj ew es =
    let value : pos (cond (j == k) 1 0) ≡ cond (length q.rows + k == length q.rows + j) (pos 1) (pos 0) =
    same_flag (length q.rows) j k in
    whole_number s _ 1 w ew (es ∙ value) (flag_within (length q.rows + k == length q.rows + j)) (lit< tt)
    ∙ ap whole_fraction (sym (entry_of_range q k j hk hj))

pub range_right : (q : Problem) (k : ℕ) (hi lo : List ℤ) (s : ℤ) (w : Fraction) → Fits q → k < columns q
    → hi ≡ q.area.hi → lo ≡ q.area.lo → w ≡ record { num = to_z w64 (of_z w64 s); den = 1 }
    → s ≡ to_z w64 (of_z w64 (component hi k)) -ℤ to_z w64 (of_z w64 (component lo k))
    → w ≡ whole_fraction (opening_number q (length q.rows + k) (columns q))
range_right q k hi lo s w fits hk eh el ew es =
    let upper = within_entry fits.upper_bounds k in
    let lower = within_entry fits.lower_bounds k in
    let first : to_z w64 (of_z w64 (component hi k)) ≡ component q.area.hi k =
    ap (λ xs. to_z w64 (of_z w64 (component xs k))) eh ∙ read64 10000000 (component q.area.hi k) upper (lit< tt) in
    let second : to_z w64 (of_z w64 (component lo k)) ≡ component q.area.lo k =
    ap (λ xs. to_z w64 (of_z w64 (component xs k))) el ∙ read64 10000000 (component q.area.lo k) lower (lit< tt) in
    let value : s ≡ component q.area.hi k -ℤ component q.area.lo k =
    es ∙ ap (λ z. z -ℤ to_z w64 (of_z w64 (component lo k))) first ∙ ap (λ z. component q.area.hi k -ℤ z) second in
    whole_number s _ (10000000 + 10000000) w ew value (within_difference upper lower) (lit< tt)
    ∙ ap whole_fraction (sym (right_of_range q k hk))

pub cost_number : (q : Problem) (j : ℕ) (cost : List ℤ) (a : ℤ) (w : Fraction) → Fits q → j < columns q → cost ≡ q.cost
    → w ≡ record { num = to_z w64 (of_z w64 (pos 0 -ℤ to_z w64 (of_z w64 a))); den = 1 }
    → a ≡ pos (unsigned_abs (to_z w64 (of_z w64 (component cost j))))
    → w ≡ whole_fraction (opening_number q (cost_row q) j)
cost_number q j cost a w fits hj ec ew ea =
    let size = within_entry fits.costs j in
    let read : to_z w64 (of_z w64 (component cost j)) ≡ component q.cost j =
    ap (λ xs. to_z w64 (of_z w64 (component xs j))) ec ∙ read64 10000000 (component q.cost j) size (lit< tt) in
    let value : a ≡ pos (unsigned_abs (component q.cost j)) = ea ∙ ap (λ z. pos (unsigned_abs z)) read in
    let positive : IsWithin 10000000 (pos (unsigned_abs (component q.cost j))) =
    record { magnitude = size.magnitude } in
    let back : to_z w64 (of_z w64 a) ≡ pos (unsigned_abs (component q.cost j)) =
    ap (λ z. to_z w64 (of_z w64 z)) value ∙ read64 10000000 _ positive (lit< tt) in
    whole_number (pos 0 -ℤ to_z w64 (of_z w64 a)) (neg_ℤ (pos (unsigned_abs (component q.cost j)))) 10000000 w ew
    (ap (λ z. pos 0 -ℤ z) back ∙ minus_natural (unsigned_abs (component q.cost j))) (within_negation positive)
    (lit< tt) ∙ ap whole_fraction (sym (entry_of_cost q j hj))

-- the row that was read
pub read_row : (q : Problem) (i : ℕ) (r : Linear) → i < length q.rows → r ≡ slice_index_or q.rows i r
    → r ≡ linear_at q.rows i
read_row q i r h e = get_or_read q.rows i r h e no_linear

flag_of : (t : Bool) → pos (from_bool t) ≡ pos (cond t 1 0)
flag_of true = refl
flag_of false = refl

pub flag_number : (j k : ℕ) → pos (from_bool (j == k)) ≡ pos (cond (j == k) 1 0)
flag_number j k = flag_of (j == k)

pub narrow_fits : (z : ℤ) → unsigned_abs z < 2 ^ 127 → FitsSigned w128 z
narrow_fits z h = fits_signed_from_abs w128 z h

-- costs are smaller than coefficients may be
pub costs_within : (q : Problem) → Fits q → AreWithin (2 ^ 36) q.cost
costs_within q fits = record { each = λ k h. within_more (fits.costs.each k h) (lit≤ tt) }
