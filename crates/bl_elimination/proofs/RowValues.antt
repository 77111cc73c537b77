-- Rows as combinations of candidates, and what the elimination makes of them.
use Rattle.std.proofs.Common.{◌≡◌, ◌≢◌, ℕ, zero, suc, ◌+◌, ◌*◌, ◌<◌, ◌≤◌, List, [], ◌∷◌, length, map, ℤ, pos}
use Rattle.std.proofs.Common.{◌+ℤ◌, ◌-ℤ◌, ◌*ℤ◌, refl, sym, ap, ◌∙◌, subst, arith, rules, ◌⊎◌, inl, inr, nat_eq, true}
use Rattle.std.proofs.Common.{false}
use Rattle.std.proofs.Common.{◌-◌}
use Rattle.std.specs.Prelude.{Option, Some, None, if◌then◌else◌}
use Rattle.std.specs.List.{range_with_len}
use Rattle.std.proofs.lemmas.Int.{ints}
use Rattle.std.proofs.lemmas.Bool.{cases_eq, cases_order, cases_lt}
use Rattle.std.proofs.lemmas.Bool.Decides.{nat_tests}
use Rattle.std.proofs.lemmas.List.{length-map, get_or-map, get_or_append_left, get_or-append_right}
use Rattle.std.proofs.lemmas.List.FromFn.{get_or-map-range_with_len}
use Rattle.bl_whole.specs.Sums.{component, sum_below}
use Rattle.bl_whole.specs.Identities.{variable, constant, minus, times}
use Rattle.bl_whole.proofs.IdentityLemmas.{identity}
use Rattle.bl_whole.proofs.SumLemmas.{sum_below-agree, sum_below-zero, sum_below-scale, sum_below_isolate}
use Rattle.bl_whole.proofs.SumLemmas.{without-other}
use Rattle.bl_whole.proofs.SumLemmas.{without as rest_without, without-same}
use Rattle.bl_whole.proofs.Products.{*ℤ_one}
use Rattle.bl_simplex.specs.Fractions.{Fraction, whole_fraction, quotient_of}
use Rattle.bl_simplex.specs.Rationals.{fraction_at}
use Rattle.bl_frac.proofs.Rationals.{quotient_of-positive}
use Rattle.bl_tableau.proofs.Scaling.{IsOver, sum_linear}
use Rattle.bl_tableau.proofs.RowEquations.{product_positive}
use Rattle.bl_elimination.specs.Elimination.{joined, candidate, less_multiple, less_row, without, divided}
use Rattle.bl_elimination.proofs.RowLists.{candidate_size}
use Rattle.bl_elimination.proofs.Values.{IsWhole, over_of_whole, whole_from_over, less_over, share_over, sign_of}
use Rattle.bl_elimination.proofs.Values.{size_of}
use Rattle.bl_elimination.proofs.Values.{signed_size, size_positive}

-- ---- what joined lists hold

pub joined_is : {T : Type 0} (o : Option T) (p : Option (List T)) (zs : List T) → joined o p ≡ Some zs
    → (x : T) × (xs : List T) × (o ≡ Some x) × (p ≡ Some xs) × (zs ≡ x ∷ xs)
joined_is (Some x) (Some xs) zs h = (x, xs, refl, refl, search rules)
joined_is (Some x) None zs h = absurd (search rules)
joined_is None (Some xs) zs h = absurd (search rules)
joined_is None None zs h = absurd (search rules)

-- entry by entry
pub record AreLess (xs : List Fraction) (factor : Fraction) (ys zs : List Fraction) : Type 0 where
  pub size : length zs ≡ length xs
  pub each : (j : ℕ) → j < length xs
      → less_multiple (fraction_at xs j) factor (fraction_at ys j) ≡ Some (fraction_at zs j)

pub less_row_is : (xs ys zs : List Fraction) (factor : Fraction) → length ys ≡ length xs
    → less_row xs factor ys ≡ Some zs → AreLess xs factor ys zs
less_row_is [] ys zs factor s h =
    let e : zs ≡ [] = search rules in record { size = ap length e; each = λ j l. absurd (omega arith) }
less_row_is (x ∷ xs) [] zs factor s h = absurd (omega arith)
less_row_is (x ∷ xs) (y ∷ ys) zs factor s h =
    let (z, rest, first, more, e) = joined_is (less_multiple x factor y) (less_row xs factor ys) zs h in
    let tail = less_row_is xs ys rest factor (omega arith) more in
    subst (AreLess (x ∷ xs) factor (y ∷ ys)) (sym e) (less_cons x y z xs ys rest factor first tail)
  where
    less_cons : (x y z : Fraction) (xs ys zs : List Fraction) (factor : Fraction) → less_multiple x factor y ≡ Some z
        → AreLess xs factor ys zs → AreLess (x ∷ xs) factor (y ∷ ys) (z ∷ zs)
    less_cons x y z xs ys zs factor first tail = record {
      size = omega (arith, tail.size);
      each = by;
    }
      where
        by : (j : ℕ) → j < length (x ∷ xs)
            → less_multiple (fraction_at (x ∷ xs) j) factor (fraction_at (y ∷ ys) j) ≡ Some (fraction_at (z ∷ zs) j)
        by zero l = first
        by (suc j) l = tail.each j (omega arith)

pub record AreShares (pivot : Fraction) (xs zs : List Fraction) : Type 0 where
  pub size : length zs ≡ length xs
  pub each : (j : ℕ) → j < length xs → quotient_of (fraction_at xs j) pivot ≡ Some (fraction_at zs j)

share_cons : (pivot x z : Fraction) (xs zs : List Fraction) → quotient_of x pivot ≡ Some z → AreShares pivot xs zs
    → AreShares pivot (x ∷ xs) (z ∷ zs)
share_cons pivot x z xs zs first tail = record {
  size = omega (arith, tail.size);
  each = by;
}
  where
    by : (j : ℕ) → j < length (x ∷ xs) → quotient_of (fraction_at (x ∷ xs) j) pivot ≡ Some (fraction_at (z ∷ zs) j)
    by zero l = first
    by (suc j) l = tail.each j (omega arith)

pub divided_is : (pivot : Fraction) (xs zs : List Fraction) → divided pivot xs ≡ Some zs → AreShares pivot xs zs
divided_is pivot [] zs h =
    let e : zs ≡ [] = search rules in record { size = ap length e; each = λ j l. absurd (omega arith) }
divided_is pivot (x ∷ xs) zs h =
    let (z, rest, first, more, e) = joined_is (quotient_of x pivot) (divided pivot xs) zs h in
    subst (AreShares pivot (x ∷ xs)) (sym e) (share_cons pivot x z xs rest first (divided_is pivot xs rest more))

-- ---- rows as combinations

-- over a scale the row's coefficients are the sum of the rows c t, each times its number of the identity part
pub record Shows (n : ℕ) (c : ℕ → ℕ → ℤ) (row : List Fraction) : Type 0 where
  pub size : length row ≡ n + n
  pub positive : (j : ℕ) → j < n + n → 0 < (fraction_at row j).den
  pub scale : ℕ
  pub some : 0 < scale
  pub value : ℕ → ℤ
  pub over : (j : ℕ) → j < n + n → IsOver scale (fraction_at row j) (value j)
  pub combined : (k : ℕ) → k < n → value k ≡ sum_below n (λ t. value (n + t) *ℤ c t k)

pub value_of_whole : (n : ℕ) (c : ℕ → ℕ → ℤ) (row : List Fraction) (s : Shows n c row) (j : ℕ) (z : ℤ) → j < n + n
    → IsWhole (fraction_at row j) z → s.value j ≡ z *ℤ pos s.scale
value_of_whole n c row s j z l h =
    over_of_whole s.scale (fraction_at row j) z (s.value j) (s.positive j l) h (s.over j l)

-- the same combination of other rows that differ only where the identity part is 0
pub shows_other : (n m : ℕ) (c d : ℕ → ℕ → ℤ) (row : List Fraction) → Shows n c row
    → ((t : ℕ) → m ≤ t → t < n → IsWhole (fraction_at row (n + t)) (pos 0))
    → ((t k : ℕ) → t < m → c t k ≡ d t k) → Shows n d row
shows_other n m c d row s slots same = record {
  size = s.size;
  positive = s.positive;
  scale = s.scale;
  some = s.some;
  value = s.value;
  over = s.over;
  combined = λ k l. s.combined k l ∙ sum_below-agree n _ _ (λ t b. by t k b (cases_order t m));
}
  where
    none : (x y z : ℤ) → x ≡ pos 0 → x *ℤ y ≡ x *ℤ z
    none x y z e = ap (λ w. w *ℤ y) e ∙ omega (arith, ints) ∙ ap (λ w. w *ℤ z) (sym e)

    past : (t k : ℕ) → t < n → m ≤ t → s.value (n + t) *ℤ c t k ≡ s.value (n + t) *ℤ d t k
    past t k b l =
        none (s.value (n + t)) (c t k) (d t k)
        (value_of_whole n c row s (n + t) (pos 0) (omega arith) (slots t l b) ∙ omega (arith, ints))

    by : (t k : ℕ) → t < n → (t ≡ m) ⊎ ((t < m) ⊎ (m < t)) → s.value (n + t) *ℤ c t k ≡ s.value (n + t) *ℤ d t k
    by t k b (inl e) = past t k b (omega arith)
    by t k b (inr (inl l)) = ap (λ z. s.value (n + t) *ℤ z) (same t k l)
    by t k b (inr (inr g)) = past t k b (omega arith)

-- ---- a row less a multiple of another

-- the numbers of the difference
abbrev pub less_value : (ℕ → ℤ) → ℕ → ℤ → (ℕ → ℤ) → ℕ → ℤ
less_value x k e y j = x j *ℤ pos k -ℤ e *ℤ y j

less_term : (x k e y z : ℤ) → (x *ℤ k -ℤ e *ℤ y) *ℤ z *ℤ pos 1 ≡ (x *ℤ z) *ℤ k -ℤ e *ℤ (y *ℤ z)
less_term x k e y z =
    let v0 = variable 0 in
    let v1 = variable 1 in
    let v2 = variable 2 in
    let v3 = variable 3 in
    let v4 = variable 4 in
    identity (x ∷ k ∷ e ∷ y ∷ z ∷ []) (times (times (minus (times v0 v1) (times v2 v3)) v4) (constant (pos 1)))
    (minus (times (times v0 v4) v1) (times v2 (times v3 v4))) refl

less_combined : (n k : ℕ) (e : ℤ) (x y : ℕ → ℤ) (c : ℕ → ℤ) (a b : ℤ)
    → a ≡ sum_below n (λ t. x (n + t) *ℤ c t) → b ≡ sum_below n (λ t. y (n + t) *ℤ c t)
    → a *ℤ pos k -ℤ e *ℤ b ≡ sum_below n (λ t. less_value x k e y (n + t) *ℤ c t)
less_combined n k e x y c a b ha hb =
    let f : ℕ → ℤ = λ t. less_value x k e y (n + t) *ℤ c t in
    let tied = sum_linear n f (λ t. x (n + t) *ℤ c t) (λ t. y (n + t) *ℤ c t) (pos 1) (pos k) e
    (λ t l. less_term (x (n + t)) (pos k) e (y (n + t)) (c t)) in
    ap (λ z. z *ℤ pos k -ℤ e *ℤ b) ha
    ∙ ap (λ z. sum_below n (λ t. x (n + t) *ℤ c t) *ℤ pos k -ℤ e *ℤ z) hb
    ∙ sym tied ∙ *ℤ_one (sum_below n f)

-- each entry of the difference
entry_over : (n i : ℕ) (c : ℕ → ℕ → ℤ) (by row new : List Fraction) → i < n → (r : Shows n c row) (b : Shows n c by)
    → without i by row ≡ Some new → (j : ℕ) → j < n + n
    → IsOver (r.scale * b.scale) (fraction_at new j) (less_value r.value b.scale (r.value i) b.value j)
    × (0 < (fraction_at new j).den)
entry_over n i c by row new l r b h j q =
    let e = fraction_at row i in
    let less = less_row_is row by new e (b.size ∙ sym r.size) h in
    less_over r.scale b.scale (fraction_at row j) e (fraction_at by j) (fraction_at new j) (r.value j) (r.value i)
    (b.value j) (r.positive j q) (r.positive i (omega arith)) (b.positive j q) (r.over j q) (r.over i (omega arith))
    (b.over j q) (less.each j (omega (arith, q, r.size)))

pub without_shows : (n i : ℕ) (c : ℕ → ℕ → ℤ) (by row new : List Fraction) → i < n → Shows n c row → Shows n c by
    → without i by row ≡ Some new → Shows n c new
without_shows n i c by row new l r b h = record {
  size = (less_row_is row by new (fraction_at row i) (b.size ∙ sym r.size) h).size ∙ r.size;
  positive = λ j q. (entry_over n i c by row new l r b h j q).1;
  scale = r.scale * b.scale;
  some = product_positive r.scale b.scale r.some b.some;
  value = less_value r.value b.scale (r.value i) b.value;
  over = λ j q. (entry_over n i c by row new l r b h j q).0;
  combined = λ k q. less_combined n b.scale (r.value i) r.value b.value (λ t. c t k) (r.value k) (b.value k)
      (r.combined k q) (b.combined k q);
}

kept_entry : (x m k e : ℤ) → (x *ℤ m) *ℤ k -ℤ e *ℤ (pos 0 *ℤ k) ≡ x *ℤ (m *ℤ k)
kept_entry x m k e =
    let v0 = variable 0 in
    let v1 = variable 1 in
    let v2 = variable 2 in
    let v3 = variable 3 in
    identity (x ∷ m ∷ k ∷ e ∷ []) (minus (times (times v0 v1) v2) (times v3 (times (constant (pos 0)) v2)))
    (times v0 (times v1 v2)) refl

taken_entry : (e m k : ℤ) → e *ℤ k -ℤ e *ℤ (pos 1 *ℤ k) ≡ pos 0 *ℤ (m *ℤ k)
taken_entry e m k =
    let v0 = variable 0 in
    let v1 = variable 1 in
    let v2 = variable 2 in
    identity (e ∷ m ∷ k ∷ []) (minus (times v0 v2) (times v0 (times (constant (pos 1)) v2)))
    (times (constant (pos 0)) (times v1 v2)) refl

pos_product : (m k : ℕ) → pos m *ℤ pos k ≡ pos (m * k)
pos_product m k = omega (arith, ints)

-- an entry of the difference where the row has a whole number, and the other 0
pub without_entry : (n i : ℕ) (c : ℕ → ℕ → ℤ) (by row new : List Fraction) → i < n → Shows n c row → Shows n c by
    → without i by row ≡ Some new → (j : ℕ) (x : ℤ) → j < n + n → IsWhole (fraction_at row j) x
    → IsWhole (fraction_at by j) (pos 0) → IsWhole (fraction_at new j) x
without_entry n i c by row new l r b h j x q hx hy =
    let o = entry_over n i c by row new l r b h j q in
    let first = value_of_whole n c row r j x q hx in
    let second = value_of_whole n c by b j (pos 0) q hy in
    whole_from_over (r.scale * b.scale) (fraction_at new j) x (less_value r.value b.scale (r.value i) b.value j)
    (product_positive r.scale b.scale r.some b.some) o.0
    (ap (λ z. z *ℤ pos b.scale -ℤ r.value i *ℤ b.value j) first
    ∙ ap (λ z. (x *ℤ pos r.scale) *ℤ pos b.scale -ℤ r.value i *ℤ z) second
    ∙ kept_entry x (pos r.scale) (pos b.scale) (r.value i)
    ∙ ap (λ z. x *ℤ z) (pos_product r.scale b.scale))

-- and at the column that is taken away
pub without_column : (n i : ℕ) (c : ℕ → ℕ → ℤ) (by row new : List Fraction) → i < n → Shows n c row → Shows n c by
    → without i by row ≡ Some new → IsWhole (fraction_at by i) (pos 1) → IsWhole (fraction_at new i) (pos 0)
without_column n i c by row new l r b h one =
    let o = entry_over n i c by row new l r b h i (omega arith) in
    let unit = value_of_whole n c by b i (pos 1) (omega arith) one in
    whole_from_over (r.scale * b.scale) (fraction_at new i) (pos 0)
    (less_value r.value b.scale (r.value i) b.value i) (product_positive r.scale b.scale r.some b.some) o.0
    (ap (λ z. r.value i *ℤ pos b.scale -ℤ r.value i *ℤ z) unit
    ∙ taken_entry (r.value i) (pos r.scale) (pos b.scale)
    ∙ ap (λ z. pos 0 *ℤ z) (pos_product r.scale b.scale))

-- ---- a row divided by an entry

scaled_term : (s x z : ℤ) → s *ℤ (x *ℤ z) ≡ (s *ℤ x) *ℤ z
scaled_term s x z =
    identity (s ∷ x ∷ z ∷ []) (times (variable 0) (times (variable 1) (variable 2)))
    (times (times (variable 0) (variable 1)) (variable 2)) refl

pivot_other : (n i : ℕ) (c : ℕ → ℕ → ℤ) (row : List Fraction) → i < n → (r : Shows n c row)
    → (fraction_at row i).num ≢ pos 0 → r.value i ≢ pos 0
pivot_other n i c row l r nonzero e =
    let w : IsWhole (fraction_at row i) (pos 0) =
    whole_from_over r.scale (fraction_at row i) (pos 0) (r.value i) r.some (r.over i (omega arith))
    (e ∙ omega (arith, ints)) in
    nonzero (w.is ∙ omega (arith, ints))

pub divided_shows : (n i : ℕ) (c : ℕ → ℕ → ℤ) (row new : List Fraction) → i < n → Shows n c row
    → (fraction_at row i).num ≢ pos 0 → divided (fraction_at row i) row ≡ Some new → Shows n c new
divided_shows n i c row new l r nonzero h =
    let p = fraction_at row i in
    let shares = divided_is p row new h in
    let b = r.value i in
    record {
      size = shares.size ∙ r.size;
      positive = λ j q. quotient_of-positive (fraction_at row j) p (fraction_at new j) (r.positive j q) nonzero
          (shares.each j (omega (arith, q, r.size)));
      scale = size_of b;
      some = size_positive b (pivot_other n i c row l r nonzero);
      value = λ j. sign_of b *ℤ r.value j;
      over = λ j q. share_over r.scale (fraction_at row j) p (fraction_at new j) (r.value j) b (r.positive j q)
          (r.positive i (omega arith)) (r.over j q) (r.over i (omega arith)) (shares.each j (omega (arith, q, r.size)));
      combined = λ k q. ap (λ z. sign_of b *ℤ z) (r.combined k q)
          ∙ sym (sum_below-scale n (sign_of b) (λ t. r.value (n + t) *ℤ c t k))
          ∙ sum_below-agree n _ _ (λ t m. scaled_term (sign_of b) (r.value (n + t)) (c t k));
    }

pub divided_zero : (n i : ℕ) (c : ℕ → ℕ → ℤ) (row new : List Fraction) → i < n → Shows n c row
    → (fraction_at row i).num ≢ pos 0 → divided (fraction_at row i) row ≡ Some new → (j : ℕ) → j < n + n
    → IsWhole (fraction_at row j) (pos 0) → IsWhole (fraction_at new j) (pos 0)
divided_zero n i c row new l r nonzero h j q zero_there =
    let p = fraction_at row i in
    let shares = divided_is p row new h in
    let b = r.value i in
    let o = share_over r.scale (fraction_at row j) p (fraction_at new j) (r.value j) b (r.positive j q)
    (r.positive i (omega arith)) (r.over j q) (r.over i (omega arith)) (shares.each j (omega (arith, q, r.size))) in
    let nought = value_of_whole n c row r j (pos 0) q zero_there in
    whole_from_over (size_of b) (fraction_at new j) (pos 0) (sign_of b *ℤ r.value j)
    (size_positive b (pivot_other n i c row l r nonzero)) o
    (ap (λ z. sign_of b *ℤ z) nought
    ∙ identity (sign_of b ∷ pos r.scale ∷ pos (size_of b) ∷ [])
    (times (variable 0) (times (constant (pos 0)) (variable 1))) (times (constant (pos 0)) (variable 2)) refl)

pub divided_column : (n i : ℕ) (c : ℕ → ℕ → ℤ) (row new : List Fraction) → i < n → Shows n c row
    → (fraction_at row i).num ≢ pos 0 → divided (fraction_at row i) row ≡ Some new
    → IsWhole (fraction_at new i) (pos 1)
divided_column n i c row new l r nonzero h =
    let p = fraction_at row i in
    let shares = divided_is p row new h in
    let b = r.value i in
    let q : i < n + n = omega arith in
    let o = share_over r.scale p p (fraction_at new i) b b (r.positive i q) (r.positive i q) (r.over i q) (r.over i q)
    (shares.each i (omega (arith, q, r.size))) in
    whole_from_over (size_of b) (fraction_at new i) (pos 1) (sign_of b *ℤ b)
    (size_positive b (pivot_other n i c row l r nonzero)) o (signed_size b ∙ omega (arith, ints))

-- ---- candidates

candidate_left : (slot : ℕ) (coef : List ℤ) (j : ℕ) → j < length coef
    → fraction_at (candidate slot coef) j ≡ whole_fraction (component coef j)
candidate_left slot coef j l =
    get_or_append_left (map whole_fraction coef) _ (whole_fraction (pos 0)) j
    (omega (arith, length-map coef whole_fraction))
    ∙ get_or-map whole_fraction coef j (pos 0) (whole_fraction (pos 0)) l

abbrev pub slot_entry : ℕ → ℕ → ℤ
slot_entry slot t = if nat_eq t slot then pos 1 else pos 0

candidate_right : (slot : ℕ) (coef : List ℤ) (t : ℕ) → t < length coef
    → fraction_at (candidate slot coef) (length coef + t) ≡ whole_fraction (slot_entry slot t)
candidate_right slot coef t l =
    let e : length coef + t - length coef ≡ t = omega arith in
    get_or-append_right (map whole_fraction coef) _ (length coef) (length coef + t) (whole_fraction (pos 0))
    (length-map coef whole_fraction) (omega arith)
    ∙ ap (λ k. fraction_at (map (λ t. whole_fraction (slot_entry slot t)) (range_with_len 0 (length coef))) k) e
    ∙ get_or-map-range_with_len (λ t. whole_fraction (slot_entry slot t)) 0 (length coef) t t (whole_fraction (pos 0)) l
    (omega arith)

-- an entry of a candidate is a whole number
candidate_den : (slot : ℕ) (coef : List ℤ) (j : ℕ) → j < length coef + length coef
    → (fraction_at (candidate slot coef) j).den ≡ 1
candidate_den slot coef j l = by (cases_lt j (length coef))
  where
    by : (j < length coef) ⊎ (length coef ≤ j) → (fraction_at (candidate slot coef) j).den ≡ 1
    by (inl b) = ap (λ f. f.den) (candidate_left slot coef j b)
    by (inr b) =
        let e : length coef + (j - length coef) ≡ j = omega arith in
        ap (λ k. (fraction_at (candidate slot coef) k).den) (sym e)
        ∙ ap (λ f. f.den) (candidate_right slot coef (j - length coef) (omega arith))

candidate_sum : (n slot : ℕ) (f g : ℕ → ℤ) → slot < n → ((t : ℕ) → t < n → f t ≡ slot_entry slot t)
    → sum_below n (λ t. f t *ℤ g t) ≡ g slot
candidate_sum n slot f g l is =
    sum_below_isolate n slot (λ t. f t *ℤ g t) l
    ∙ ap (λ z. f slot *ℤ g slot +ℤ z)
    (sum_below-zero n (rest_without slot (λ t. f t *ℤ g t)) (λ t b. by t b (cases_eq t slot)))
    ∙ ap (λ z. z *ℤ g slot +ℤ pos 0) (is slot l ∙ own slot) ∙ omega (arith, ints)
  where
    own : (t : ℕ) → slot_entry t t ≡ pos 1
    own t = let e : nat_eq t t ≡ true = grind (arith, nat_tests) in rw e refl

    nothing : (t : ℕ) → t ≢ slot → slot_entry slot t ≡ pos 0
    nothing t other = let e : nat_eq t slot ≡ false = grind (arith, nat_tests) in rw e refl

    by : (t : ℕ) → t < n → (t ≡ slot) ⊎ (t ≢ slot) → rest_without slot (λ t. f t *ℤ g t) t ≡ pos 0
    by t b (inl e) = ap (rest_without slot (λ t. f t *ℤ g t)) e ∙ without-same slot (λ t. f t *ℤ g t)
    by t b (inr other) =
        without-other slot t (λ t. f t *ℤ g t) other ∙ ap (λ z. z *ℤ g t) (is t b ∙ nothing t other)
        ∙ omega (arith, ints)

pub candidate_shows : (n slot : ℕ) (c : ℕ → ℕ → ℤ) (coef : List ℤ) → length coef ≡ n → slot < n
    → ((k : ℕ) → c slot k ≡ component coef k) → Shows n c (candidate slot coef)
candidate_shows n slot c coef e l own = subst (λ m. Shows m c (candidate slot coef)) e (record {
  size = candidate_size slot coef;
  positive = λ j q. omega (arith, candidate_den slot coef j q);
  scale = 1;
  some = omega arith;
  value = λ j. (fraction_at (candidate slot coef) j).num;
  over = λ j q. record {
    scaled = ap (λ d. (fraction_at (candidate slot coef) j).num *ℤ pos d) (sym (candidate_den slot coef j q));
  };
  combined = λ k q. ap (λ f. f.num) (candidate_left slot coef k q)
      ∙ sym (candidate_sum (length coef) slot (λ t. (fraction_at (candidate slot coef) (length coef + t)).num)
      (λ t. c t k)
      (omega (arith, e)) (λ t b. ap (λ f. f.num) (candidate_right slot coef t b)) ∙ own k);
})

pub candidate_slots : (n slot : ℕ) (coef : List ℤ) → length coef ≡ n → (t : ℕ) → slot < t → t < n
    → IsWhole (fraction_at (candidate slot coef) (n + t)) (pos 0)
candidate_slots n slot coef e t l b =
    let no : nat_eq t slot ≡ false = let ne : t ≢ slot = omega arith in grind (arith, nat_tests) in
    let there : fraction_at (candidate slot coef) (length coef + t) ≡ whole_fraction (pos 0) =
    candidate_right slot coef t (omega (arith, e))
    ∙ ap (λ b. whole_fraction (if b then pos 1 else pos 0)) no in
    subst (λ m. IsWhole (fraction_at (candidate slot coef) (m + t)) (pos 0)) e
    (record { is = ap (λ f. f.num) there ∙ omega (arith, ints) })
