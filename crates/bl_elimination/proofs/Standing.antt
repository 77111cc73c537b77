-- What is kept is in reduced form: each row is a combination of the kept candidates, with 1 at its own pivot column and
-- 0 at the others'.
use Rattle.std.proofs.Common.{◌≡◌, ◌≢◌, ℕ, zero, suc, ◌+◌, ◌<◌, ◌≤◌, ◌⊎◌, inl, inr, List, [], ◌∷◌, length, take, drop}
use Rattle.std.proofs.Common.{ℤ, pos, refl, sym, ap, ◌∙◌, subst, arith, rules, nat_eq, true, false}
use Rattle.std.specs.Prelude.{Option, Some, None, option_map, slice_index, Bool}
use Rattle.std.specs.Prelude.{if◌then◌else◌}
use Rattle.std.specs.Ordering.{int_eq}
use Rattle.std.proofs.Math.Seq.{drop-length}
use Rattle.std.proofs.lemmas.Bool.{cases_eq}
use Rattle.std.proofs.lemmas.Bool.Decides.{nat_tests, Decides-int_eq}
use Rattle.std.proofs.lemmas.Option.{option_and_then_some}
use Rattle.std.proofs.lemmas.List.{length-take, get_or-take}
use Rattle.bl_simplex.specs.Fractions.{Fraction, whole_fraction}
use Rattle.bl_simplex.specs.Rationals.{fraction_at}
use Rattle.bl_elimination.specs.Elimination.{Kept, without, reduced, first_nonzero, cleared}
use Rattle.bl_elimination.proofs.RowLists.{row_at, reduced_more}
use Rattle.bl_elimination.proofs.Values.{IsWhole}
use Rattle.bl_elimination.proofs.RowValues.{Shows, shows_other, without_shows, without_entry, without_column}
use Rattle.bl_elimination.proofs.RowValues.{slot_entry}
use Rattle.bl_elimination.proofs.RowValues.{joined_is}

-- each row is a combination of the rows c t by its identity part, where only the first places aren't 0
pub record Stands (n : ℕ) (c : ℕ → ℕ → ℤ) (kept : Kept) : Type 0 where
  pub numbers_count : length kept.numbers ≡ length kept.rows
  pub columns_count : length kept.columns ≡ length kept.rows
  pub columns_in : (i : ℕ) → i < length kept.rows → slice_index kept.columns i < n
  pub rows : (i : ℕ) → i < length kept.rows → Shows n c (row_at kept.rows i)
  pub units : (i j : ℕ) → i < length kept.rows → j < length kept.rows
      → IsWhole (fraction_at (row_at kept.rows i) (slice_index kept.columns j)) (slot_entry i j)
  pub slots : (i t : ℕ) → i < length kept.rows → length kept.rows ≤ t → t < n
      → IsWhole (fraction_at (row_at kept.rows i) (n + t)) (pos 0)

pub slot_own : (i : ℕ) → slot_entry i i ≡ pos 1
slot_own i = let e : nat_eq i i ≡ true = grind (arith, nat_tests) in rw e refl

pub slot_other : (i j : ℕ) → j ≢ i → slot_entry i j ≡ pos 0
slot_other i j h = let e : nat_eq j i ≡ false = grind (arith, nat_tests) in rw e refl

-- other rows past the kept ones make no difference
pub stands_other : (n : ℕ) (c d : ℕ → ℕ → ℤ) (kept : Kept) → Stands n c kept
    → ((t k : ℕ) → t < length kept.rows → c t k ≡ d t k) → Stands n d kept
stands_other n c d kept s same = record {
  numbers_count = s.numbers_count;
  columns_count = s.columns_count;
  columns_in = s.columns_in;
  rows = λ i l. shows_other n (length kept.rows) c d (row_at kept.rows i) (s.rows i l)
      (λ t m b. s.slots i t l m b) same;
  units = s.units;
  slots = s.slots;
}

-- a candidate that is reduced by the first rows: 0 at their pivot columns, and at the places of the identity part past
-- m
pub record IsReduced (n : ℕ) (c : ℕ → ℕ → ℤ) (columns : List ℕ) (m i : ℕ) (row : List Fraction) : Type 0 where
  pub shows : Shows n c row
  pub zeros : (j : ℕ) → j < i → IsWhole (fraction_at row (slice_index columns j)) (pos 0)
  pub slots : (t : ℕ) → m < t → t < n → IsWhole (fraction_at row (n + t)) (pos 0)

reduced_next : (n : ℕ) (c : ℕ → ℕ → ℤ) (kept : Kept) → Stands n c kept → (i : ℕ) → i < length kept.rows
    → (row new : List Fraction) → IsReduced n c kept.columns (length kept.rows) i row
    → without (slice_index kept.columns i) (row_at kept.rows i) row ≡ Some new
    → IsReduced n c kept.columns (length kept.rows) (i + 1) new
reduced_next n c kept s i l row new r h =
    let by = row_at kept.rows i in
    let col = slice_index kept.columns i in
    let inside = s.columns_in i l in
    let here = s.rows i l in
    record {
      shows = without_shows n col c by row new inside r.shows here h;
      zeros = λ j b. by_order j b (cases_eq j i);
      slots = λ t m b. without_entry n col c by row new inside r.shows here h (n + t) (pos 0) (omega arith)
          (r.slots t m b) (s.slots i t l (omega arith) b);
    }
  where
    by_order : (j : ℕ) → j < i + 1 → (j ≡ i) ⊎ (j ≢ i) → IsWhole (fraction_at new (slice_index kept.columns j)) (pos 0)
    by_order j b (inl e) =
        subst (λ k. IsWhole (fraction_at new (slice_index kept.columns k)) (pos 0)) (sym e)
        (without_column n (slice_index kept.columns i) c (row_at kept.rows i) row new (s.columns_in i l) r.shows
        (s.rows i l) h
        (subst (IsWhole (fraction_at (row_at kept.rows i) (slice_index kept.columns i))) (slot_own i)
        (s.units i i l l)))
    by_order j b (inr other) =
        without_entry n (slice_index kept.columns i) c (row_at kept.rows i) row new (s.columns_in i l) r.shows
        (s.rows i l) h (slice_index kept.columns j) (pos 0) (omega (arith, s.columns_in j (omega (arith, b, l))))
        (r.zeros j (omega (arith, b, other)))
        (subst (IsWhole (fraction_at (row_at kept.rows i) (slice_index kept.columns j))) (slot_other i j other)
        (s.units i j l (omega (arith, b, l))))

reduced_end : (columns : List ℕ) (rows : List (List Fraction)) (row final : List Fraction) (i : ℕ) → i ≡ length columns
    → reduced (drop i columns) (drop i rows) row ≡ Some final → row ≡ final
reduced_end columns rows row final i e h =
    let none : drop i columns ≡ [] = ap (λ k. drop k columns) e ∙ drop-length columns in
    let same : Some row ≡ Some final = sym (ap (λ cs. reduced cs (drop i rows) row) none) ∙ h in
    search rules

pub reduced_to : (n : ℕ) (c : ℕ → ℕ → ℤ) (kept : Kept) → Stands n c kept → (d i : ℕ) → i + d ≡ length kept.rows
    → (row final : List Fraction) → IsReduced n c kept.columns (length kept.rows) i row
    → reduced (drop i kept.columns) (drop i kept.rows) row ≡ Some final
    → IsReduced n c kept.columns (length kept.rows) (length kept.rows) final
reduced_to n c kept s zero i e row final r h =
    let end : i ≡ length kept.rows = omega arith in
    let same = reduced_end kept.columns kept.rows row final i (end ∙ sym s.columns_count) h in
    subst (λ k. IsReduced n c kept.columns (length kept.rows) k final) end
    (subst (IsReduced n c kept.columns (length kept.rows) i) same r)
reduced_to n c kept s (suc d) i e row final r h =
    let l : i < length kept.rows = omega arith in
    let more = sym (reduced_more kept.columns kept.rows row i (omega (arith, s.columns_count, l)) l) ∙ h in
    option_and_then_some (reduced (drop (i + 1) kept.columns) (drop (i + 1) kept.rows))
    (without (slice_index kept.columns i) (row_at kept.rows i) row) final more
    (λ new first rest.
    reduced_to n c kept s d (i + 1) (omega arith) new final (reduced_next n c kept s i l row new r first) rest)

-- ---- the pivot column

first_nonzero_is : (xs : List Fraction) (j : ℕ) → first_nonzero xs ≡ Some j
    → (j < length xs) × ((fraction_at xs j).num ≢ pos 0)
first_nonzero_is [] j h = absurd (search rules)
first_nonzero_is (x ∷ xs) j h = by j (cases_bool (int_eq x.num (pos 0))) h (λ k e. first_nonzero_is xs k e)
  where
    cases_bool : (b : Bool) → (b ≡ true) ⊎ (b ≡ false)
    cases_bool true = inl refl
    cases_bool false = inr refl

    later : (j : ℕ) (o : Option ℕ) → option_map suc o ≡ Some j
        → ((k : ℕ) → o ≡ Some k → (k < length xs) × ((fraction_at xs k).num ≢ pos 0))
        → (j < length (x ∷ xs)) × ((fraction_at (x ∷ xs) j).num ≢ pos 0)
    later j None e more = absurd (search rules)
    later zero (Some k) e more = let bad : suc k ≡ 0 = search rules in absurd (omega arith)
    later (suc j) (Some k) e more =
        let same : suc k ≡ suc j = search rules in
        let at : k ≡ j = omega arith in
        let got = more j (ap Some at) in
        (omega (arith, got.0), got.1)

    here : (j : ℕ) → Some 0 ≡ Some j → int_eq x.num (pos 0) ≡ false
        → (j < length (x ∷ xs)) × ((fraction_at (x ∷ xs) j).num ≢ pos 0)
    here zero e other = (omega arith, λ z. grind (arith, Decides-int_eq))
    here (suc j) e other = let bad : 0 ≡ suc j = search rules in absurd (omega arith)

    by : (j : ℕ) → (int_eq x.num (pos 0) ≡ true) ⊎ (int_eq x.num (pos 0) ≡ false)
        → (if int_eq x.num (pos 0) then option_map suc (first_nonzero xs) else Some 0) ≡ Some j
        → ((k : ℕ) → first_nonzero xs ≡ Some k → (k < length xs) × ((fraction_at xs k).num ≢ pos 0))
        → (j < length (x ∷ xs)) × ((fraction_at (x ∷ xs) j).num ≢ pos 0)
    by j (inl e) h more =
        later j (first_nonzero xs) (sym (ap (λ b. if b then option_map suc (first_nonzero xs) else Some 0) e) ∙ h) more
    by j (inr e) h more =
        here j (sym (ap (λ b. if b then option_map suc (first_nonzero xs) else Some 0) e) ∙ h) e

pub pivot_is : (n : ℕ) (row : List Fraction) (j : ℕ) → n ≤ length row → first_nonzero (take n row) ≡ Some j
    → (j < n) × ((fraction_at row j).num ≢ pos 0)
pivot_is n row j s h =
    let got = first_nonzero_is (take n row) j h in
    let b : j < n = omega (arith, got.0, length-take n row) in
    (b, subst (λ f. f.num ≢ pos 0) (get_or-take n row j (whole_fraction (pos 0)) b) got.1)

-- ---- the rows that are cleared

pub record AreCleared (c : ℕ) (by : List Fraction) (rows news : List (List Fraction)) : Type 0 where
  pub size : length news ≡ length rows
  pub each : (k : ℕ) → k < length rows → without c by (row_at rows k) ≡ Some (row_at news k)

cleared_cons : (c : ℕ) (by row new : List Fraction) (rows news : List (List Fraction)) → without c by row ≡ Some new
    → AreCleared c by rows news → AreCleared c by (row ∷ rows) (new ∷ news)
cleared_cons c by row new rows news first tail = record {
  size = omega (arith, tail.size);
  each = at;
}
  where
    at : (k : ℕ) → k < length (row ∷ rows) → without c by (row_at (row ∷ rows) k) ≡ Some (row_at (new ∷ news) k)
    at zero l = first
    at (suc k) l = tail.each k (omega arith)

pub cleared_is : (c : ℕ) (by : List Fraction) (rows news : List (List Fraction)) → cleared c by rows ≡ Some news
    → AreCleared c by rows news
cleared_is c by [] news h =
    let e : news ≡ [] = search rules in record { size = ap length e; each = λ k l. absurd (omega arith) }
cleared_is c by (row ∷ rows) news h =
    let (new, rest, first, more, e) = joined_is (without c by row) (cleared c by rows) news h in
    subst (AreCleared c by (row ∷ rows)) (sym e) (cleared_cons c by row new rows rest first
    (cleared_is c by rows rest more))
