-- What the elimination gives is a basis.
use Rattle.std.proofs.Common.{◌≡◌, ◌≢◌, ℕ, zero, suc, ◌+◌, ◌-◌, ◌*◌, ◌<◌, ◌≤◌, ◌^◌, ◌⊎◌, inl, inr, List, [], ◌∷◌, ◌++◌}
use Rattle.std.proofs.Common.{length}
use Rattle.std.proofs.Common.{map, drop, ℤ, pos, ◌-ℤ◌, ◌*ℤ◌, refl, sym, ap, ◌∙◌, subst, arith, rules}
use Rattle.std.proofs.Common.{nat_eq, true, false, Bool, unsigned_abs, length-append}
use Rattle.std.specs.Prelude.{slice_index, slice_index_or, if◌then◌else◌, ◌&&◌, Result, Ok, Err, IfOk}
use Rattle.std.specs.Int.{◌∣◌}
use Rattle.std.specs.List.{list_all, range_with_len}
use Rattle.std.proofs.lemmas.Int.{ints}
use Rattle.std.proofs.lemmas.Bool.{cases_eq, cases_lt}
use Rattle.std.proofs.lemmas.Bool.Decides.{nat_tests}
use Rattle.std.proofs.lemmas.List.{length-map, get_or-map, get_or-drop, get_or_append_left, get_or-append-add}
use Rattle.std.proofs.lemmas.List.{get_or-append_right, get_or_default}
use Rattle.std.proofs.lemmas.List.FromFn.{length-map-range_with_len, get_or-map-range_with_len}
use Rattle.std.proofs.lemmas.List.Sums.{AllPass-from_list_all}
use Rattle.bl_whole.specs.Sums.{component, sum_below}
use Rattle.bl_whole.specs.Identities.{variable, constant, minus, times}
use Rattle.bl_whole.proofs.IdentityLemmas.{identity}
use Rattle.bl_whole.proofs.SumLemmas.{sum_below-agree}
use Rattle.bl_terms.specs.Points.{Linear}
use Rattle.bl_terms.specs.Bounds.{Problem, IsProblem, linear_at, no_linear}
use Rattle.bl_simplex.specs.Fractions.{Fraction, whole_fraction}
use Rattle.bl_simplex.specs.Rationals.{fraction_at, times_multiple}
use Rattle.bl_cut_terms.specs.NoGoods.{IsUnit, combined, unit_at, Inverts}
use Rattle.bl_licence.proofs.Multiples.{common_positive, common_divides}
use Rattle.bl_tableau.proofs.Scaling.{IsOver, over_multiple, cancel, sum_linear}
use Rattle.bl_tableau.proofs.RowSteps.{row_within}
use Rattle.bl_elimination.specs.declared.basis.Basis.{Basis}
use Rattle.bl_elimination.specs.declared.basis.NoBasis.{NoBasis}
use Rattle.bl_elimination.specs.declared.basis.NoBasis.TheVariants.{TooLarge}
use Rattle.bl_elimination.specs.Elimination.{Kept, identity_parts, denominator, row_of, nonzeros, unit_of, within_limit}
use Rattle.bl_elimination.specs.Elimination.{basis_of, small_basis, eliminated, nothing_kept, elimination, IsGiven}
use Rattle.bl_elimination.specs.Inverses.{IsBasis, EliminationLaw}
use Rattle.bl_elimination.proofs.RowLists.{row_at}
use Rattle.bl_elimination.proofs.Units.{HaveSize, part_size, parts_length}
use Rattle.bl_elimination.proofs.Values.{over_both}
use Rattle.bl_elimination.proofs.RowValues.{slot_entry, value_of_whole}
use Rattle.bl_elimination.proofs.Bijections.{place_of_value}
use Rattle.bl_elimination.proofs.Standing.{Stands, slot_own, slot_other}
use Rattle.bl_elimination.proofs.Keeping.{coefs_of, Holds, eliminated_ends, nothing_holds, then_on_is}
use Rattle.bl_elimination.proofs.Inverting.{limit_is, nonzeros_are_unit, combined_sum, row_of_at, columns_differ}

-- ---- the identity parts one after another

parts_at : (n : ℕ) (rows : List (List Fraction)) (i s : ℕ) → HaveSize n rows → i < length rows → s < n
    → fraction_at (identity_parts n rows) (i * n + s) ≡ fraction_at (row_at rows i) (n + s)
parts_at n [] i s h l b = absurd (omega arith)
parts_at n (row ∷ rows) zero s h l b =
    let size = part_size n row (h 0 [] (omega arith)) in
    let e : zero * n + s ≡ s = omega arith in
    ap (fraction_at (drop n row ++ identity_parts n rows)) e
    ∙ get_or_append_left (drop n row) (identity_parts n rows) (whole_fraction (pos 0)) s (omega (arith, size, b))
    ∙ get_or-drop n row s (whole_fraction (pos 0))
parts_at n (row ∷ rows) (suc i) s h l b =
    let size = part_size n row (h 0 [] (omega arith)) in
    let e : suc i * n + s ≡ length (drop n row) + (i * n + s) = omega (arith, size) in
    ap (fraction_at (drop n row ++ identity_parts n rows)) e
    ∙ get_or-append-add (drop n row) (identity_parts n rows) (i * n + s) (whole_fraction (pos 0))
    ∙ parts_at n rows i s (λ k d m. h (suc k) d (omega arith)) (omega arith) b

parts_positive : (n : ℕ) (rows : List (List Fraction)) → HaveSize n rows
    → ((i j : ℕ) → i < length rows → j < n + n → 0 < (fraction_at (row_at rows i) j).den)
    → (k : ℕ) → k < length (identity_parts n rows) → 0 < (fraction_at (identity_parts n rows) k).den
parts_positive n [] h all k l = absurd (omega arith)
parts_positive n (row ∷ rows) h all k l =
    by (parts_positive n rows (λ i d m. h (suc i) d (omega arith)) (λ i j m b. all (suc i) j (omega arith) b))
    (cases_lt k n)
  where
    size : length (drop n row) ≡ n
    size = part_size n row (h 0 [] (omega arith))

    by : ((k : ℕ) → k < length (identity_parts n rows) → 0 < (fraction_at (identity_parts n rows) k).den)
        → (k < n) ⊎ (n ≤ k) → 0 < (fraction_at (drop n row ++ identity_parts n rows) k).den
    by rest (inl b) =
        subst (λ f. 0 < f.den)
        (sym (get_or_append_left (drop n row) (identity_parts n rows) (whole_fraction (pos 0)) k
        (omega (arith, size, b))
        ∙ get_or-drop n row k (whole_fraction (pos 0)))) (all 0 (n + k) (omega arith) (omega arith))
    by rest (inr b) =
        let count = length-append (drop n row) (identity_parts n rows) in
        subst (λ f. 0 < f.den)
        (sym (get_or-append_right (drop n row) (identity_parts n rows) n k (whole_fraction (pos 0)) size b))
        (rest (k - n) (omega (arith, count, size, l, b)))

-- ---- one unit list

-- what is used of the kept rows at the end
pub record Ended (n : ℕ) (c : ℕ → ℕ → ℤ) (kept : Kept) : Type 0 where
  pub count : length kept.rows ≡ n
  pub stands : Stands n c kept

sizes_of : (n : ℕ) (c : ℕ → ℕ → ℤ) (kept : Kept) → Ended n c kept → HaveSize n kept.rows
sizes_of n c kept h k d l = ap length (get_or_default kept.rows k d [] l) ∙ (h.stands.rows k l).size

positive_parts : (n : ℕ) (c : ℕ → ℕ → ℤ) (kept : Kept) → Ended n c kept → (k : ℕ)
    → k < length (identity_parts n kept.rows) → 0 < (fraction_at (identity_parts n kept.rows) k).den
positive_parts n c kept h =
    parts_positive n kept.rows (sizes_of n c kept h) (λ i j l b. (h.stands.rows i l).positive j b)

den_positive : (n : ℕ) (c : ℕ → ℕ → ℤ) (kept : Kept) → Ended n c kept → 0 < denominator n kept.rows
den_positive n c kept h =
    common_positive (length (identity_parts n kept.rows)) (fraction_at (identity_parts n kept.rows))
    (positive_parts n c kept h)

place_in : (n : ℕ) (c : ℕ → ℕ → ℤ) (kept : Kept) → Ended n c kept → (i s : ℕ) → i < n → s < n
    → i * n + s < length (identity_parts n kept.rows)
place_in n c kept h i s l b =
    omega (
      arith,
      parts_length n kept.rows (sizes_of n c kept h),
      h.count,
      row_within i (length kept.rows) n (omega (arith, h.count, l)),
      b,
    )

-- the denominator is a multiple of that of each number of an identity part
den_divides : (n : ℕ) (c : ℕ → ℕ → ℤ) (kept : Kept) → Ended n c kept → (i s : ℕ) → i < n → s < n
    → (fraction_at (row_at kept.rows i) (n + s)).den ∣ denominator n kept.rows
den_divides n c kept h i s l b =
    subst (λ f. f.den ∣ denominator n kept.rows)
    (parts_at n kept.rows i s (sizes_of n c kept h) (omega (arith, h.count, l)) b)
    (common_divides (length (identity_parts n kept.rows)) (fraction_at (identity_parts n kept.rows)) (i * n + s)
    (place_in n c kept h i s l b))

-- the whole numbers of a row's identity part
abbrev pub whole_part : ℕ → Kept → ℕ → List ℤ
whole_part n kept i = map (times_multiple (denominator n kept.rows)) (drop n (row_at kept.rows i))

whole_size : (n : ℕ) (c : ℕ → ℕ → ℤ) (kept : Kept) → Ended n c kept → (i : ℕ) → i < n → length (whole_part n kept i) ≡ n
whole_size n c kept h i l =
    length-map (drop n (row_at kept.rows i)) (times_multiple (denominator n kept.rows))
    ∙ part_size n (row_at kept.rows i) (h.stands.rows i (omega (arith, h.count, l))).size

whole_at : (n : ℕ) (c : ℕ → ℕ → ℤ) (kept : Kept) → Ended n c kept → (i s : ℕ) → i < n → s < n
    → component (whole_part n kept i) s ≡ times_multiple (denominator n kept.rows) (fraction_at
    (row_at kept.rows i) (n + s))
whole_at n c kept h i s l b =
    get_or-map (times_multiple (denominator n kept.rows)) (drop n (row_at kept.rows i)) s (whole_fraction (pos 0))
    (pos 0)
    (omega (arith, part_size n (row_at kept.rows i) (h.stands.rows i (omega (arith, h.count, l))).size, b))
    ∙ ap (times_multiple (denominator n kept.rows)) (get_or-drop n (row_at kept.rows i) s (whole_fraction (pos 0)))

-- the row of a column
row_found : (n : ℕ) (c : ℕ → ℕ → ℤ) (kept : Kept) → Ended n c kept → (i : ℕ) → i < n
    → row_of kept.columns kept.rows (slice_index kept.columns i) ≡ row_at kept.rows i
row_found n c kept h i l =
    let different = columns_differ n c kept h.stands h.count in
    row_of_at kept.columns kept.rows (slice_index kept.columns i) i
    (omega (arith, h.stands.columns_count, h.count, l)) (omega (arith, h.count, l)) refl
    (λ k m same. omega (arith, m, different.different k i (omega arith) l same))

unit_found : (n : ℕ) (c : ℕ → ℕ → ℤ) (kept : Kept) → Ended n c kept → (i : ℕ) → i < n
    → unit_of n kept (slice_index kept.columns i) ≡ nonzeros 0 (whole_part n kept i)
unit_found n c kept h i l =
    ap (λ row. nonzeros 0 (map (times_multiple (denominator n kept.rows)) (drop n row))) (row_found n c kept h i l)

sum_ratio : (n : ℕ) (f g : ℕ → ℤ) (m k : ℤ) → ((j : ℕ) → j < n → f j *ℤ m ≡ g j *ℤ k)
    → sum_below n f *ℤ m ≡ sum_below n g *ℤ k
sum_ratio n f g m k tied =
    let less : (x y : ℤ) → x *ℤ k ≡ x *ℤ k -ℤ pos 0 *ℤ y =
    λ x y. identity (x ∷ k ∷ y ∷ []) (times (variable 0) (variable 1))
    (minus (times (variable 0) (variable 1)) (times (constant (pos 0)) (variable 2))) refl in
    sum_linear n f g f m k (pos 0) (λ j l. tied j l ∙ less (g j) (f j)) ∙ sym (less (sum_below n g) (sum_below n f))

swap_parts : (z a b : ℤ) → (z *ℤ a) *ℤ b ≡ (z *ℤ b) *ℤ a
swap_parts z a b =
    identity (z ∷ a ∷ b ∷ []) (times (times (variable 0) (variable 1)) (variable 2))
    (times (times (variable 0) (variable 2)) (variable 1)) refl

-- the combination at the pivot column of another row
combined_at : (n : ℕ) (c : ℕ → ℕ → ℤ) (kept : Kept) → Ended n c kept → (i o : ℕ) → i < n → o < n
    → sum_below n (λ s. component (whole_part n kept i) s *ℤ c s (slice_index kept.columns o))
    ≡ slot_entry i o *ℤ pos (denominator n kept.rows)
combined_at n c kept h i o l b =
    let row = h.stands.rows i (omega (arith, h.count, l)) in
    let den = denominator n kept.rows in
    let k = slice_index kept.columns o in
    let inside : k < n = h.stands.columns_in o (omega (arith, h.count, b)) in
    let f : ℕ → ℤ = λ s. component (whole_part n kept i) s *ℤ c s k in
    let g : ℕ → ℤ = λ s. row.value (n + s) *ℤ c s k in
    let tied : (s : ℕ) → s < n → f s *ℤ pos row.scale ≡ g s *ℤ pos den =
    λ s m.
    let there : n + s < n + n = omega arith in
    let both = over_both den row.scale (fraction_at (row_at kept.rows i) (n + s)) (component (whole_part n kept i) s)
    (row.value (n + s)) (row.positive (n + s) there)
    (subst (IsOver den (fraction_at (row_at kept.rows i) (n + s))) (sym (whole_at n c kept h i s l m))
    (over_multiple den (fraction_at (row_at kept.rows i) (n + s)) (den_divides n c kept h i s l m)))
    (row.over (n + s) there) in
    swap_parts (component (whole_part n kept i) s) (c s k) (pos row.scale) ∙ ap (λ z. z *ℤ c s k) both
    ∙ swap_parts (row.value (n + s)) (pos den) (c s k) in
    let value = value_of_whole n c (row_at kept.rows i) row k (slot_entry i o) (omega arith)
    (h.stands.units i o (omega (arith, h.count, l)) (omega (arith, h.count, b))) in
    cancel (sum_below n f) (slot_entry i o *ℤ pos den) row.scale row.some
    (sum_ratio n f g (pos row.scale) (pos den) tied ∙ ap (λ z. z *ℤ pos den) (sym (row.combined k inside) ∙ value)
    ∙ swap_parts (slot_entry i o) (pos row.scale) (pos den))

unit_or_not : (n : ℕ) (c : ℕ → ℕ → ℤ) (kept : Kept) → Ended n c kept → (i o : ℕ) → i < n → o < n → (d : ℕ)
    → slot_entry i o *ℤ pos d ≡ (if nat_eq (slice_index kept.columns i)
    (slice_index kept.columns o) then pos d else pos 0)
unit_or_not n c kept h i o l b d = by (cases_eq o i)
  where
    by : (o ≡ i) ⊎ (o ≢ i)
        → slot_entry i o *ℤ pos d ≡ (if nat_eq (slice_index kept.columns i)
        (slice_index kept.columns o) then pos d else pos 0)
    by (inl e) =
        let same : slice_index kept.columns i ≡ slice_index kept.columns o = ap (slice_index kept.columns) (sym e) in
        let test : nat_eq (slice_index kept.columns i) (slice_index kept.columns o) ≡ true = grind (arith, nat_tests) in
        let one : slot_entry i o ≡ pos 1 = ap (slot_entry i) e ∙ slot_own i in
        rw test (ap (λ z. z *ℤ pos d) one ∙ omega (arith, ints))
    by (inr other) =
        let differ : slice_index kept.columns i ≢ slice_index kept.columns o =
        λ e. other (sym ((columns_differ n c kept h.stands h.count).different i o l b e)) in
        let test : nat_eq (slice_index kept.columns i) (slice_index kept.columns o)
        ≡ false = grind (arith, nat_tests) in
        rw test (ap (λ z. z *ℤ pos d) (slot_other i o other) ∙ omega (arith, ints))

-- ---- the basis

small_part : (n : ℕ) (c : ℕ → ℕ → ℤ) (kept : Kept) → Ended n c kept
    → list_all (λ x. within_limit (times_multiple (denominator n kept.rows) x)) (identity_parts n kept.rows) ≡ true
    → (i s : ℕ) → i < n → s < n → unsigned_abs (component (whole_part n kept i) s) ≤ 2 ^ 50
small_part n c kept h test i s l b =
    let den = denominator n kept.rows in
    let passes = AllPass-from_list_all (λ x. within_limit (times_multiple den x)) (identity_parts n kept.rows) test
    (i * n + s) (whole_fraction (pos 0)) (place_in n c kept h i s l b) in
    let same = ap (times_multiple den) (parts_at n kept.rows i s (sizes_of n c kept h) (omega (arith, h.count, l)) b)
    ∙ sym (whole_at n c kept h i s l b) in
    limit_is (component (whole_part n kept i) s) (subst (λ z. within_limit z ≡ true) same passes)

kept_row : (rows : List Linear) (numbers : List ℕ) (s k : ℕ) → s < length numbers
    → component (linear_at (map (linear_at rows) numbers) (0 + s)).coef k ≡ coefs_of rows numbers s k
kept_row rows numbers s k l =
    let e : 0 + s ≡ s = omega arith in
    ap (λ i. component (linear_at (map (linear_at rows) numbers) i).coef k) e
    ∙ ap (λ r. component r.coef k) (get_or-map (linear_at rows) numbers s 0 no_linear l)

-- the units of two pivot columns
inverse_at : (n : ℕ) (rows : List Linear) (kept : Kept) → Ended n (coefs_of rows kept.numbers) kept → (i o : ℕ) → i < n
    → o < n
    → combined (map (linear_at rows) kept.numbers) (unit_of n kept (slice_index kept.columns i))
    (slice_index kept.columns o)
    ≡ (if nat_eq (slice_index kept.columns i) (slice_index kept.columns o) then pos
    (denominator n kept.rows) else pos 0)
inverse_at n rows kept h i o l b =
    let c = coefs_of rows kept.numbers in
    let k = slice_index kept.columns o in
    let ms = whole_part n kept i in
    ap (λ u. combined (map (linear_at rows) kept.numbers) u k) (unit_found n c kept h i l)
    ∙ combined_sum (map (linear_at rows) kept.numbers) k 0 ms
    ∙ ap (λ m. sum_below m (λ s. component ms s *ℤ component (linear_at (map (linear_at rows) kept.numbers)
    (0 + s)).coef k))
    (whole_size n c kept h i l)
    ∙ sum_below-agree n _ _ (λ s m. ap (λ z. component ms s *ℤ z)
    (kept_row rows kept.numbers s k (omega (arith, h.stands.numbers_count, h.count, m))))
    ∙ combined_at n c kept h i o l b ∙ unit_or_not n c kept h i o l b (denominator n kept.rows)

unit_listed : (n : ℕ) (kept : Kept) (j : ℕ) (d : List (ℕ × ℤ)) → j < n
    → slice_index_or (map (unit_of n kept) (range_with_len 0 n)) j d ≡ unit_of n kept j
unit_listed n kept j d l = get_or-map-range_with_len (unit_of n kept) 0 n j j d l (omega arith)

inverts : (n : ℕ) (rows : List Linear) (kept : Kept) → Ended n (coefs_of rows kept.numbers) kept
    → Inverts n (map (linear_at rows) kept.numbers) (pos (denominator n kept.rows))
    (map (unit_of n kept) (range_with_len 0 n))
inverts n rows kept h = record { each = each }
  where
    each : (j k : ℕ) → j < n → k < n
        → combined (map (linear_at rows) kept.numbers) (unit_at (map (unit_of n kept) (range_with_len 0 n)) j) k
        ≡ (if nat_eq j k then pos (denominator n kept.rows) else pos 0)
    each j k l b =
        let differ = columns_differ n (coefs_of rows kept.numbers) kept h.stands h.count in
        let (i, li, ei) = place_of_value n (slice_index kept.columns) differ j l in
        let (o, lo, eo) = place_of_value n (slice_index kept.columns) differ k b in
        let R : ℕ → ℕ → Type 0 =
        λ x y. combined (map (linear_at rows) kept.numbers) (unit_of n kept x) y
        ≡ (if nat_eq x y then pos (denominator n kept.rows) else pos 0) in
        ap (λ u. combined (map (linear_at rows) kept.numbers) u k) (unit_listed n kept j [] l)
        ∙ subst (λ x. R x k) ei (subst (R (slice_index kept.columns i)) eo (inverse_at n rows kept h i o li lo))

unit_is : (n : ℕ) (c : ℕ → ℕ → ℤ) (kept : Kept) → Ended n c kept
    → list_all (λ x. within_limit (times_multiple (denominator n kept.rows) x)) (identity_parts n kept.rows) ≡ true
    → (j : ℕ) → j < n → IsUnit n (unit_of n kept j)
unit_is n c kept h test j l =
    let (i, b, e) = place_of_value n (slice_index kept.columns) (columns_differ n c kept h.stands h.count) j l in
    let size = whole_size n c kept h i b in
    subst (λ x. IsUnit n (unit_of n kept x)) e
    (subst (IsUnit n) (sym (unit_found n c kept h i b))
    (nonzeros_are_unit 0 n (whole_part n kept i) (omega (arith, size))
    (λ s m. small_part n c kept h test i s b (omega (arith, size, m)))))

is_basis : (q : Problem) (kept : Kept) → Ended (length q.area.lo) (coefs_of q.rows kept.numbers) kept
    → Holds (length q.area.lo) q.rows (length q.rows) kept
    → within_limit (pos (denominator (length q.area.lo) kept.rows)) ≡ true
    → list_all (λ x. within_limit (times_multiple (denominator (length q.area.lo) kept.rows) x))
    (identity_parts (length q.area.lo) kept.rows) ≡ true
    → IsBasis q (basis_of (length q.area.lo) kept)
is_basis q kept h holds small test =
    let n = length q.area.lo in
    let some = den_positive n (coefs_of q.rows kept.numbers) kept h in
    let most = limit_is (pos (denominator n kept.rows)) small in
    record {
      count = h.stands.numbers_count ∙ h.count;
      rising = holds.rising;
      den_least = omega (arith, ints, some);
      den_most = omega (arith, ints, most);
      units_count = length-map-range_with_len (unit_of n kept) 0 n;
      units = λ k d l.
          let b : k < n = omega (arith, length-map-range_with_len (unit_of n kept) 0 n, l) in
          subst (IsUnit n) (sym (unit_listed n kept k d b)) (unit_is n (coefs_of q.rows kept.numbers) kept h test k b);
      inverse = inverts n q.rows kept h;
    }

both_true : (x y : Bool) (b d : Basis) (e : NoBasis) → (if x && y then Ok b else Err e) ≡ Ok d
    → (x ≡ true) × (y ≡ true) × (b ≡ d)
both_true true true b d e h = (refl, refl, search rules)
both_true true false b d e h = absurd (search rules)
both_true false y b d e h = absurd (search rules)

small_basis_basis : (q : Problem) (kept : Kept) (b : Basis)
    → Ended (length q.area.lo) (coefs_of q.rows kept.numbers) kept
    → Holds (length q.area.lo) q.rows (length q.rows) kept
    → small_basis (length q.area.lo) (length q.rows) kept ≡ Ok b → IsBasis q b
unfolding small_basis
small_basis_basis q kept b h holds e =
    let (small, test, same) = both_true (within_limit (pos (denominator (length q.area.lo) kept.rows)))
    (list_all (λ x. within_limit (times_multiple (denominator (length q.area.lo) kept.rows) x))
    (identity_parts (length q.area.lo) kept.rows)) (basis_of (length q.area.lo) kept) b (TooLarge (length q.rows)) e in
    subst (IsBasis q) same (is_basis q kept h holds small test)

pub elimination_is_basis : EliminationLaw
elimination_is_basis q b shape e =
    let n = length q.area.lo in
    let (kept, found, small) = then_on_is (small_basis n (length q.rows)) (eliminated n nothing_kept 0 q.rows) b e in
    let (count, holds) = eliminated_ends n q.rows q.rows 0 nothing_kept kept (omega arith)
    (λ k l. ap (linear_at q.rows) (omega arith)) shape.row_columns (nothing_holds n q.rows) found in
    small_basis_basis q kept b (record { count = count; stands = holds.stands }) holds small

pub given_is_basis : (q : Problem) (r : Result Basis NoBasis) → IsProblem q → IsGiven (elimination q) r
    → IfOk r (IsBasis q)
given_is_basis q (Ok b) shape h = elimination_is_basis q b shape h
given_is_basis q (Err e) shape h = tt
