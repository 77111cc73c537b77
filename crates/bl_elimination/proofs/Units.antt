-- The unit lists, and the numbers that they are made of.
use Rattle.std.proofs.Common.{◌≡◌, ◌≢◌, ℕ, zero, suc, ◌+◌, ◌*◌, ◌-◌, ◌<◌, ◌^◌, List, [], ◌∷◌, ◌++◌, length, take, drop}
use Rattle.std.proofs.Common.{map, ℤ, pos, ◌≤ℤ◌, inl, inr, unsigned_abs, refl, sym, ap, ◌∙◌, subst, arith}
use Rattle.std.proofs.Common.{true, false, Bool, nat_eq, append_assoc, length-append, add-one}
use Rattle.std.specs.Prelude.{Some, None, if◌then◌else◌, All, Ok, Err, ◌&&◌}
use Rattle.std.proofs.Common.{to_z}
use Rattle.std.specs.Int.{w64}
use Rattle.std.specs.List.{slice_range, list_all, range_with_len}
use Rattle.std.proofs.Math.Seq.{take-append_seam, drop-append_seam, drop-nil}
use Rattle.std.specs.Ordering.{int_eq}
use Rattle.std.proofs.lemmas.Bool.Decides.{nat_tests}
use Rattle.std.proofs.lemmas.Bool.{le-leb, lt-leb}
use Rattle.std.proofs.lemmas.Int.{ints, to_z_pos}
use Rattle.std.proofs.lemmas.List.{drop_more, drop-drop, length-map, length-drop, map-append, get_or_default}
use Rattle.std.proofs.lemmas.List.{get_or-map, ext_get_or}
use Rattle.std.proofs.lemmas.List.Sums.{list_all-from_AllPass}
use Rattle.std.proofs.lemmas.List.Folds.{list_all_at}
use Rattle.bl_limits.specs.declared.TheConstants.{MAX_PROOF_NUMBER}
use Rattle.bl_whole.specs.Sums.{component}
use Rattle.bl_simplex.specs.Fractions.{Fraction, whole_fraction}
use Rattle.bl_simplex.specs.Rationals.{fraction_at, times_multiple}
use Rattle.bl_licence.specs.Steps.{AreWhole, PassesLimit}
use Rattle.bl_elimination.specs.declared.basis.NoBasis.TheVariants.{TooLarge}
use Rattle.bl_elimination.specs.Elimination.{Kept, identity_parts, denominator, row_of, nonzeros, unit_of, basis_of}
use Rattle.bl_elimination.specs.Elimination.{within_limit, small_basis}
use Rattle.bl_elimination.specs.Keeping.{IsPlaceOf, unit_numbers, HasShape}

-- ---- the numbers other than 0

nonzeros_first : (t : ℕ) (x : ℤ) (xs : List ℤ) → nonzeros t (x ∷ xs) ≡ nonzeros t (x ∷ []) ++ nonzeros (suc t) xs
nonzeros_first t x xs = by (int_eq x (pos 0))
  where
    by : (b : Bool) → (if b then nonzeros (suc t) xs else (t, x) ∷ nonzeros (suc t) xs)
        ≡ (if b then [] else (t, x) ∷ []) ++ nonzeros (suc t) xs
    by true = refl
    by false = refl

pub nonzeros_more : (xs : List ℤ) (pairs more : List (ℕ × ℤ)) (t : ℕ) (x : ℤ) → t < length xs
    → nonzeros 0 xs ≡ pairs ++ nonzeros t (drop t xs) → more ≡ pairs ++ nonzeros t (x ∷ []) → x ≡ component xs t
    → nonzeros 0 xs ≡ more ++ nonzeros (t + 1) (drop (t + 1) xs)
nonzeros_more xs pairs more t x l rest e is =
    rest ∙ ap (λ ys. pairs ++ nonzeros t ys) (drop_more xs t (pos 0) l)
    ∙ ap (λ ys. pairs ++ ys) (nonzeros_first t (component xs t) (drop (t + 1) xs))
    ∙ sym (append_assoc pairs (nonzeros t (component xs t ∷ [])) (nonzeros (suc t) (drop (t + 1) xs)))
    ∙ ap (λ y. (pairs ++ nonzeros t (y ∷ [])) ++ nonzeros (suc t) (drop (t + 1) xs)) (sym is)
    ∙ ap (λ ys. ys ++ nonzeros (suc t) (drop (t + 1) xs)) (sym e)
    ∙ ap (λ k. more ++ nonzeros k (drop (t + 1) xs)) (sym (add-one t))

-- ---- the numbers of one row

test_same : (m n : ℕ) → m ≡ n → nat_eq m n ≡ true
test_same m n h = grind (arith, nat_tests)

test_other : (m n : ℕ) → m ≢ n → nat_eq m n ≡ false
test_other m n h = grind (arith, nat_tests)

pub unit_numbers_at : (columns : List ℕ) (xs : List ℤ) (n j i : ℕ) → IsPlaceOf columns j (Some i)
    → unit_numbers columns xs n j ≡ take n (drop (i * n) xs)
unit_numbers_at [] xs n j i h = absurd (omega (arith, h.0))
unit_numbers_at (c ∷ columns) xs n j zero h =
    let e : zero * n ≡ 0 = omega arith in
    rw (test_same c j h.1) (ap (λ k. take n (drop k xs)) (sym e))
unit_numbers_at (c ∷ columns) xs n j (suc i) h =
    let e : n + i * n ≡ suc i * n = omega arith in
    rw (test_other c j (h.2 0 (omega arith)))
    (unit_numbers_at columns (drop n xs) n j i
    (omega (arith, h.0), h.1, λ k l. h.2 (suc k) (omega arith))
    ∙ ap (take n) (drop-drop (i * n) n xs ∙ ap (λ k. drop k xs) e))

pub unit_numbers_none : (columns : List ℕ) (xs : List ℤ) (n j : ℕ) → IsPlaceOf columns j None
    → unit_numbers columns xs n j ≡ []
unit_numbers_none [] xs n j h = refl
unit_numbers_none (c ∷ columns) xs n j h =
    rw (test_other c j (h 0 (omega arith)))
    (unit_numbers_none columns (drop n xs) n j (λ k l. h (suc k) (omega arith)))

pub range_of_row : (xs : List ℤ) (i n : ℕ) → slice_range xs (i * n) ((i + 1) * n) ≡ take n (drop (i * n) xs)
range_of_row xs i n =
    let e : (i + 1) * n - i * n ≡ n = omega arith in
    ap (λ k. take k (drop (i * n) xs)) e

-- ---- the identity parts

abbrev pub HaveSize : ℕ → List (List Fraction) → Type 0
HaveSize n rows = All (λ row. length row ≡ n + n) rows

pub part_size : (n : ℕ) (row : List Fraction) → length row ≡ n + n → length (drop n row) ≡ n
part_size n row h = length-drop n row ∙ omega arith

pub parts_length : (n : ℕ) (rows : List (List Fraction)) → HaveSize n rows
    → length (identity_parts n rows) ≡ length rows * n
parts_length n [] h = omega arith
parts_length n (row ∷ rows) h =
    let first : length row ≡ n + n = h 0 [] (omega arith) in
    let rest = parts_length n rows (λ k d l. h (suc k) d (omega arith)) in
    length-append (drop n row) (identity_parts n rows) ∙ omega (arith, part_size n row first, rest)

of_branch : (b : Bool) (n : ℕ) (f : Fraction → ℤ) (xs ys : List ℤ) (row other : List Fraction)
    → xs ≡ map f (drop n row) → ys ≡ map f (drop n other)
    → (if b then xs else ys) ≡ map f (drop n (if b then row else other))
of_branch true n f xs ys row other hx hy = hx
of_branch false n f xs ys row other hx hy = hy

pub unit_numbers_is : (n : ℕ) (f : Fraction → ℤ) (columns : List ℕ) (rows : List (List Fraction)) (j : ℕ)
    → length columns ≡ length rows → HaveSize n rows
    → unit_numbers columns (map f (identity_parts n rows)) n j ≡ map f (drop n (row_of columns rows j))
unit_numbers_is n f [] rows j s h = ap (map f) (sym (drop-nil n))
unit_numbers_is n f (c ∷ columns) [] j s h = absurd (omega arith)
unit_numbers_is n f (c ∷ columns) (row ∷ rows) j s h =
    let first : length row ≡ n + n = h 0 [] (omega arith) in
    let part = part_size n row first in
    let seam : map f (drop n row ++ identity_parts n rows) ≡ map f (drop n row) ++ map f (identity_parts n rows) =
    map-append f (drop n row) (identity_parts n rows) in
    let size : length (map f (drop n row)) ≡ n = length-map (drop n row) f ∙ part in
    let own : take n (map f (drop n row ++ identity_parts n rows)) ≡ map f (drop n row) =
    ap (take n) seam ∙ ap (λ k. take k (map f (drop n row) ++ map f (identity_parts n rows))) (sym size)
    ∙ take-append_seam (map f (drop n row)) (map f (identity_parts n rows)) in
    let past : drop n (map f (drop n row ++ identity_parts n rows)) ≡ map f (identity_parts n rows) =
    ap (drop n) seam ∙ ap (λ k. drop k (map f (drop n row) ++ map f (identity_parts n rows))) (sym size)
    ∙ drop-append_seam (map f (drop n row)) (map f (identity_parts n rows)) in
    of_branch (nat_eq c j) n f _ _ row (row_of columns rows j) own
    (ap (λ xs. unit_numbers columns xs n j) past
    ∙ unit_numbers_is n f columns rows j (omega arith) (λ k d l. h (suc k) d (omega arith)))

-- ---- the basis

whole_list : (fs : List Fraction) (den : ℕ) (xs : List ℤ) → AreWhole fs den xs → xs ≡ map (times_multiple den) fs
whole_list fs den xs w =
    ext_get_or (pos 0) xs (map (times_multiple den) fs) (w.size ∙ sym (length-map fs (times_multiple den)))
    (λ k l. let b : k < length fs = omega (arith, w.size) in
    w.each k b ∙ sym (get_or-map (times_multiple den) fs k (whole_fraction (pos 0)) (pos 0) b))

-- all numbers are within the limit
small_test : (n count : ℕ) (kept : Kept) (xs : List ℤ)
    → AreWhole (identity_parts n kept.rows) (denominator n kept.rows) xs
    → small_basis n count kept ≡ Ok (basis_of n kept)
unfolding small_basis
small_test n count kept xs w =
    let den = denominator n kept.rows in
    let fs = identity_parts n kept.rows in
    let first : within_limit (pos den) ≡ true = le-leb den (2 ^ 50) (omega (arith, ints, w.small)) in
    let rest : list_all (λ x. within_limit (times_multiple den x)) fs ≡ true =
    list_all-from_AllPass (λ x. within_limit (times_multiple den x)) fs
    (λ k d l. ap (λ x. within_limit (times_multiple den x)) (get_or_default fs k d (whole_fraction (pos 0)) l)
    ∙ le-leb (unsigned_abs (times_multiple den (fraction_at fs k))) (2 ^ 50) (omega (arith, ints, w.numbers k l))) in
    rw (first, rest) refl

pub small_basis_past : (n count : ℕ) (kept : Kept)
    → PassesLimit (length (identity_parts n kept.rows)) (fraction_at (identity_parts n kept.rows))
    → small_basis n count kept ≡ Err (TooLarge count)
unfolding small_basis
small_basis_past n count kept (inl past) =
    let first : within_limit (pos (denominator n kept.rows)) ≡ false =
    lt-leb (denominator n kept.rows) (2 ^ 50) (omega (arith, ints, past)) in
    rw first refl
small_basis_past n count kept (inr (i, l, past)) =
    let den = denominator n kept.rows in
    let fs = identity_parts n kept.rows in
    let rest : list_all (λ x. within_limit (times_multiple den x)) fs ≡ false =
    list_all_at (λ x. within_limit (times_multiple den x)) fs i (whole_fraction (pos 0)) l
    (lt-leb (unsigned_abs (times_multiple den (fraction_at fs i))) (2 ^ 50) (omega (arith, ints, past))) in
    rw rest (no_pair (within_limit (pos den)))
  where
    no_pair : (b : Bool) → (if b && false then Ok (basis_of n kept) else Err (TooLarge count)) ≡ Err (TooLarge count)
    no_pair true = refl
    no_pair false = refl

same_units : (n : ℕ) (kept : Kept) (xs : List ℤ) → length kept.columns ≡ length kept.rows → HaveSize n kept.rows
    → xs ≡ map (times_multiple (denominator n kept.rows)) (identity_parts n kept.rows) → (j : ℕ)
    → nonzeros 0 (unit_numbers kept.columns xs n j) ≡ unit_of n kept j
same_units n kept xs s h e j =
    ap (nonzeros 0) (ap (λ ys. unit_numbers kept.columns ys n j) e
    ∙ unit_numbers_is n (times_multiple (denominator n kept.rows)) kept.columns kept.rows j s h)

pub small_basis_is : (n count den : ℕ) (kept : Kept) (fs : List Fraction) (xs : List ℤ) (ks : List ℕ) (d : ℤ)
    (us : List (List (ℕ × ℤ))) → HasShape (n + n) kept → fs ≡ identity_parts n kept.rows → AreWhole fs den xs
    → ks ≡ kept.numbers → d ≡ pos den
    → us ≡ map (λ j. nonzeros 0 (unit_numbers kept.columns xs n j)) (range_with_len 0 n)
    → small_basis n count kept ≡ Ok (record { kept = ks; den = d; units = us })
small_basis_is n count den kept fs xs ks d us shape parts w numbers value lists =
    let here : AreWhole (identity_parts n kept.rows) den xs = subst (λ gs. AreWhole gs den xs) parts w in
    let whole : AreWhole (identity_parts n kept.rows) (denominator n kept.rows) xs =
    subst (λ m. AreWhole (identity_parts n kept.rows) m xs) here.multiple here in
    let e = whole_list (identity_parts n kept.rows) (denominator n kept.rows) xs whole in
    let units : us ≡ map (unit_of n kept) (range_with_len 0 n) =
    lists ∙ ap (λ f. map f (range_with_len 0 n)) (λ i j. same_units n kept xs shape.columns shape.sizes e j i) in
    small_test n count kept xs whole
    ∙ ap (λ m. Ok (record {
      kept = m;
      den = pos (denominator n kept.rows);
      units =
          map (unit_of n kept) (range_with_len 0 n);
    }))
    (sym numbers)
    ∙ ap (λ m. Ok (record { kept = ks; den = m; units = map (unit_of n kept) (range_with_len 0 n) }))
    (ap pos (sym here.multiple) ∙ sym value)
    ∙ ap (λ m. Ok (record { kept = ks; den = d; units = m })) (sym units)

pub den_back : (n : ℕ) → pos n ≤ℤ MAX_PROOF_NUMBER → to_z w64 n ≡ pos n
den_back n h = to_z_pos w64 n (omega (arith, ints, h))
