-- Lists of rows.
use Rattle.std.proofs.Common.{◌≡◌, ℕ, zero, suc, ◌+◌, ◌<◌, List, [], ◌∷◌, ◌++◌, length, drop, refl, sym, ap}
use Rattle.std.proofs.Common.{◌∙◌, arith, append_assoc}
use Rattle.std.specs.Prelude.{Some, None, option_and_then, slice_index_or}
use Rattle.std.proofs.Common.{map, ℤ, pos, to_z, of_z, true, false, Bool, nat_eq, length-append}
use Rattle.std.specs.Prelude.{if◌then◌else◌}
use Rattle.std.specs.Int.{w64}
use Rattle.std.specs.List.{range_with_len}
use Rattle.std.proofs.lemmas.List.FromFn.{map-range_with_len_more, length-map-range_with_len}
use Rattle.std.proofs.lemmas.List.{drop_more, length-map}
use Rattle.bl_simplex.specs.Fractions.{Fraction, whole_fraction}
use Rattle.bl_elimination.specs.Elimination.{without, reduced, cleared, candidate}
use Rattle.bl_elimination.proofs.Numbers.{joined-some, joined-none_left, joined-none_right}

-- the row at a place
abbrev pub row_at : List (List Fraction) → ℕ → List Fraction
row_at rows k = slice_index_or rows k []

pub reduced_more : (columns : List ℕ) (rows : List (List Fraction)) (row : List Fraction) (i : ℕ) → i < length columns
    → i < length rows
    → reduced (drop i columns) (drop i rows) row
    ≡ option_and_then (reduced (drop (i + 1) columns) (drop (i + 1) rows))
    (without (slice_index_or columns i 0) (row_at rows i) row)
reduced_more columns rows row i hc hr =
    ap (λ cs. reduced cs (drop i rows) row) (drop_more columns i 0 hc)
    ∙ ap (λ rs. reduced (slice_index_or columns i 0 ∷ drop (i + 1) columns) rs row) (drop_more rows i [] hr)

pub cleared-some : (c : ℕ) (by : List Fraction) (rows news : List (List Fraction)) → length news ≡ length rows
    → ((k : ℕ) → k < length rows → without c by (row_at rows k) ≡ Some (row_at news k))
    → cleared c by rows ≡ Some news
cleared-some c by [] [] s h = refl
cleared-some c by [] (new ∷ news) s h = absurd (omega arith)
cleared-some c by (row ∷ rows) [] s h = absurd (omega arith)
cleared-some c by (row ∷ rows) (new ∷ news) s h =
    joined-some _ _ new news (h 0 (omega arith))
    (cleared-some c by rows news (omega arith) (λ k l. h (suc k) (omega arith)))

pub cleared-none : (c : ℕ) (by : List Fraction) (rows : List (List Fraction)) (k : ℕ) → k < length rows
    → without c by (row_at rows k) ≡ None → cleared c by rows ≡ None
cleared-none c by [] k l h = absurd (omega arith)
cleared-none c by (row ∷ rows) zero l h = joined-none_left _ _ h
cleared-none c by (row ∷ rows) (suc k) l h = joined-none_right _ _ (cleared-none c by rows k (omega arith) h)

-- a place read with another default
pub other_default : (rows : List (List Fraction)) (k : ℕ) (d : List Fraction) → k < length rows
    → slice_index_or rows k d ≡ row_at rows k
other_default [] k d h = absurd (omega arith)
other_default (row ∷ rows) zero d h = refl
other_default (row ∷ rows) (suc k) d h = other_default rows k d (omega arith)

-- one more value of f at the end
pub mapped_more : {X : Type 0} (f : ℕ → X) (old items new : List X) (x : X) (t : ℕ)
    → items ≡ old ++ map f (range_with_len 0 t) → new ≡ items ++ x ∷ [] → x ≡ f t
    → new ≡ old ++ map f (range_with_len 0 (t + 1))
mapped_more f old items new x t e more is =
    more ∙ ap (λ xs. xs ++ x ∷ []) e ∙ ap (λ y. (old ++ map f (range_with_len 0 t)) ++ y ∷ []) is
    ∙ append_assoc old (map f (range_with_len 0 t)) (f t ∷ [])
    ∙ ap (λ xs. old ++ xs) (sym (map-range_with_len_more f 0 t t (omega arith)))

pub slot_back : (b : Bool) → to_z w64 (of_z w64 (if b then pos 1 else pos 0)) ≡ (if b then pos 1 else pos 0)
slot_back true = refl
slot_back false = refl

pub candidate_size : (slot : ℕ) (coef : List ℤ) → length (candidate slot coef) ≡ length coef + length coef
candidate_size slot coef =
    length-append (map whole_fraction coef) _
    ∙ ap (λ n. n + length (map (λ t. whole_fraction (if nat_eq t slot then pos 1 else pos 0))
    (range_with_len 0 (length coef)))) (length-map coef whole_fraction)
    ∙ ap (λ n. length coef + n)
    (length-map-range_with_len (λ t. whole_fraction (if nat_eq t slot then pos 1 else pos 0)) 0 (length coef))
