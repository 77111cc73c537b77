-- A list that is made place by place.
use Rattle.std.proofs.Common.{◌≡◌, ℕ, ◌+◌, ◌<◌, ◌≤◌, List, [], ◌∷◌, ◌++◌, length, get_or, map, filter, drop, cond, Bool}
use Rattle.std.proofs.Common.{Some, None, ℤ, refl, sym, ◌∙◌, arith, ◌⊎◌, inl, inr}
use Rattle.std.specs.List.{All, range_with_len}
use Rattle.std.specs.List.Sorted.{IsStrictlyIncreasing}
use Rattle.std.proofs.lemmas.Bool.{cases_lt}
use Rattle.std.proofs.lemmas.List.{get_or_append_left, get_or_push, length_push, length-map, get_or-map, map_push}
use Rattle.std.proofs.lemmas.List.{drop_more, drop_all}
use Rattle.std.proofs.lemmas.List.Elements.{All-push}
use Rattle.std.proofs.lemmas.List.FromFn.{map-range_with_len_more, filter_of_map_range_with_len_more}
use Rattle.std.specs.Option.{option_map}
use Rattle.bl_raw.specs.Raw.{IsSmall}
use Rattle.bl_mps_terms.specs.declared.fault.MpsRule.{MpsRule}
use Rattle.bl_mps_terms.specs.Faults.{or_else, in_column}
use Rattle.bl_mps_read.specs.declared.bounds.Bounds.{Bounds}
use Rattle.bl_mps_model.specs.Whole.{bounds_fault, bounds_faults}
use Rattle.bl_mps_model.specs.Model.{AreEntries}

pub table_more : {X : Type 0} (f : ℕ → X) (n : ℕ) (items more : List X) (x : X) → items ≡ map f (range_with_len 0 n)
    → x ≡ f n → more ≡ items ++ x ∷ []
    → more ≡ map f (range_with_len 0 (n + 1))
table_more f n items more x old at push = push ∙ rw (old, at) refl ∙ sym (map-range_with_len_more f 0 n n (omega arith))

pub filtered_more : {X : Type 0} (p : X → Bool) (f : ℕ → X) (n : ℕ) (items more : List X)
    → items ≡ filter p (map f (range_with_len 0 n))
    → more ≡ items ++ cond (p (f n)) (f n ∷ []) [] → more ≡ filter p (map f (range_with_len 0 (n + 1)))
filtered_more p f n items more old push =
    push ∙ rw old refl ∙ sym (filter_of_map_range_with_len_more p f 0 n n (omega arith))

-- ---- entries at rising rows

rising_at : (xs : List ℕ) (n k : ℕ) → IsStrictlyIncreasing xs → ((j : ℕ) → j < length xs → get_or xs j 0 < n)
    → k + 1 < length (xs ++ n ∷ [])
    → (k + 1 < length xs) ⊎ (length xs ≤ k + 1) → get_or (xs ++ n ∷ []) k 0 < get_or (xs ++ n ∷ []) (k + 1) 0
rising_at xs n k rising below lt (inl within) =
    rw (get_or_append_left xs (n ∷ []) 0 k (omega arith), get_or_append_left xs (n ∷ []) 0 (k + 1) within)
    (rising k within)
rising_at xs n k rising below lt (inr past) =
    let last : length xs ≡ k + 1 = omega (arith, length_push xs n) in
    rw (get_or_append_left xs (n ∷ []) 0 k (omega arith), get_or_push xs n 0 (k + 1) last) (below k (omega arith))

rising_push : (xs : List ℕ) (n : ℕ) → IsStrictlyIncreasing xs → ((j : ℕ) → j < length xs → get_or xs j 0 < n)
    → IsStrictlyIncreasing (xs ++ n ∷ [])
rising_push xs n rising below k lt = rising_at xs n k rising below lt (cases_lt (k + 1) (length xs))

All_later : (n : ℕ) (entries : List (ℕ × ℤ)) → All (λ entry. entry.0 < n) entries
    → All (λ entry. entry.0 < n + 1) entries
All_later n entries h k d lt = omega (arith, h k d lt)

pub AreEntries_push : (n : ℕ) (entries : List (ℕ × ℤ)) (z : ℤ) → AreEntries n entries → IsSmall z
    → AreEntries (n + 1) (entries ++ (n, z) ∷ [])
AreEntries_push n entries z h small =
    let rows = map (λ (entry : ℕ × ℤ). entry.0) entries in
    let below : (j : ℕ) → j < length rows → get_or rows j 0 < n = λ j lt.
    let within : j < length entries = omega (arith, length-map entries (λ (entry : ℕ × ℤ). entry.0)) in
    rw (get_or-map (λ (entry : ℕ × ℤ). entry.0) entries j (0, z) 0 within) (h.within j (0, z) within) in
    record {
      rising = rw (map_push (λ (entry : ℕ × ℤ). entry.0) entries (n, z)) (rising_push rows n h.rising below);
      within = All-push (λ entry. entry.0 < n + 1) entries (n, z) (All_later n entries h.within) (omega arith);
      small = All-push (λ entry. IsSmall entry.1) entries (n, z) h.small small;
    }

pub AreEntries_pushed : (n : ℕ) (old new : List (ℕ × ℤ)) (z v : ℤ) → new ≡ old ++ (n, z) ∷ [] → z ≡ v
    → AreEntries n old → IsSmall v → AreEntries (n + 1) new
AreEntries_pushed n old new z v push same h small = rw (push, same) (AreEntries_push n old v h small)

-- ---- the faults of columns

-- the faults from a column on are that column's, and else those behind it
pub bounds_faults-drop : (default : ℤ) (k : ℕ) (bounds : List Bounds) (d : Bounds) → k < length bounds
    → bounds_faults default k (drop k bounds)
    ≡ or_else (option_map (in_column k) (bounds_fault default (get_or bounds k d)))
    (bounds_faults default (k + 1) (drop (k + 1) bounds))
unfolding bounds_faults
bounds_faults-drop default k bounds d lt = rw (drop_more bounds k d lt) refl

-- the first column with a fault, where none before it has one
pub faults_found : (default : ℤ) (k : ℕ) (bounds : List Bounds) (d : Bounds) (rule : MpsRule) → k < length bounds
    → Some rule ≡ bounds_fault default (get_or bounds k d)
    → bounds_faults default 0 bounds ≡ bounds_faults default k (drop k bounds)
    → Some (in_column k rule) ≡ bounds_faults default 0 bounds
faults_found default k bounds d rule lt fault so_far =
    sym (so_far ∙ bounds_faults-drop default k bounds d lt ∙ rw (← fault) refl)

pub faults_more : (default : ℤ) (k : ℕ) (bounds : List Bounds) (d : Bounds) → k < length bounds
    → None ≡ bounds_fault default (get_or bounds k d)
    → bounds_faults default 0 bounds ≡ bounds_faults default k (drop k bounds)
    → bounds_faults default 0 bounds ≡ bounds_faults default (k + 1) (drop (k + 1) bounds)
faults_more default k bounds d lt fault so_far = so_far ∙ bounds_faults-drop default k bounds d lt ∙ rw (← fault) refl

pub faults_none : (default : ℤ) (k : ℕ) (bounds : List Bounds) → length bounds ≤ k
    → bounds_faults default 0 bounds ≡ bounds_faults default k (drop k bounds) → None ≡ bounds_faults default 0 bounds
unfolding bounds_faults
faults_none default k bounds past so_far = sym (so_far ∙ rw (drop_all k bounds past) refl)
