-- Multipliers that are written as pairs, and read again.
use Rattle.std.proofs.Common.{◌≡◌, ◌≢◌, ℕ, zero, suc, ◌<◌, ◌≤◌, ◌+◌, refl, sym, ◌∙◌, ap, subst, arith, Bool, true}
use Rattle.std.proofs.Common.{false, List, [], ◌∷◌, length}
use Rattle.std.specs.Prelude.{ℤ, pos, ◌≤ℤ◌, ◌<ℤ◌, All, map, slice_index_or, if◌then◌else◌}
use Rattle.std.specs.Int.{w64}
use Rattle.std.specs.Ordering.{int_eq}
use Rattle.std.specs.List.{AllAdjacentBelow, AllByRecursion, range_with_len}
use Rattle.std.proofs.lemmas.Int.{ints}
use Rattle.std.proofs.lemmas.Bool.{true≢false}
use Rattle.std.proofs.lemmas.Bool.Decides.{Decides-int_eq}
use Rattle.std.proofs.lemmas.List.{length-map, get_or-map, ext_get_or}
use Rattle.std.proofs.lemmas.List.Elements.{All-cons, All-nil}
use Rattle.std.proofs.lemmas.List.FromFn.{length-range_with_len, get_or-range_with_len}
use Rattle.bl_limits.specs.declared.TheConstants.{MAX_PROOF_NUMBER}
use Rattle.bl_whole.specs.Sums.{component}
use Rattle.bl_whole.proofs.WithinLemmas.{fits_from_within, within_from_fits}
use Rattle.bl_terms.specs.Bounds.{Multipliers}
use Rattle.bl_certline.specs.Fields.{IsWhole}
use Rattle.bl_certline.specs.Lines.{IsProofNumber, AreMultipliers, IndicesRise}
use Rattle.bl_certtext.specs.Places.{IsPlace, AreBelow}
use Rattle.bl_check_terms.specs.Values.{number_at, multipliers, pairs_from, pairs_of}

-- ---- tests

same_number : (a b : ℤ) → int_eq a b ≡ true → a ≡ b
same_number a b h = (Decides-int_eq a b).0 h

other_number : (a b : ℤ) → int_eq a b ≡ false → ¬ (a ≡ b)
other_number a b h e = true≢false (sym ((Decides-int_eq a b).1 e) ∙ h)

number_test : (a b : ℤ) → a ≡ b → int_eq a b ≡ true
number_test a b e = grind (arith, ints)

other_test : (a b : ℤ) → ¬ (a ≡ b) → int_eq a b ≡ false
other_test a b e = grind (arith, ints)

-- ---- lists whose neighbours are in order

abbrev pub FirstIs : {A : Type 0} → (A → Type 0) → List A → Type 0
FirstIs P [] = Unit {0}
FirstIs P (x ∷ xs) = P x

pub adjacent_cons : {A : Type 0} (R : A → A → Type 0) (x : A) (xs : List A) → FirstIs (R x) xs
    → AllAdjacentBelow R xs (length xs) → AllAdjacentBelow R (x ∷ xs) (length (x ∷ xs))
adjacent_cons R x [] first h = λ k d b. absurd (omega arith)
adjacent_cons R x (y ∷ xs) first h = by
  where
    by : AllAdjacentBelow R (x ∷ y ∷ xs) (length (x ∷ y ∷ xs))
    by zero d b = first
    by (suc k) d b =
        let e : suc (k + 1) ≡ suc k + 1 = omega arith in
        subst (λ n. R (slice_index_or (y ∷ xs) k d) (slice_index_or (x ∷ y ∷ xs) n d)) e (h k d (omega arith))

-- ---- pairs

-- a number that may stand beside a row
abbrev pub IsWeight : ℤ → Type 0
IsWeight m = (pos 0 ≤ℤ m) × (m ≤ℤ MAX_PROOF_NUMBER)

pub weight_limit : (m : ℤ) → IsWeight m → IsProofNumber m
weight_limit m h = omega (arith, ints)

pub proof_number_whole : (m : ℤ) → IsProofNumber m → IsWhole m
proof_number_whole m h = fits_from_within w64 (record { magnitude = h }) (omega arith)

-- a number below one of 64 bits has 64 bits
pub lower_whole : (k n : ℕ) → k < n → IsWhole (pos n) → IsWhole (pos k)
lower_whole k n h whole =
    let limit = (within_from_fits w64 whole).magnitude in
    fits_from_within w64 {m = k} (record { magnitude = omega arith }) (omega arith)

pub small_whole : (k : ℕ) → k < 1000000 → IsWhole (pos k)
small_whole k h = fits_from_within w64 (record { magnitude = small }) (omega arith)
  where
    small : k ≤ 1000000
    small = omega arith

pub pairs_well : (k : ℕ) (mult : List ℤ) → AllByRecursion IsWeight mult → k + length mult < 1000000
    → AreMultipliers (pairs_from k mult)
pairs_well k [] h few = tt
pairs_well k (m ∷ mult) h few = by (pairs_well (suc k) mult h.1 (omega arith)) (int_eq m (pos 0)) refl
  where
    by : AreMultipliers (pairs_from (suc k) mult) → (t : Bool) → int_eq m (pos 0) ≡ t
        → AreMultipliers (if t then pairs_from (suc k) mult else (pos k, m) ∷ pairs_from (suc k) mult)
    by rest true e = rest
    by rest false e =
        let limit = weight_limit m h.0 in (
          (
            record {
              index = small_whole k (omega arith);
              number = proof_number_whole m limit;
              nonzero = other_number m (pos 0) e;
            },
            limit,
          ),
          rest,
        )

pub pairs_below : (n k : ℕ) (mult : List ℤ) → k + length mult ≤ n → AreBelow n (pairs_from k mult)
pairs_below n k [] h = All-nil (λ x. IsPlace n x.0)
pairs_below n k (m ∷ mult) h = by (pairs_below n (suc k) mult (omega arith)) (int_eq m (pos 0))
  where
    by : AreBelow n (pairs_from (suc k) mult) → (t : Bool)
        → AreBelow n (if t then pairs_from (suc k) mult else (pos k, m) ∷ pairs_from (suc k) mult)
    by rest true = rest
    by rest false =
        All-cons (λ x. IsPlace n x.0) (pos k, m) (pairs_from (suc k) mult)
        (omega (arith, ints), omega (arith, ints)) rest

first_later : (j k : ℕ) (pairs : List (ℤ × ℤ)) → j ≤ k → FirstIs (λ x. pos k ≤ℤ x.0) pairs
    → FirstIs (λ x. pos j ≤ℤ x.0) pairs
first_later j k [] h first = tt
first_later j k (x ∷ pairs) h first = omega (arith, ints)

first_pair : (k : ℕ) (mult : List ℤ) → FirstIs (λ x. pos k ≤ℤ x.0) (pairs_from k mult)
first_pair k [] = tt
first_pair k (m ∷ mult) = by (first_pair (suc k) mult) (int_eq m (pos 0))
  where
    by : FirstIs (λ x. pos (suc k) ≤ℤ x.0) (pairs_from (suc k) mult) → (t : Bool)
        → FirstIs (λ x. pos k ≤ℤ x.0) (if t then pairs_from (suc k) mult else (pos k, m) ∷ pairs_from (suc k) mult)
    by rest true = first_later k (suc k) (pairs_from (suc k) mult) (omega arith) rest
    by rest false = omega (arith, ints)

first_above : (k : ℕ) (m : ℤ) (pairs : List (ℤ × ℤ)) → FirstIs (λ x. pos (suc k) ≤ℤ x.0) pairs
    → FirstIs (λ (y : ℤ × ℤ). pos k <ℤ y.0) pairs
first_above k m [] first = tt
first_above k m (x ∷ pairs) first = omega (arith, ints)

pub pairs_rise : (k : ℕ) (mult : List ℤ) → IndicesRise (pairs_from k mult)
pairs_rise k [] = λ i d b. absurd (omega arith)
pairs_rise k (m ∷ mult) = by (pairs_rise (suc k) mult) (first_pair (suc k) mult) (int_eq m (pos 0))
  where
    by : IndicesRise (pairs_from (suc k) mult) → FirstIs (λ x. pos (suc k) ≤ℤ x.0) (pairs_from (suc k) mult)
        → (t : Bool) → IndicesRise (if t then pairs_from (suc k) mult else (pos k, m) ∷ pairs_from (suc k) mult)
    by rest first true = rest
    by rest first false =
        adjacent_cons (λ x y. x.0 <ℤ y.0) (pos k, m) (pairs_from (suc k) mult)
        (first_above k m (pairs_from (suc k) mult) first) rest

-- ---- the numbers that the pairs list

number_before : (k j : ℕ) (mult : List ℤ) → j < k → number_at (pairs_from k mult) j ≡ pos 0
number_before k j [] h = refl
number_before k j (m ∷ mult) h = by (number_before (suc k) j mult (omega arith)) (int_eq m (pos 0))
  where
    by : number_at (pairs_from (suc k) mult) j ≡ pos 0 → (t : Bool)
        → number_at (if t then pairs_from (suc k) mult else (pos k, m) ∷ pairs_from (suc k) mult) j ≡ pos 0
    by rest true = rest
    by rest false =
        ap (λ t. if t then m else number_at (pairs_from (suc k) mult) j)
        (other_test (pos k) (pos j) (λ e. omega (arith, ints))) ∙ rest

number_pairs : (k i : ℕ) (mult : List ℤ) → number_at (pairs_from k mult) (k + i) ≡ component mult i
number_pairs k i [] = refl
number_pairs k zero (m ∷ mult) = by (number_before (suc k) (k + 0) mult (omega arith)) (int_eq m (pos 0)) refl
  where
    by : number_at (pairs_from (suc k) mult) (k + 0) ≡ pos 0 → (t : Bool) → int_eq m (pos 0) ≡ t
        → number_at (if t then pairs_from (suc k) mult else (pos k, m) ∷ pairs_from (suc k) mult) (k + 0) ≡ m
    by before true e = before ∙ sym (same_number m (pos 0) e)
    by before false e =
        ap (λ t. if t then m else number_at (pairs_from (suc k) mult) (k + 0))
        (number_test (pos k) (pos (k + 0)) (ap pos (omega arith)))
number_pairs k (suc i) (m ∷ mult) =
    by (ap (number_at (pairs_from (suc k) mult)) (omega arith) ∙ number_pairs (suc k) i mult) (int_eq m (pos 0))
  where
    by : number_at (pairs_from (suc k) mult) (k + suc i) ≡ component mult i → (t : Bool)
        → number_at (if t then pairs_from (suc k) mult else (pos k, m) ∷ pairs_from (suc k) mult) (k + suc i)
        ≡ component mult i
    by rest true = rest
    by rest false =
        ap (λ t. if t then m else number_at (pairs_from (suc k) mult) (k + suc i))
        (other_test (pos k) (pos (k + suc i)) (λ e. omega (arith, ints))) ∙ rest

-- an index at which the number is 0 isn't listed
pairs_beyond : (k j : ℕ) (mult : List ℤ) → j < k → All (λ x. x.0 ≢ pos j) (pairs_from k mult)
pairs_beyond k j [] h = All-nil (λ x. x.0 ≢ pos j)
pairs_beyond k j (m ∷ mult) h = by (pairs_beyond (suc k) j mult (omega arith)) (int_eq m (pos 0))
  where
    by : All (λ x. x.0 ≢ pos j) (pairs_from (suc k) mult) → (t : Bool)
        → All (λ x. x.0 ≢ pos j) (if t then pairs_from (suc k) mult else (pos k, m) ∷ pairs_from (suc k) mult)
    by rest true = rest
    by rest false =
        All-cons (λ x. x.0 ≢ pos j) (pos k, m) (pairs_from (suc k) mult) (λ e. omega (arith, ints)) rest

pub pairs_without : (k i : ℕ) (mult : List ℤ) → component mult i ≡ pos 0
    → All (λ x. x.0 ≢ pos (k + i)) (pairs_from k mult)
pairs_without k i [] none = All-nil (λ x. x.0 ≢ pos (k + i))
pairs_without k zero (m ∷ mult) none = by (pairs_beyond (suc k) (k + 0) mult (omega arith)) (int_eq m (pos 0)) refl
  where
    by : All (λ x. x.0 ≢ pos (k + 0)) (pairs_from (suc k) mult) → (t : Bool) → int_eq m (pos 0) ≡ t
        → All (λ x. x.0 ≢ pos (k + 0))
        (if t then pairs_from (suc k) mult else (pos k, m) ∷ pairs_from (suc k) mult)
    by rest true e = rest
    by rest false e = absurd (other_number m (pos 0) e none)
pairs_without k (suc i) (m ∷ mult) none =
    by (subst (λ n. All (λ x. x.0 ≢ pos n) (pairs_from (suc k) mult)) (omega arith)
    (pairs_without (suc k) i mult none)) (int_eq m (pos 0))
  where
    by : All (λ x. x.0 ≢ pos (k + suc i)) (pairs_from (suc k) mult) → (t : Bool)
        → All (λ x. x.0 ≢ pos (k + suc i))
        (if t then pairs_from (suc k) mult else (pos k, m) ∷ pairs_from (suc k) mult)
    by rest true = rest
    by rest false =
        All-cons (λ x. x.0 ≢ pos (k + suc i)) (pos k, m) (pairs_from (suc k) mult) (λ e. omega (arith, ints)) rest

-- multipliers that are written are read again
pub written_multipliers : (n : ℕ) (w : Multipliers) → length w.mult ≡ n → multipliers n w.den (pairs_of w.mult) ≡ w
written_multipliers n w count =
    let places = range_with_len 0 n in
    let size = length-map places (number_at (pairs_of w.mult)) ∙ length-range_with_len 0 n in
    ap (λ (ms : List ℤ). record { den = w.den; mult = ms })
    (ext_get_or (pos 0) (map (number_at (pairs_of w.mult)) places) w.mult (size ∙ sym count) (λ i b.
    let below : i < n = omega (arith, size) in
    let within : i < length places = omega (arith, length-range_with_len 0 n) in
    get_or-map (number_at (pairs_of w.mult)) places i 0 (pos 0) within
    ∙ ap (number_at (pairs_of w.mult)) (get_or-range_with_len 0 n i 0 below) ∙ number_pairs 0 i w.mult))
