-- The linking columns, computed.
use Rattle.std.proofs.Common.{◌≡◌, ◌≢◌, ℕ, zero, suc, ◌+◌, ◌<◌, refl, sym, ◌∙◌, subst, arith, Bool, true, false, not}
use Rattle.std.proofs.Common.{cond, ◌&&◌, List, [], ◌∷◌, ◌++◌, length, ◌⊎◌, inl, inr}
use Rattle.std.specs.Prelude.{pos, slice_index, Contains, IsTrue}
use Rattle.std.specs.Bool.{Decides}
use Rattle.std.specs.List.Sorted.{IsStrictlyIncreasing}
use Rattle.std.specs.Ordering.{int_eq}
use Rattle.std.proofs.lemmas.Bool.{cases_lt, cases_order, true≢false}
use Rattle.std.proofs.lemmas.Bool.Decides.{Decides-and, Decides-or, Decides-not, Decides-like, Decides-int_eq}
use Rattle.std.proofs.lemmas.List.{get_or_append_left, get_or_push, length-append}
use Rattle.std.proofs.lemmas.List.Elements.{Contains-append_left, Contains-push, Contains-push_cases}
use Rattle.bl_whole.specs.Sums.{component}
use Rattle.bl_whole.proofs.SumLemmas.{rising_pairs, Contains-here, Contains-there, Contains-cases}
use Rattle.bl_terms.specs.Points.{is_among}
use Rattle.bl_terms.specs.Programs.{Row, columns, row_at, is_in_lower, is_linking, places_where, LinkingComputed}
use Rattle.bl_terms.proofs.TestLemmas.{Decides-self, Decides-among}
use Rattle.bl_terms.proofs.PlaceLemmas.{Contains-at, place_of}

-- some row of the follower among the first n has a coefficient other than 0
abbrev pub IsInFirst : List Row → ℕ → ℕ → Type 0
IsInFirst rows n k = (i : ℕ) × (i < n) × IsTrue (row_at rows i).lower × (component (row_at rows i).coef k ≢ pos 0)

is_in_lower_decides : (rows : List Row) (n k : ℕ) → Decides (is_in_lower rows n k) (IsInFirst rows n k)
is_in_lower_decides rows zero k = (λ e. absurd (true≢false (sym e)), λ h. absurd (omega (arith, h.1)))
is_in_lower_decides rows (suc n) k =
    Decides-like (is_in_lower rows (suc n) k)
    (λ h. elim h [ inl r ↦ (r.0, omega (arith, r.1), r.2, r.3) | inr r ↦ (n, omega arith, r.0, r.1) ])
    (λ r. last r)
    (Decides-or (is_in_lower rows n k)
    ((row_at rows n).lower && not (int_eq (component (row_at rows n).coef k) (pos 0)))
    (is_in_lower_decides rows n k)
    (Decides-and (row_at rows n).lower (not (int_eq (component (row_at rows n).coef k) (pos 0)))
    (Decides-self (row_at rows n).lower)
    (Decides-not (int_eq (component (row_at rows n).coef k) (pos 0))
    (Decides-int_eq (component (row_at rows n).coef k) (pos 0)))))
  where
    last : IsInFirst rows (suc n) k
        → IsInFirst rows n k ⊎ (IsTrue (row_at rows n).lower × (component (row_at rows n).coef k ≢ pos 0))
    last (i, b, low, ne) =
        elim (cases_lt i n) [
          | inl c ↦ inl (i, c, low, ne)
          | inr c ↦ let e : i ≡ n = omega arith in
              inr (let P : ℕ → Type 0 =
              λ x. IsTrue (row_at rows x).lower × (component (row_at rows x).coef k ≢ pos 0) in subst P e (low, ne))
        ]

pub is_linking_decides : (follower : List ℕ) (rows : List Row) (k : ℕ)
    → Decides (is_linking follower rows k) ((¬ Contains follower k) × IsInFirst rows (length rows) k)
is_linking_decides follower rows k =
    Decides-and (not (is_among k follower)) (is_in_lower rows (length rows) k)
    (Decides-not (is_among k follower) (Decides-among k follower))
    (is_in_lower_decides rows (length rows) k)

-- ---- the places that pass a test

pub passes_from_Contains : (test : ℕ → Bool) (n k : ℕ) → Contains (places_where test n) k → (k < n) × (test k ≡ true)
passes_from_Contains test zero k m = absurd (omega (arith, m.1))
passes_from_Contains test (suc n) k m = by (λ h. passes_from_Contains test n k h) (test n) refl m
  where
    by : (Contains (places_where test n) k → (k < n) × (test k ≡ true)) → (t : Bool) → test n ≡ t
        → Contains (cond t (places_where test n ++ n ∷ []) (places_where test n)) k → (k < suc n) × (test k ≡ true)
    by rest true e h =
        elim (Contains-push_cases (places_where test n) n k h) [
          | inl c ↦ let r = rest c in (omega (arith, r.0), r.1)
          | inr same ↦ (omega arith, subst (λ x. test x ≡ true) same e)
        ]
    by rest false e h = let r = rest h in (omega (arith, r.0), r.1)

pub Contains_from_passes : (test : ℕ → Bool) (n k : ℕ) → k < n → test k ≡ true → Contains (places_where test n) k
Contains_from_passes test zero k b t = absurd (omega arith)
Contains_from_passes test (suc n) k b t = by (λ c. Contains_from_passes test n k c t) (test n) refl
  where
    by : (k < n → Contains (places_where test n) k) → (u : Bool) → test n ≡ u
        → Contains (cond u (places_where test n ++ n ∷ []) (places_where test n)) k
    by rest true e =
        elim (cases_lt k n) [
          | inl c ↦ Contains-append_left (places_where test n) (n ∷ []) k (rest c)
          | inr c ↦ let same : n ≡ k = omega arith in
              subst (λ x. Contains (places_where test n ++ n ∷ []) x) same (Contains-push (places_where test n) n)
        ]
    by rest false e =
        elim (cases_lt k n) [
          | inl c ↦ rest c
          | inr c ↦ let same : n ≡ k = omega arith in absurd (true≢false (sym t ∙ subst (λ x. test x ≡ false) same e))
        ]

-- tests that agree below n keep the same places
pub places_where-agree : (p q : ℕ → Bool) (n : ℕ) → ((k : ℕ) → k < n → p k ≡ q k) → places_where p n ≡ places_where q n
places_where-agree p q zero h = refl
places_where-agree p q (suc n) h =
    let i : places_where p n ≡ places_where q n = places_where-agree p q n (λ k b. h k (omega arith)) in
    let e : p n ≡ q n = h n (omega arith) in
    rw (e, i) refl

-- a greater number put at the end of a rising list
rising_push : (xs : List ℕ) (n : ℕ) → IsStrictlyIncreasing xs → ((k : ℕ) → Contains xs k → k < n)
    → IsStrictlyIncreasing (xs ++ n ∷ [])
rising_push xs n rise below k b =
    let l = length-append xs (n ∷ []) in
    elim (cases_lt (k + 1) (length xs)) [
      | inl c ↦ rw (get_or_append_left xs (n ∷ []) 0 k (omega arith), get_or_append_left xs (n ∷ []) 0 (k + 1) c)
          (rise k c)
      | inr c ↦
          rw (get_or_append_left xs (n ∷ []) 0 k (omega arith), get_or_push xs n 0 (k + 1) (omega arith))
          (below (slice_index xs k) (Contains-at xs k (omega arith)))
    ]

pub places_where-rising : (test : ℕ → Bool) (n : ℕ) → IsStrictlyIncreasing (places_where test n)
places_where-rising test zero = λ k b. absurd (omega arith)
places_where-rising test (suc n) = by (test n) (places_where-rising test n)
  where
    by : (t : Bool) → IsStrictlyIncreasing (places_where test n)
        → IsStrictlyIncreasing (cond t (places_where test n ++ n ∷ []) (places_where test n))
    by true rise = rising_push (places_where test n) n rise (λ k m. (passes_from_Contains test n k m).0)
    by false rise = rise

-- the first element of a rising list is below the others
head_below : (x : ℕ) (xs : List ℕ)
    → ((i j : ℕ) → i < j → j < length (x ∷ xs) → slice_index (x ∷ xs) i < slice_index (x ∷ xs) j) → (k : ℕ)
    → Contains xs k → x < k
head_below x xs r k m = let q = place_of xs k m in let h = r 0 (suc q.0) (omega arith) (omega (arith, q.1)) in
    subst (λ y. x < y) q.2 h

-- two rising lists with the same members are one
same_from_members : (xs ys : List ℕ) → ((i j : ℕ) → i < j → j < length xs → slice_index xs i < slice_index xs j)
    → ((i j : ℕ) → i < j → j < length ys → slice_index ys i < slice_index ys j)
    → ((k : ℕ) → Contains xs k → Contains ys k) → ((k : ℕ) → Contains ys k → Contains xs k) → xs ≡ ys
same_from_members [] [] r s f g = refl
same_from_members [] (y ∷ ys) r s f g = let c = (g y (Contains-here y ys)).1 in absurd (omega arith)
same_from_members (x ∷ xs) [] r s f g = let c = (f x (Contains-here x xs)).1 in absurd (omega arith)
same_from_members (x ∷ xs) (y ∷ ys) r s f g =
    let heads : x ≡ y =
    elim (cases_order x y) [
      | inl e ↦ e
      | inr o ↦ elim o [
        | inl c ↦ elim (Contains-cases y x ys (f x (Contains-here x xs)))
            [ inl e ↦ e | inr m ↦ let h = head_below y ys s x m in absurd (omega arith) ]
        | inr c ↦ elim (Contains-cases x y xs (g y (Contains-here y ys)))
            [ inl e ↦ sym e | inr m ↦ let h = head_below x xs r y m in absurd (omega arith) ]
      ]
    ] in
    let tails : xs ≡ ys =
    same_from_members xs ys (λ i j a b. r (suc i) (suc j) (omega arith) (omega arith))
    (λ i j a b. s (suc i) (suc j) (omega arith) (omega arith))
    (λ k m. elim (Contains-cases y k ys (f k (Contains-there x k xs m)))
    [ inl e ↦ let h = head_below x xs r k m in absurd (omega arith) | inr c ↦ c ])
    (λ k m. elim (Contains-cases x k xs (g k (Contains-there y k ys m)))
    [ inl e ↦ let h = head_below y ys s k m in absurd (omega arith) | inr c ↦ c ]) in
    cc

pub linking_computed : LinkingComputed
linking_computed p =
    let test = is_linking p.follower p.rows in
    let n = columns p in (
      λ l. same_from_members p.links (places_where test n) (rising_pairs p.links l.rising)
          (rising_pairs (places_where test n) (places_where-rising test n))
          (λ k m. let h = (l.exact k).0 m in
          Contains_from_passes test n k h.0.column ((is_linking_decides p.follower p.rows k).1 (h.0.leads, h.1)))
          (λ k m. let h = passes_from_Contains test n k m in let d = (is_linking_decides p.follower p.rows k).0 h.1 in
          (l.exact k).1 (record { column = h.0; leads = d.0 }, d.1)),
      λ e. record {
        rising = subst (λ x. IsStrictlyIncreasing x) (sym e) (places_where-rising test n);
        exact = λ k. (
          λ m.
              let h = passes_from_Contains test n k (subst (λ x. Contains x k) e m) in
              let d = (is_linking_decides p.follower p.rows k).0 h.1 in (record { column = h.0; leads = d.0 }, d.1),
          λ h. subst (λ x. Contains x k) (sym e)
              (Contains_from_passes test n k h.0.column ((is_linking_decides p.follower p.rows k).1 (h.0.leads, h.1))),
        );
      },
    )
