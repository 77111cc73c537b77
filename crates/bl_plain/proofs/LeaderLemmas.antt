-- The leader's columns, one after another.
use Rattle.std.proofs.Common.{◌≡◌, ℕ, ◌+◌, ◌<◌, List, [], ◌∷◌, ◌++◌, inl, inr, ⊎_elim, arith, subst}
use Rattle.std.specs.Prelude.{All, Contains, ◌⊎◌}
use Rattle.std.proofs.lemmas.Bool.{cases_lt}
use Rattle.std.proofs.lemmas.List.Elements.{All-push, Contains-append_cases, Contains-append_left}
use Rattle.std.proofs.lemmas.List.Elements.{Contains-append_right, Contains-push}

-- each column below n is a leader's column that was found or a follower's
pub record IsSplit (count n : ℕ) (found follower : List ℕ) : Type 0 where
  pub below : All (λ c. c < count) found
  pub all : (k : ℕ) → k < n → Contains (found ++ follower) k

last_or_before : (k n : ℕ) → k < n + 1 → (k < n) ⊎ (n ≡ k)
last_or_before k n h = ⊎_elim (λ less. inl less) (λ ge. inr (omega (arith, ge, h))) (cases_lt k n)

-- column n is found
pub IsSplit-found : (count n : ℕ) (found follower : List ℕ) → n < count → IsSplit count n found follower
    → IsSplit count (n + 1) (found ++ n ∷ []) follower
IsSplit-found count n found follower in' h = record {
  below = All-push (λ c. c < count) found n h.below in';
  all = λ k less. ⊎_elim
      (λ before. ⊎_elim
      (λ has. Contains-append_left (found ++ n ∷ []) follower k (Contains-append_left found (n ∷ []) k has))
      (λ has. Contains-append_right (found ++ n ∷ []) follower k has)
      (Contains-append_cases found follower k (h.all k before)))
      (λ same. Contains-append_left (found ++ n ∷ []) follower k
      (let P : ℕ → Type 0 = Contains (found ++ n ∷ []) in subst P same (Contains-push found n)))
      (last_or_before k n less);
}

-- column n is the follower's
pub IsSplit-kept : (count n : ℕ) (found follower : List ℕ) → Contains follower n → IsSplit count n found follower
    → IsSplit count (n + 1) found follower
IsSplit-kept count n found follower has h = record {
  below = h.below;
  all = λ k less. ⊎_elim
      (λ before. h.all k before)
      (λ same. Contains-append_right found follower k (let P : ℕ → Type 0 = Contains follower in subst P same has))
      (last_or_before k n less);
}
