-- The numbers that pairs list, at each place.
use Rattle.std.proofs.Common.{◌≡◌, ℕ, zero, suc, ◌<◌, List, [], ◌∷◌, length, map, refl, sym, ap, ◌∙◌, arith, get_or}
use Rattle.std.proofs.Common.{set, length-set, Bool, true, false, inl, inr}
use Rattle.std.specs.Prelude.{ℤ, pos, negsuc, nat_lt, if◌then◌else◌}
use Rattle.std.specs.List.{range_with_len}
use Rattle.std.specs.Ordering.{int_eq}
use Rattle.std.proofs.lemmas.Bool.{cases_eq}
use Rattle.std.proofs.lemmas.Bool.Decides.{Decides-int_eq}
use Rattle.std.proofs.lemmas.Bool.Decides.{nat_tests}
use Rattle.std.proofs.lemmas.Grind.{get_or-set_at}
use Rattle.std.proofs.lemmas.List.{same_lists, get_or-set_other}
use Rattle.std.proofs.lemmas.List.FromFn.{get_or-map-range_with_len, length-map-range_with_len}
use Rattle.bl_terms.specs.Points.{zeros}
use Rattle.bl_bound.proofs.PlainLaws.{length-zeros}
use Rattle.bl_check_rules.specs.Numbers.{numbers_of, with_number}
use Rattle.bl_check_terms.specs.Values.{number_at}

zeros-at : (n k : ℕ) (d : ℤ) → k < n → get_or (zeros n) k d ≡ pos 0
zeros-at zero k d b = absurd (omega arith)
zeros-at (suc n) zero d b = refl
zeros-at (suc n) (suc k) d b = zeros-at n k d (omega arith)

with-length : (xs : List ℤ) (i m : ℤ) → length (with_number xs i m) ≡ length xs
with-length xs (negsuc i) m = refl
with-length xs (pos i) m = by (nat_lt i (length xs))
  where
    by : (b : Bool) → length (if b then set xs i m else xs) ≡ length xs
    by true = length-set xs i m
    by false = refl

pub numbers-length : (n : ℕ) (ps : List (ℤ × ℤ)) → length (numbers_of n ps) ≡ n
numbers-length n [] = length-zeros n
numbers-length n (x ∷ ps) = with-length (numbers_of n ps) x.0 x.1 ∙ numbers-length n ps

not-true : (b : Bool) → (b ≡ true → ⊥) → b ≡ false
not-true true h = absurd (h refl)
not-true false h = refl

apart : (i k : ℕ) → pos i ≡ pos k → i ≡ k
apart i k e = cc

kept : (xs : List ℤ) (i : ℕ) (m : ℤ) (k : ℕ) (d : ℤ) (b : Bool) → (i ≡ k → ⊥)
    → get_or (if b then set xs i m else xs) k d ≡ get_or xs k d
kept xs i m k d true other = get_or-set_other xs i k m d (λ e. other (sym e))
kept xs i m k d false other = refl

-- the number at a place of the list with one more
with-at : (xs : List ℤ) (i m : ℤ) (k : ℕ) (d : ℤ) → k < length xs
    → get_or (with_number xs i m) k d ≡ (if int_eq i (pos k) then m else get_or xs k d)
with-at xs (negsuc i) m k d b = refl
with-at xs (pos i) m k d b = elim (cases_eq i k) [
  | inl same ↦
      let listed : int_eq (pos i) (pos k) ≡ true = (Decides-int_eq (pos i) (pos k)).1 (ap pos same) in
      let below : nat_lt i (length xs) ≡ true = grind (arith, nat_tests) in
      rw (below, listed) (get_or-set_at xs i k m d (sym same) (omega arith))
  | inr other ↦
      let listed : int_eq (pos i) (pos k) ≡ false =
      not-true (int_eq (pos i) (pos k)) (λ e. other (apart i k ((Decides-int_eq (pos i) (pos k)).0 e))) in
      rw listed (kept xs i m k d (nat_lt i (length xs)) other)
]

at-place : (n : ℕ) (ps : List (ℤ × ℤ)) (k : ℕ) (d : ℤ) → k < n → get_or (numbers_of n ps) k d ≡ number_at ps k
at-place n [] k d b = zeros-at n k d b
at-place n ((i, m) ∷ ps) k d b =
    with-at (numbers_of n ps) i m k d (omega (arith, numbers-length n ps))
    ∙ ap (λ (x : ℤ). if int_eq i (pos k) then m else x) (at-place n ps k d b)

-- they are the numbers at the places
pub numbers-listed : (n : ℕ) (ps : List (ℤ × ℤ)) → numbers_of n ps ≡ map (number_at ps) (range_with_len 0 n)
numbers-listed n ps =
    same_lists (numbers_of n ps) (map (number_at ps) (range_with_len 0 n))
    (numbers-length n ps ∙ sym (length-map-range_with_len (number_at ps) 0 n))
    (λ k d b.
    let below : k < n = omega (arith, numbers-length n ps) in
    at-place n ps k d below ∙ sym (get_or-map-range_with_len (number_at ps) 0 n k k d below (omega arith)))
