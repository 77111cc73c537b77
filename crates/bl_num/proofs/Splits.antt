-- What stands before the first byte that passes a test, and what behind it.
use Rattle.std.proofs.Common.{◌≡◌, ℕ, ◌+◌, ◌≤◌, Bool, true, false, cond, ltb, List, [], length, take, drop, Some, None}
use Rattle.std.proofs.Common.{refl, sym, ap, arith, position}
use Rattle.std.specs.List.{position_or_len, before_first, after_first}
use Rattle.std.proofs.lemmas.Bool.{ltb-false}
use Rattle.std.proofs.lemmas.List.{drop_all, take_all}

cond-some : (b : Bool) (v i : ℕ) → cond b (Some v) None ≡ Some i → v ≡ i
cond-some true v i e = cc
cond-some false v i e = absurd cc

cond-none : (b : Bool) (v : ℕ) → cond b (Some v) None ≡ None → b ≡ false
cond-none true v e = absurd cc
cond-none false v e = refl

position-at : (p : ℕ → Bool) (xs : List ℕ) (i : ℕ) → Some i ≡ position p xs → position_or_len p xs ≡ i
position-at p xs i e = cond-some (ltb (position_or_len p xs) (length xs)) (position_or_len p xs) i (sym e)

position-past : (p : ℕ → Bool) (xs : List ℕ) → None ≡ position p xs → length xs ≤ position_or_len p xs
position-past p xs e = ltb-false _ _ (cond-none (ltb (position_or_len p xs) (length xs)) (position_or_len p xs) (sym e))

pub before_first-at : (p : ℕ → Bool) (xs : List ℕ) (i : ℕ) → Some i ≡ position p xs → take i xs ≡ before_first p xs
before_first-at p xs i e = ap (λ (k : ℕ). take k xs) (sym (position-at p xs i e))

pub after_first-at : (p : ℕ → Bool) (xs : List ℕ) (i : ℕ) → Some i ≡ position p xs → drop (i + 1) xs ≡ after_first p xs
after_first-at p xs i e = ap (λ (k : ℕ). drop (k + 1) xs) (sym (position-at p xs i e))

pub before_first-none : (p : ℕ → Bool) (xs : List ℕ) → None ≡ position p xs → xs ≡ before_first p xs
before_first-none p xs e = sym (take_all (position_or_len p xs) xs (position-past p xs e))

pub after_first-none : (p : ℕ → Bool) (xs : List ℕ) → None ≡ position p xs → [] ≡ after_first p xs
after_first-none p xs e = let past = position-past p xs e in sym (drop_all (position_or_len p xs + 1) xs (omega arith))
