-- Tests and what they decide.
use Rattle.std.proofs.Common.{◌≡◌, ℕ, refl, sym, arith, Bool, true, false, not, ◌&&◌, ◌||◌, List}
use Rattle.std.specs.Prelude.{ℤ, pos, negsuc, ◌≤ℤ◌, ◌<ℤ◌, int_le, int_lt, unsigned_abs, IsTrue, Contains}
use Rattle.std.specs.Bool.{Decides}
use Rattle.std.proofs.lemmas.Int.{ints}
use Rattle.std.proofs.lemmas.Bool.{true≢false}
use Rattle.bl_terms.specs.Points.{is_among}
use Rattle.bl_terms.proofs.PlaceLemmas.{among_from_Contains, Contains-from_among}

pub Decides-int_le : (a b : ℤ) → Decides (int_le a b) (a ≤ℤ b)
Decides-int_le a b = (λ e. omega (arith, ints), λ h. grind (arith, ints))

pub Decides-int_lt : (a b : ℤ) → Decides (int_lt a b) (a <ℤ b)
Decides-int_lt a b = (λ e. omega (arith, ints), λ h. grind (arith, ints))

pub Decides-among : (k : ℕ) (ks : List ℕ) → Decides (is_among k ks) (Contains ks k)
Decides-among k ks = (Contains-from_among k ks, among_from_Contains k ks)

-- a test decides that it passes
pub Decides-self : (t : Bool) → Decides t (IsTrue t)
Decides-self t = (λ h. h, λ h. h)

-- `not s || t` tests that what s tests implies what t tests
pub Decides-implies : {P Q : Type 0} (s t : Bool) → Decides s P → Decides t Q → Decides (not s || t) (P → Q)
Decides-implies true t d e = (λ h p. e.0 h, λ h. e.1 (h (d.0 refl)))
Decides-implies false t d e = (λ h p. absurd (true≢false (sym (d.1 p))), λ h. refl)

-- both parts of a conjunction of tests
pub and_true : (s t : Bool) → (s && t) ≡ true → (s ≡ true) × (t ≡ true)
and_true true t h = (refl, h)
and_true false t h = cc

-- a number that isn't negative is its magnitude
pub pos-unsigned_abs : (x : ℤ) → pos 0 ≤ℤ x → pos (unsigned_abs x) ≡ x
pos-unsigned_abs (pos n) h = refl
pos-unsigned_abs (negsuc n) h = absurd h.le
