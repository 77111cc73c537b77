-- The numbers of a unit at their places, and what they combine rows to.
use Rattle.std.proofs.Common.{◌≡◌, ℕ, ◌≤◌, subst, arith, Bool, List, ◌↔◌}
use Rattle.std.specs.Prelude.{ℤ, IsTrue}
use Rattle.std.proofs.lemmas.Int.{ints}
use Rattle.bl_terms.specs.Points.{Linear}
use Rattle.bl_certtext.specs.Places.{AreBelow}
use Rattle.bl_check_terms.specs.Rules.{CombinesTo}

-- places below a number are below greater ones
pub below_more : (m n : ℕ) (pairs : List (ℤ × ℤ)) → m ≤ n → AreBelow m pairs → AreBelow n pairs
below_more m n pairs more below = λ k d b.
    let at = below k d b in
    let less = at.1 in
    (at.0, omega (arith, ints))

-- the same of the same rows, numbers and columns
pub same_combination : (n m : ℕ) (xs ys : List Linear) (d e : ℤ) (u v : List (ℕ × ℤ)) (j : ℕ) (a b : Bool) → n ≡ m
    → xs ≡ ys → d ≡ e → u ≡ v → a ≡ b → (IsTrue a ↔ CombinesTo n xs d u j) → IsTrue b ↔ CombinesTo m ys e v j
same_combination n m xs ys d e u v j a b count rows den unit test h =
    subst (λ (t : Bool). IsTrue t ↔ CombinesTo m ys e v j) test
    (subst (λ (w : List (ℕ × ℤ)). IsTrue a ↔ CombinesTo m ys e w j) unit
    (subst (λ (f : ℤ). IsTrue a ↔ CombinesTo m ys f u j) den
    (subst (λ (zs : List Linear). IsTrue a ↔ CombinesTo m zs d u j) rows
    (subst (λ (k : ℕ). IsTrue a ↔ CombinesTo k xs d u j) count h))))
