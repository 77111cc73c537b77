-- What holds at a place of a list, whatever stands for what is past its end.
use Rattle.std.proofs.Common.{◌≡◌, ℕ, ◌+◌, ◌<◌, List, length, get_or, subst, arith, inl, inr}
use Rattle.std.specs.Prelude.{All, Contains}
use Rattle.std.proofs.lemmas.Bool.{cases_lt}
use Rattle.std.proofs.lemmas.List.Elements.{Contains-get_or}
use Rattle.bl_terms.specs.Programs.{Program, columns}
use Rattle.bl_model.specs.View.{IsModel}
use Rattle.std.proofs.lemmas.List.{get_or_default}

pub at_any : {X : Type 0} (P : X → Type 0) (xs : List X) (i : ℕ) (d e : X) → i < length xs → P (get_or xs i d)
    → P (get_or xs i e)
at_any P xs i d e lt h = subst P (get_or_default xs i d e lt) h

-- what holds below j and at j holds below j + 1
pub one_more : (P : ℕ → Type 0) (j : ℕ) → ((k : ℕ) → k < j → P k) → P j → (k : ℕ) → k < j + 1 → P k
one_more P j before here k b = elim (cases_lt k j) [
  | inl c ↦ before k c
  | inr c ↦ let same : j ≡ k = omega arith in subst P same here
]

places_below : (n : ℕ) (ks : List ℕ) → ((k : ℕ) → Contains ks k → k < n) → All (λ k. k < n) ks
places_below n ks h = λ j d b. h (get_or ks j d) (Contains-get_or ks j d b)

pub follower_below : (p : Program) → IsModel p → All (λ k. k < columns p) p.follower
follower_below p m = places_below (columns p) p.follower m.sound.follower_below

pub links_below : (p : Program) → IsModel p → All (λ k. k < columns p) p.links
links_below p m = places_below (columns p) p.links (λ k h. ((m.sound.linking.exact k).0 h).0.column)
