-- References that are there, by what they refer to.
use Rattle.std.proofs.Common.{◌≡◌, ℕ, ◌<◌, ◌≤◌, Bor, Global}
use Rattle.std.specs.Prelude.{Option, Some, None, option_map, MatchOption}
use Rattle.std.specs.Option.{option_copied}
use Rattle.std.specs.Arc.{arc_value}
use Rattle.std.specs.declared.sync.Arc.{Arc}
use Rattle.std.proofs.lemmas.Option.{none-some, same_Some}

-- a reference whose value is told is there, and has the value
pub copied_some : {X : Type 0} (o : Option (Bor X)) (x : X) (P : Type 0) → option_copied o ≡ Some x → (Q : Type 0) → Q
    → MatchOption o P (λ r. Q × (r.now ≡ x))
copied_some None x P is Q q = absurd (none-some x is)
copied_some (Some r) x P is Q q = (q, same_Some r.now x is)

-- so has a reference to a shared value
pub shared_some : {X : Type 0} (o : Option (Bor (Arc X Global))) (x : X) (P : Type 0)
    → option_map arc_value (option_copied o) ≡ Some x → (Q : Type 0) → Q
    → MatchOption o P (λ r. Q × (arc_value r.now ≡ x))
shared_some None x P is Q q = absurd (none-some x is)
shared_some (Some r) x P is Q q = (q, same_Some (arc_value r.now) x is)

-- what is said of an option follows case by case
pub match_follows : {X : Type 0} (o : Option X) (P P' : Type 0) (Q Q' : X → Type 0) → (P → P')
    → ((x : X) → Q x → Q' x) → MatchOption o P Q → MatchOption o P' Q'
match_follows None P P' Q Q' none some h = none h
match_follows (Some x) P P' Q Q' none some h = some x h
