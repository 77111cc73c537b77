-- What a reader that may stop says of what is read.
use Rattle.std.specs.Prelude.{◌≡◌, List, [], ◌∷◌, Result, Ok, Err}
use Rattle.bl_mps_terms.specs.declared.fault.MpsRule.{MpsRule}
use Rattle.bl_mps_read.specs.declared.stop.Stop.{Stop}
use Rattle.bl_mps_read.specs.declared.stop.Stop.TheVariants.{Rule, Memory}

infixl 10 ◌>>=◌
abbrev pub ◌>>=◌ : {A B : Type 0} → Result A MpsRule → (A → Result B MpsRule) → Result B MpsRule
(Ok x) >>= f = f x
(Err rule) >>= f = Err rule

-- Nothing is read where a rule is broken. Where memory ran out nothing is known.
abbrev pub Fails : {Y : Type 0} → Stop → Result Y MpsRule → Type 0
Fails Memory read = Unit {0}
Fails (Rule rule) read = read ≡ Err rule

-- What a reader returned, seen by `view`, is what is read.
abbrev pub Gives : {X Y : Type 0} → (X → Y) → Result X Stop → Result Y MpsRule → Type 0
Gives view (Ok x) read = read ≡ Ok (view x)
Gives view (Err stop) read = Fails stop read

-- What a reader left is what is read.
abbrev pub Leaves : {X Y : Type 0} → Result X Stop → Y → Result Y MpsRule → Type 0
Leaves (Ok x) left read = read ≡ Ok left
Leaves (Err stop) left read = Fails stop read

-- The same of a reader that takes no memory.
abbrev pub Makes : {X Y : Type 0} → Result X MpsRule → Y → Result Y MpsRule → Type 0
Makes (Ok x) left read = read ≡ Ok left
Makes (Err rule) left read = read ≡ Err rule

-- The items in order, each taken up by what the ones before it made.
unfoldable pub taken_up : {S X : Type 0} → (S → X → Result S MpsRule) → S → List X → Result S MpsRule
taken_up step s [] = Ok s
taken_up step s (x ∷ xs) = step s x >>= λ t. taken_up step t xs
