-- A reader that stops agrees with a list of faults.
use Rattle.std.proofs.Common.{◌≡◌, ℕ, Bool, true, false, cond, List, [], ◌∷◌, Option, Some, None, Result, Ok, Err, refl}
use Rattle.std.proofs.Common.{sym, ap, subst, ◌∙◌}
use Rattle.std.specs.Option.{ok_or}
use Rattle.bl_mps_terms.specs.declared.fault.MpsRule.{MpsRule}
use Rattle.bl_mps_terms.specs.Rules.{first_of, when, unless, fault_in}
use Rattle.bl_mps_read.specs.Stops.{◌>>=◌}

-- The reader stops at this fault, or goes on with a value for which P holds.
pub record Read {X : Type 0} (read : Result X MpsRule) (P : X → Type 0) : Type 0 where
  pub value : X
  pub is : read ≡ Ok value
  pub holds : P value

abbrev pub Agrees : {X : Type 0} → Option MpsRule → Result X MpsRule → (X → Type 0) → Type 0
Agrees (Some rule) read P = read ≡ Err rule
Agrees None read P = Read read P

pub agrees_ok : {X : Type 0} (read : Result X MpsRule) (x : X) (P : X → Type 0) → read ≡ Ok x → P x → Agrees None read P
agrees_ok read x P e p = record { value = x; is = e; holds = p }

-- one fault after the other
pub agrees_then : {X Y : Type 0} (fault : Option MpsRule) (faults : List (Option MpsRule)) (read : Result X MpsRule)
    (P : X → Type 0) (next : X → Result Y MpsRule) (Q : Y → Type 0)
    → Agrees fault read P → ((x : X) → P x → Agrees (first_of faults) (next x) Q)
    → Agrees (first_of (fault ∷ faults)) (read >>= next) Q
agrees_then (Some rule) faults read P next Q h g = ap (λ (r : Result _ MpsRule). r >>= next) h
agrees_then None faults read P next Q h g =
    subst (λ (r : Result _ MpsRule). Agrees (first_of faults) (r >>= next) Q) (sym h.is) (g h.value h.holds)

-- the last fault
pub agrees_last : {X : Type 0} (fault : Option MpsRule) (read : Result X MpsRule) (P : X → Type 0)
    → Agrees fault read P → Agrees (first_of (fault ∷ [])) read P
agrees_last (Some rule) read P h = h
agrees_last None read P h = h

-- weaker facts
pub agrees_more : {X : Type 0} (fault : Option MpsRule) (read : Result X MpsRule) (P Q : X → Type 0)
    → ((x : X) → P x → Q x) → Agrees fault read P → Agrees fault read Q
agrees_more (Some rule) read P Q f h = h
agrees_more None read P Q f h = record { value = h.value; is = h.is; holds = f h.value h.holds }

-- what a reader makes of what another one read
pub agrees_map : {X Y : Type 0} (fault : Option MpsRule) (read : Result X MpsRule) (P : X → Type 0) (f : X → Y)
    (Q : Y → Type 0) → ((x : X) → P x → Q (f x)) → Agrees fault read P → Agrees fault (read >>= λ x. Ok (f x)) Q
agrees_map (Some rule) read P f Q g h = ap (λ (r : Result _ MpsRule). r >>= λ x. Ok (f x)) h
agrees_map None read P f Q g h =
    record {
      value = f h.value;
      is = ap (λ (r : Result _ MpsRule). r >>= λ x. Ok (f x)) h.is;
      holds =
          g h.value h.holds;
    }

pub agrees_when : {X : Type 0} (test : Bool) (rule : MpsRule) (read : Result X MpsRule) (P : X → Type 0)
    → (test ≡ true → read ≡ Err rule) → (test ≡ false → Read read P) → Agrees (when test rule) read P
agrees_when true rule read P f g = f refl
agrees_when false rule read P f g = g refl

pub agrees_unless : {X : Type 0} (test : Bool) (rule : MpsRule) (read : Result X MpsRule) (P : X → Type 0)
    → (test ≡ false → read ≡ Err rule) → (test ≡ true → Read read P) → Agrees (unless test rule) read P
agrees_unless true rule read P f g = g refl
agrees_unless false rule read P f g = f refl

-- the fault of a result is that of the result
pub agrees_fault : {X : Type 0} (read : Result X MpsRule) → Agrees (fault_in read) read (λ x. read ≡ Ok x)
agrees_fault (Ok x) = record { value = x; is = refl; holds = refl }
agrees_fault (Err rule) = refl

-- ---- two ways

-- a reader that goes one of two ways
pub agrees_cond : {X : Type 0} (test : Bool) (fault other : Option MpsRule) (read more : Result X MpsRule)
    (P : X → Type 0)
    → (test ≡ true → Agrees fault read P) → (test ≡ false → Agrees other more P)
    → Agrees (cond test fault other) (cond test read more) P
agrees_cond true fault other read more P f g = f refl
agrees_cond false fault other read more P f g = g refl

-- ---- two faults of one reader

pub agrees_then_two : {X Y : Type 0} (fault other : Option MpsRule) (faults : List (Option MpsRule))
    (read : Result X MpsRule) (P : X → Type 0) (next : X → Result Y MpsRule) (Q : Y → Type 0)
    → Agrees (first_of (fault ∷ other ∷ [])) read P → ((x : X) → P x → Agrees (first_of faults) (next x) Q)
    → Agrees (first_of (fault ∷ other ∷ faults)) (read >>= next) Q
agrees_then_two (Some rule) other faults read P next Q h g = ap (λ (r : Result _ MpsRule). r >>= next) h
agrees_then_two None (Some rule) faults read P next Q h g = ap (λ (r : Result _ MpsRule). r >>= next) h
agrees_then_two None None faults read P next Q h g =
    subst (λ (r : Result _ MpsRule). Agrees (first_of faults) (r >>= next) Q) (sym h.is) (g h.value h.holds)
