-- Trusted: counts of what went wrong outside. A count never falls, and stands still at 2^64 - 1.
use Rattle.std.specs.Prelude.{◌≡◌, ℕ, ◌+◌, ◌-◌, ◌^◌, ◌≤◌, min, Ok, Err}
use Rattle.std.specs.declared.result.Result.{Result}

-- one more, where a count stands still at its greatest value
abbrev pub saturating_increment : ℕ → ℕ
saturating_increment count = min (count + 1) (2 ^ 64 - 1)

-- a count is higher than before, or stands at its greatest value
abbrev pub Rose : ℕ → ℕ → Type 0
Rose before now = saturating_increment before ≤ now

-- a count rose, and isn't lower than before
abbrev pub Grew : ℕ → ℕ → Type 0
Grew before now = (before ≤ now) × Rose before now

-- the count of faults rose in a call that failed, and stayed in any other
abbrev pub HasCause : {T E : Type 0} → ℕ → ℕ → Result T E → Type 0
HasCause before now (Ok _) = now ≡ before
HasCause before now (Err _) = Grew before now
