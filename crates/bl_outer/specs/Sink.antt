-- Trusted: what a sink tells of itself, and what a `put` adds to its bytes.
use Rattle.std.specs.Prelude.{◌≡◌, ℕ, List, ◌++◌, take}
use Rattle.std.specs.declared.option.Option.{Option}

-- the bytes so far, None where the sink doesn't tell them, and how many calls of `put` failed
pub record SinkState : Type 0 where
  pub bytes : Option (List ℕ)
  pub faults : ℕ

-- the piece stands at the end
abbrev pub Adds : List ℕ → List ℕ → List ℕ → Type 0
Adds piece old new = new ≡ old ++ piece

-- some first bytes of the piece stand at the end
abbrev pub AddsPrefix : List ℕ → List ℕ → List ℕ → Type 0
AddsPrefix piece old new = (n : ℕ) × (new ≡ old ++ take n piece)
