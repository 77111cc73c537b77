-- Internal: what the steps of the elimination keep.
use Rattle.std.specs.Prelude.{ℕ, ◌≡◌, ◌≢◌, ◌<◌, nat_eq, if◌then◌else◌, ℤ, List, [], ◌∷◌, length, take, drop, All}
use Rattle.std.specs.Prelude.{slice_index, Option, Some, None, Result, Ok, Err}
use Rattle.std.specs.Option.{ok_or}
use Rattle.bl_elimination.specs.declared.basis.NoBasis.{NoBasis}
use Rattle.bl_elimination.specs.declared.basis.NoBasis.TheVariants.{TooLarge, Memory}
use Rattle.bl_elimination.specs.Elimination.{Kept}

-- each row has its number and a pivot column, and so many entries
pub record HasShape (width : ℕ) (kept : Kept) : Type 0 where
  pub numbers : length kept.numbers ≡ length kept.rows
  pub columns : length kept.columns ≡ length kept.rows
  pub columns_in : All (λ c. c < width) kept.columns
  pub sizes : All (λ row. length row ≡ width) kept.rows

-- the result is what is wanted, unless memory ran out; none stands for a number that is too large
abbrev pub IsOutcome : {T : Type 0} → Option T → ℕ → Result T NoBasis → Type 0
IsOutcome wanted number (Ok x) = wanted ≡ Some x
IsOutcome wanted number (Err Memory) = Unit {0}
IsOutcome wanted number (Err e) = ok_or wanted (TooLarge number) ≡ Err e

-- the same of what is kept after a candidate
abbrev pub IsTaken : Option Kept → ℕ → Result (Unit {0}) NoBasis → Kept → Type 0
IsTaken wanted number (Ok done) kept = wanted ≡ Some kept
IsTaken wanted number (Err e) kept = IsOutcome wanted number (Err e)

-- the first place of a number, none where it is at no place
abbrev pub IsPlaceOf : List ℕ → ℕ → Option ℕ → Type 0
IsPlaceOf numbers wanted None = (k : ℕ) → k < length numbers → slice_index numbers k ≢ wanted
IsPlaceOf numbers wanted (Some i) =
    (i < length numbers) × (slice_index numbers i ≡ wanted) × ((k : ℕ) → k < i → slice_index numbers k ≢ wanted)

-- of numbers row after row, so many a row, those of the row whose pivot column is j
abbrev pub unit_numbers : List ℕ → List ℤ → ℕ → ℕ → List ℤ
unit_numbers [] numbers places j = []
unit_numbers (c ∷ columns) numbers places j =
    if nat_eq c j then take places numbers else unit_numbers columns (drop places numbers) places j
