-- The rows of a text, one after the other.
use Rattle.std.specs.Prelude.{◌≡◌, ◌<◌, ◌≤◌, All, IfSome, ℕ, ◌+◌, false, List, [], ◌∷◌, ◌++◌, Option, Some, None}
use Rattle.std.specs.Prelude.{Result, Ok, Err, is_none, is_some, nat_lt, length, position, codes, if◌then◌else◌}
use Rattle.std.specs.Option.{ok_or}
use Rattle.std.specs.Str.{bytes_eq}
use Rattle.bl_limits.specs.declared.TheConstants.{MAX_TEXT_ROWS}
use Rattle.bl_mps_terms.specs.declared.fault.MpsRule.{MpsRule}
use Rattle.bl_mps_terms.specs.declared.fault.MpsRule.TheVariants as rules
use Rattle.bl_mps_terms.specs.declared.words.RowKind.{RowKind}
use Rattle.bl_mps_terms.specs.Words.{Bytes, row_kind}
use Rattle.bl_mps_read.specs.declared.rows.BoundedRow.{BoundedRow}
use Rattle.bl_mps_terms.specs.Lines.{is_free}
use Rattle.bl_mps_read.specs.Fields.{pair_in}
use Rattle.bl_mps_read.specs.Stops.{◌>>=◌}

pub record RowList : Type 0 where
  pub names : List Bytes
  -- the places of the rows' numbers among those of a column: the objective's is 0
  pub slots : List (Option ℕ)
  pub objective : Option ℕ
  -- the rows that aren't N rows
  pub bounded : List BoundedRow

-- a slot for each name, and places of names
pub record AreRows (rows : RowList) : Type 0 where
  pub slots : length rows.slots ≡ length rows.names
  pub objective : IfSome rows.objective (λ place. place < length rows.names)
  pub bounded : All (λ row. row.place < length rows.names) rows.bounded
  pub kinds : All (λ row. is_free row.kind ≡ false) rows.bounded
  pub room : length rows.bounded ≤ MAX_TEXT_ROWS

abbrev pub no_rows : RowList
no_rows = record { names = []; slots = []; objective = None; bounded = [] }

abbrev pub next_slot : RowList → RowKind → Result (Option ℕ) MpsRule
next_slot rows kind =
    if is_free kind then Ok (if is_none rows.objective then Some 0 else None)
    else (if nat_lt (length rows.bounded) MAX_TEXT_ROWS then Ok (Some (length rows.bounded + 1)) else Err rules.TooMany)

abbrev pub row_pushed : RowList → Bytes → RowKind → Option ℕ → RowList
row_pushed rows name kind slot = record {
  names = rows.names ++ name ∷ [];
  slots = rows.slots ++ slot ∷ [];
  objective = if is_free kind then
      (if is_none rows.objective then Some (length rows.names) else rows.objective) else rows.objective;
  bounded = if is_free kind then rows.bounded else rows.bounded ++ record { place = length rows.names; kind = kind }
      ∷ [];
}

-- the name may be a new row's
abbrev pub fresh_row : RowList → Bytes → Result Bytes MpsRule
fresh_row rows name =
    if bytes_eq name (codes "'MARKER'") then Err rules.BadFields
    else (if is_some (position (bytes_eq name) rows.names) then Err rules.DuplicateRow else Ok name)

-- the rows with that of a line
unfoldable pub row_added : RowList → List Bytes → Result RowList MpsRule
row_added rows line = do
  pair ← ok_or (pair_in line) rules.BadFields
  kind ← ok_or (row_kind pair.0) rules.BadFields
  name ← fresh_row rows pair.1
  slot ← next_slot rows kind
  Ok (row_pushed rows name kind slot)
