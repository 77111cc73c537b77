-- The model that was found.
use Rattle.std.proofs.Common.{◌≡◌, ℕ, ◌<◌, sym, ap, ◌∙◌, Bool, false, List, [], length, get_or, Some, None, Ok, Result}
use Rattle.std.proofs.Common.{ℤ, refl}
use Rattle.std.specs.Prelude.{unwrap_or, slice_get, nat_lt}
use Rattle.std.proofs.lemmas.List.{get_or_default}
use Rattle.std.proofs.lemmas.Option.{get_or_from_slice_get}
use Rattle.bl_limits.specs.declared.TheConstants.{MAX_TEXT_BYTES}
use Rattle.bl_raw.specs.declared.raw.RawRow.{RawRow}
use Rattle.bl_raw.specs.declared.raw.RawColumn.{RawColumn}
use Rattle.bl_raw.specs.declared.raw.RawMps.{RawMps}
use Rattle.bl_text.specs.Lines.{lines_of}
use Rattle.bl_mps_terms.specs.Words.{Bytes}
use Rattle.bl_mps_read.specs.declared.error.MpsError.{MpsError}
use Rattle.bl_mps_read.specs.declared.bounds.Bounds.{Bounds}
use Rattle.bl_mps_read.specs.Bounds.{no_bounds}
use Rattle.bl_mps_read.specs.Columns.{ColumnList}
use Rattle.bl_mps_read.specs.Errors.{GivesRead}
use Rattle.bl_mps_read.specs.Reader.{State, no_state, text_read}
use Rattle.bl_mps_model.specs.Whole.{bounds_fault, bounds_faults}
use Rattle.bl_mps_model.specs.Model.{raw_rows, raw_column, column_at, raw_columns, model_read, mps_read}
use Rattle.bl_mps_model.proofs.Columns.{faultless_at}

pub model_found : (default : ℤ) (state : State) (place : ℕ) (maximise : Bool) (objective name : Bytes)
    (rows : List RawRow) (columns : List RawColumn)
    → state.rows.objective ≡ Some place → bounds_faults default 0 state.columns.bounds ≡ None
    → maximise ≡ unwrap_or state.sense false
    → slice_get state.rows.names place ≡ Some name → objective ≡ name
    → rows ≡ raw_rows state.rows state.right_sides state.ranges
    → columns ≡ raw_columns default (length state.rows.bounded) state.columns
    → model_read default state
    ≡ Ok (record { maximise = maximise; objective = objective; rows = rows; columns = columns })
unfolding model_read
model_found default state place maximise objective name rows columns first faultless sense at same r c =
    rw (first, faultless, sense, same, get_or_from_slice_get state.rows.names place name [] at, r, c) refl

pub text_found : (default : ℤ) (text : List ℕ) (state : State) (result : Result RawMps MpsError)
    → nat_lt MAX_TEXT_BYTES (length text) ≡ false
    → text_read 0 no_state (lines_of text) ≡ Ok state → GivesRead (λ mps. mps) result (model_read default state)
    → GivesRead (λ mps. mps) result (mps_read default text)
unfolding mps_read
text_found default text state result short read h = rw (short, read) h

-- the column at a place, where its parts stand there
pub column_found : (default : ℤ) (rows : ℕ) (columns : ColumnList) (place : ℕ) (name : Bytes) (numbers : List ℤ)
    (bounds : Bounds) → slice_get columns.names place ≡ Some name
    → place < length columns.numbers → numbers ≡ get_or columns.numbers place numbers → place < length columns.bounds
    → bounds ≡ get_or columns.bounds place bounds
    → raw_column default rows name numbers bounds ≡ column_at default rows columns place
column_found default rows columns place name numbers bounds at many n more b =
    rw (
      get_or_from_slice_get columns.names place name [] at,
      ← (n ∙ get_or_default columns.numbers place numbers [] many),
      ← (b ∙ get_or_default columns.bounds place bounds (no_bounds false) more),
    ) refl

-- no column has a fault
pub faultless_columns : (default d : ℤ) (bounds : List Bounds) → d ≡ default → None ≡ bounds_faults d 0 bounds
    → (k : ℕ) → k < length bounds → bounds_fault d (get_or bounds k (no_bounds false)) ≡ None
faultless_columns default d bounds same e k lt = faultless_at d 0 bounds k (sym e) lt

-- the bounds that stand at a place have no fault, where none has one
pub faultless_there : (default : ℤ) (bounds : List Bounds) (place : ℕ) (b : Bounds) → place < length bounds
    → b ≡ get_or bounds place b
    → ((k : ℕ) → k < length bounds → bounds_fault default (get_or bounds k (no_bounds false)) ≡ None)
    → bounds_fault default b ≡ None
faultless_there default bounds place b lt at h =
    ap (bounds_fault default) (at ∙ get_or_default bounds place b (no_bounds false) lt) ∙ h place lt

-- what is the same as an item of a list stands there
pub same_there : {X : Type 0} (xs : List X) (place : ℕ) (x y : X) → x ≡ y → y ≡ get_or xs place y
    → x ≡ get_or xs place x
same_there xs place x y same at = same ∙ at ∙ ap (get_or xs place) (sym same)
