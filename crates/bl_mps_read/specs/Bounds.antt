-- The bounds of the columns, one line after the other.
use Rattle.std.specs.Prelude.{◌≤◌, IfSome, unsigned_abs, ℤ, pos, Bool, true, false, ◌||◌, List, Option, Some, None}
use Rattle.std.specs.Prelude.{Result, Ok, position, slice_index_or, slice_set, unwrap_or}
use Rattle.std.specs.Option.{ok_or}
use Rattle.std.specs.Str.{bytes_eq}
use Rattle.bl_limits.specs.declared.TheConstants.{MAX_NUMBER}
use Rattle.bl_mps_terms.specs.declared.fault.MpsRule.{MpsRule}
use Rattle.bl_mps_terms.specs.declared.fault.MpsRule.TheVariants as rules
use Rattle.bl_mps_terms.specs.declared.words.BoundKind.{BoundKind}
use Rattle.bl_mps_terms.specs.Words.{Bytes}
use Rattle.bl_mps_terms.specs.Lines.{makes_integer, sets_lower, lower_set, upper_set, bound_line, bound_read}
use Rattle.bl_mps_read.specs.declared.bounds.Bounds.{Bounds}
use Rattle.bl_mps_read.specs.Stops.{◌>>=◌}

abbrev pub no_bounds : Bool → Bounds
no_bounds integer = record { integer = integer; named = false; sets_lower = false; lower = Some (pos 0); upper = None }

-- a bound is small, where there is one
abbrev pub IsSmallBound : Option ℤ → Type 0
IsSmallBound bound = IfSome bound (λ z. unsigned_abs z ≤ MAX_NUMBER)

-- both sides are small, where there are such
pub record AreSmall (bounds : Bounds) : Type 0 where
  pub lower : IsSmallBound bounds.lower
  pub upper : IsSmallBound bounds.upper

abbrev pub with_bound : Bounds → BoundKind → Option ℤ → Bounds
with_bound before kind number = record {
  integer = before.integer || makes_integer kind;
  named = true;
  sets_lower = before.sets_lower || sets_lower kind;
  lower = unwrap_or (lower_set kind number) before.lower;
  upper = unwrap_or (upper_set kind number) before.upper;
}

-- the bounds with those of a line
unfoldable pub bound_added : List Bytes → List Bounds → List Bytes → Result (List Bounds) MpsRule
bound_added names bounds line = do
  bound ← ok_or (bound_line line) rules.BadFields
  place ← ok_or (position (bytes_eq bound.column) names) rules.UnknownColumn
  number ← bound_read bound.number
  Ok (slice_set bounds place (with_bound (slice_index_or bounds place (no_bounds false)) bound.kind number))
