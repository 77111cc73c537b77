-- Which sections have begun.
use Rattle.std.specs.Prelude.{Bool, true, false, not, ◌&&◌, Some, None, is_none}
use Rattle.bl_mps_terms.specs.declared.words.Section.{Section}
use Rattle.bl_mps_terms.specs.declared.words.Section.TheVariants.{Name, ObjSense, Rows, Columns, RightSides, Ranges}
use Rattle.bl_mps_terms.specs.declared.words.Section.TheVariants.{Bounds, End}
use Rattle.bl_mps_read.specs.declared.sections.Sections.{Sections}

abbrev pub no_sections : Sections
no_sections = record {
  present = None;
  sense = false;
  rows = false;
  columns = false;
  right_sides = false;
  ranges =
      false;
  bounds = false;
}

abbrev pub next_may_be : Sections → Section → Bool
next_may_be before Name = is_none before.present
next_may_be before ObjSense = not before.sense && not before.rows
next_may_be before Rows = not before.rows
next_may_be before Columns = before.rows && not before.columns
next_may_be before RightSides = before.columns && not before.right_sides
next_may_be before Ranges = before.columns && not before.ranges
next_may_be before Bounds = before.columns && not before.bounds
next_may_be before End = before.columns

abbrev pub with_section : Sections → Section → Sections
with_section before Name = record before { present = Some Name }
with_section before ObjSense = record before { present = Some ObjSense; sense = true }
with_section before Rows = record before { present = Some Rows; rows = true }
with_section before Columns = record before { present = Some Columns; columns = true }
with_section before RightSides = record before { present = Some RightSides; right_sides = true }
with_section before Ranges = record before { present = Some Ranges; ranges = true }
with_section before Bounds = record before { present = Some Bounds; bounds = true }
with_section before End = record before { present = Some End }
