-- Internal. What the reader holds, and how each line changes it.
use Rattle.std.specs.Prelude.{◌≡◌, ℕ, ◌+◌, ℤ, pos, negsuc, nat_lt, if◌then◌else◌, List, [], ◌∷◌, ◌++◌, Option, None}
use Rattle.std.specs.Prelude.{Some, Result, Ok, Err}
use Rattle.bl_text.specs.Fields.{fields_of}
use Rattle.bl_text.specs.Lines.{lines_of}
use Rattle.bl_aux.specs.declared.keys.Key.TheVariants.{N, M, Lc, Lr, Lo, Os}
use Rattle.bl_aux.specs.declared.keys.Key.{Key}
use Rattle.bl_aux.specs.declared.line.Entry.{Entry}
use Rattle.bl_aux.specs.declared.fault.AuxRule.{AuxRule}
use Rattle.bl_aux.specs.declared.fault.AuxFault.{AuxFault}
use Rattle.bl_aux.specs.declared.fault.AuxError.{AuxError}
use Rattle.bl_aux.specs.declared.fault.AuxError.TheVariants.{Fault, Memory as NoMemory}
use Rattle.bl_aux.specs.declared.stop.Stop.{Stop}
use Rattle.bl_aux.specs.declared.stop.Stop.TheVariants.{Rule, Memory}
use Rattle.bl_aux.specs.Lines.{line_said}
use Rattle.bl_aux.specs.Given.{Given, Sizes, entry_rule, entries_of, given_by}
use Rattle.bl_aux.specs.Texts.{KeepsRules}

-- places below a limit
pub record PlaceList : Type 0 where
  pub limit : ℕ
  pub given : List ℤ

-- a model's sizes, and what is given so far
pub record Holding : Type 0 where
  pub sizes : Sizes
  pub given : Given

abbrev pub with_number : Given → Key → ℤ → Given
with_number given N number = record given { column_counts = given.column_counts ++ number ∷ [] }
with_number given M number = record given { row_counts = given.row_counts ++ number ∷ [] }
with_number given Lc number = record given { columns = given.columns ++ number ∷ [] }
with_number given Lr number = record given { rows = given.rows ++ number ∷ [] }
with_number given Lo number = record given { costs = given.costs ++ number ∷ [] }
with_number given Os number = record given { senses = given.senses ++ number ∷ [] }

-- with one more entry
abbrev pub with_entry : Holding → Entry → Holding
with_entry holding entry = record { sizes = holding.sizes; given = with_number holding.given entry.key entry.number }

-- A step stops exactly where a rule is broken, by that rule, and else leaves what is said. After want of memory nothing
-- is known.
abbrev pub Steps : Result (Unit {0}) Stop → Option AuxRule → Type 0 → Type 0
Steps (Ok u) broken Leaves = (broken ≡ None) × Leaves
Steps (Err (Rule rule)) broken Leaves = broken ≡ Some rule
Steps (Err Memory) broken Leaves = Unit {0}

abbrev pub ruled : Holding → Entry → Option AuxRule → Result Holding AuxRule
ruled holding entry None = Ok (with_entry holding entry)
ruled holding entry (Some rule) = Err rule

-- what is held after a line, or the rule that it breaks
abbrev pub entered : Holding → Result (Option Entry) AuxRule → Result Holding AuxRule
entered holding (Ok None) = Ok holding
entered holding (Ok (Some entry)) = ruled holding entry (entry_rule holding.sizes holding.given entry)
entered holding (Err rule) = Err rule

abbrev pub after_line : Holding → List ℕ → Result Holding AuxRule
after_line holding line = entered holding (line_said (fields_of line))

abbrev pub on_line : Result Holding AuxRule → ℕ → (Holding → Result Holding AuxFault) → Result Holding AuxFault
on_line (Ok holding) line next = next holding
on_line (Err rule) line next = Err (record { rule = rule; line = line })

-- what is held after lines, of which the first has this number, or the first fault
unfoldable pub after_lines : Holding → ℕ → List (List ℕ) → Result Holding AuxFault
after_lines holding number [] = Ok holding
after_lines holding number (line ∷ lines) =
    on_line (after_line holding line) number (λ held. after_lines held (number + 1) lines)

-- the number as a place below the limit
abbrev pub place_below : ℕ → ℤ → Option ℕ
place_below limit (pos number) = if nat_lt number limit then Some number else None
place_below limit (negsuc _) = None

-- What was left, or the rule that stopped, is what a line gives.
abbrev pub Enters : Result (Unit {0}) Stop → Holding → Result Holding AuxRule → Type 0
Enters (Ok u) left given = given ≡ Ok left
Enters (Err (Rule rule)) left given = given ≡ Err rule
Enters (Err Memory) left given = Unit {0}

-- The same of all lines.
abbrev pub Reads : Result (Unit {0}) AuxError → Holding → Result Holding AuxFault → Type 0
Reads (Ok u) left given = given ≡ Ok left
Reads (Err (Fault fault)) left given = given ≡ Err fault
Reads (Err NoMemory) left given = Unit {0}

-- the lines of a text break no rule, and this is what they give
abbrev pub IsHeld : Sizes → List ℕ → Holding → Type 0
IsHeld sizes text holding =
    KeepsRules sizes (lines_of text) × (holding.given ≡ given_by (entries_of (lines_of text)))
