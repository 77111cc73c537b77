-- Trusted. The follower that an auxiliary text says, and the first rule that a text breaks.
use Rattle.std.specs.Prelude.{◌≡◌, ℕ, ◌+◌, ◌<◌, ◌≤◌, ℤ, pos, List, [], ◌∷◌, length, map, None, Some, take}
use Rattle.std.specs.Prelude.{slice_index_or}
use Rattle.bl_limits.specs.declared.TheConstants.{MAX_TEXT_BYTES}
use Rattle.bl_text.specs.Lines.{lines_of}
use Rattle.bl_raw.specs.declared.raw.RawAux.{RawAux}
use Rattle.bl_aux.specs.declared.fault.AuxError.{AuxError}
use Rattle.bl_aux.specs.declared.fault.AuxError.TheVariants.{Fault, Memory}
use Rattle.bl_aux.specs.declared.fault.AuxFault.{AuxFault}
use Rattle.bl_aux.specs.declared.fault.AuxRule.{AuxRule}
use Rattle.bl_aux.specs.declared.fault.AuxRule.TheVariants.{CountDiffers, TooLong}
use Rattle.bl_aux.specs.Given.{Given, Sizes, entries_of, given_by, line_rule}

-- no line breaks a rule given the lines before it
abbrev pub KeepsRules : Sizes → List (List ℕ) → Type 0
KeepsRules sizes lines = (place : ℕ) → place < length lines
    → line_rule sizes (take place lines) (slice_index_or lines place []) ≡ None

-- the counts that are announced are those of the lines that follow
pub record CountsAgree (given : Given) : Type 0 where
  pub columns : given.column_counts ≡ pos (length given.columns) ∷ []
  pub rows : given.row_counts ≡ pos (length given.rows) ∷ []
  pub costs : length given.costs ≡ length given.columns

-- the sense, which is 1 where none is given
abbrev pub sense_of : List ℤ → ℤ
sense_of [] = pos 1
sense_of (sense ∷ senses) = sense

-- what is given, as a follower
pub record IsGiven (given : Given) (aux : RawAux) : Type 0 where
  pub columns : map pos aux.columns ≡ given.columns
  pub rows : map pos aux.rows ≡ given.rows
  pub costs : aux.costs ≡ given.costs
  pub sense : aux.sense ≡ sense_of given.senses

-- the text says this follower
pub record Says (sizes : Sizes) (text : List ℕ) (aux : RawAux) : Type 0 where
  pub short : length text ≤ MAX_TEXT_BYTES
  pub kept : KeepsRules sizes (lines_of text)
  pub counts : CountsAgree (given_by (entries_of (lines_of text)))
  pub given : IsGiven (given_by (entries_of (lines_of text))) aux

-- the line at this place breaks this rule given the lines before it, and no line before it breaks one
pub record BreaksFirst (sizes : Sizes) (lines : List (List ℕ)) (place : ℕ) (rule : AuxRule) : Type 0 where
  pub within : place < length lines
  pub broken : line_rule sizes (take place lines) (slice_index_or lines place []) ≡ Some rule
  pub kept : (earlier : ℕ) → earlier < place
      → line_rule sizes (take earlier lines) (slice_index_or lines earlier []) ≡ None

-- the rule that a text breaks first, and its line
pub data IsFirstFault (sizes : Sizes) (text : List ℕ) (fault : AuxFault) : Type 0 where
  too_long : MAX_TEXT_BYTES < length text → fault ≡ record { rule = TooLong; line = 0 } → IsFirstFault sizes text fault
  at_line : length text ≤ MAX_TEXT_BYTES → (place : ℕ) (rule : AuxRule) → BreaksFirst sizes (lines_of text) place rule
      → fault ≡ record { rule = rule; line = place + 1 } → IsFirstFault sizes text fault
  of_whole : length text ≤ MAX_TEXT_BYTES → KeepsRules sizes (lines_of text)
      → (CountsAgree (given_by (entries_of (lines_of text))) → ⊥) → fault ≡ record { rule = CountDiffers; line = 0 }
      → IsFirstFault sizes text fault

-- An error names the first fault, or is want of memory, of which nothing is told.
abbrev pub IsRefused : Sizes → List ℕ → AuxError → Type 0
IsRefused sizes text (Fault fault) = IsFirstFault sizes text fault
IsRefused sizes text Memory = Unit {0}
