-- Trusted. What `show` prints reads back, part by part.
use Rattle.std.specs.Prelude.{◌≡◌, ℕ, ◌≤◌, Bool, ℤ, unsigned_abs, List, [], ◌∷◌, length, take, codes, if◌then◌else◌}
use Rattle.std.specs.List.{flat_map}
use Rattle.std.specs.Str.{bytes_eq}
use Rattle.bl_limits.specs.declared.TheConstants.{MAX_NUMBER, MAX_TEXT_BYTES}
use Rattle.bl_raw.specs.declared.raw.RawMps.{RawMps}
use Rattle.bl_raw.specs.declared.raw.RawAux.{RawAux}
use Rattle.bl_text.specs.Lines.{lines_of, ended}
use Rattle.bl_mps_terms.specs.Words.{Bytes}
use Rattle.bl_mps_terms.specs.Parts.{is_end}
use Rattle.bl_model.specs.Build.{program_of}
use Rattle.bl_run.specs.Report.{links_line, show_text}
use Rattle.bl_run.specs.Texts.{IsMpsText, IsAuxText}

-- ---- the parts of what is printed

-- the lines to ENDATA and with it
abbrev pub to_end : List Bytes → List Bytes
to_end [] = []
to_end (line ∷ lines) = line ∷ (if is_end line then [] else to_end lines)

-- the lines behind ENDATA
abbrev pub behind_end : List Bytes → List Bytes
behind_end [] = []
behind_end (line ∷ lines) = if is_end line then lines else behind_end lines

-- a line that begins with `links`
abbrev pub is_links : Bytes → Bool
is_links line = bytes_eq (take 5 line) (codes "links")

-- the lines before the first of these
abbrev pub before_links : List Bytes → List Bytes
before_links [] = []
before_links (line ∷ lines) = if is_links line then [] else line ∷ before_links lines

-- the first of these and the lines behind it
abbrev pub from_links : List Bytes → List Bytes
from_links [] = []
from_links (line ∷ lines) = if is_links line then line ∷ lines else from_links lines

-- the text to the line ENDATA and with it
abbrev pub mps_part : List ℕ → List ℕ
mps_part text = flat_map ended (to_end (lines_of text))

-- the text behind it, to the line `links`
abbrev pub aux_part : List ℕ → List ℕ
aux_part text = flat_map ended (before_links (behind_end (lines_of text)))

-- the text from that line on
abbrev pub links_part : List ℕ → List ℕ
links_part text = flat_map ended (from_links (behind_end (lines_of text)))

-- ---- what they say

-- What is printed says this model and this follower.
pub record SaysAgain (mps : RawMps) (aux : RawAux) (shown : List ℕ) : Type 0 where
  -- The part to ENDATA says the model, with every default upper bound, where it isn't too long for a text;
  pub model : length (mps_part shown) ≤ MAX_TEXT_BYTES → (default : ℤ) → IsMpsText default (mps_part shown) mps
  -- and so does all of it.
  pub whole : length shown ≤ MAX_TEXT_BYTES → (default : ℤ) → IsMpsText default shown mps
  -- The part behind ENDATA says the follower.
  pub follower : IsAuxText mps (aux_part shown) aux
  -- The rest is the line of the linking columns.
  pub links : links_part shown ≡ links_line (program_of mps aux).links

-- What `show` prints of the model and the follower of two texts, says them again.
abbrev pub ShowsBack : Type 0
ShowsBack = (default : ℤ) (text follower : List ℕ) (mps : RawMps) (aux : RawAux) → unsigned_abs default ≤ MAX_NUMBER
    → IsMpsText default text mps → IsAuxText mps follower aux
    → SaysAgain mps aux (show_text mps aux (program_of mps aux))
