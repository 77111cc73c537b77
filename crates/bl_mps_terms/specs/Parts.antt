-- An MPS text as its sections: which lines begin one, and which lines stand under one. Trusted.
use Rattle.std.specs.Prelude.{ℕ, Bool, false, not, ◌&&◌, ◌||◌, ◌==◌, List, [], ◌∷◌, ◌++◌, Option, Some, None, length}
use Rattle.std.specs.Prelude.{slice_index_or, take, drop, if◌then◌else◌}
use Rattle.std.specs.Option.{option_to_list}
use Rattle.std.specs.List.{list_any, take_while}
use Rattle.bl_text.specs.Fields.{fields_of, is_blank}
use Rattle.bl_mps_terms.specs.declared.words.Section.{Section}
use Rattle.bl_mps_terms.specs.declared.words.Section.TheVariants.{Name, ObjSense, Rows, Columns, RightSides, Ranges}
use Rattle.bl_mps_terms.specs.declared.words.Section.TheVariants.{Bounds, End}
use Rattle.bl_mps_terms.specs.Words.{Bytes, section_named}

-- the field at a place, counted from 0
abbrev pub field : ℕ → List Bytes → Bytes
field place fields = slice_index_or fields place []

-- a line that begins with `*`
abbrev pub is_comment : Bytes → Bool
is_comment [] = false
is_comment (byte ∷ rest) = byte == 42

-- a line that says nothing
abbrev pub is_skipped : Bytes → Bool
is_skipped line = is_comment line || length (fields_of line) == 0

-- a line whose first byte isn't a blank begins a section
abbrev pub begins_section : Bytes → Bool
begins_section [] = false
begins_section (byte ∷ rest) = not (is_blank byte)

-- a line that begins a section
abbrev pub is_heading : Bytes → Bool
is_heading line = not (is_skipped line) && begins_section line

-- a line of the present section
abbrev pub is_data : Bytes → Bool
is_data line = not (is_skipped line) && not (begins_section line)

-- the section that a line begins, where its name is one
abbrev pub section_begun : Bytes → Option Section
section_begun line = if is_heading line then section_named (field 0 (fields_of line)) else None

-- the sections apart
abbrev pub number_of : Section → ℕ
number_of Name = 0
number_of ObjSense = 1
number_of Rows = 2
number_of Columns = 3
number_of RightSides = 4
number_of Ranges = 5
number_of Bounds = 6
number_of End = 7

abbrev pub is_same : Section → Section → Bool
is_same a b = number_of a == number_of b

abbrev pub is_in : Section → Option Section → Bool
is_in section None = false
is_in section (Some other) = is_same section other

-- the present section behind a line
abbrev pub section_behind : Option Section → Bytes → Option Section
section_behind present line = if is_heading line then section_begun line else present

-- the present section behind lines, from the one before them on
unfoldable pub section_after : Option Section → List Bytes → Option Section
section_after present [] = present
section_after present (line ∷ lines) = section_after (section_behind present line) lines

-- the sections that begin on these lines, in order
unfoldable pub sections_of : List Bytes → List Section
sections_of [] = []
sections_of (line ∷ lines) = option_to_list (section_begun line) ++ sections_of lines

abbrev pub has : Section → List Section → Bool
has section sections = list_any (is_same section) sections

-- the fields of a line, where it is a data line of this section
abbrev pub data_at : Section → Option Section → Bytes → List (List Bytes)
data_at section present line = if is_data line && is_in section present then fields_of line ∷ [] else []

unfoldable pub data_from : Section → Option Section → List Bytes → List (List Bytes)
data_from section present [] = []
data_from section present (line ∷ lines) =
    data_at section present line ++ data_from section (section_behind present line) lines

-- the data lines under a section, each as its fields
abbrev pub under : Section → List Bytes → List (List Bytes)
under section lines = data_from section None lines

-- the words for the leader's sense that a line gives: the second field of the section line, or the field of a data line
abbrev pub senses_at : Option Section → Bytes → List Bytes
senses_at present line =
    if is_heading line && is_in ObjSense (section_begun line) then take 1 (drop 1 (fields_of line))
    else (if is_data line && is_in ObjSense present then take 1 (fields_of line) else [])

unfoldable pub senses_from : Option Section → List Bytes → List Bytes
senses_from present [] = []
senses_from present (line ∷ lines) = senses_at present line ++ senses_from (section_behind present line) lines

-- the words for the leader's sense, in order
abbrev pub senses_of : List Bytes → List Bytes
senses_of lines = senses_from None lines

-- the section line ENDATA, behind which nothing is read
abbrev pub is_end : Bytes → Bool
is_end line = is_in End (section_begun line)

-- the lines before ENDATA
abbrev pub lines_read : List Bytes → List Bytes
lines_read lines = take_while (λ line. not (is_end line)) lines
