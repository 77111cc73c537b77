-- The parts of some lines, and of one line more.
use Rattle.std.proofs.Common.{◌≡◌, Bool, true, false, cond, List, [], ◌∷◌, ◌++◌, Option, Some, None, refl, sym, ap, ◌∙◌}
use Rattle.std.proofs.Common.{append_assoc, take, drop}
use Rattle.std.specs.Option.{option_to_list}
use Rattle.std.proofs.lemmas.List.{append-nil}
use Rattle.bl_text.specs.Fields.{fields_of}
use Rattle.bl_mps_terms.specs.declared.words.Section.{Section}
use Rattle.bl_mps_terms.specs.declared.words.Section.TheVariants.{Name, ObjSense, Rows, Columns, RightSides, Ranges}
use Rattle.bl_mps_terms.specs.declared.words.Section.TheVariants.{Bounds, End}
use Rattle.bl_mps_terms.specs.Words.{Bytes, section_named}
use Rattle.bl_mps_terms.specs.Parts.{field, is_skipped, begins_section, section_begun, section_behind, section_after}
use Rattle.bl_mps_terms.specs.Parts.{sections_of, is_in, data_at, data_from, under, senses_at, senses_from, senses_of}

pub record LineParts : Type 0 where
  pub present : Option Section
  pub sections : List Section
  pub senses : List Bytes
  pub rows : List (List Bytes)
  pub columns : List (List Bytes)
  pub right_sides : List (List Bytes)
  pub ranges : List (List Bytes)
  pub bounds : List (List Bytes)

abbrev pub parts_of : List Bytes → LineParts
parts_of lines = record {
  present = section_after None lines;
  sections = sections_of lines;
  senses = senses_of lines;
  rows = under Rows lines;
  columns = under Columns lines;
  right_sides = under RightSides lines;
  ranges = under Ranges lines;
  bounds = under Bounds lines;
}

-- the parts with one line more
abbrev pub pushed : LineParts → Bytes → LineParts
pushed parts line = record {
  present = section_behind parts.present line;
  sections = parts.sections ++ option_to_list (section_begun line);
  senses = parts.senses ++ senses_at parts.present line;
  rows = parts.rows ++ data_at Rows parts.present line;
  columns = parts.columns ++ data_at Columns parts.present line;
  right_sides = parts.right_sides ++ data_at RightSides parts.present line;
  ranges = parts.ranges ++ data_at Ranges parts.present line;
  bounds = parts.bounds ++ data_at Bounds parts.present line;
}

section_after-push : (present : Option Section) (lines : List Bytes) (line : Bytes)
    → section_after present (lines ++ line ∷ []) ≡ section_behind (section_after present lines) line
unfolding section_after
section_after-push present [] line = refl
section_after-push present (x ∷ lines) line = section_after-push (section_behind present x) lines line

sections_of-push : (lines : List Bytes) (line : Bytes)
    → sections_of (lines ++ line ∷ []) ≡ sections_of lines ++ option_to_list (section_begun line)
unfolding sections_of
sections_of-push [] line = append-nil (option_to_list (section_begun line))
sections_of-push (x ∷ lines) line =
    ap (λ (xs : List Section). option_to_list (section_begun x) ++ xs) (sections_of-push lines line)
    ∙ sym (append_assoc (option_to_list (section_begun x)) (sections_of lines) (option_to_list (section_begun line)))

data_from-push : (section : Section) (present : Option Section) (lines : List Bytes) (line : Bytes)
    → data_from section present (lines ++ line ∷ []) ≡ data_from section present lines
    ++ data_at section (section_after present lines) line
unfolding data_from section_after
data_from-push section present [] line = append-nil (data_at section present line)
data_from-push section present (x ∷ lines) line =
    ap (λ (xs : List (List Bytes)). data_at section present x ++ xs)
    (data_from-push section (section_behind present x) lines line)
    ∙ sym (append_assoc (data_at section present x) (data_from section (section_behind present x) lines)
    (data_at section (section_after (section_behind present x) lines) line))

senses_from-push : (present : Option Section) (lines : List Bytes) (line : Bytes)
    → senses_from present (lines ++ line ∷ []) ≡ senses_from present lines
    ++ senses_at (section_after present lines) line
unfolding senses_from section_after
senses_from-push present [] line = append-nil (senses_at present line)
senses_from-push present (x ∷ lines) line =
    ap (λ (xs : List Bytes). senses_at present x ++ xs) (senses_from-push (section_behind present x) lines line)
    ∙ sym (append_assoc (senses_at present x) (senses_from (section_behind present x) lines)
    (senses_at (section_after (section_behind present x) lines) line))

pub parts-push : (lines : List Bytes) (line : Bytes) → parts_of (lines ++ line ∷ []) ≡ pushed (parts_of lines) line
parts-push lines line =
    rw (
      section_after-push None lines line,
      sections_of-push lines line,
      senses_from-push None lines line,
      data_from-push Rows None lines line,
      data_from-push Columns None lines line,
      data_from-push RightSides None lines line,
      data_from-push Ranges None lines line,
      data_from-push Bounds None lines line,
    ) refl

-- a line that says nothing
pub pushed_skipped : (parts : LineParts) (line : Bytes) → is_skipped line ≡ true → pushed parts line ≡ parts
pushed_skipped parts line s = rw s (simp append-nil)

-- the parts with a section line
abbrev pub heading_added : LineParts → Section → List Bytes → LineParts
heading_added parts section line = record {
  present = Some section;
  sections = parts.sections ++ section ∷ [];
  senses = parts.senses ++ cond (is_in ObjSense (Some section)) (take 1 (drop 1 line)) [];
  rows = parts.rows;
  columns = parts.columns;
  right_sides = parts.right_sides;
  ranges = parts.ranges;
  bounds = parts.bounds;
}

pub pushed_heading : (parts : LineParts) (line : Bytes) (section : Section) → is_skipped line ≡ false
    → begins_section line ≡ true → section_named (field 0 (fields_of line)) ≡ Some section
    → pushed parts line ≡ heading_added parts section (fields_of line)
pushed_heading parts line section s b n = rw (s, b, n) (simp append-nil)

-- the parts with a data line of the present section
abbrev pub data_added : Option Section → LineParts → List Bytes → LineParts
data_added (Some ObjSense) p line =
    record {
      present = p.present;
      sections = p.sections;
      senses = p.senses ++ take 1 line;
      rows = p.rows;
      columns =
          p.columns;
      right_sides = p.right_sides;
      ranges = p.ranges;
      bounds = p.bounds;
    }
data_added (Some Rows) p line =
    record {
      present = p.present;
      sections = p.sections;
      senses = p.senses;
      rows = p.rows ++ line ∷ [];
      columns =
          p.columns;
      right_sides = p.right_sides;
      ranges = p.ranges;
      bounds = p.bounds;
    }
data_added (Some Columns) p line =
    record {
      present = p.present;
      sections = p.sections;
      senses = p.senses;
      rows = p.rows;
      columns =
          p.columns ++ line ∷ [];
      right_sides = p.right_sides;
      ranges = p.ranges;
      bounds = p.bounds;
    }
data_added (Some RightSides) p line =
    record {
      present = p.present;
      sections = p.sections;
      senses = p.senses;
      rows = p.rows;
      columns = p.columns;
      right_sides = p.right_sides ++ line ∷ [];
      ranges = p.ranges;
      bounds = p.bounds;
    }
data_added (Some Ranges) p line =
    record {
      present = p.present;
      sections = p.sections;
      senses = p.senses;
      rows = p.rows;
      columns = p.columns;
      right_sides = p.right_sides;
      ranges = p.ranges ++ line ∷ [];
      bounds = p.bounds;
    }
data_added (Some Bounds) p line =
    record {
      present = p.present;
      sections = p.sections;
      senses = p.senses;
      rows = p.rows;
      columns = p.columns;
      right_sides = p.right_sides;
      ranges = p.ranges;
      bounds = p.bounds ++ line ∷ [];
    }
data_added (Some Name) p line = p
data_added (Some End) p line = p
data_added None p line = p

pub pushed_data : (parts : LineParts) (line : Bytes) (present : Option Section) → parts.present ≡ present
    → is_skipped line ≡ false → begins_section line ≡ false
    → pushed parts line ≡ data_added present parts (fields_of line)
pushed_data parts line (Some ObjSense) p s b = rw (s, b, p) (simp append-nil)
pushed_data parts line (Some Rows) p s b = rw (s, b, p) (simp append-nil)
pushed_data parts line (Some Columns) p s b = rw (s, b, p) (simp append-nil)
pushed_data parts line (Some RightSides) p s b = rw (s, b, p) (simp append-nil)
pushed_data parts line (Some Ranges) p s b = rw (s, b, p) (simp append-nil)
pushed_data parts line (Some Bounds) p s b = rw (s, b, p) (simp append-nil)
pushed_data parts line (Some Name) p s b = rw (s, b, p) (simp append-nil)
pushed_data parts line (Some End) p s b = rw (s, b, p) (simp append-nil)
pushed_data parts line None p s b = rw (s, b, p) (simp append-nil)
