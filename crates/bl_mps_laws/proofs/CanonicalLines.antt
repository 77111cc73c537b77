-- The lines of a canonical text break no rule, and what stands under each section.
use Rattle.std.proofs.Common.{◌≡◌, Bool, true, false, List, [], ◌∷◌, map, length, Option, Some}
use Rattle.std.proofs.Common.{None, refl, sym, ap, subst, ◌∙◌, arith, codes, rules}
use Rattle.std.specs.List.{AllByRecursion}
use Rattle.std.proofs.lemmas.List.{length-map}
use Rattle.bl_limits.specs.declared.TheConstants.{MAX_TEXT_RHS}
use Rattle.bl_raw.specs.declared.raw.RawColumn.{RawColumn}
use Rattle.bl_raw.specs.declared.raw.RawMps.{RawMps}
use Rattle.bl_mps_terms.specs.declared.words.Section.{Section}
use Rattle.bl_mps_terms.specs.declared.words.Section.TheVariants.{Name, ObjSense, Rows, Columns, RightSides, Ranges}
use Rattle.bl_mps_terms.specs.declared.words.Section.TheVariants.{Bounds}
use Rattle.bl_mps_terms.specs.Words.{Bytes}
use Rattle.bl_mps_terms.specs.Parts.{section_after, sections_of, senses_from, data_from}
use Rattle.bl_mps_terms.specs.Rules.{is_named}
use Rattle.bl_mps_terms.specs.Lines.{row_names, row_fault, column_fault, right_side_fault, range_fault, bound_fault}
use Rattle.bl_mps_terms.specs.Lines.{columns_of}
use Rattle.bl_mps.proofs.LineParts.{LineParts, parts_of}
use Rattle.bl_mps.proofs.Names.{IsFresh, same_true}
use Rattle.bl_mps_laws.proofs.BoundLines.{bound_data, bound_data_fine}
use Rattle.bl_mps_laws.proofs.CanonicalText.{right_sides_of, ranges_of, column_text, column_texts, right_side_data}
use Rattle.bl_mps_laws.proofs.CanonicalText.{range_data, section_tokens, sense_tokens, tokens_of}
use Rattle.bl_mps_laws.proofs.ColumnLines.{column_data, names_for, IsColumnText, column_data_fine}
use Rattle.bl_mps_laws.proofs.ColumnLines.{column_data_names}
use Rattle.bl_mps_laws.proofs.Fresh.{or_second}
use Rattle.bl_mps_laws.proofs.PairLines.{IsGoodPair, set_fine}
use Rattle.bl_mps_laws.proofs.RowLines.{row_data, row_data_fine, row_data_names}
use Rattle.bl_mps_laws.proofs.Sayable.{IsSayable, names_of, column_names}
use Rattle.bl_mps_laws.proofs.Tables.{given, fresh_given}
use Rattle.bl_mps_laws.proofs.Tokens.{Begin, Fields, IsWord}
use Rattle.bl_mps_laws.proofs.Usable.{right_sides_good, ranges_good, columns_good}
use Rattle.bl_mps_laws.proofs.Walks.{Leads, leads_on, EachFine, data_lead}

-- ---- what stands under each section so far

abbrev pub state : Option Section → List Section → List Bytes → List (List Bytes) → List (List Bytes)
    → List (List Bytes) → List (List Bytes) → List (List Bytes) → LineParts
state present sections senses rows columns right_sides ranges bounds = record {
  present = present;
  sections = sections;
  senses = senses;
  rows = rows;
  columns = columns;
  right_sides = right_sides;
  ranges = ranges;
  bounds = bounds;
}

-- the sections that began, these the last
abbrev pub begun : Bool → List Section → List Section
begun true sections = Name ∷ ObjSense ∷ sections
begun false sections = Name ∷ sections

abbrev pub senses : Bool → List Bytes
senses true = codes "MAX" ∷ []
senses false = []

-- the section behind which ROWS begins
abbrev first : Bool → Section
first true = ObjSense
first false = Name

pub nothing_yet : parts_of [] ≡ state None [] [] [] [] [] [] []
unfolding section_after sections_of senses_from data_from
nothing_yet = refl

word_max : IsWord (codes "MAX")
word_max = record { field = search rules; line = search rules }

heads_lead : (m : Bool) → Leads (state None [] [] [] [] [] [] []) (Begin Name ∷ sense_tokens m)
    (state (Some (first m)) (begun m []) (senses m) [] [] [] [] [])
heads_lead true =
    (tt, refl, refl, (tt, refl, refl, ((word_max, tt), tt, refl, refl)))
heads_lead false = (tt, refl, refl, refl)

-- ---- section lines

module _ (rows columns right_sides ranges : List (List Bytes)) where
  rows_begin : (m : Bool) → Leads (state (Some (first m)) (begun m []) (senses m) [] [] [] [] []) (Begin Rows ∷ [])
      (state (Some Rows) (begun m (Rows ∷ [])) (senses m) [] [] [] [] [])
  rows_begin true = (tt, refl, refl, refl)
  rows_begin false = (tt, refl, refl, refl)

  columns_begin : (m : Bool) → Leads (state (Some Rows) (begun m (Rows ∷ [])) (senses m) rows [] [] [] [])
      (Begin Columns ∷ []) (state (Some Columns) (begun m (Rows ∷ Columns ∷ [])) (senses m) rows [] [] [] [])
  columns_begin true = (tt, refl, refl, refl)
  columns_begin false = (tt, refl, refl, refl)

  right_sides_begin : (m : Bool)
      → Leads (state (Some Columns) (begun m (Rows ∷ Columns ∷ [])) (senses m) rows columns [] [] [])
      (Begin RightSides ∷ [])
      (state (Some RightSides) (begun m (Rows ∷ Columns ∷ RightSides ∷ [])) (senses m) rows columns [] [] [])
  right_sides_begin true = (tt, refl, refl, refl)
  right_sides_begin false = (tt, refl, refl, refl)

  ranges_begin : (m : Bool)
      → Leads (state (Some RightSides) (begun m (Rows ∷ Columns ∷ RightSides ∷ [])) (senses m) rows columns
      right_sides [] []) (Begin Ranges ∷ [])
      (state (Some Ranges) (begun m (Rows ∷ Columns ∷ RightSides ∷ Ranges ∷ [])) (senses m) rows columns
      right_sides [] [])
  ranges_begin true = (tt, refl, refl, refl)
  ranges_begin false = (tt, refl, refl, refl)

  bounds_begin : (m : Bool)
      → Leads (state (Some Ranges) (begun m (Rows ∷ Columns ∷ RightSides ∷ Ranges ∷ [])) (senses m) rows columns
      right_sides ranges []) (Begin Bounds ∷ [])
      (state (Some Bounds) (begun m (Rows ∷ Columns ∷ RightSides ∷ Ranges ∷ Bounds ∷ [])) (senses m) rows columns
      right_sides ranges [])
  bounds_begin true = (tt, refl, refl, refl)
  bounds_begin false = (tt, refl, refl, refl)

-- a section line and the data lines under it
section_leads : (section : Section) (lines : List (List Bytes)) (before begun behind : LineParts)
    → Leads before (Begin section ∷ []) begun → Leads begun (map Fields lines) behind
    → Leads before (section_tokens section lines) behind
section_leads section lines before begun behind h k =
    leads_on before begun behind (Begin section ∷ []) (map Fields lines) h k

-- ---- the lines of a model

-- what stands under each section of the canonical text
abbrev pub last : RawMps → LineParts
last mps = state (Some Bounds) (begun mps.maximise (Rows ∷ Columns ∷ RightSides ∷ Ranges ∷ Bounds ∷ []))
    (senses mps.maximise) (row_data mps.objective mps.rows) (column_data (column_texts mps))
    (right_side_data mps.rows) (range_data mps.rows) (bound_data mps.columns)

pub names_same : (objective : Bytes) (columns : List RawColumn) (mps : RawMps)
    → names_for (map (column_text objective mps.rows) columns) ≡ column_names columns
names_same objective [] mps = refl
names_same objective (column ∷ columns) mps =
    ap (λ (ns : List Bytes). column.name ∷ ns) (names_same objective columns mps)

-- each name of a list is among them
named_all : (names : List Bytes) (columns : List RawColumn)
    → AllByRecursion (λ column. is_named names column.name ≡ true) columns → (first : Bytes)
    → AllByRecursion (λ column. is_named (first ∷ names) column.name ≡ true) columns
named_all names [] h first = tt
named_all names (column ∷ columns) h first =
    (or_second _ (is_named names column.name) h.0, named_all names columns h.1 first)

pub named_each : (columns : List RawColumn)
    → AllByRecursion (λ column. is_named (column_names columns) column.name ≡ true) columns
named_each [] = tt
named_each (column ∷ columns) = (
  rw (same_true column.name column.name refl) refl,
  named_all (column_names columns) columns (named_each columns) column.name,
)

module _ (mps : RawMps) (h : IsSayable mps) where
  -- under ROWS stand the objective and the rows
  pub rows_named : row_names (row_data mps.objective mps.rows) ≡ mps.objective ∷ names_of mps.rows
  rows_named = row_data_names mps.objective mps.rows

  pub texts_good : AllByRecursion (IsColumnText (row_names (row_data mps.objective mps.rows))) (column_texts mps)
  texts_good =
      subst (λ (ns : List Bytes). AllByRecursion (IsColumnText ns) (column_texts mps)) (sym rows_named)
      (columns_good mps h mps.columns h.columns)

  pub names_fresh : IsFresh (names_for (column_texts mps))
  names_fresh = subst IsFresh (sym (names_same mps.objective mps.columns mps)) h.distinct_columns

  -- under COLUMNS stand the columns
  pub columns_named : columns_of (column_data (column_texts mps)) ≡ column_names mps.columns
  columns_named =
      column_data_names (row_data mps.objective mps.rows) (column_texts mps) names_fresh texts_good
      ∙ names_same mps.objective mps.columns mps

  rows_fine : EachFine row_fault [] (row_data mps.objective mps.rows)
  rows_fine = row_data_fine mps.objective mps.rows h.names h.distinct h.sides h.row_count

  columns_fine : EachFine (column_fault (row_data mps.objective mps.rows)) [] (column_data (column_texts mps))
  columns_fine =
      column_data_fine (row_data mps.objective mps.rows) (column_texts mps) names_fresh
      (omega (arith, h.column_count, length-map mps.columns (column_text mps.objective mps.rows))) texts_good

  word_rhs : IsWord (codes "RHS")
  word_rhs = record { field = search rules; line = search rules }

  word_range : IsWord (codes "RANGE")
  word_range = record { field = search rules; line = search rules }

  right_sides_fine : EachFine (right_side_fault (row_data mps.objective mps.rows)) [] (right_side_data mps.rows)
  right_sides_fine =
      set_fine (codes "RHS") word_rhs (row_data mps.objective mps.rows) MAX_TEXT_RHS (omega arith)
      (Some mps.objective) [] (given (names_of mps.rows) (right_sides_of mps.rows))
      (subst (λ (ns : List Bytes). AllByRecursion (IsGoodPair ns MAX_TEXT_RHS (Some mps.objective))
      (given (names_of mps.rows) (right_sides_of mps.rows))) (sym rows_named) (right_sides_good mps h))
      (fresh_given (names_of mps.rows) (right_sides_of mps.rows) h.distinct.1)

  ranges_fine : EachFine (range_fault (row_data mps.objective mps.rows)) [] (range_data mps.rows)
  ranges_fine =
      set_fine (codes "RANGE") word_range (row_data mps.objective mps.rows) MAX_TEXT_RHS (omega arith) None []
      (given (names_of mps.rows) (ranges_of mps.rows))
      (subst (λ (ns : List Bytes). AllByRecursion (IsGoodPair ns MAX_TEXT_RHS None)
      (given (names_of mps.rows) (ranges_of mps.rows))) (sym rows_named) (ranges_good mps h))
      (fresh_given (names_of mps.rows) (ranges_of mps.rows) h.distinct.1)

  bounds_fine : EachFine (λ lines line. bound_fault (column_data (column_texts mps)) line) [] (bound_data mps.columns)
  bounds_fine =
      bound_data_fine (column_data (column_texts mps)) (length mps.rows) mps.columns h.columns
      (subst (λ (ns : List Bytes). AllByRecursion (λ column. is_named ns column.name ≡ true) mps.columns)
      (sym columns_named) (named_each mps.columns)) []

  -- ---- section by section

  abbrev m : Bool
  m = mps.maximise

  abbrev rows : List (List Bytes)
  rows = row_data mps.objective mps.rows

  abbrev columns : List (List Bytes)
  columns = column_data (column_texts mps)

  abbrev right_sides : List (List Bytes)
  right_sides = right_side_data mps.rows

  abbrev ranges : List (List Bytes)
  ranges = range_data mps.rows

  abbrev before_rows : LineParts
  before_rows = state (Some (first m)) (begun m []) (senses m) [] [] [] [] []

  abbrev in_rows : List (List Bytes) → LineParts
  in_rows lines = state (Some Rows) (begun m (Rows ∷ [])) (senses m) lines [] [] [] []

  abbrev in_columns : List (List Bytes) → LineParts
  in_columns lines = state (Some Columns) (begun m (Rows ∷ Columns ∷ [])) (senses m) rows lines [] [] []

  abbrev in_right_sides : List (List Bytes) → LineParts
  in_right_sides lines =
      state (Some RightSides) (begun m (Rows ∷ Columns ∷ RightSides ∷ [])) (senses m) rows columns lines [] []

  abbrev in_ranges : List (List Bytes) → LineParts
  in_ranges lines =
      state (Some Ranges) (begun m (Rows ∷ Columns ∷ RightSides ∷ Ranges ∷ [])) (senses m) rows columns right_sides
      lines []

  abbrev in_bounds : List (List Bytes) → LineParts
  in_bounds lines =
      state (Some Bounds) (begun m (Rows ∷ Columns ∷ RightSides ∷ Ranges ∷ Bounds ∷ [])) (senses m) rows columns
      right_sides ranges lines

  rows_lead : Leads before_rows (section_tokens Rows rows) (in_rows rows)
  rows_lead =
      section_leads Rows rows before_rows (in_rows []) (in_rows rows) (rows_begin [] [] [] [] m)
      (data_lead in_rows row_fault (λ lines line. refl) (λ lines line. refl) [] rows rows_fine)

  columns_lead : Leads (in_rows rows) (section_tokens Columns columns) (in_columns columns)
  columns_lead =
      section_leads Columns columns (in_rows rows) (in_columns []) (in_columns columns) (columns_begin rows [] [] [] m)
      (data_lead in_columns (column_fault rows) (λ lines line. refl) (λ lines line. refl) [] columns columns_fine)

  right_sides_lead : Leads (in_columns columns) (section_tokens RightSides right_sides) (in_right_sides right_sides)
  right_sides_lead =
      section_leads RightSides right_sides (in_columns columns) (in_right_sides []) (in_right_sides right_sides)
      (right_sides_begin rows columns [] [] m)
      (data_lead in_right_sides (right_side_fault rows) (λ lines line. refl) (λ lines line. refl) [] right_sides
      right_sides_fine)

  ranges_lead : Leads (in_right_sides right_sides) (section_tokens Ranges ranges) (in_ranges ranges)
  ranges_lead =
      section_leads Ranges ranges (in_right_sides right_sides) (in_ranges []) (in_ranges ranges)
      (ranges_begin rows columns right_sides [] m)
      (data_lead in_ranges (range_fault rows) (λ lines line. refl) (λ lines line. refl) [] ranges ranges_fine)

  bounds_lead : Leads (in_ranges ranges) (section_tokens Bounds (bound_data mps.columns)) (last mps)
  bounds_lead =
      section_leads Bounds (bound_data mps.columns) (in_ranges ranges) (in_bounds []) (last mps)
      (bounds_begin rows columns right_sides ranges m)
      (data_lead in_bounds (λ lines line. bound_fault columns line) (λ lines line. refl) (λ lines line. refl) []
      (bound_data mps.columns) bounds_fine)

  -- The lines break no rule, and leave this.
  pub tokens_lead : Leads (parts_of []) (tokens_of mps) (last mps)
  unfolding tokens_of
  tokens_lead =
      subst (λ (p : LineParts). Leads p (tokens_of mps) (last mps)) (sym nothing_yet)
      (leads_on (state None [] [] [] [] [] [] []) before_rows (last mps) (Begin Name ∷ sense_tokens m) _ (heads_lead m)
      (leads_on before_rows (in_rows rows) (last mps) (section_tokens Rows rows) _ rows_lead
      (leads_on (in_rows rows) (in_columns columns) (last mps) (section_tokens Columns columns) _ columns_lead
      (leads_on (in_columns columns) (in_right_sides right_sides) (last mps)
      (section_tokens RightSides right_sides) _ right_sides_lead
      (leads_on (in_right_sides right_sides) (in_ranges ranges) (last mps) (section_tokens Ranges ranges) _ ranges_lead
      bounds_lead)))))
