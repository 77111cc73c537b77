-- The canonical text of a model that a text can say, says it.
use Rattle.std.proofs.Common.{◌≡◌, ℕ, ◌+◌, ◌≤◌, Bool, true, false, cond, List, [], ◌∷◌, ◌++◌, map, length, Option}
use Rattle.std.proofs.Common.{Some, None, ℤ, is_none, refl, sym, ap, subst, ◌∙◌, codes, append_assoc}
use Rattle.std.specs.Option.{option_map}
use Rattle.std.specs.List.{AllByRecursion, AllZip, flat_map, list_any}
use Rattle.std.proofs.lemmas.Bool.{le-ltb}
use Rattle.std.proofs.lemmas.List.{map_push}
use Rattle.bl_limits.specs.declared.TheConstants.{MAX_TEXT_BYTES}
use Rattle.bl_raw.specs.declared.raw.RawColumn.{RawColumn}
use Rattle.bl_raw.specs.declared.raw.RawMps.{RawMps}
use Rattle.bl_text.specs.Lines.{lines_of}
use Rattle.bl_mps_terms.specs.declared.fault.MpsFault.{MpsFault}
use Rattle.bl_mps_terms.specs.declared.fault.MpsRule.TheVariants as rules
use Rattle.bl_mps_terms.specs.declared.words.Section.TheVariants.{Rows, Columns, RightSides, Ranges, Bounds, End}
use Rattle.bl_mps_terms.specs.Words.{Bytes}
use Rattle.bl_mps_terms.specs.Parts.{lines_read}
use Rattle.bl_mps_terms.specs.Rules.{is_named}
use Rattle.bl_mps_terms.specs.Lines.{row_names, objective_of, bounded_rows, columns_of, pairs_on, pairs_of_set}
use Rattle.bl_mps_terms.specs.Lines.{bounds_on, lower_of, upper_of, is_marked, whole_fault}
use Rattle.bl_mps_terms.specs.Meaning.{coefficient, row_of, nonzero_of, IsColumnOf, is_maximum, Says, Reads}
use Rattle.bl_mps_terms.specs.Faults.{section_fault, line_fault, at_line, lines_fault, columns_fault}
use Rattle.bl_mps_terms.specs.Faults.{model_fault, first_fault}
use Rattle.bl_mps_write.specs.Canonical.{mps_text}
use Rattle.bl_mps.proofs.LineParts.{LineParts, parts_of}
use Rattle.bl_mps_laws.proofs.BoundLines.{bound_data, both_found, both_of, lower_said, upper_said, whole_fine}
use Rattle.bl_mps_laws.proofs.CanonicalLines.{begun, senses, last, tokens_lead, texts_good, names_fresh, columns_named}
use Rattle.bl_mps_laws.proofs.CanonicalLines.{names_same, named_each}
use Rattle.bl_mps_laws.proofs.CanonicalRows.{fields_names, rows_said, cost_said, entries_said}
use Rattle.bl_mps_laws.proofs.CanonicalText.{column_text, column_texts, right_sides_of, ranges_of, tokens_of}
use Rattle.bl_mps_laws.proofs.CanonicalText.{canonical_text, right_side_data, range_data}
use Rattle.bl_mps_laws.proofs.ColumnLines.{pairs_in, column_data}
use Rattle.bl_mps_laws.proofs.ColumnTables.{column_data_pairs, column_data_marked}
use Rattle.bl_mps_laws.proofs.PairLines.{set_pairs}
use Rattle.bl_mps_laws.proofs.RowLines.{row_data, row_fields, row_data_bounded}
use Rattle.bl_mps_laws.proofs.Sayable.{IsSayable, IsSayableColumn, names_of, column_names}
use Rattle.bl_mps_laws.proofs.Tables.{given, texts}
use Rattle.bl_mps_laws.proofs.Tokens.{Token, Begin, IsToken, line_of, word_of, lines_of-tokens}
use Rattle.bl_mps_laws.proofs.Tokens.{lines_read-tokens}
use Rattle.bl_mps_laws.proofs.Walks.{Leads, token_fault, line_fault-same, walked, leads_tokens, leads_not_end}

token_push : (ts : List Token) (t : Token) → AllByRecursion IsToken ts → IsToken t
    → AllByRecursion IsToken (ts ++ t ∷ [])
token_push [] t h k = (k, tt)
token_push (x ∷ ts) t h k = (h.0, token_push ts t h.1 k)

sense_said : (maximise : Bool) → list_any is_maximum (senses maximise) ≡ maximise
sense_said true = refl
sense_said false = refl

end_may : (maximise : Bool)
    → section_fault (begun maximise (Rows ∷ Columns ∷ RightSides ∷ Ranges ∷ Bounds ∷ [])) (Some End)
    (word_of End ∷ []) ≡ None
end_may true = refl
end_may false = refl

end_line : (lines more : List Bytes) → line_fault lines (word_of End) ≡ None
    → lines_fault lines (word_of End ∷ more) ≡ None
unfolding lines_fault
end_line lines more e = rw e refl

-- the faults of whole columns, by what stands under each section
abbrev fault_at : ℤ → LineParts → Option MpsFault
fault_at default p =
    cond (is_none (objective_of p.rows)) (Some (at_line 0 rules.NoObjective))
    (columns_fault default p.columns p.bounds 0 (columns_of p.columns))

no_column : (default : ℤ) (columns bounds : List (List Bytes)) (from : ℕ) (all : List RawColumn)
    → AllByRecursion (λ column. whole_fault default (is_marked column.name columns) (bounds_on column.name bounds)
    ≡ None) all
    → columns_fault default columns bounds from (column_names all) ≡ None
unfolding columns_fault
no_column default columns bounds from [] h = refl
no_column default columns bounds from (column ∷ all) h =
    rw (h.0) (no_column default columns bounds (from + 1) all h.1)

module _ (mps : RawMps) (h : IsSayable mps) where
  abbrev lines : List Bytes
  lines = map line_of (tokens_of mps)

  tokens_good : AllByRecursion IsToken (tokens_of mps)
  tokens_good = leads_tokens (parts_of []) (last mps) (tokens_of mps) (tokens_lead mps h)

  parts_lead : Leads (parts_of []) (tokens_of mps) (last mps)
  parts_lead = tokens_lead mps h

  parts_are : parts_of lines ≡ last mps
  parts_are = (walked [] (tokens_of mps) (last mps) [] parts_lead).parts

  end_fine : line_fault lines (word_of End) ≡ None
  end_fine =
      line_fault-same lines (Begin End) tt ∙ ap (λ (p : LineParts). token_fault p (Begin End)) parts_are
      ∙ end_may mps.maximise

  -- ---- the text with something behind it

  pub lines_are : (behind : List ℕ) → lines_of (mps_text mps ++ behind) ≡ lines ++ word_of End ∷ lines_of behind
  lines_are behind =
      ap (λ (t : List ℕ). lines_of (t ++ behind)) (canonical_text mps)
      ∙ lines_of-tokens (tokens_of mps ++ Begin End ∷ []) behind
      (token_push (tokens_of mps) (Begin End) tokens_good tt)
      ∙ ap (λ (ls : List Bytes). ls ++ lines_of behind) (map_push line_of (tokens_of mps) (Begin End))
      ∙ append_assoc lines (word_of End ∷ []) (lines_of behind)

  read_are : (behind : List ℕ) → lines_read (lines_of (mps_text mps ++ behind)) ≡ lines
  read_are behind =
      ap lines_read (lines_are behind)
      ∙ lines_read-tokens (tokens_of mps) (lines_of behind) tokens_good
      (leads_not_end (parts_of []) (last mps) (tokens_of mps) parts_lead)

  no_line : (behind : List ℕ) → lines_fault [] (lines_of (mps_text mps ++ behind)) ≡ None
  no_line behind =
      ap (lines_fault []) (lines_are behind)
      ∙ (walked [] (tokens_of mps) (last mps) (word_of End ∷ lines_of behind) parts_lead).fault
      ∙ end_line lines (lines_of behind) end_fine

  -- ---- columns

  abbrev columns : List (List Bytes)
  columns = column_data (column_texts mps)

  abbrev bounds : List (List Bytes)
  bounds = bound_data mps.columns

  -- what the lines say of a column
  record IsFound (column : RawColumn) : Type 0 where
    sayable : IsSayableColumn (length mps.rows) column
    pairs : pairs_on column.name columns ≡ texts (pairs_in (column_text mps.objective mps.rows column))
    both : bounds_on column.name bounds ≡ both_of column
    marked : is_marked column.name columns ≡ true

  found_by : (all : List RawColumn) → AllByRecursion (IsSayableColumn (length mps.rows)) all
      → AllByRecursion (λ column. pairs_on column.name columns ≡ texts (pairs_in column))
      (map (column_text mps.objective mps.rows) all)
      → AllByRecursion (λ column. bounds_on column.name bounds ≡ both_of column) all
      → AllByRecursion (λ column. is_named (column_names mps.columns) column.name ≡ true) all
      → AllByRecursion IsFound all
  found_by [] s p b n = tt
  found_by (column ∷ all) s p b n = (
    record {
      sayable = s.0;
      pairs = p.0;
      both = b.0;
      marked = column_data_marked (row_names (row_data mps.objective mps.rows)) (column_texts mps) column.name
          (texts_good mps h)
          (ap (λ (ns : List Bytes). is_named ns column.name) (names_same mps.objective mps.columns mps) ∙ n.0);
    },
    found_by all s.1 p.1 b.1 n.1,
  )

  found : AllByRecursion IsFound mps.columns
  found =
      found_by mps.columns h.columns
      (column_data_pairs (row_names (row_data mps.objective mps.rows)) (column_texts mps) (names_fresh mps h)
      (texts_good mps h))
      (both_found mps.columns h.distinct_columns) (named_each mps.columns)

  bounded_are : bounded_rows (row_data mps.objective mps.rows) ≡ map row_fields mps.rows
  bounded_are = row_data_bounded mps.objective mps.rows h.sides

  module _ (other : ℤ) where
    column_said : (column : RawColumn) → IsFound column → IsColumnOf other lines column.name column
    column_said column f = record {
      named = refl;
      lower = sym (ap (λ (p : LineParts). lower_of (bounds_on column.name p.bounds)) parts_are ∙ ap lower_of f.both
          ∙ lower_said (length mps.rows) column f.sayable);
      upper = sym (ap (λ (p : LineParts). upper_of other (bounds_on column.name p.bounds)) parts_are
          ∙ ap (upper_of other) f.both ∙ upper_said (length mps.rows) column f.sayable other);
      cost = sym (ap (λ (p : LineParts). option_map (coefficient (pairs_on column.name p.columns))
          (objective_of p.rows)) parts_are
          ∙ ap (λ (ps : List (Bytes × Bytes)). Some (coefficient ps mps.objective)) f.pairs
          ∙ ap (λ (z : ℤ). Some z) (cost_said mps h column f.sayable));
      entries = entries_said mps h column f.sayable
          ∙ sym (ap (λ (p : LineParts). nonzero_of (map (coefficient (pairs_on column.name p.columns))
          (row_names (bounded_rows p.rows)))) parts_are
          ∙ ap (λ (ps : List (Bytes × Bytes)). nonzero_of (map (coefficient ps)
          (row_names (bounded_rows (row_data mps.objective mps.rows))))) f.pairs
          ∙ ap (λ (ls : List (List Bytes)). nonzero_of (map (coefficient (texts (pairs_in
          (column_text mps.objective mps.rows column)))) (row_names ls))) bounded_are
          ∙ ap (λ (ns : List Bytes). nonzero_of (map (coefficient (texts (pairs_in
          (column_text mps.objective mps.rows column)))) ns)) (fields_names mps.rows));
    }

    columns_said : (all : List RawColumn) → AllByRecursion IsFound all
        → AllZip (IsColumnOf other lines) (column_names all) all
    columns_said [] f = tt
    columns_said (column ∷ all) f = (column_said column f.0, columns_said all f.1)

    -- ---- the whole

    says : Says other lines mps
    says = record {
      sense = sym (ap (λ (p : LineParts). list_any is_maximum p.senses) parts_are ∙ sense_said mps.maximise);
      objective = sym (ap (λ (p : LineParts). objective_of p.rows) parts_are);
      rows = rows_said mps h
          ∙ sym (ap (λ (p : LineParts). map (row_of (flat_map pairs_of_set p.right_sides)
          (flat_map pairs_of_set p.ranges)) (bounded_rows p.rows)) parts_are
          ∙ ap (λ (ls : List (List Bytes)). map (row_of (flat_map pairs_of_set (right_side_data mps.rows))
          (flat_map pairs_of_set (range_data mps.rows))) ls) bounded_are
          ∙ ap (λ (ps : List (Bytes × Bytes)). map (row_of ps (flat_map pairs_of_set (range_data mps.rows)))
          (map row_fields mps.rows)) (set_pairs (codes "RHS") (given (names_of mps.rows) (right_sides_of mps.rows)))
          ∙ ap (λ (ps : List (Bytes × Bytes)). map (row_of (texts (given (names_of mps.rows)
          (right_sides_of mps.rows))) ps) (map row_fields mps.rows))
          (set_pairs (codes "RANGE") (given (names_of mps.rows) (ranges_of mps.rows))));
      columns = subst (λ (ns : List Bytes). AllZip (IsColumnOf other lines) ns mps.columns)
          (sym (ap (λ (p : LineParts). columns_of p.columns) parts_are ∙ columns_named mps h))
          (columns_said mps.columns found);
    }

    wholes_fine : (all : List RawColumn) → AllByRecursion IsFound all
        → AllByRecursion (λ column. whole_fault other (is_marked column.name columns) (bounds_on column.name bounds)
        ≡ None) all
    wholes_fine [] f = tt
    wholes_fine (column ∷ all) f = (
      ap (λ (m : Bool). whole_fault other m (bounds_on column.name bounds)) f.0.marked
          ∙ ap (whole_fault other true) f.0.both ∙ whole_fine (length mps.rows) column f.0.sayable other,
      wholes_fine all f.1,
    )

    no_whole : model_fault other lines ≡ None
    no_whole =
        ap (fault_at other) parts_are
        ∙ ap (columns_fault other columns bounds 0) (columns_named mps h)
        ∙ no_column other columns bounds 0 mps.columns (wholes_fine mps.columns found)

    faultless : (behind : List ℕ) → length (mps_text mps ++ behind) ≤ MAX_TEXT_BYTES
        → first_fault other (mps_text mps ++ behind) ≡ None
    unfolding first_fault
    faultless behind short =
        rw (le-ltb MAX_TEXT_BYTES (length (mps_text mps ++ behind)) short, no_line behind)
        (ap (model_fault other) (read_are behind) ∙ no_whole)

    -- The canonical text says the model, whatever stands behind it.
    pub says_sayable : (behind : List ℕ) → length (mps_text mps ++ behind) ≤ MAX_TEXT_BYTES
        → Reads other (mps_text mps ++ behind) mps
    says_sayable behind short = record {
      faultless = faultless behind short;
      says = subst (λ (ls : List Bytes). Says other ls mps) (sym (read_are behind)) says;
    }
