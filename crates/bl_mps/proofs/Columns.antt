-- The columns that are read are those of the lines under COLUMNS.
use Rattle.std.proofs.Common.{◌≡◌, ◌≢◌, ℕ, zero, suc, ◌+◌, ◌-◌, ◌<◌, ◌≤◌, Bool, true, false, cond, not, ◌||◌, eqb, ltb}
use Rattle.std.proofs.Common.{List, [], ◌∷◌, ◌++◌, length, get_or, set, take, drop, map, filter, fold, position}
use Rattle.std.proofs.Common.{replicate, Option, Some, None, is_some, Result, Ok, Err, ℤ, pos, refl, sym, ap, subst}
use Rattle.std.proofs.Common.{◌∙◌, arith, ◌⊎◌, inl, inr, eq-eqb, codes, add-one}
use Rattle.std.specs.Option.{option_map, option_map_or, ok_or}
use Rattle.std.specs.List.{flat_map}
use Rattle.std.specs.Str.{bytes_eq}
use Rattle.std.proofs.lemmas.Bool.{false≢true, eqb-true, cases_eq, cases_lt}
use Rattle.std.proofs.lemmas.List.{append-nil, map_push, length-map, length_push, get_or_push, get_or_append_left}
use Rattle.std.proofs.lemmas.List.{get_or-take, length-take, length-set, get_or-set_same, get_or-set_other}
use Rattle.std.proofs.lemmas.List.{get_or_default}
use Rattle.bl_limits.specs.declared.TheConstants.{MAX_COLUMNS, MAX_NUMBER}
use Rattle.bl_mps_terms.specs.declared.fault.MpsRule.{MpsRule}
use Rattle.bl_mps_terms.specs.declared.fault.MpsRule.TheVariants as rules
use Rattle.bl_mps_terms.specs.Words.{Bytes}
use Rattle.bl_mps_terms.specs.Parts.{field}
use Rattle.bl_mps_terms.specs.Rules.{first_of, when, unless, is_named, number_fault, number, pair_fault, pairs_fault}
use Rattle.bl_mps_terms.specs.Rules.{pairs_from}
use Rattle.bl_mps_terms.specs.Lines.{row_names, objective_of, bounded_rows, names_in, is_marker, begins_integers}
use Rattle.bl_mps_terms.specs.Lines.{marker_fault, appended, columns_of, pairs_on, name_fault, column_fault, is_marked}
use Rattle.bl_mps_terms.specs.Meaning.{number_after, coefficient}
use Rattle.bl_mps_read.specs.declared.bounds.Bounds.{Bounds}
use Rattle.bl_mps_read.specs.Bounds.{no_bounds}
use Rattle.bl_mps_read.specs.Columns.{ColumnList, begun_at, begun, marked, number_set, coefficient_given, marker_word}
use Rattle.bl_mps_read.specs.Columns.{marker_read, column_added}
use Rattle.bl_mps_read.specs.Fields.{EntryFields, pair_in, entry_in}
use Rattle.bl_mps_read.specs.Numbers.{pair_read}
use Rattle.bl_mps_read.specs.Rows.{RowList}
use Rattle.bl_mps_read.specs.Stops.{◌>>=◌, taken_up}
use Rattle.bl_mps.proofs.Agrees.{Read, Agrees, agrees_ok, agrees_then, agrees_then_two, agrees_last, agrees_more}
use Rattle.bl_mps.proofs.Agrees.{agrees_map, agrees_cond}
use Rattle.bl_mps.proofs.Names.{AreDistinct, StandsAt, stands_at, same_true, same_from, differ_false, bool_false}
use Rattle.bl_mps.proofs.Names.{named-append, named-position, named_false_from, named_false_at, named_true_from}
use Rattle.bl_mps.proofs.Names.{distinct_push, distinct_places, fresh_distinct, table_at, table_same, table_set}
use Rattle.bl_mps.proofs.Names.{table_push}
use Rattle.bl_mps.proofs.Pairs.{pairs_agree, IsPairRead, pair_agrees}
use Rattle.bl_mps.proofs.Rows.{RowsHold, IsBounded, slot_of, zip_length}
use Rattle.bl_mps.proofs.Slots.{numbers_for, put_slot, put_number}
use Rattle.bl_mps.proofs.Bounds.{bounds_for, bounds_of}
use Rattle.bl_mps.proofs.ColumnNames.{named_columns, appended_distinct, columns_of-push, column_lines-marker, pairs_of}
use Rattle.bl_mps.proofs.ColumnNames.{pairs_on-push, pairs_on-none, inside_after, inside_after-push, marked_kept}
use Rattle.bl_mps.proofs.ColumnNames.{marked_new, last_of, named_take}

-- ---- what is kept of the lines

pub record ColumnsHold (lines columns limits : List (List Bytes)) (rows : RowList) (list : ColumnList) : Type 0 where
  pub names : list.names ≡ columns_of columns
  pub distinct : AreDistinct list.names
  pub numbers : list.numbers ≡ map (λ column. numbers_for lines (pairs_on column columns)) list.names
  pub bounds : list.bounds ≡ bounds_of (λ column. is_marked column columns) limits list.names
  pub count : length list.marks ≡ length rows.names
  pub most : (k : ℕ) → k < length rows.names → get_or list.marks k 0 ≤ length list.names
  pub marks : (k : ℕ) → k < length rows.names → 0 < length list.names
      → eqb (get_or list.marks k 0) (length list.names)
      ≡ is_named (names_in (pairs_on (last_of list.names) columns)) (get_or rows.names k [])
  pub inside : list.inside ≡ inside_after false columns

-- what holds while the pairs of the last column are given, where these are its pairs so far
pub record LastHolds (lines columns : List (List Bytes)) (rows : RowList) (name : Bytes) (begun : ColumnList)
    (pairs : List (Bytes × Bytes)) (list : ColumnList) : Type 0 where
  pub names : list.names ≡ begun.names
  pub bounds : list.bounds ≡ begun.bounds
  pub inside : list.inside ≡ begun.inside
  pub numbers : list.numbers
      ≡ map (λ column. numbers_for lines (cond (bytes_eq column name) pairs (pairs_on column columns))) begun.names
  pub count : length list.marks ≡ length rows.names
  pub most : (k : ℕ) → k < length rows.names → get_or list.marks k 0 ≤ length begun.names
  pub marks : (k : ℕ) → k < length rows.names
      → eqb (get_or list.marks k 0) (length begun.names) ≡ is_named (names_in pairs) (get_or rows.names k [])

-- ---- one pair

last_none : {X : Type 0} (fault : Option MpsRule) (read : Result X MpsRule) (P : X → Type 0) → Agrees fault read P
    → Agrees (first_of (fault ∷ None ∷ [])) read P
last_none (Some rule) read P h = h
last_none None read P h = h

eqb_apart : (m n : ℕ) → m ≢ n → eqb m n ≡ false
eqb_apart m n other = bool_false (eqb m n) (λ e. other (eqb-true m n e))

or_nothing : (a : Bool) → (a || (false || false)) ≡ a
or_nothing true = refl
or_nothing false = refl

or_all : (a : Bool) → (a || (true || false)) ≡ true
or_all true = refl
or_all false = refl

named_push : (pairs : List (Bytes × Bytes)) (pair : Bytes × Bytes) (name : Bytes)
    → is_named (names_in (pairs ++ pair ∷ [])) name
    ≡ (is_named (names_in pairs) name || (bytes_eq name pair.0 || false))
named_push pairs pair name =
    ap (λ (ns : List Bytes). is_named ns name) (map_push (λ (p : Bytes × Bytes). p.0) pairs pair)
    ∙ named-append (names_in pairs) (pair.0 ∷ []) name

mark_step : {X : Type 0} (there : Bool) (marks : List ℕ) (f : List ℕ → X) (P : X → Type 0)
    → (there ≡ false → P (f marks))
    → Agrees (when there rules.DuplicateEntry) (cond there (Err rules.DuplicateEntry) (Ok marks) >>= λ ms. Ok (f ms)) P
mark_step true marks f P g = refl
mark_step false marks f P g = record { value = f marks; is = refl; holds = g refl }

module _ (lines columns : List (List Bytes)) (rows : RowList) (h : RowsHold lines rows) (name : Bytes)
    (begun_list : ColumnList) (distinct : AreDistinct begun_list.names)
    (last : StandsAt begun_list.names name (length begun_list.names - 1)) where
  abbrev Given : List (Bytes × Bytes) → ColumnList → Type 0
  Given pairs list = LastHolds lines columns rows name begun_list pairs list

  abbrev numbers_at : List (Bytes × Bytes) → Bytes → List ℤ
  numbers_at pairs column = numbers_for lines (cond (bytes_eq column name) pairs (pairs_on column columns))

  own_numbers : (pairs : List (Bytes × Bytes)) → numbers_at pairs name ≡ numbers_for lines pairs
  own_numbers pairs = ap (λ (t : Bool). numbers_for lines (cond t pairs (pairs_on name columns)))
      (same_true name name refl)

  other_numbers : (pairs more : List (Bytes × Bytes)) (column : Bytes) → column ≢ name
      → numbers_at pairs column ≡ numbers_at more column
  other_numbers pairs more column other = rw (differ_false column name other) refl

  same_numbers : (pairs more : List (Bytes × Bytes)) (column : Bytes) (test : Bool)
      → numbers_for lines pairs ≡ numbers_for lines more
      → numbers_for lines (cond test pairs (pairs_on column columns))
      ≡ numbers_for lines (cond test more (pairs_on column columns))
  same_numbers pairs more column true e = e
  same_numbers pairs more column false e = refl

  -- the numbers with that of a pair
  set_numbers : (pairs : List (Bytes × Bytes)) (pair : Bytes × Bytes) (z : ℤ) (numbers : List (List ℤ))
      (slot : Option ℕ) → numbers ≡ map (numbers_at pairs) begun_list.names
      → put_slot slot z (numbers_for lines pairs) ≡ numbers_for lines (pairs ++ pair ∷ [])
      → number_set numbers slot z ≡ map (numbers_at (pairs ++ pair ∷ [])) begun_list.names
  set_numbers pairs pair z numbers None are put =
      are ∙ table_same (numbers_at pairs) (numbers_at (pairs ++ pair ∷ [])) begun_list.names (λ k lt.
      same_numbers pairs (pairs ++ pair ∷ []) (get_or begun_list.names k [])
      (bytes_eq (get_or begun_list.names k []) name) put)
  set_numbers pairs pair z numbers (Some slot) are put =
      let size : length numbers - 1 ≡ length begun_list.names - 1 =
      ap (λ (ns : List (List ℤ)). length ns - 1) are
      ∙ ap (λ (n : ℕ). n - 1) (length-map begun_list.names (numbers_at pairs)) in
      let old : get_or numbers (length numbers - 1) [] ≡ numbers_for lines pairs =
      ap (λ (i : ℕ). get_or numbers i []) size
      ∙ ap (λ (ns : List (List ℤ)). get_or ns (length begun_list.names - 1) []) are
      ∙ table_at (numbers_at pairs) begun_list.names (length begun_list.names - 1) name [] last ∙ own_numbers pairs in
      let new : set (get_or numbers (length numbers - 1) []) slot z ≡ numbers_at (pairs ++ pair ∷ []) name =
      ap (λ (ns : List ℤ). set ns slot z) old ∙ put ∙ sym (own_numbers (pairs ++ pair ∷ [])) in
      ap (λ (i : ℕ). set numbers i (set (get_or numbers (length numbers - 1) []) slot z)) size
      ∙ ap (set numbers (length begun_list.names - 1)) new
      ∙ ap (λ (ns : List (List ℤ)). set ns (length begun_list.names - 1) (numbers_at (pairs ++ pair ∷ []) name)) are
      ∙ table_set (numbers_at pairs) (numbers_at (pairs ++ pair ∷ [])) begun_list.names
      (length begun_list.names - 1) name distinct last (λ n other. other_numbers pairs (pairs ++ pair ∷ []) n other)

  -- the marks with that of a pair
  marks_at : (pairs : List (Bytes × Bytes)) (pair : Bytes × Bytes) (list : ColumnList) → Given pairs list → (row : ℕ)
      → StandsAt rows.names pair.0 row → (k : ℕ) → k < length rows.names → (k ≡ row) ⊎ (k ≢ row)
      → (get_or (set list.marks row (length begun_list.names)) k 0 ≤ length begun_list.names)
      × (eqb (get_or (set list.marks row (length begun_list.names)) k 0) (length begun_list.names)
      ≡ is_named (names_in (pairs ++ pair ∷ [])) (get_or rows.names k []))
  marks_at pairs pair list g row at k lt (inl same) =
      let here : get_or (set list.marks row (length begun_list.names)) k 0 ≡ length begun_list.names =
      ap (λ (i : ℕ). get_or (set list.marks row (length begun_list.names)) i 0) same
      ∙ get_or-set_same list.marks row (length begun_list.names) 0 (omega (arith, g.count, at.within)) in
      let is : get_or rows.names k [] ≡ pair.0 = ap (λ (i : ℕ). get_or rows.names i []) same ∙ at.is in (
        omega (arith, here),
        eq-eqb _ _ here ∙ sym
            (named_push pairs pair (get_or rows.names k [])
            ∙ rw (same_true (get_or rows.names k []) pair.0 is)
            (or_all (is_named (names_in pairs) (get_or rows.names k [])))),
      )
  marks_at pairs pair list g row at k lt (inr other) =
      let there : get_or (set list.marks row (length begun_list.names)) k 0 ≡ get_or list.marks k 0 =
      get_or-set_other list.marks row k (length begun_list.names) 0 other in
      let apart : bytes_eq (get_or rows.names k []) pair.0 ≡ false =
      differ_false (get_or rows.names k []) pair.0
      (λ e. distinct_places rows.names h.distinct k row lt at.within other (e ∙ sym at.is)) in (
        omega (arith, there, g.most k lt),
        ap (λ (m : ℕ). eqb m (length begun_list.names)) there ∙ g.marks k lt
            ∙ sym (named_push pairs pair (get_or rows.names k [])
            ∙ rw apart (or_nothing (is_named (names_in pairs) (get_or rows.names k [])))),
      )

  given_more : (pairs : List (Bytes × Bytes)) (pair : Bytes × Bytes) (list : ColumnList) → Given pairs list
      → (row : ℕ) (z : ℤ) → StandsAt rows.names pair.0 row → number pair.1 ≡ z
      → is_named (names_in pairs) pair.0 ≡ false
      → Given (pairs ++ pair ∷ []) (record {
        names = list.names;
        numbers = number_set list.numbers (get_or rows.slots row None) z;
        bounds = list.bounds;
        marks = set list.marks row (length list.names);
        inside = list.inside;
      })
  given_more pairs pair list g row z at value fresh =
      let count : length list.names ≡ length begun_list.names = ap length g.names in
      let slot : get_or rows.slots row None ≡ slot_of lines pair.0 =
      ap (λ (ss : List (Option ℕ)). get_or ss row None) h.slots
      ∙ table_at (slot_of lines) rows.names row pair.0 None at in
      let fresh_rows = fresh_distinct (row_names lines) (subst AreDistinct h.names h.distinct) in
      let put : put_slot (get_or rows.slots row None) z (numbers_for lines pairs)
      ≡ numbers_for lines (pairs ++ pair ∷ []) =
      ap (λ (s : Option ℕ). put_slot s z (numbers_for lines pairs)) slot
      ∙ put_number lines fresh_rows pairs pair z fresh value in
      record {
        names = g.names;
        bounds = g.bounds;
        inside = g.inside;
        numbers = set_numbers pairs pair z list.numbers (get_or rows.slots row None) g.numbers put;
        count = length-set list.marks row (length list.names) ∙ g.count;
        most = λ k lt. rw count (marks_at pairs pair list g row at k lt (cases_eq k row)).0;
        marks = λ k lt. rw count (marks_at pairs pair list g row at k lt (cases_eq k row)).1;
      }

  coefficient_agrees : (pairs : List (Bytes × Bytes)) (list : ColumnList) (pair : Bytes × Bytes) → Given pairs list
      → Agrees (pair_fault rows.names MAX_NUMBER None (names_in pairs) pair) (coefficient_given rows list pair)
      (Given (pairs ++ pair ∷ []))
  unfolding coefficient_given
  coefficient_agrees pairs list pair g =
      agrees_then_two (unless (is_named rows.names pair.0) rules.UnknownRow) (number_fault MAX_NUMBER pair.1)
      (when (is_named (names_in pairs) pair.0) rules.DuplicateEntry ∷ None ∷ [])
      (pair_read rows.names MAX_NUMBER pair) (IsPairRead rows.names MAX_NUMBER pair)
      (λ read. marked list.marks read.0 (length list.names) >>= λ marks. Ok (record {
        names = list.names;
        numbers = number_set list.numbers (get_or rows.slots read.0 None) read.1;
        bounds = list.bounds;
        marks = marks;
        inside = list.inside;
      })) (Given (pairs ++ pair ∷ [])) (pair_agrees rows.names MAX_NUMBER pair)
      (λ read p.
      let there : eqb (get_or list.marks read.0 0) (length list.names) ≡ is_named (names_in pairs) pair.0 =
      ap (λ (ns : List Bytes). eqb (get_or list.marks read.0 0) (length ns)) g.names ∙ g.marks read.0 p.stands.within
      ∙ ap (is_named (names_in pairs)) p.stands.is in
      last_none (when (is_named (names_in pairs) pair.0) rules.DuplicateEntry) _ (Given (pairs ++ pair ∷ []))
      (rw there (mark_step (is_named (names_in pairs) pair.0) (set list.marks read.0 (length list.names))
      (λ marks. record {
        names = list.names;
        numbers = number_set list.numbers (get_or rows.slots read.0 None) read.1;
        bounds = list.bounds;
        marks = marks;
        inside = list.inside;
      }) (Given (pairs ++ pair ∷ [])) (λ fresh. given_more pairs pair list g read.0 read.1 p.stands p.number fresh))))

-- ---- the column of a line

pub record IsBegun (lines columns : List (List Bytes)) (rows : RowList) (line : List Bytes)
    (list : ColumnList) : Type 0 where
  pub names : list.names ≡ appended (columns_of columns) (field 0 line)
  pub distinct : AreDistinct list.names
  pub last : StandsAt list.names (field 0 line) (length list.names - 1)
  pub bounds : list.bounds ≡ bounds_of (λ column. is_marked column (columns ++ line ∷ [])) [] list.names
  pub inside : list.inside ≡ inside_after false columns
  pub holds : LastHolds lines columns rows (field 0 line) list (pairs_on (field 0 line) columns) list

coefficient_none : (n : Bytes) → coefficient [] n ≡ pos 0
unfolding number_after
coefficient_none n = refl

zero_coefficients : (bounded : List Bytes) → map (coefficient []) bounded ≡ replicate (length bounded) (pos 0)
zero_coefficients [] = refl
zero_coefficients (x ∷ xs) = rw (coefficient_none x, zero_coefficients xs) refl

no_cost : (o : Option Bytes) → option_map_or (coefficient []) o (pos 0) ≡ pos 0
no_cost None = refl
no_cost (Some x) = coefficient_none x

room_step : {X : Type 0} (room : Bool) (x : X) (P : X → Type 0) → P x
    → Agrees (unless room rules.TooMany) (cond room (Ok x) (Err rules.TooMany)) P
room_step true x P p = record { value = x; is = refl; holds = p }
room_step false x P p = refl

own_step : {X : Type 0} (own : Bool) (x : X) (P : X → Type 0) → (own ≡ true → P x)
    → Agrees (first_of (when (not own) rules.DuplicateColumn ∷ None ∷ []))
    (cond own (Ok x) (Err rules.DuplicateColumn)) P
own_step true x P p = record { value = x; is = refl; holds = p refl }
own_step false x P p = refl

named_take_false : (names : List Bytes) (name : Bytes) (n : ℕ) → is_named names name ≡ false
    → is_named (take n names) name ≡ false
named_take_false names name n f =
    named_false_from (take n names) name (λ k d lt e.
    named_false_at names name f k d (omega (arith, lt, length-take n names))
    (sym (get_or-take n names k d (omega (arith, lt, length-take n names))) ∙ e))

bool_not : (a b : Bool) → (a ≡ true → b ≡ false) → (a ≡ false → b ≡ true) → b ≡ not a
bool_not true b f g = f refl
bool_not false b f g = g refl

module _ (lines columns : List (List Bytes)) (rows : RowList) (h : RowsHold lines rows) (list : ColumnList)
    (g : ColumnsHold lines columns [] rows list) (line : List Bytes) (plain : is_marker line ≡ false) where
  abbrev own_name : Bytes
  own_name = field 0 line

  numbers_zero : numbers_for lines [] ≡ replicate (length rows.bounded + 1) (pos 0)
  numbers_zero =
      let size : length (row_names (bounded_rows lines)) ≡ length rows.bounded =
      length-map (bounded_rows lines) (field 1)
      ∙ zip_length (IsBounded rows.names) (bounded_rows lines) rows.bounded h.bounded in
      ap (λ (z : ℤ). z ∷ map (coefficient []) (row_names (bounded_rows lines))) (no_cost (objective_of lines))
      ∙ ap (λ (zs : List ℤ). pos 0 ∷ zs) (zero_coefficients (row_names (bounded_rows lines)))
      ∙ ap (λ (n : ℕ). replicate n (pos 0))
      (sym (add-one (length (row_names (bounded_rows lines)))) ∙ ap (λ (n : ℕ). n + 1) size)

  named_there : (k : ℕ) → k < length list.names → is_named (columns_of columns) (get_or list.names k []) ≡ true
  named_there k lt = ap (λ (ns : List Bytes). is_named ns (get_or list.names k [])) (sym g.names)
      ∙ named_true_from list.names (get_or list.names k []) k [] lt refl

  kept_bounds : list.bounds ≡ bounds_of (λ column. is_marked column (columns ++ line ∷ [])) [] list.names
  kept_bounds =
      g.bounds ∙ table_same (λ column. bounds_for (is_marked column columns) [])
      (λ column. bounds_for (is_marked column (columns ++ line ∷ [])) []) list.names
      (λ k lt. ap (λ (t : Bool). bounds_for t [])
      (sym (marked_kept (get_or list.names k []) columns line (named_there k lt))))

  pairs_same : (column : Bytes) (test : Bool) → bytes_eq column own_name ≡ test
      → pairs_on column columns ≡ cond test (pairs_on own_name columns) (pairs_on column columns)
  pairs_same column true t = ap (λ (n : Bytes). pairs_on n columns) (same_from column own_name t)
  pairs_same column false t = refl

  kept_numbers : map (λ column. numbers_for lines (pairs_on column columns)) list.names
      ≡ map (λ column. numbers_for lines
      (cond (bytes_eq column own_name) (pairs_on own_name columns) (pairs_on column columns))) list.names
  kept_numbers =
      table_same (λ column. numbers_for lines (pairs_on column columns))
      (λ column. numbers_for lines
      (cond (bytes_eq column own_name) (pairs_on own_name columns) (pairs_on column columns))) list.names
      (λ k lt. ap (numbers_for lines)
      (pairs_same (get_or list.names k []) (bytes_eq (get_or list.names k []) own_name) refl))

  appended_is : (there : Bool) → is_named list.names own_name ≡ there
      → cond there list.names (list.names ++ own_name ∷ []) ≡ appended (columns_of columns) own_name
  appended_is there e =
      ap (λ (t : Bool). cond t list.names (list.names ++ own_name ∷ [])) (sym e)
      ∙ ap (λ (ns : List Bytes). appended ns own_name) g.names

  -- the column is there, and is the last
  begun_old : (place : ℕ) → StandsAt list.names own_name place → place + 1 ≡ length list.names
      → IsBegun lines columns rows line list
  begun_old place at end =
      let last : StandsAt list.names own_name (length list.names - 1) =
      record {
        within = omega (arith, at.within);
        is =
            ap (λ (i : ℕ). get_or list.names i []) (omega arith) ∙ at.is;
      } in
      record {
        names = appended_is true (named_true_from list.names own_name place [] at.within at.is);
        distinct = g.distinct;
        last = last;
        bounds = kept_bounds;
        inside = g.inside;
        holds = record {
          names = refl;
          bounds = refl;
          inside = refl;
          numbers = g.numbers ∙ kept_numbers;
          count = g.count;
          most = g.most;
          marks = λ k lt. g.marks k lt (omega (arith, at.within))
              ∙ ap (λ (n : Bytes). is_named (names_in (pairs_on n columns)) (get_or rows.names k [])) last.is;
        };
      }

  -- the column isn't there, and begins
  begun_new : is_named list.names own_name ≡ false → IsBegun lines columns rows line (record {
    names = list.names ++ own_name ∷ [];
    numbers = list.numbers ++ replicate (length rows.bounded + 1) (pos 0) ∷ [];
    bounds = list.bounds ++ no_bounds list.inside ∷ [];
    marks = list.marks;
    inside = list.inside;
  })
  begun_new fresh =
      let absent : is_named (columns_of columns) own_name ≡ false =
      ap (λ (ns : List Bytes). is_named ns own_name) (sym g.names) ∙ fresh in
      let none : pairs_on own_name columns ≡ [] = pairs_on-none own_name columns absent in
      let more = length_push list.names own_name in
      let own : no_bounds list.inside ≡ bounds_for (is_marked own_name (columns ++ line ∷ [])) [] =
      sym (ap (λ (t : Bool). bounds_for t []) (marked_new own_name columns line absent plain refl ∙ sym g.inside)
      ∙ integer_is list.inside) in
      let zeros : replicate (length rows.bounded + 1) (pos 0)
      ≡ numbers_for lines (cond (bytes_eq own_name own_name) (pairs_on own_name columns)
      (pairs_on own_name columns)) =
      sym (ap (λ (t : Bool). numbers_for lines (cond t (pairs_on own_name columns) (pairs_on own_name columns)))
      (same_true own_name own_name refl) ∙ ap (numbers_for lines) none ∙ numbers_zero) in
      record {
        names = appended_is false fresh;
        distinct = distinct_push list.names own_name g.distinct fresh;
        last = record {
          within = omega (arith, more);
          is =
              get_or_push list.names own_name [] (length (list.names ++ own_name ∷ []) - 1) (omega (arith, more));
        };
        bounds = ap (λ (bs : List Bounds). bs ++ no_bounds list.inside ∷ []) kept_bounds
            ∙ ap (λ (b : Bounds). bounds_of (λ column. is_marked column (columns ++ line ∷ [])) [] list.names ++ b
            ∷ []) own
            ∙ sym (map_push (λ column. bounds_for (is_marked column (columns ++ line ∷ [])) []) list.names own_name);
        inside = g.inside;
        holds = record {
          names = refl;
          bounds = refl;
          inside = refl;
          numbers = ap (λ (ns : List (List ℤ)). ns ++ replicate (length rows.bounded + 1) (pos 0) ∷ [])
              (g.numbers ∙ kept_numbers)
              ∙ ap (λ (z : List ℤ). map
              (λ column. numbers_for lines
              (cond (bytes_eq column own_name) (pairs_on own_name columns) (pairs_on column columns))) list.names
              ++ z ∷ []) zeros
              ∙ sym (map_push (λ column. numbers_for lines
              (cond (bytes_eq column own_name) (pairs_on own_name columns) (pairs_on column columns))) list.names
              own_name);
          count = g.count;
          most = λ k lt. omega (arith, g.most k lt, more);
          marks = λ k lt. eqb_apart _ _ (λ e. omega (arith, e, g.most k lt, more))
              ∙ sym (ap (λ (ps : List (Bytes × Bytes)). is_named (names_in ps) (get_or rows.names k [])) none);
        };
      }
    where
      integer_is : (inside : Bool) → bounds_for inside [] ≡ no_bounds inside
      integer_is true = refl
      integer_is false = refl

  taken_last : (place : ℕ) → StandsAt list.names own_name place
      → is_named (take (length list.names - 1) list.names) own_name ≡ not (eqb (place + 1) (length list.names))
  taken_last place at =
      bool_not (eqb (place + 1) (length list.names)) (is_named (take (length list.names - 1) list.names) own_name)
      (λ e.
      let end : place + 1 ≡ length list.names = eqb-true _ _ e in
      named_false_from (take (length list.names - 1) list.names) own_name (λ k d lt q.
      let lt' : k < length list.names - 1 = omega (arith, lt, length-take (length list.names - 1) list.names) in
      distinct_places list.names g.distinct k place (omega arith) at.within (λ same. omega arith)
      (get_or_default list.names k [] d (omega arith) ∙ sym (get_or-take (length list.names - 1) list.names k d lt')
      ∙ q ∙ sym at.is)))
      (λ e.
      let other : place + 1 ≢ length list.names = λ same. false≢true (sym e ∙ eq-eqb _ _ same) in
      let lt : place < length list.names - 1 =
      elim (cases_eq (place + 1) (length list.names))
      [ inl same ↦ absurd (other same) | inr apart ↦ omega (arith, at.within, apart) ] in
      named_take list.names own_name (length list.names - 1) place lt (omega arith) at.is)

  begin_by : (place : Option ℕ) → position (bytes_eq own_name) list.names ≡ place
      → Agrees (name_fault list.names own_name) (begun_at place rows list own_name) (IsBegun lines columns rows line)
  begin_by None e =
      let fresh : is_named list.names own_name ≡ false = named-position list.names own_name None e in
      rw (named_take_false list.names own_name (length list.names - 1) fresh, fresh)
      (agrees_last (unless (ltb (length list.names) MAX_COLUMNS) rules.TooMany) _ (IsBegun lines columns rows line)
      (room_step (ltb (length list.names) MAX_COLUMNS) _ (IsBegun lines columns rows line) (begun_new fresh)))
  begin_by (Some place) e =
      let at = stands_at list.names own_name place e in
      rw (taken_last place at, named-position list.names own_name (Some place) e)
      (own_step (eqb (place + 1) (length list.names)) list (IsBegun lines columns rows line)
      (λ q. begun_old place at (eqb-true _ _ q)))

  begin_agrees : Agrees (name_fault (columns_of columns) own_name) (begun rows list own_name)
      (IsBegun lines columns rows line)
  unfolding begun
  begin_agrees = subst
      (λ (ns : List Bytes). Agrees (name_fault ns own_name)
      (begun_at (position (bytes_eq own_name) list.names) rows list own_name) (IsBegun lines columns rows line))
      g.names (begin_by (position (bytes_eq own_name) list.names) refl)

  -- ---- the pairs of the line

  own_pairs : (column : Bytes) (test : Bool) → bytes_eq column own_name ≡ test
      → cond test (pairs_on own_name columns ++ pairs_of line) (pairs_on column columns) ≡ pairs_on column columns
      ++ cond test (pairs_of line) []
  own_pairs column true t = ap (λ (n : Bytes). pairs_on n columns ++ pairs_of line) (sym (same_from column own_name t))
  own_pairs column false t = sym (append-nil (pairs_on column columns))

  pairs_more : (column : Bytes)
      → cond (bytes_eq column own_name) (pairs_on own_name columns ++ pairs_of line) (pairs_on column columns)
      ≡ pairs_on column (columns ++ line ∷ [])
  pairs_more column = own_pairs column (bytes_eq column own_name) refl ∙ sym (pairs_on-push column columns line plain)

  own_more : pairs_on own_name columns ++ pairs_of line ≡ pairs_on own_name (columns ++ line ∷ [])
  own_more = ap (λ (t : Bool). cond t (pairs_on own_name columns ++ pairs_of line) (pairs_on own_name columns))
      (sym (same_true own_name own_name refl)) ∙ pairs_more own_name

  finished : (s t : ColumnList) → IsBegun lines columns rows line s
      → LastHolds lines columns rows own_name s (pairs_on own_name columns ++ pairs_of line) t
      → ColumnsHold lines (columns ++ line ∷ []) [] rows t
  finished s t b l =
      let last : last_of t.names ≡ own_name = ap last_of l.names ∙ b.last.is in
      let size : length t.names ≡ length s.names = ap length l.names in
      record {
        names = l.names ∙ b.names ∙ sym (columns_of-push columns line plain);
        distinct = subst AreDistinct (sym l.names) b.distinct;
        numbers = l.numbers
            ∙ table_same (λ column. numbers_for lines
            (cond (bytes_eq column own_name) (pairs_on own_name columns ++ pairs_of line)
            (pairs_on column columns)))
            (λ column. numbers_for lines (pairs_on column (columns ++ line ∷ []))) s.names
            (λ k lt. ap (numbers_for lines) (pairs_more (get_or s.names k [])))
            ∙ ap (map (λ column. numbers_for lines (pairs_on column (columns ++ line ∷ [])))) (sym l.names);
        bounds = l.bounds ∙ b.bounds
            ∙ ap (bounds_of (λ column. is_marked column (columns ++ line ∷ [])) []) (sym l.names);
        count = l.count;
        most = λ k lt. omega (arith, l.most k lt, size);
        marks = λ k lt some. ap (eqb (get_or t.marks k 0)) size ∙ l.marks k lt
            ∙ ap (λ (ps : List (Bytes × Bytes)). is_named (names_in ps) (get_or rows.names k [])) own_more
            ∙ ap (λ (n : Bytes). is_named (names_in (pairs_on n (columns ++ line ∷ []))) (get_or rows.names k []))
            (sym last);
        inside = l.inside ∙ b.inside
            ∙ sym (inside_after-push false columns line
            ∙ ap (λ (m : Bool). cond m (begins_integers line) (inside_after false columns)) plain);
      }

  pairs_step : (s : ColumnList) → IsBegun lines columns rows line s
      → Agrees (first_of (pairs_fault (row_names lines) MAX_NUMBER None (names_in (pairs_on own_name columns))
      (pairs_of line) ∷ [])) (taken_up (coefficient_given rows) s (pairs_of line))
      (ColumnsHold lines (columns ++ line ∷ []) [] rows)
  pairs_step s b =
      agrees_last (pairs_fault (row_names lines) MAX_NUMBER None (names_in (pairs_on own_name columns))
      (pairs_of line)) (taken_up (coefficient_given rows) s (pairs_of line))
      (ColumnsHold lines (columns ++ line ∷ []) [] rows)
      (agrees_more (pairs_fault (row_names lines) MAX_NUMBER None (names_in (pairs_on own_name columns))
      (pairs_of line)) (taken_up (coefficient_given rows) s (pairs_of line))
      (LastHolds lines columns rows own_name s (pairs_on own_name columns ++ pairs_of line))
      (ColumnsHold lines (columns ++ line ∷ []) [] rows) (λ t l. finished s t b l)
      (subst (λ (ns : List Bytes). Agrees
      (pairs_fault ns MAX_NUMBER None (names_in (pairs_on own_name columns)) (pairs_of line))
      (taken_up (coefficient_given rows) s (pairs_of line))
      (LastHolds lines columns rows own_name s (pairs_on own_name columns ++ pairs_of line))) h.names
      (pairs_agree rows.names MAX_NUMBER None (coefficient_given rows) (LastHolds lines columns rows own_name s)
      (λ ps l pair q. coefficient_agrees lines columns rows h own_name s b.distinct b.last ps l pair q)
      (pairs_on own_name columns) s (pairs_of line) b.holds)))

-- ---- one line

apart_six : (n k : ℕ) → k < 6 → eqb (suc (suc (suc (suc (suc (suc n)))))) k ≡ false
apart_six n k lt = eqb_apart _ k (λ e. omega arith)

-- the name and the pairs of a line
record IsEntry (line : List Bytes) (entry : EntryFields) : Type 0 where
  name : entry.name ≡ field 0 line
  pairs : entry.pairs ≡ pairs_of line

entry_read : (line : List Bytes)
    → Agrees (unless (eqb (length line) 3 || eqb (length line) 5) rules.BadFields)
    (ok_or (entry_in line) rules.BadFields) (IsEntry line)
entry_read [] = refl
entry_read (a ∷ []) = refl
entry_read (a ∷ b ∷ []) = refl
entry_read (a ∷ b ∷ c ∷ []) =
    record { value = record { name = a; pairs = (b, c) ∷ [] }; is = refl; holds = record { name = refl; pairs = refl } }
entry_read (a ∷ b ∷ c ∷ d ∷ []) = refl
entry_read (a ∷ b ∷ c ∷ d ∷ e ∷ []) =
    record {
      value = record { name = a; pairs = (b, c) ∷ (d, e) ∷ [] };
      is = refl;
      holds =
          record { name = refl; pairs = refl };
    }
entry_read (a ∷ b ∷ c ∷ d ∷ e ∷ f ∷ more) =
    rw (apart_six (length more) 3 (omega arith), apart_six (length more) 5 (omega arith)) refl

marker_two : (org end : Bool)
    → Agrees (unless (org || end) rules.BadFields) (cond org (Ok true) (cond end (Ok false) (Err rules.BadFields)))
    (λ inside. inside ≡ org)
marker_two true end = record { value = true; is = refl; holds = refl }
marker_two false true = record { value = false; is = refl; holds = refl }
marker_two false false = refl

apart_four : (n k : ℕ) → k < 4 → eqb (suc (suc (suc (suc n)))) k ≡ false
apart_four n k lt = eqb_apart _ k (λ e. omega arith)

marker_agrees : (line : List Bytes)
    → Agrees (marker_fault line) (marker_read line) (λ inside. inside ≡ begins_integers line)
marker_agrees [] = refl
marker_agrees (a ∷ []) = refl
marker_agrees (a ∷ b ∷ []) = refl
marker_agrees (a ∷ b ∷ c ∷ []) =
    agrees_last _ _ _ (marker_two (bytes_eq c (codes "'INTORG'")) (bytes_eq c (codes "'INTEND'")))
marker_agrees (a ∷ b ∷ c ∷ d ∷ more) = rw (apart_four (length more) 3 (omega arith)) refl

module _ (lines columns : List (List Bytes)) (rows : RowList) (h : RowsHold lines rows) (list : ColumnList)
    (g : ColumnsHold lines columns [] rows list) where
  with_marker : (line : List Bytes) → is_marker line ≡ true → (inside : Bool) → inside ≡ begins_integers line
      → ColumnsHold lines (columns ++ line ∷ []) [] rows
      (record {
        names = list.names;
        numbers = list.numbers;
        bounds = list.bounds;
        marks = list.marks;
        inside =
            inside;
      })
  with_marker line m inside i =
      let same = column_lines-marker columns line m in
      let on : (column : Bytes) → pairs_on column columns ≡ pairs_on column (columns ++ line ∷ []) =
      λ column. ap (λ (ls : List (List Bytes)). flat_map pairs_of
      (filter (λ (l : List Bytes). bytes_eq column (field 0 l)) ls)) (sym same) in
      record {
        names = g.names ∙ ap (λ (ls : List (List Bytes)). fold appended [] (map (field 0) ls)) (sym same);
        distinct = g.distinct;
        numbers = g.numbers ∙ table_same (λ column. numbers_for lines (pairs_on column columns))
            (λ column. numbers_for lines (pairs_on column (columns ++ line ∷ []))) list.names
            (λ k lt. ap (numbers_for lines) (on (get_or list.names k [])));
        bounds = g.bounds ∙ table_same (λ column. bounds_for (is_marked column columns) [])
            (λ column. bounds_for (is_marked column (columns ++ line ∷ [])) []) list.names
            (λ k lt. ap (λ (t : Bool). bounds_for t []) (sym (marked_kept (get_or list.names k []) columns line
            (ap (λ (ns : List Bytes). is_named ns (get_or list.names k [])) (sym g.names)
            ∙ named_true_from list.names (get_or list.names k []) k [] lt refl))));
        count = g.count;
        most = g.most;
        marks = λ k lt some. g.marks k lt some
            ∙ ap (λ (ps : List (Bytes × Bytes)). is_named (names_in ps) (get_or rows.names k []))
            (on (last_of list.names));
        inside = i ∙ sym (inside_after-push false columns line
            ∙ ap (λ (t : Bool). cond t (begins_integers line) (inside_after false columns)) m);
      }

  data_step : (line : List Bytes) → is_marker line ≡ false
      → Agrees (first_of (unless (eqb (length line) 3 || eqb (length line) 5) rules.BadFields
      ∷ name_fault (columns_of columns) (field 0 line)
      ∷ pairs_fault (row_names lines) MAX_NUMBER None (names_in (pairs_on (field 0 line) columns)) (pairs_of line)
      ∷ []))
      (ok_or (entry_in line) rules.BadFields >>= λ entry. begun rows list entry.name >>= λ more. taken_up
      (coefficient_given rows) more entry.pairs) (ColumnsHold lines (columns ++ line ∷ []) [] rows)
  data_step line plain =
      agrees_then (unless (eqb (length line) 3 || eqb (length line) 5) rules.BadFields)
      (name_fault (columns_of columns) (field 0 line)
      ∷ pairs_fault (row_names lines) MAX_NUMBER None (names_in (pairs_on (field 0 line) columns)) (pairs_of line)
      ∷ [])
      (ok_or (entry_in line) rules.BadFields) (IsEntry line)
      (λ entry. begun rows list entry.name >>= λ more. taken_up (coefficient_given rows) more entry.pairs)
      (ColumnsHold lines (columns ++ line ∷ []) [] rows)
      (entry_read line)
      (λ entry e. rw (e.name, e.pairs) (agrees_then (name_fault (columns_of columns) (field 0 line))
      (pairs_fault (row_names lines) MAX_NUMBER None (names_in (pairs_on (field 0 line) columns)) (pairs_of line) ∷ [])
      (begun rows list (field 0 line)) (IsBegun lines columns rows line)
      (λ more. taken_up (coefficient_given rows) more (pairs_of line))
      (ColumnsHold lines (columns ++ line ∷ []) [] rows) (begin_agrees lines columns rows h list g line plain)
      (λ s b. pairs_step lines columns rows h list g line plain s b)))

  -- One line under COLUMNS.
  pub column_step : (line : List Bytes)
      → Agrees (column_fault lines columns line) (column_added rows list line)
      (ColumnsHold lines (columns ++ line ∷ []) [] rows)
  unfolding column_added
  column_step line =
      agrees_cond (is_marker line) (marker_fault line) _
      (marker_read line >>= λ inside. Ok
      (record {
        names = list.names;
        numbers = list.numbers;
        bounds = list.bounds;
        marks = list.marks;
        inside =
            inside;
      })) _
      (ColumnsHold lines (columns ++ line ∷ []) [] rows)
      (λ m. agrees_map (marker_fault line) (marker_read line) (λ inside. inside ≡ begins_integers line)
      (λ inside. record {
        names = list.names;
        numbers = list.numbers;
        bounds = list.bounds;
        marks = list.marks;
        inside = inside;
      }) (ColumnsHold lines (columns ++ line ∷ []) [] rows)
      (λ inside i. with_marker line m inside i) (marker_agrees line))
      (λ plain. data_step line plain)

-- One row more changes nothing while there are no columns.
pub columns_wait : (lines more : List (List Bytes)) (rows next : RowList) (list : ColumnList)
    → ColumnsHold lines [] [] rows list → length next.names ≡ length rows.names + 1
    → ColumnsHold more [] [] next
    (record {
      names = list.names;
      numbers = list.numbers;
      bounds = list.bounds;
      marks = list.marks ++ 0 ∷ [];
      inside = list.inside;
    })
columns_wait lines more rows next list g size =
    let none : list.names ≡ [] = g.names in
    record {
      names = g.names;
      distinct = g.distinct;
      numbers = g.numbers ∙ ap (map (λ column. numbers_for lines (pairs_on column []))) none
          ∙ ap (map (λ column. numbers_for more (pairs_on column []))) (sym none);
      bounds = g.bounds;
      count = omega (arith, length_push list.marks 0, g.count, size);
      most = λ k lt. marked_zero k (cases_lt k (length list.marks)) (omega (arith, lt, size, g.count));
      marks = λ k lt some. absurd (omega (arith, ap length none, some));
      inside = g.inside;
    }
  where
    marked_zero : (k : ℕ) → (k < length list.marks) ⊎ (length list.marks ≤ k) → k < length list.marks + 1
        → get_or (list.marks ++ 0 ∷ []) k 0 ≤ length list.names
    marked_zero k (inl lt) le =
        omega (arith, get_or_append_left list.marks (0 ∷ []) 0 k lt, g.most k (omega (arith, lt, g.count)))
    marked_zero k (inr past) le = omega (arith, get_or_push list.marks 0 0 k (omega (arith, past, le)))
