-- The names of columns in order of first appearance, and the lines of a column.
use Rattle.std.proofs.Common.{◌≡◌, ◌≢◌, ℕ, suc, ◌+◌, ◌-◌, ◌<◌, ◌≤◌, Bool, true, false, cond, not, ◌||◌, eqb, ltb, List}
use Rattle.std.proofs.Common.{[], ◌∷◌, ◌++◌, length, get_or, take, drop, map, filter, fold, position, Option, Some}
use Rattle.std.proofs.Common.{None, is_some, Result, Ok, Err, refl, sym, ap, subst, ◌∙◌, arith, codes}
use Rattle.std.specs.List.{flat_map}
use Rattle.std.specs.Str.{bytes_eq}
use Rattle.std.proofs.lemmas.Bool.{false≢true, eqb-true, eq-eqb}
use Rattle.std.proofs.lemmas.List.{append-nil, map_push, length_push, get_or_push, get_or-take, length-take}
use Rattle.std.proofs.lemmas.List.Elements.{filter-append}
use Rattle.std.proofs.lemmas.List.Sums.{fold-append}
use Rattle.std.proofs.lemmas.Grind.{flat_map-append}
use Rattle.bl_mps_terms.specs.Words.{Bytes}
use Rattle.bl_mps_terms.specs.Parts.{field}
use Rattle.bl_mps_terms.specs.Rules.{is_named, pairs_from}
use Rattle.bl_mps_terms.specs.Lines.{is_marker, begins_integers, appended, column_lines, columns_of, pairs_on}
use Rattle.bl_mps_terms.specs.Lines.{is_marked_from, is_marked}
use Rattle.bl_mps.proofs.Names.{AreDistinct, StandsAt, same_true, same_from, differ_false, bool_false, or_false}
use Rattle.bl_mps.proofs.Names.{named-append, distinct_push, named_true_from}

-- ---- names in order of first appearance

-- the names of the columns of the lines
abbrev pub keys : List (List Bytes) → List Bytes
keys lines = map (field 0) (column_lines lines)

or_nothing : (a : Bool) → (a || false) ≡ a
or_nothing true = refl
or_nothing false = refl

appended_step : (test : Bool) (names : List Bytes) (name other : Bytes) → is_named names name ≡ test
    → is_named (cond test names (names ++ name ∷ [])) other ≡ (is_named names other || (bytes_eq other name || false))
appended_step false names name other e = named-append names (name ∷ []) other
appended_step true names name other e = by (bytes_eq other name) refl
  where
    all : (a : Bool) → (a || (true || false)) ≡ true
    all true = refl
    all false = refl

    by : (same : Bool) → bytes_eq other name ≡ same → is_named names other ≡ (is_named names other || (same || false))
    by false s = sym (or_nothing (is_named names other))
    by true s = let named : is_named names other ≡ true = ap (is_named names) (same_from other name s) ∙ e in
        named ∙ sym (all (is_named names other))

or_three : (a b c d : Bool) → d ≡ (a || (b || false)) → (d || c) ≡ (a || (b || c))
or_three true b c d e = rw e refl
or_three false true c d e = rw e refl
or_three false false c d e = rw e refl

fold_named : (names more : List Bytes) (other : Bytes)
    → is_named (fold appended names more) other ≡ (is_named names other || is_named more other)
fold_named names [] other = sym (or_nothing (is_named names other))
fold_named names (name ∷ more) other =
    fold_named (appended names name) more other
    ∙ or_three (is_named names other) (bytes_eq other name) (is_named more other)
    (is_named (appended names name) other) (appended_step (is_named names name) names name other refl)

pub named_columns : (lines : List (List Bytes)) (name : Bytes)
    → is_named (columns_of lines) name ≡ is_named (keys lines) name
named_columns lines name = fold_named [] (keys lines) name

distinct_step : (test : Bool) (names : List Bytes) (name : Bytes) → is_named names name ≡ test → AreDistinct names
    → AreDistinct (cond test names (names ++ name ∷ []))
distinct_step true names name e h = h
distinct_step false names name e h = distinct_push names name h e

pub appended_distinct : (names : List Bytes) (name : Bytes) → AreDistinct names → AreDistinct (appended names name)
appended_distinct names name h = distinct_step (is_named names name) names name refl h

-- ---- one line more

column_lines-push : (lines : List (List Bytes)) (line : List Bytes) (marker : Bool) → is_marker line ≡ marker
    → column_lines (lines ++ line ∷ []) ≡ column_lines lines ++ cond marker [] (line ∷ [])
column_lines-push lines line true e =
    filter-append (λ (l : List Bytes). not (is_marker l)) lines (line ∷ []) ∙ rw e refl
column_lines-push lines line false e =
    filter-append (λ (l : List Bytes). not (is_marker l)) lines (line ∷ []) ∙ rw e refl

pub column_lines-marker : (lines : List (List Bytes)) (line : List Bytes) → is_marker line ≡ true
    → column_lines (lines ++ line ∷ []) ≡ column_lines lines
column_lines-marker lines line e = column_lines-push lines line true e ∙ append-nil (column_lines lines)

pub columns_of-push : (lines : List (List Bytes)) (line : List Bytes) → is_marker line ≡ false
    → columns_of (lines ++ line ∷ []) ≡ appended (columns_of lines) (field 0 line)
columns_of-push lines line e =
    ap (λ (ls : List (List Bytes)). fold appended [] (map (field 0) ls)) (column_lines-push lines line false e)
    ∙ ap (fold appended []) (map_push (field 0) (column_lines lines) line)
    ∙ fold-append appended [] (keys lines) (field 0 line ∷ [])

-- the pairs of a line
abbrev pub pairs_of : List Bytes → List (Bytes × Bytes)
pairs_of line = pairs_from (drop 1 line)

on_step : (column : Bytes) (line : List Bytes) (test : Bool) → bytes_eq column (field 0 line) ≡ test
    → flat_map pairs_of (filter (λ (l : List Bytes). bytes_eq column (field 0 l)) (line ∷ []))
    ≡ cond test (pairs_of line) []
on_step column line true e = rw e (append-nil (pairs_of line))
on_step column line false e = rw e refl

pub pairs_on-push : (column : Bytes) (lines : List (List Bytes)) (line : List Bytes) → is_marker line ≡ false
    → pairs_on column (lines ++ line ∷ []) ≡ pairs_on column lines
    ++ cond (bytes_eq column (field 0 line)) (pairs_of line) []
pairs_on-push column lines line e =
    ap (λ (ls : List (List Bytes)). flat_map pairs_of (filter (λ (l : List Bytes). bytes_eq column (field 0 l)) ls))
    (column_lines-push lines line false e)
    ∙ ap (flat_map pairs_of)
    (filter-append (λ (l : List Bytes). bytes_eq column (field 0 l)) (column_lines lines) (line ∷ []))
    ∙ flat_map-append pairs_of (filter (λ (l : List Bytes). bytes_eq column (field 0 l)) (column_lines lines))
    (filter (λ (l : List Bytes). bytes_eq column (field 0 l)) (line ∷ []))
    ∙ ap (λ (ps : List (Bytes × Bytes)). pairs_on column lines ++ ps)
    (on_step column line (bytes_eq column (field 0 line)) refl)

none_on : (column : Bytes) (lines : List (List Bytes)) → is_named (map (field 0) lines) column ≡ false
    → flat_map pairs_of (filter (λ (l : List Bytes). bytes_eq column (field 0 l)) lines) ≡ []
none_on column [] f = refl
none_on column (line ∷ lines) f = let parts =
    or_false (bytes_eq column (field 0 line)) (is_named (map (field 0) lines) column) f in
    rw (parts.0) (none_on column lines parts.1)

-- a column that isn't there has no pairs
pub pairs_on-none : (column : Bytes) (lines : List (List Bytes)) → is_named (columns_of lines) column ≡ false
    → pairs_on column lines ≡ []
pairs_on-none column lines f = none_on column (column_lines lines) (sym (named_columns lines column) ∙ f)

-- ---- which columns are marked as integer

-- whether the columns that begin behind these lines are integer
unfoldable pub inside_after : Bool → List (List Bytes) → Bool
inside_after inside [] = inside
inside_after inside (line ∷ lines) = inside_after (cond (is_marker line) (begins_integers line) inside) lines

pub inside_after-push : (inside : Bool) (lines : List (List Bytes)) (line : List Bytes)
    → inside_after inside (lines ++ line ∷ [])
    ≡ cond (is_marker line) (begins_integers line) (inside_after inside lines)
unfolding inside_after
inside_after-push inside [] line = refl
inside_after-push inside (x ∷ lines) line = inside_after-push (cond (is_marker x) (begins_integers x) inside) lines line

kept_step : (marker same : Bool) (column : Bytes) (inside : Bool) (x : List Bytes) (lines : List (List Bytes))
    (line : List Bytes) → bytes_eq column (field 0 x) ≡ same
    → is_named (map (field 0) (cond (not marker) (x ∷ column_lines lines) (column_lines lines))) column ≡ true
    → ((within : Bool) → is_named (keys lines) column ≡ true
    → is_marked_from column within (lines ++ line ∷ []) ≡ is_marked_from column within lines)
    → cond marker (is_marked_from column (begins_integers x) (lines ++ line ∷ []))
    (cond same inside (is_marked_from column inside (lines ++ line ∷ [])))
    ≡ cond marker (is_marked_from column (begins_integers x) lines)
    (cond same inside (is_marked_from column inside lines))
kept_step true same column inside x lines line s h g = g (begins_integers x) h
kept_step false true column inside x lines line s h g = refl
kept_step false false column inside x lines line s h g =
    g inside (sym (ap (λ (t : Bool). t || is_named (keys lines) column) s) ∙ h)

marked_kept_from : (column : Bytes) (inside : Bool) (lines : List (List Bytes)) (line : List Bytes)
    → is_named (keys lines) column ≡ true
    → is_marked_from column inside (lines ++ line ∷ []) ≡ is_marked_from column inside lines
marked_kept_from column inside [] line h = absurd (false≢true h)
marked_kept_from column inside (x ∷ lines) line h =
    kept_step (is_marker x) (bytes_eq column (field 0 x)) column inside x lines line refl h
    (λ within g. marked_kept_from column within lines line g)

-- a line behind those of a column doesn't mark it
pub marked_kept : (column : Bytes) (lines : List (List Bytes)) (line : List Bytes)
    → is_named (columns_of lines) column ≡ true → is_marked column (lines ++ line ∷ []) ≡ is_marked column lines
marked_kept column lines line h = marked_kept_from column false lines line (sym (named_columns lines column) ∙ h)

new_step : (marker same : Bool) (column : Bytes) (inside : Bool) (x : List Bytes) (lines : List (List Bytes))
    (line : List Bytes) → bytes_eq column (field 0 x) ≡ same
    → is_named (map (field 0) (cond (not marker) (x ∷ column_lines lines) (column_lines lines))) column ≡ false
    → ((within : Bool) → is_named (keys lines) column ≡ false
    → is_marked_from column within (lines ++ line ∷ [])
    ≡ is_marked_from column (inside_after within lines) (line ∷ []))
    → cond marker (is_marked_from column (begins_integers x) (lines ++ line ∷ []))
    (cond same inside (is_marked_from column inside (lines ++ line ∷ [])))
    ≡ is_marked_from column (inside_after (cond marker (begins_integers x) inside) lines) (line ∷ [])
new_step true same column inside x lines line s h g = g (begins_integers x) h
new_step false true column inside x lines line s h g =
    absurd (false≢true (sym h ∙ ap (λ (t : Bool). t || is_named (keys lines) column) s))
new_step false false column inside x lines line s h g =
    g inside (sym (ap (λ (t : Bool). t || is_named (keys lines) column) s) ∙ h)

marked_new_from : (column : Bytes) (inside : Bool) (lines : List (List Bytes)) (line : List Bytes)
    → is_named (keys lines) column ≡ false
    → is_marked_from column inside (lines ++ line ∷ []) ≡ is_marked_from column (inside_after inside lines) (line ∷ [])
unfolding inside_after
marked_new_from column inside [] line h = refl
marked_new_from column inside (x ∷ lines) line h =
    new_step (is_marker x) (bytes_eq column (field 0 x)) column inside x lines line refl h
    (λ within g. marked_new_from column within lines line g)

-- the first line of a column says whether it is marked
pub marked_new : (column : Bytes) (lines : List (List Bytes)) (line : List Bytes)
    → is_named (columns_of lines) column ≡ false → is_marker line ≡ false → column ≡ field 0 line
    → is_marked column (lines ++ line ∷ []) ≡ inside_after false lines
marked_new column lines line h m same =
    marked_new_from column false lines line (sym (named_columns lines column) ∙ h)
    ∙ rw (m, same_true column (field 0 line) same) refl

-- ---- the last column

abbrev pub last_of : List Bytes → Bytes
last_of names = get_or names (length names - 1) []

pub named_take : (names : List Bytes) (name : Bytes) (n k : ℕ) → k < n → n ≤ length names → get_or names k [] ≡ name
    → is_named (take n names) name ≡ true
named_take names name n k lt le e =
    named_true_from (take n names) name k [] (omega (arith, length-take n names)) (get_or-take n names k [] lt ∙ e)
