-- The columns that a text says are those that its canonical text can say.
use Rattle.std.proofs.Common.{◌≡◌, ℕ, ◌+◌, Bool, true, false, cond, not, ◌||◌, ◌&&◌, List, [], ◌∷◌, map, length}
use Rattle.std.proofs.Common.{Option, Some, None, is_some, Result, Ok, Err, ℤ, pos, unsigned_abs, leb, refl, sym, ap}
use Rattle.std.proofs.Common.{subst, ◌∙◌, arith}
use Rattle.std.specs.Prelude.{IfSome, unwrap_or, ◌≤ℤ◌, int_lt}
use Rattle.std.specs.Option.{option_map}
use Rattle.std.specs.List.{AllByRecursion, AllZip, list_any}
use Rattle.std.specs.Result.{result_unwrap_or}
use Rattle.std.proofs.lemmas.Bool.{leb-true}
use Rattle.std.proofs.lemmas.Int.{ints}
use Rattle.std.proofs.lemmas.List.{length-map}
use Rattle.bl_limits.specs.declared.TheConstants.{MAX_NUMBER, NO_BOUND}
use Rattle.bl_num.specs.Numbers.{read_of}
use Rattle.bl_num.specs.declared.fault.NumFault.{NumFault}
use Rattle.bl_num.specs.declared.fault.NumFault.TheVariants.{NotNumber, NotWhole, TooLarge}
use Rattle.bl_raw.specs.Raw.{IsSmall}
use Rattle.bl_raw.specs.declared.raw.RawColumn.{RawColumn}
use Rattle.bl_mps_terms.specs.declared.fault.MpsRule.{MpsRule}
use Rattle.bl_mps_terms.specs.declared.fault.MpsRule.TheVariants as rules
use Rattle.bl_mps_terms.specs.declared.fault.MpsFault.{MpsFault}
use Rattle.bl_mps_terms.specs.declared.words.BoundKind.{BoundKind}
use Rattle.bl_mps_terms.specs.declared.words.BoundKind.TheVariants.{Up, Lo, Fx, Ui, Li, Bv, Fr, Mi, Pl}
use Rattle.bl_mps_terms.specs.declared.words.Section.TheVariants.{Rows, Columns, Bounds}
use Rattle.bl_mps_terms.specs.Words.{Bytes}
use Rattle.bl_mps_terms.specs.Parts.{under}
use Rattle.bl_mps_terms.specs.Rules.{when, unless}
use Rattle.bl_mps_terms.specs.Lines.{BoundLine, bound_within, bound_read, bounds_on, number_given, lower_set, upper_set}
use Rattle.bl_mps_terms.specs.Lines.{last_set, lower_of, upper_of, makes_integer, sets_lower, is_above, whole_fault}
use Rattle.bl_mps_terms.specs.Lines.{is_marked, objective_of, row_names, bounded_rows, pairs_on}
use Rattle.bl_mps_terms.specs.Meaning.{number_after, coefficient, IsColumnOf}
use Rattle.bl_mps_terms.specs.Faults.{in_column, or_else, columns_fault}
use Rattle.bl_mps_laws.proofs.LineRules.{IsNumbered, ColumnsKeep, none_first, none_when}
use Rattle.bl_mps_laws.proofs.SaidRows.{found_small, or_zero_small}
use Rattle.bl_mps_laws.proofs.Sayable.{IsSayableColumn, column_names}
use Rattle.bl_mps_laws.proofs.Tokens.{IsWord}

-- ---- bounds

abbrev IsSmallBound : Option ℤ → Type 0
IsSmallBound o = IfSome o IsSmall

within_by : (z : ℤ) (large small : Bool) → leb (unsigned_abs z) MAX_NUMBER ≡ small
    → IsSmallBound (result_unwrap_or (cond large (Ok None) (cond small (Ok (Some z)) (Err rules.TooLarge))) None)
within_by z true small e = tt
within_by z false true e = leb-true (unsigned_abs z) MAX_NUMBER e
within_by z false false e = tt

within_small : (read : Result ℤ NumFault) → IsSmallBound (result_unwrap_or (bound_within read) None)
within_small (Ok z) =
    within_by z (leb NO_BOUND (unsigned_abs z)) (leb (unsigned_abs z) MAX_NUMBER) refl
within_small (Err NotNumber) = tt
within_small (Err NotWhole) = tt
within_small (Err (TooLarge negative)) = tt

read_small : (number : Option Bytes) → IsSmallBound (result_unwrap_or (bound_read number) None)
read_small None = tt
read_small (Some text) = within_small (read_of text)

-- what a line sets is small
abbrev IsSmallSet : Option (Option ℤ) → Type 0
IsSmallSet set = IfSome set IsSmallBound

lower_small : (kind : BoundKind) (number : Option ℤ) → IsSmallBound number → IsSmallSet (lower_set kind number)
lower_small Up number h = tt
lower_small Lo number h = h
lower_small Fx number h = h
lower_small Ui number h = tt
lower_small Li number h = h
lower_small Bv number h = omega arith
lower_small Fr number h = tt
lower_small Mi number h = tt
lower_small Pl number h = tt

upper_small : (kind : BoundKind) (number : Option ℤ) → IsSmallBound number → IsSmallSet (upper_set kind number)
upper_small Up number h = h
upper_small Lo number h = tt
upper_small Fx number h = h
upper_small Ui number h = h
upper_small Li number h = tt
upper_small Bv number h = omega arith
upper_small Fr number h = tt
upper_small Mi number h = tt
upper_small Pl number h = tt

set_one : (first : Option ℤ) (set : Option (Option ℤ)) → IsSmallBound first → IsSmallSet set
    → IsSmallBound (unwrap_or set first)
set_one first None h k = h
set_one first (Some bound) h k = k

last_small : (first : Option ℤ) (sets : List (Option (Option ℤ))) → IsSmallBound first
    → AllByRecursion IsSmallSet sets → IsSmallBound (last_set first sets)
last_small first [] h k = h
last_small first (set ∷ sets) h k = last_small (unwrap_or set first) sets (set_one first set h k.0) k.1

lowers_small : (lines : List BoundLine)
    → AllByRecursion IsSmallSet (map (λ bound. lower_set bound.kind (number_given bound)) lines)
lowers_small [] = tt
lowers_small (bound ∷ lines) =
    (lower_small bound.kind (number_given bound) (read_small bound.number), lowers_small lines)

uppers_small : (lines : List BoundLine)
    → AllByRecursion IsSmallSet (map (λ bound. upper_set bound.kind (number_given bound)) lines)
uppers_small [] = tt
uppers_small (bound ∷ lines) =
    (upper_small bound.kind (number_given bound) (read_small bound.number), uppers_small lines)

lower_is_small : (lines : List BoundLine) → IsSmallBound (lower_of lines)
lower_is_small lines =
    last_small (Some (pos 0)) (map (λ bound. lower_set bound.kind (number_given bound)) lines) (omega arith)
    (lowers_small lines)

upper_is_small : (default : ℤ) (lines : List BoundLine) → IsSmall default → IsSmallBound (upper_of default lines)
upper_is_small default [] h = h
upper_is_small default (bound ∷ lines) h =
    last_small None (map (λ b. upper_set b.kind (number_given b)) (bound ∷ lines)) tt (uppers_small (bound ∷ lines))

not_below : (lo hi : ℤ) → int_lt hi lo ≡ false → lo ≤ℤ hi
not_below lo hi e = grind (arith, ints)

-- a column without a fault of the whole has no lower bound above its upper one
not_above : (default : ℤ) (marked : Bool) (lines : List BoundLine) → whole_fault default marked lines ≡ None
    → is_above (lower_of lines) (upper_of default lines) ≡ false
not_above default marked lines e =
    let whole = none_first
    (unless (marked || list_any (λ bound. makes_integer bound.kind) lines) rules.Continuous) _ e in
    let sides = none_first
    (unless (is_some (lower_of lines) && is_some (upper_of default lines)) rules.Unbounded) _ whole.1 in
    let negative = none_first (when (is_above (Some (pos 0)) (upper_of default lines)
    && not (list_any (λ bound. sets_lower bound.kind) lines)) rules.NegativeUpper) _ sides.1 in
    let above = none_first
    (when (is_above (lower_of lines) (upper_of default lines)) rules.EmptyBounds) [] negative.1 in
    none_when _ rules.EmptyBounds above.0

none_or : (fault : Option MpsRule) (n : ℕ) (next : Option MpsFault)
    → or_else (option_map (in_column n) fault) next ≡ None → (fault ≡ None) × (next ≡ None)
none_or None n next e = (refl, e)
none_or (Some rule) n next e = absurd cc

pub wholes_none : (default : ℤ) (columns bounds : List (List Bytes)) (from : ℕ) (names : List Bytes)
    → columns_fault default columns bounds from names ≡ None
    → AllByRecursion (λ name. whole_fault default (is_marked name columns) (bounds_on name bounds) ≡ None) names
unfolding columns_fault
wholes_none default columns bounds from [] e = tt
wholes_none default columns bounds from (name ∷ names) e =
    let parts = none_or (whole_fault default (is_marked name columns) (bounds_on name bounds)) from _ e in
    (parts.0, wholes_none default columns bounds (from + 1) names parts.1)

-- ---- numbers

coefficient_small : (pairs : List (Bytes × Bytes)) (name : Bytes) → AllByRecursion (IsNumbered MAX_NUMBER) pairs
    → IsSmall (coefficient pairs name)
coefficient_small pairs name h =
    or_zero_small MAX_NUMBER (number_after name pairs) (found_small MAX_NUMBER name pairs h)

coefficients_small : (pairs : List (Bytes × Bytes)) (names : List Bytes)
    → AllByRecursion (IsNumbered MAX_NUMBER) pairs → AllByRecursion IsSmall (map (coefficient pairs) names)
coefficients_small pairs [] h = tt
coefficients_small pairs (name ∷ names) h =
    (coefficient_small pairs name h, coefficients_small pairs names h)

cost_small : (pairs : List (Bytes × Bytes)) (objective : Option Bytes) (o : Bytes) (cost : ℤ) → objective ≡ Some o
    → Some cost ≡ option_map (coefficient pairs) objective → AllByRecursion (IsNumbered MAX_NUMBER) pairs → IsSmall cost
cost_small pairs objective o cost e c h =
    let same : Some cost ≡ Some (coefficient pairs o) = c ∙ ap (option_map (coefficient pairs)) e in
    let is : cost ≡ coefficient pairs o = cc in
    subst IsSmall (sym is) (coefficient_small pairs o h)

-- ---- columns

module _ (default : ℤ) (small : IsSmall default) (lines : List Bytes) (objective : Bytes)
    (first : objective_of (under Rows lines) ≡ Some objective) (keeps : ColumnsKeep (under Columns lines)) where
  column_said : (name : Bytes) (column : RawColumn) → IsWord name
      → whole_fault default (is_marked name (under Columns lines)) (bounds_on name (under Bounds lines)) ≡ None
      → IsColumnOf default lines name column
      → IsSayableColumn (length (row_names (bounded_rows (under Rows lines)))) column
  column_said name column word fine is =
      let above = not_above default (is_marked name (under Columns lines)) (bounds_on name (under Bounds lines)) fine in
      let ordered : int_lt column.hi column.lo ≡ false =
      ap (λ (o : Option ℤ). is_above o (Some column.hi)) is.lower
      ∙ ap (λ (o : Option ℤ). is_above (lower_of (bounds_on name (under Bounds lines))) o) is.upper ∙ above in
      record {
        name = subst IsWord (sym is.named) word;
        lo = subst IsSmallBound (sym is.lower) (lower_is_small (bounds_on name (under Bounds lines)));
        hi = subst IsSmallBound (sym is.upper) (upper_is_small default (bounds_on name (under Bounds lines)) small);
        ordered = not_below column.lo column.hi ordered;
        cost = cost_small (pairs_on name (under Columns lines)) (objective_of (under Rows lines)) objective column.cost
            first is.cost (keeps.small name);
        numbers = map (coefficient (pairs_on name (under Columns lines)))
            (row_names (bounded_rows (under Rows lines)));
        count = length-map (row_names (bounded_rows (under Rows lines)))
            (coefficient (pairs_on name (under Columns lines)));
        small = coefficients_small (pairs_on name (under Columns lines))
            (row_names (bounded_rows (under Rows lines))) (keeps.small name);
        entries = is.entries;
      }

  -- The columns that the lines say.
  pub columns_said : (names : List Bytes) (columns : List RawColumn) → AllByRecursion IsWord names
      → AllByRecursion (λ name. whole_fault default (is_marked name (under Columns lines))
      (bounds_on name (under Bounds lines)) ≡ None) names
      → AllZip (IsColumnOf default lines) names columns
      → AllByRecursion (IsSayableColumn (length (row_names (bounded_rows (under Rows lines))))) columns
  columns_said [] [] words fine are = tt
  columns_said [] (column ∷ columns) words fine are = absurd are
  columns_said (name ∷ names) [] words fine are = absurd are
  columns_said (name ∷ names) (column ∷ columns) words fine are =
      (column_said name column words.0 fine.0 are.0, columns_said names columns words.1 fine.1 are.1)

  -- Their names.
  pub column_names_said : (names : List Bytes) (columns : List RawColumn)
      → AllZip (IsColumnOf default lines) names columns → names ≡ column_names columns
  column_names_said [] [] are = refl
  column_names_said [] (column ∷ columns) are = absurd are
  column_names_said (name ∷ names) [] are = absurd are
  column_names_said (name ∷ names) (column ∷ columns) are =
      ap (λ (n : Bytes). n ∷ names) (sym are.0.named)
      ∙ ap (λ (ns : List Bytes). column.name ∷ ns) (column_names_said names columns are.1)
