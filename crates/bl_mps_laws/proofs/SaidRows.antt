-- The rows that a text says are those that its canonical text can say.
use Rattle.std.proofs.Common.{◌≡◌, ℕ, suc, ◌≤◌, Bool, true, false, cond, not, List, [], ◌∷◌, map}
use Rattle.std.proofs.Common.{Option, Some, None, Result, Ok, Err, ℤ, pos, negsuc, refl, sym, ap, subst}
use Rattle.std.proofs.Common.{arith, inl, inr, ◌⊎◌, unsigned_abs, leb, is_some}
use Rattle.std.specs.Prelude.{IfSome, unwrap_or, ◌+ℤ◌, ◌-ℤ◌}
use Rattle.std.specs.List.{AllByRecursion}
use Rattle.std.specs.Option.{option_map_or}
use Rattle.std.specs.Result.{result_unwrap_or}
use Rattle.std.specs.Str.{bytes_eq}
use Rattle.std.proofs.lemmas.Bool.{false≢true, leb-true}
use Rattle.std.proofs.lemmas.Int.{ints}
use Rattle.bl_limits.specs.declared.TheConstants.{MAX_TEXT_RHS}
use Rattle.bl_num.specs.Numbers.{read_of}
use Rattle.bl_num.specs.declared.fault.NumFault.{NumFault}
use Rattle.bl_mps_terms.specs.declared.fault.MpsRule.TheVariants as rules
use Rattle.bl_mps_terms.specs.declared.words.RowKind.{RowKind}
use Rattle.bl_mps_terms.specs.declared.words.RowKind.TheVariants.{Free, AtMost, AtLeast, Equal}
use Rattle.bl_mps_terms.specs.Words.{Bytes, row_kind}
use Rattle.bl_mps_terms.specs.Parts.{field}
use Rattle.bl_mps_terms.specs.Rules.{number, within, fault_in, is_named}
use Rattle.bl_mps_terms.specs.Lines.{is_free, is_free_row, row_names, bounded_rows, objective_of}
use Rattle.bl_mps_terms.specs.Meaning.{number_after, lhs_of, rhs_of, kind_of_row, row_of}
use Rattle.bl_mps.proofs.Names.{IsFresh, or_false}
use Rattle.bl_mps.proofs.Rows.{unnamed_bounded}
use Rattle.bl_mps_laws.proofs.Fresh.{differ_sym, or_both}
use Rattle.bl_mps_laws.proofs.LineRules.{IsNumbered, IsRowLine}
use Rattle.bl_mps_laws.proofs.Sayable.{IsRowName, IsTextSide, AreSides, names_of}

-- ---- numbers

within_by : (z : ℤ) (most : ℕ) (small : Bool) → leb (unsigned_abs z) most ≡ small
    → fault_in (cond small (Ok z) (Err rules.TooLarge)) ≡ None → unsigned_abs z ≤ most
within_by z most true s e = leb-true (unsigned_abs z) most s
within_by z most false s e = absurd cc

read_small : (most : ℕ) (read : Result ℤ NumFault) → fault_in (within most read) ≡ None
    → unsigned_abs (result_unwrap_or read (pos 0)) ≤ most
read_small most (Ok z) e = within_by z most (leb (unsigned_abs z) most) refl e
read_small most (Err fault) e = absurd cc

-- the number of a pair is one of at most this magnitude
numbered_small : (most : ℕ) (pair : Bytes × Bytes) → IsNumbered most pair → unsigned_abs (number pair.1) ≤ most
unfolding number
numbered_small most pair e = read_small most (read_of pair.1) e

after_by : (most : ℕ) (same : Bool) (z : ℤ) (rest : Option ℤ) → unsigned_abs z ≤ most
    → IfSome rest (λ x. unsigned_abs x ≤ most) → IfSome (cond same (Some z) rest) (λ x. unsigned_abs x ≤ most)
after_by most true z rest le h = le
after_by most false z rest le h = h

-- what is found by a name is of at most this magnitude
pub found_small : (most : ℕ) (name : Bytes) (pairs : List (Bytes × Bytes)) → AllByRecursion (IsNumbered most) pairs
    → IfSome (number_after name pairs) (λ z. unsigned_abs z ≤ most)
unfolding number_after
found_small most name [] h = tt
found_small most name (pair ∷ pairs) h =
    after_by most (bytes_eq name pair.0) (number pair.1) (number_after name pairs) (numbered_small most pair h.0)
    (found_small most name pairs h.1)

pub or_zero_small : (most : ℕ) (o : Option ℤ) → IfSome o (λ z. unsigned_abs z ≤ most)
    → unsigned_abs (unwrap_or o (pos 0)) ≤ most
or_zero_small most None h = omega arith
or_zero_small most (Some z) h = h

-- ---- sides

less_by : (rhs : ℤ) (n : ℕ) → rhs -ℤ (rhs -ℤ pos n) ≡ pos n
less_by rhs n = omega (arith, ints)

less_negative : (rhs : ℤ) (n : ℕ) → rhs -ℤ (rhs +ℤ negsuc n) ≡ pos (suc n)
less_negative rhs n = omega (arith, ints)

more_by : (rhs : ℤ) (n : ℕ) → (rhs +ℤ pos n) -ℤ rhs ≡ pos n
more_by rhs n = omega (arith, ints)

more_negative : (rhs : ℤ) (n : ℕ) → (rhs -ℤ negsuc n) -ℤ rhs ≡ pos (suc n)
more_negative rhs n = omega (arith, ints)

apart : (lo hi : ℤ) (n : ℕ) → hi -ℤ lo ≡ pos n → n ≤ MAX_TEXT_RHS → IsTextSide lo ⊎ IsTextSide hi
    → AreSides (Some lo) (Some hi)
apart lo hi n e le near = record {
  ordered = omega (arith, ints);
  range = subst IsTextSide (sym e) le;
  near = near;
}

same_sides : (z : ℤ) → IsTextSide z → AreSides (Some z) (Some z)
same_sides z h = apart z z 0 (omega (arith, ints)) (omega arith) (inl h)

-- The sides of a row that isn't an N row.
sides_from : (kind : RowKind) (rhs : ℤ) (range : Option ℤ) → is_free kind ≡ false → IsTextSide rhs
    → IfSome range IsTextSide → AreSides (lhs_of kind rhs range) (rhs_of kind rhs range)
sides_from Free rhs range f h r = absurd (false≢true (sym f))
sides_from AtMost rhs None f h r = h
sides_from AtMost rhs (Some (pos n)) f h r = apart (rhs -ℤ pos n) rhs n (less_by rhs n) r (inr h)
sides_from AtMost rhs (Some (negsuc n)) f h r =
    apart (rhs +ℤ negsuc n) rhs (suc n) (less_negative rhs n) r (inr h)
sides_from AtLeast rhs None f h r = h
sides_from AtLeast rhs (Some (pos n)) f h r = apart rhs (rhs +ℤ pos n) n (more_by rhs n) r (inl h)
sides_from AtLeast rhs (Some (negsuc n)) f h r =
    apart rhs (rhs -ℤ negsuc n) (suc n) (more_negative rhs n) r (inl h)
sides_from Equal rhs None f h r = same_sides rhs h
sides_from Equal rhs (Some (pos n)) f h r = apart rhs (rhs +ℤ pos n) n (more_by rhs n) r (inl h)
sides_from Equal rhs (Some (negsuc n)) f h r =
    apart (rhs +ℤ negsuc n) rhs (suc n) (less_negative rhs n) r (inr h)

-- ---- the bounded rows

-- the lines of rows that aren't N rows
kept_step : (free : Bool) (P : List Bytes → Type 0) (line : List Bytes) (lines : List (List Bytes))
    → is_free_row line ≡ free → P line → AllByRecursion (λ l. P l × (is_free_row l ≡ false)) lines
    → AllByRecursion (λ l. P l × (is_free_row l ≡ false)) (cond (not free) (line ∷ lines) lines)
kept_step true P line lines e p h = h
kept_step false P line lines e p h = ((p, e), h)

bounded_keep : (P : List Bytes → Type 0) (lines : List (List Bytes)) → AllByRecursion P lines
    → AllByRecursion (λ l. P l × (is_free_row l ≡ false)) (bounded_rows lines)
bounded_keep P [] h = tt
bounded_keep P (line ∷ lines) h =
    kept_step (is_free_row line) P line (bounded_rows lines) refl h.0 (bounded_keep P lines h.1)

free_kind : (kind : Option RowKind) → option_map_or is_free kind false ≡ false → is_some kind ≡ true
    → is_free (unwrap_or kind Free) ≡ false
free_kind None e s = absurd (false≢true s)
free_kind (Some kind) e s = e

row_sides : (right_sides ranges : List (Bytes × Bytes)) (line : List Bytes)
    → AllByRecursion (IsNumbered MAX_TEXT_RHS) right_sides → AllByRecursion (IsNumbered MAX_TEXT_RHS) ranges
    → IsRowLine line → is_free_row line ≡ false
    → AreSides (row_of right_sides ranges line).lo (row_of right_sides ranges line).hi
row_sides right_sides ranges line h k row free =
    let rhs = found_small MAX_TEXT_RHS (field 1 line) right_sides h in
    sides_from (kind_of_row line) (unwrap_or (number_after (field 1 line) right_sides) (pos 0))
    (number_after (field 1 line) ranges) (free_kind (row_kind (field 0 line)) free row.kind)
    (or_zero_small MAX_TEXT_RHS (number_after (field 1 line) right_sides) rhs)
    (found_small MAX_TEXT_RHS (field 1 line) ranges k)

sides_each : (right_sides ranges : List (Bytes × Bytes)) (lines : List (List Bytes))
    → AllByRecursion (IsNumbered MAX_TEXT_RHS) right_sides → AllByRecursion (IsNumbered MAX_TEXT_RHS) ranges
    → AllByRecursion (λ l. IsRowLine l × (is_free_row l ≡ false)) lines
    → AllByRecursion (λ row. AreSides row.lo row.hi) (map (row_of right_sides ranges) lines)
sides_each right_sides ranges [] h k rows = tt
sides_each right_sides ranges (line ∷ lines) h k rows =
    (row_sides right_sides ranges line h k rows.0.0 rows.0.1, sides_each right_sides ranges lines h k rows.1)

-- The sides of the rows that the lines say.
pub sides_said : (right_sides ranges : List (Bytes × Bytes)) (rows : List (List Bytes))
    → AllByRecursion (IsNumbered MAX_TEXT_RHS) right_sides → AllByRecursion (IsNumbered MAX_TEXT_RHS) ranges
    → AllByRecursion IsRowLine rows
    → AllByRecursion (λ row. AreSides row.lo row.hi) (map (row_of right_sides ranges) (bounded_rows rows))
sides_said right_sides ranges rows h k lines =
    sides_each right_sides ranges (bounded_rows rows) h k (bounded_keep IsRowLine rows lines)

-- ---- names

-- The names of the rows that the lines say.
pub names_said : (right_sides ranges : List (Bytes × Bytes)) (lines : List (List Bytes))
    → names_of (map (row_of right_sides ranges) lines) ≡ row_names lines
names_said right_sides ranges [] = refl
names_said right_sides ranges (line ∷ lines) =
    ap (λ (ns : List Bytes). field 1 line ∷ ns) (names_said right_sides ranges lines)

names_each : (lines : List (List Bytes)) → AllByRecursion (λ l. IsRowLine l × (is_free_row l ≡ false)) lines
    → AllByRecursion IsRowName (row_names lines)
names_each [] h = tt
names_each (line ∷ lines) h = (h.0.0.name, names_each lines h.1)

pub bounded_names : (rows : List (List Bytes)) → AllByRecursion IsRowLine rows
    → AllByRecursion IsRowName (row_names (bounded_rows rows))
bounded_names rows lines = names_each (bounded_rows rows) (bounded_keep IsRowLine rows lines)

objective_by : (free : Bool) (name objective : Bytes) (rest : Option Bytes)
    → cond free (Some name) rest ≡ Some objective → IsRowName name
    → (rest ≡ Some objective → IsRowName objective) → IsRowName objective
objective_by true name objective rest e n f = let same : name ≡ objective = cc in subst IsRowName same n
objective_by false name objective rest e n f = f e

-- the objective is a row's name
pub objective_name : (rows : List (List Bytes)) (objective : Bytes) → objective_of rows ≡ Some objective
    → AllByRecursion IsRowLine rows → IsRowName objective
objective_name [] objective e h = absurd cc
objective_name (line ∷ rows) objective e h =
    objective_by (is_free_row line) (field 1 line) objective (objective_of rows) e h.0.name
    (λ f. objective_name rows objective f h.1)

other_by : (free : Bool) (x name objective : Bytes) (rest : Option Bytes)
    → cond free (Some name) rest ≡ Some objective → bytes_eq x name ≡ false
    → (rest ≡ Some objective → bytes_eq x objective ≡ false) → bytes_eq x objective ≡ false
other_by true x name objective rest e n f =
    let same : name ≡ objective = cc in subst (λ (y : Bytes). bytes_eq x y ≡ false) same n
other_by false x name objective rest e n f = f e

-- what is no row's name isn't the objective
other_objective : (rows : List (List Bytes)) (x objective : Bytes) → objective_of rows ≡ Some objective
    → is_named (row_names rows) x ≡ false → bytes_eq x objective ≡ false
other_objective [] x objective e f = absurd cc
other_objective (line ∷ rows) x objective e f =
    let parts = or_false (bytes_eq x (field 1 line)) (is_named (row_names rows) x) f in
    other_by (is_free_row line) x (field 1 line) objective (objective_of rows) e parts.0
    (λ g. other_objective rows x objective g parts.1)

apart_by : (free : Bool) (line : List Bytes) (rows : List (List Bytes)) (objective : Bytes)
    → cond free (Some (field 1 line)) (objective_of rows) ≡ Some objective
    → is_named (row_names rows) (field 1 line) ≡ false
    → (objective_of rows ≡ Some objective → is_named (row_names (bounded_rows rows)) objective ≡ false)
    → is_named (row_names (cond (not free) (line ∷ bounded_rows rows) (bounded_rows rows))) objective ≡ false
apart_by true line rows objective e f g =
    let same : field 1 line ≡ objective = cc in
    subst (λ (n : Bytes). is_named (row_names (bounded_rows rows)) n ≡ false) same
    (unnamed_bounded rows (field 1 line) f)
apart_by false line rows objective e f g =
    or_both (bytes_eq objective (field 1 line)) (is_named (row_names (bounded_rows rows)) objective)
    (differ_sym (field 1 line) objective (other_objective rows (field 1 line) objective e f)) (g e)

-- The objective is none of the bounded rows.
pub objective_apart : (rows : List (List Bytes)) (objective : Bytes) → objective_of rows ≡ Some objective
    → IsFresh (row_names rows) → is_named (row_names (bounded_rows rows)) objective ≡ false
objective_apart [] objective e h = absurd cc
objective_apart (line ∷ rows) objective e h =
    apart_by (is_free_row line) line rows objective e h.0 (λ f. objective_apart rows objective f h.1)

fresh_by : (free : Bool) (line : List Bytes) (rows : List (List Bytes))
    → is_named (row_names rows) (field 1 line) ≡ false
    → IsFresh (row_names (bounded_rows rows))
    → IsFresh (row_names (cond (not free) (line ∷ bounded_rows rows) (bounded_rows rows)))
fresh_by true line rows f h = h
fresh_by false line rows f h = (unnamed_bounded rows (field 1 line) f, h)

-- The bounded rows have different names.
pub bounded_fresh : (rows : List (List Bytes)) → IsFresh (row_names rows) → IsFresh (row_names (bounded_rows rows))
bounded_fresh [] h = tt
bounded_fresh (line ∷ rows) h = fresh_by (is_free_row line) line rows h.0 (bounded_fresh rows h.1)
