-- The rows that are read are those of the lines under ROWS.
use Rattle.std.proofs.Common.{◌≡◌, ◌≢◌, ℕ, suc, ◌+◌, ◌<◌, ◌≤◌, Bool, true, false, cond, not, ◌||◌, eqb, ltb, List, []}
use Rattle.std.proofs.Common.{◌∷◌, ◌++◌, length, get_or, map, filter, position, Option, Some, None, is_some, is_none}
use Rattle.std.proofs.Common.{Result, Ok, Err, refl, sym, ap, subst, ◌∙◌, arith, codes}
use Rattle.std.specs.Prelude.{IfSome, nat_lt}
use Rattle.std.specs.Option.{option_map, option_map_or, ok_or}
use Rattle.std.specs.List.{AllZip}
use Rattle.std.specs.Str.{bytes_eq}
use Rattle.std.proofs.lemmas.Bool.{false≢true, eqb-true}
use Rattle.std.proofs.lemmas.List.{append-nil, length-map, map_push, length-append, get_or_append_left, get_or_push}
use Rattle.std.proofs.lemmas.List.{length_push}
use Rattle.std.proofs.lemmas.List.Elements.{filter-append}
use Rattle.bl_limits.specs.declared.TheConstants.{MAX_TEXT_ROWS}
use Rattle.bl_mps_terms.specs.declared.fault.MpsRule.{MpsRule}
use Rattle.bl_mps_terms.specs.declared.fault.MpsRule.TheVariants as rules
use Rattle.bl_mps_terms.specs.declared.words.RowKind.{RowKind}
use Rattle.bl_mps_terms.specs.Words.{Bytes, row_kind}
use Rattle.bl_mps_terms.specs.Parts.{field}
use Rattle.bl_mps_terms.specs.Rules.{first_of, when, unless, is_named}
use Rattle.bl_mps_terms.specs.Lines.{is_free, is_free_row, row_names, objective_of, bounded_rows, row_fault}
use Rattle.bl_mps_read.specs.declared.rows.BoundedRow.{BoundedRow}
use Rattle.bl_mps_read.specs.Fields.{pair_in}
use Rattle.bl_mps_read.specs.Rows.{RowList, next_slot, row_pushed, fresh_row, row_added}
use Rattle.bl_mps_read.specs.Stops.{◌>>=◌}
use Rattle.bl_mps.proofs.Agrees.{Read, Agrees, agrees_ok, agrees_then, agrees_then_two, agrees_last, agrees_unless}
use Rattle.bl_mps.proofs.Names.{AreDistinct, same_true, same_from, differ_false, differ_from, bool_false, or_false}
use Rattle.bl_mps.proofs.Names.{named_false_at, named-append, named-position, distinct_push, distinct_nil, table_push}

-- ---- where a name stands, and the slot of a row

unfoldable pub place_in : List Bytes → Bytes → Option ℕ
place_in [] name = None
place_in (x ∷ xs) name = cond (bytes_eq name x) (Some 0) (option_map (λ k. k + 1) (place_in xs name))

place_other_step : (test : Bool) (xs ys : Option ℕ) → xs ≡ ys
    → cond test (Some 0) (option_map (λ (k : ℕ). k + 1) xs) ≡ cond test (Some 0) (option_map (λ (k : ℕ). k + 1) ys)
place_other_step test xs ys e = ap (λ (o : Option ℕ). cond test (Some 0) (option_map (λ (k : ℕ). k + 1) o)) e

pub place-push_other : (names : List Bytes) (last name : Bytes) → bytes_eq name last ≡ false
    → place_in (names ++ last ∷ []) name ≡ place_in names name
unfolding place_in
place-push_other [] last name e = rw e refl
place-push_other (x ∷ xs) last name e = place_other_step (bytes_eq name x) _ _ (place-push_other xs last name e)

pub place_none : (names : List Bytes) (name : Bytes) → is_named names name ≡ false → place_in names name ≡ None
unfolding place_in
place_none [] name f = refl
place_none (x ∷ xs) name f =
    let parts = or_false (bytes_eq name x) (is_named xs name) f in
    rw (parts.0, place_none xs name parts.1) refl

some_same : (m n : ℕ) → m ≡ n → Some m ≡ Some n
some_same m n e = ap (λ (k : ℕ). Some k) e

pub place-push_new : (names : List Bytes) (name : Bytes) → is_named names name ≡ false
    → place_in (names ++ name ∷ []) name ≡ Some (length names)
unfolding place_in
place-push_new [] name f = rw (same_true name name refl) refl
place-push_new (x ∷ xs) name f =
    let parts = or_false (bytes_eq name x) (is_named xs name) f in
    rw (parts.0, place-push_new xs name parts.1) (some_same (length xs + 1) (suc (length xs)) (omega arith))

-- the slot of a name, where this is the objective and these are the other rows with a number
abbrev pub slot_in : Option Bytes → List Bytes → Bytes → Option ℕ
slot_in None bounded name = option_map (λ k. k + 1) (place_in bounded name)
slot_in (Some objective) bounded name =
    cond (bytes_eq name objective) (Some 0) (option_map (λ k. k + 1) (place_in bounded name))

abbrev pub slot_of : List (List Bytes) → Bytes → Option ℕ
slot_of lines name = slot_in (objective_of lines) (row_names (bounded_rows lines)) name

-- ---- what is kept of the lines

-- a row that isn't an N row is that of its line
pub record IsBounded (names : List Bytes) (line : List Bytes) (row : BoundedRow) : Type 0 where
  pub kind : row_kind (field 0 line) ≡ Some row.kind
  pub within : row.place < length names
  pub name : get_or names row.place [] ≡ field 1 line

pub record RowsHold (lines : List (List Bytes)) (rows : RowList) : Type 0 where
  pub names : rows.names ≡ row_names lines
  pub distinct : AreDistinct rows.names
  pub within : IfSome rows.objective (λ place. place < length rows.names)
  pub objective : objective_of lines ≡ option_map (λ place. get_or rows.names place []) rows.objective
  pub bounded : AllZip (IsBounded rows.names) (bounded_rows lines) rows.bounded
  pub slots : rows.slots ≡ map (slot_of lines) rows.names

-- ---- one line more

first_or : Option Bytes → Option Bytes → Option Bytes
first_or (Some x) next = Some x
first_or None next = next

objective_step : (test : Bool) (x : Bytes) (rest more next : Option Bytes) → more ≡ first_or rest next
    → cond test (Some x) more ≡ first_or (cond test (Some x) rest) next
unfolding first_or
objective_step true x rest more next e = refl
objective_step false x rest more next e = e

objective-push : (lines : List (List Bytes)) (line : List Bytes)
    → objective_of (lines ++ line ∷ [])
    ≡ first_or (objective_of lines) (cond (is_free_row line) (Some (field 1 line)) None)
unfolding first_or
objective-push [] line = refl
objective-push (x ∷ lines) line =
    objective_step (is_free_row x) (field 1 x) (objective_of lines) (objective_of (lines ++ line ∷ [])) _
    (objective-push lines line)

bounded-push : (lines : List (List Bytes)) (line : List Bytes) (free : Bool) → is_free_row line ≡ free
    → bounded_rows (lines ++ line ∷ []) ≡ bounded_rows lines ++ cond free [] (line ∷ [])
bounded-push lines line true e = filter-append (λ l. not (is_free_row l)) lines (line ∷ []) ∙ rw e refl
bounded-push lines line false e = filter-append (λ l. not (is_free_row l)) lines (line ∷ []) ∙ rw e refl

is_bounded_more : (names : List Bytes) (last : Bytes) (line : List Bytes) (row : BoundedRow) → IsBounded names line row
    → IsBounded (names ++ last ∷ []) line row
is_bounded_more names last line row h = record {
  kind = h.kind;
  within = omega (arith, h.within, length_push names last);
  name = get_or_append_left names (last ∷ []) [] row.place h.within ∙ h.name;
}

zip_more : {A B : Type 0} (R S : A → B → Type 0) → ((x : A) (y : B) → R x y → S x y) → (xs : List A) (ys : List B)
    → AllZip R xs ys → AllZip S xs ys
zip_more R S f [] [] h = h
zip_more R S f [] (y ∷ ys) h = h
zip_more R S f (x ∷ xs) [] h = h
zip_more R S f (x ∷ xs) (y ∷ ys) h = (f x y h.0, zip_more R S f xs ys h.1)

zip_push : {A B : Type 0} (R : A → B → Type 0) (xs : List A) (ys : List B) (x : A) (y : B) → AllZip R xs ys → R x y
    → AllZip R (xs ++ x ∷ []) (ys ++ y ∷ [])
zip_push R [] [] x y h r = (r, tt)
zip_push R [] (b ∷ ys) x y h r = absurd h
zip_push R (a ∷ xs) [] x y h r = absurd h
zip_push R (a ∷ xs) (b ∷ ys) x y h r = (h.0, zip_push R xs ys x y h.1 r)

pub zip_length : {A B : Type 0} (R : A → B → Type 0) (xs : List A) (ys : List B) → AllZip R xs ys
    → length xs ≡ length ys
zip_length R [] [] h = refl
zip_length R [] (y ∷ ys) h = absurd h
zip_length R (x ∷ xs) [] h = absurd h
zip_length R (x ∷ xs) (y ∷ ys) h = let rest = zip_length R xs ys h.1 in omega arith

-- a name that isn't a row's isn't that of a row with a number
unnamed_step : (test : Bool) (name : Bytes) (line : List Bytes) (lines : List (List Bytes))
    → bytes_eq name (field 1 line) ≡ false → is_named (row_names lines) name ≡ false
    → is_named (row_names (cond test (line ∷ lines) lines)) name ≡ false
unnamed_step true name line lines e f = rw e f
unnamed_step false name line lines e f = f

pub unnamed_bounded : (lines : List (List Bytes)) (name : Bytes) → is_named (row_names lines) name ≡ false
    → is_named (row_names (bounded_rows lines)) name ≡ false
unnamed_bounded [] name f = refl
unnamed_bounded (x ∷ lines) name f =
    let parts = or_false (bytes_eq name (field 1 x)) (is_named (row_names lines) name) f in
    unnamed_step (not (is_free_row x)) name x (bounded_rows lines) parts.0 (unnamed_bounded lines name parts.1)

unnamed_objective_step : (test : Bool) (x name objective : Bytes) (rest : Option Bytes)
    → cond test (Some x) rest ≡ Some objective → bytes_eq name x ≡ false
    → (rest ≡ Some objective → bytes_eq name objective ≡ false) → bytes_eq name objective ≡ false
unnamed_objective_step true x name objective rest e f g = let same : x ≡ objective = cc in rw (← same) f
unnamed_objective_step false x name objective rest e f g = g e

unnamed_objective : (lines : List (List Bytes)) (name objective : Bytes) → objective_of lines ≡ Some objective
    → is_named (row_names lines) name ≡ false → bytes_eq name objective ≡ false
unnamed_objective [] name objective e f = absurd cc
unnamed_objective (x ∷ lines) name objective e f =
    let parts = or_false (bytes_eq name (field 1 x)) (is_named (row_names lines) name) f in
    unnamed_objective_step (is_free_row x) (field 1 x) name objective (objective_of lines) e parts.0
    (λ r. unnamed_objective lines name objective r parts.1)

number_is : (test : Bool) (n : ℕ) (slot : Option ℕ) → cond test (Ok (Some n)) (Err rules.TooMany) ≡ Ok slot
    → Some n ≡ slot
number_is true n slot e = cc
number_is false n slot e = absurd cc

-- ---- the line that is added

-- a line of two fields, and its kind
module _ (lines : List (List Bytes)) (rows : RowList) (h : RowsHold lines rows) (a b : Bytes) (kind : RowKind)
    (is_kind : row_kind a ≡ Some kind) (fresh : is_named (row_names lines) b ≡ false) where
  fresh_here : is_named rows.names b ≡ false
  fresh_here = ap (λ (ns : List Bytes). is_named ns b) h.names ∙ fresh

  free_line : is_free_row (a ∷ b ∷ []) ≡ is_free kind
  free_line = ap (λ (o : Option RowKind). option_map_or is_free o false) is_kind

  names_more : rows.names ++ b ∷ [] ≡ row_names (lines ++ (a ∷ b ∷ []) ∷ [])
  names_more = ap (λ (ns : List Bytes). ns ++ b ∷ []) h.names ∙ sym (map_push (field 1) lines (a ∷ b ∷ []))

  objective_more : objective_of (lines ++ (a ∷ b ∷ []) ∷ [])
      ≡ first_or (objective_of lines) (cond (is_free kind) (Some b) None)
  objective_more = objective-push lines (a ∷ b ∷ [])
      ∙ ap (λ (t : Bool). first_or (objective_of lines) (cond t (Some b) None)) free_line

  bounded_more : bounded_rows (lines ++ (a ∷ b ∷ []) ∷ []) ≡ bounded_rows lines
      ++ cond (is_free kind) [] ((a ∷ b ∷ []) ∷ [])
  bounded_more = bounded-push lines (a ∷ b ∷ []) (is_free kind) free_line

  -- the objective of the rows
  place_is : (place : Option ℕ) (free : Bool) → IfSome place (λ p. p < length rows.names)
      → objective_of lines ≡ option_map (λ p. get_or rows.names p []) place
      → first_or (objective_of lines) (cond free (Some b) None)
      ≡ option_map (λ p. get_or (rows.names ++ b ∷ []) p [])
      (cond free (cond (is_none place) (Some (length rows.names)) place) place)
  unfolding first_or
  place_is None true within e =
      rw e (ap (λ (x : Bytes). Some x) (sym (get_or_push rows.names b [] (length rows.names) refl)))
  place_is None false within e = rw e refl
  place_is (Some p) true within e =
      rw e (ap (λ (x : Bytes). Some x) (sym (get_or_append_left rows.names (b ∷ []) [] p within)))
  place_is (Some p) false within e =
      rw e (ap (λ (x : Bytes). Some x) (sym (get_or_append_left rows.names (b ∷ []) [] p within)))

  place_within : (place : Option ℕ) (free : Bool) → IfSome place (λ p. p < length rows.names)
      → IfSome (cond free (cond (is_none place) (Some (length rows.names)) place) place)
      (λ p. p < length (rows.names ++ b ∷ []))
  place_within None true within = omega (arith, length_push rows.names b)
  place_within None false within = tt
  place_within (Some p) true within = omega (arith, within, length_push rows.names b)
  place_within (Some p) false within = omega (arith, within, length_push rows.names b)

  -- the other rows
  zip_kept : AllZip (IsBounded (rows.names ++ b ∷ [])) (bounded_rows lines) rows.bounded
  zip_kept = zip_more (IsBounded rows.names) (IsBounded (rows.names ++ b ∷ [])) (is_bounded_more rows.names b)
      (bounded_rows lines) rows.bounded h.bounded

  zip_is : (free : Bool)
      → AllZip (IsBounded (rows.names ++ b ∷ [])) (bounded_rows lines ++ cond free [] ((a ∷ b ∷ []) ∷ []))
      (cond free rows.bounded (rows.bounded ++ record { place = length rows.names; kind = kind } ∷ []))
  zip_is true = rw (append-nil (bounded_rows lines)) zip_kept
  zip_is false = zip_push (IsBounded (rows.names ++ b ∷ [])) (bounded_rows lines) rows.bounded (a ∷ b ∷ [])
      (record { place = length rows.names; kind = kind }) zip_kept (record {
        kind = is_kind;
        within = omega (arith, length_push rows.names b);
        name = get_or_push rows.names b [] (length rows.names) refl;
      })

  -- the slots
  bounded_names : (free : Bool)
      → row_names (bounded_rows lines ++ cond free [] ((a ∷ b ∷ []) ∷ []))
      ≡ cond free (row_names (bounded_rows lines)) (row_names (bounded_rows lines) ++ b ∷ [])
  bounded_names true = ap row_names (append-nil (bounded_rows lines))
  bounded_names false = map_push (field 1) (bounded_rows lines) (a ∷ b ∷ [])

  other_slot : (objective : Option Bytes) (free : Bool) (name : Bytes) → name ≢ b
      → slot_in objective (row_names (bounded_rows lines)) name
      ≡ slot_in (first_or objective (cond free (Some b) None))
      (cond free (row_names (bounded_rows lines)) (row_names (bounded_rows lines) ++ b ∷ [])) name
  unfolding first_or
  other_slot None true name other = rw (differ_false name b other) refl
  other_slot None false name other =
      rw (place-push_other (row_names (bounded_rows lines)) b name (differ_false name b other)) refl
  other_slot (Some x) true name other = refl
  other_slot (Some x) false name other =
      rw (place-push_other (row_names (bounded_rows lines)) b name (differ_false name b other)) refl

  slot_more : (name : Bytes) → slot_of (lines ++ (a ∷ b ∷ []) ∷ []) name
      ≡ slot_in (first_or (objective_of lines) (cond (is_free kind) (Some b) None))
      (cond (is_free kind) (row_names (bounded_rows lines)) (row_names (bounded_rows lines) ++ b ∷ [])) name
  slot_more name =
      ap (λ (o : Option Bytes). slot_in o (row_names (bounded_rows (lines ++ (a ∷ b ∷ []) ∷ []))) name) objective_more
      ∙ ap (λ (bs : List Bytes). slot_in (first_or (objective_of lines) (cond (is_free kind) (Some b) None)) bs name)
      (ap row_names bounded_more ∙ bounded_names (is_free kind))

  slots_other : (name : Bytes) → name ≢ b → slot_of lines name ≡ slot_of (lines ++ (a ∷ b ∷ []) ∷ []) name
  slots_other name other = other_slot (objective_of lines) (is_free kind) name other ∙ sym (slot_more name)

  unnamed : is_named (row_names (bounded_rows lines)) b ≡ false
  unnamed = unnamed_bounded lines b fresh

  counted : length (row_names (bounded_rows lines)) ≡ length rows.bounded
  counted = length-map (bounded_rows lines) (field 1)
      ∙ zip_length (IsBounded rows.names) (bounded_rows lines) rows.bounded h.bounded

  new_place : place_in (row_names (bounded_rows lines) ++ b ∷ []) b ≡ Some (length rows.bounded)
  new_place = place-push_new (row_names (bounded_rows lines)) b unnamed ∙ some_same _ _ counted

  own_slot : (place : Option ℕ) (objective : Option Bytes) (free : Bool) (slot : Option ℕ)
      → objective ≡ option_map (λ p. get_or rows.names p []) place → objective_of lines ≡ objective
      → cond free (Ok (cond (is_none place) (Some 0) None))
      (cond (ltb (length rows.bounded) MAX_TEXT_ROWS) (Ok (Some (length rows.bounded + 1))) (Err rules.TooMany))
      ≡ Ok slot
      → slot ≡ slot_in (first_or objective (cond free (Some b) None))
      (cond free (row_names (bounded_rows lines)) (row_names (bounded_rows lines) ++ b ∷ [])) b
  unfolding first_or
  own_slot None objective true slot e o s = let same : Some 0 ≡ slot = cc in rw (e, same_true b b refl) (sym same)
  own_slot (Some p) objective true slot e o s =
      let same : None ≡ slot = cc in
      let apart : bytes_eq b (get_or rows.names p []) ≡ false =
      unnamed_objective lines b (get_or rows.names p []) (o ∙ e) fresh in
      rw (e, apart, place_none (row_names (bounded_rows lines)) b unnamed) (sym same)
  own_slot place None false slot e o s =
      rw new_place (sym (number_is (ltb (length rows.bounded) MAX_TEXT_ROWS) (length rows.bounded + 1) slot s))
  own_slot place (Some x) false slot e o s =
      let apart : bytes_eq b x ≡ false = unnamed_objective lines b x o fresh in
      rw (apart, new_place) (sym (number_is (ltb (length rows.bounded) MAX_TEXT_ROWS) (length rows.bounded + 1) slot s))

  pub rows_pushed : (slot : Option ℕ) → next_slot rows kind ≡ Ok slot
      → RowsHold (lines ++ (a ∷ b ∷ []) ∷ []) (row_pushed rows b kind slot)
  rows_pushed slot s = record {
    names = names_more;
    distinct = distinct_push rows.names b h.distinct fresh_here;
    within = place_within rows.objective (is_free kind) h.within;
    objective = objective_more ∙ place_is rows.objective (is_free kind) h.within h.objective;
    bounded = rw bounded_more (zip_is (is_free kind));
    slots = ap (λ (ss : List (Option ℕ)). ss ++ slot ∷ []) h.slots
        ∙ table_push (slot_of lines) (slot_of (lines ++ (a ∷ b ∷ []) ∷ [])) rows.names b slot fresh_here slots_other
        (own_slot rows.objective (objective_of lines) (is_free kind) slot h.objective refl s ∙ sym (slot_more b));
  }

-- ---- one line

not_two : (n : ℕ) → eqb (suc (suc (suc n))) 2 ≡ false
not_two n = bool_false _ (λ e. omega (arith, eqb-true _ _ e))

-- the two fields of a line
abbrev IsPair : List Bytes → Bytes × Bytes → Type 0
IsPair line pair = line ≡ pair.0 ∷ pair.1 ∷ []

pair_read_of : (line : List Bytes)
    → Agrees (unless (eqb (length line) 2) rules.BadFields) (ok_or (pair_in line) rules.BadFields) (IsPair line)
pair_read_of [] = refl
pair_read_of (a ∷ []) = refl
pair_read_of (a ∷ b ∷ []) = record { value = (a, b); is = refl; holds = refl }
pair_read_of (a ∷ b ∷ c ∷ more) = rw (not_two (length more)) refl

kind_read_of : (kind : Option RowKind)
    → Agrees (unless (is_some kind) rules.BadFields) (ok_or kind rules.BadFields) (λ k. kind ≡ Some k)
kind_read_of None = refl
kind_read_of (Some k) = record { value = k; is = refl; holds = refl }

name_read_of : (marker there : Bool) (name : Bytes)
    → Agrees (first_of (when marker rules.BadFields ∷ when there rules.DuplicateRow ∷ []))
    (cond marker (Err rules.BadFields) (cond there (Err rules.DuplicateRow) (Ok name)))
    (λ n. (n ≡ name) × (there ≡ false))
name_read_of true there name = refl
name_read_of false true name = refl
name_read_of false false name = record { value = name; is = refl; holds = (refl, refl) }

slot_read_of : (free room : Bool) (own next : Option ℕ)
    → Agrees (unless (free || room) rules.TooMany) (cond free (Ok own) (cond room (Ok next) (Err rules.TooMany)))
    (λ slot. cond free (Ok own) (cond room (Ok next) (Err rules.TooMany)) ≡ Ok slot)
slot_read_of true room own next = record { value = own; is = refl; holds = refl }
slot_read_of false true own next = record { value = next; is = refl; holds = refl }
slot_read_of false false own next = refl

module _ (lines : List (List Bytes)) (rows : RowList) (h : RowsHold lines rows) where
  abbrev Marker : Bytes → Bool
  Marker b = bytes_eq b (codes "'MARKER'")

  -- behind the name of a line of two fields, whose kind is known
  slot_step : (a b : Bytes) (kind : RowKind) → row_kind a ≡ Some kind → is_named (row_names lines) b ≡ false
      → Agrees (first_of (unless
      (is_free_row (a ∷ b ∷ []) || ltb (length (bounded_rows lines)) MAX_TEXT_ROWS) rules.TooMany ∷ []))
      (next_slot rows kind >>= λ slot. Ok (row_pushed rows b kind slot)) (RowsHold (lines ++ (a ∷ b ∷ []) ∷ []))
  slot_step a b kind k fresh =
      let free : is_free_row (a ∷ b ∷ []) ≡ is_free kind =
      ap (λ (o : Option RowKind). option_map_or is_free o false) k in
      let same : length (bounded_rows lines) ≡ length rows.bounded =
      zip_length (IsBounded rows.names) (bounded_rows lines) rows.bounded h.bounded in
      rw (free, same) (agrees_then (unless (is_free kind || ltb (length rows.bounded) MAX_TEXT_ROWS) rules.TooMany) []
      (next_slot rows kind) (λ slot. next_slot rows kind ≡ Ok slot)
      (λ slot. Ok (row_pushed rows b kind slot)) (RowsHold (lines ++ (a ∷ b ∷ []) ∷ []))
      (slot_read_of (is_free kind) (ltb (length rows.bounded) MAX_TEXT_ROWS)
      (cond (is_none rows.objective) (Some 0) None) (Some (length rows.bounded + 1)))
      (λ slot s. agrees_ok _ (row_pushed rows b kind slot) (RowsHold (lines ++ (a ∷ b ∷ []) ∷ [])) refl
      (rows_pushed lines rows h a b kind k fresh slot s)))

  name_read : (b : Bytes)
      → Agrees (first_of (when (Marker b) rules.BadFields ∷ when (is_named (row_names lines) b) rules.DuplicateRow
      ∷ [])) (fresh_row rows b) (λ n. (n ≡ b) × (is_named (row_names lines) b ≡ false))
  name_read b =
      let there : is_some (position (bytes_eq b) rows.names) ≡ is_named (row_names lines) b =
      sym (named-position rows.names b (position (bytes_eq b) rows.names) refl)
      ∙ ap (λ (ns : List Bytes). is_named ns b) h.names in
      subst (λ (t : Bool). Agrees (first_of (when (Marker b) rules.BadFields ∷ when t rules.DuplicateRow ∷ []))
      (fresh_row rows b) (λ n. (n ≡ b) × (t ≡ false))) there
      (name_read_of (Marker b) (is_some (position (bytes_eq b) rows.names)) b)

  kind_step : (a b : Bytes) (kind : RowKind) → row_kind a ≡ Some kind
      → Agrees (first_of (when (Marker b) rules.BadFields ∷ when (is_named (row_names lines) b) rules.DuplicateRow
      ∷ unless (is_free_row (a ∷ b ∷ []) || ltb (length (bounded_rows lines)) MAX_TEXT_ROWS) rules.TooMany ∷ []))
      (fresh_row rows b >>= λ name. next_slot rows kind >>= λ slot. Ok (row_pushed rows name kind slot))
      (RowsHold (lines ++ (a ∷ b ∷ []) ∷ []))
  kind_step a b kind k =
      agrees_then_two (when (Marker b) rules.BadFields) (when (is_named (row_names lines) b) rules.DuplicateRow)
      (unless (is_free_row (a ∷ b ∷ []) || ltb (length (bounded_rows lines)) MAX_TEXT_ROWS) rules.TooMany ∷ [])
      (fresh_row rows b) (λ n. (n ≡ b) × (is_named (row_names lines) b ≡ false))
      (λ name. next_slot rows kind >>= λ slot. Ok (row_pushed rows name kind slot))
      (RowsHold (lines ++ (a ∷ b ∷ []) ∷ [])) (name_read b)
      (λ name q. subst (λ (n : Bytes). Agrees
      (first_of (unless (is_free_row (a ∷ b ∷ []) || ltb (length (bounded_rows lines)) MAX_TEXT_ROWS) rules.TooMany
      ∷ []))
      (next_slot rows kind >>= λ slot. Ok (row_pushed rows n kind slot)) (RowsHold (lines ++ (a ∷ b ∷ []) ∷ [])))
      (sym q.0) (slot_step a b kind k q.1))

  -- the faults behind the number of fields
  abbrev behind_pair : List Bytes → List (Option MpsRule)
  behind_pair line =
      unless (is_some (row_kind (field 0 line))) rules.BadFields ∷ when (Marker (field 1 line)) rules.BadFields
      ∷ when (is_named (row_names lines) (field 1 line)) rules.DuplicateRow
      ∷ unless (is_free_row line || ltb (length (bounded_rows lines)) MAX_TEXT_ROWS) rules.TooMany ∷ []

  pair_step : (a b : Bytes) → Agrees (first_of (behind_pair (a ∷ b ∷ [])))
      (ok_or (row_kind a) rules.BadFields >>= λ kind. fresh_row rows b >>= λ name. next_slot rows kind >>= λ slot. Ok
      (row_pushed rows name kind slot)) (RowsHold (lines ++ (a ∷ b ∷ []) ∷ []))
  pair_step a b =
      agrees_then (unless (is_some (row_kind a)) rules.BadFields)
      (when (Marker b) rules.BadFields ∷ when (is_named (row_names lines) b) rules.DuplicateRow
      ∷ unless (is_free_row (a ∷ b ∷ []) || ltb (length (bounded_rows lines)) MAX_TEXT_ROWS) rules.TooMany ∷ [])
      (ok_or (row_kind a) rules.BadFields) (λ kind. row_kind a ≡ Some kind)
      (λ kind. fresh_row rows b >>= λ name. next_slot rows kind >>= λ slot. Ok (row_pushed rows name kind slot))
      (RowsHold (lines ++ (a ∷ b ∷ []) ∷ [])) (kind_read_of (row_kind a)) (λ kind k. kind_step a b kind k)

  -- One line under ROWS.
  pub row_step : (line : List Bytes)
      → Agrees (row_fault lines line) (row_added rows line) (RowsHold (lines ++ line ∷ []))
  unfolding row_added
  row_step line =
      agrees_then (unless (eqb (length line) 2) rules.BadFields) (behind_pair line)
      (ok_or (pair_in line) rules.BadFields) (IsPair line)
      (λ pair. ok_or (row_kind pair.0) rules.BadFields >>= λ kind. fresh_row rows pair.1 >>= λ name. next_slot rows
      kind >>= λ slot. Ok (row_pushed rows name kind slot))
      (RowsHold (lines ++ line ∷ [])) (pair_read_of line)
      (λ pair e. subst (λ (l : List Bytes). Agrees (first_of (behind_pair l))
      (ok_or (row_kind pair.0) rules.BadFields >>= λ kind. fresh_row rows pair.1 >>= λ name. next_slot rows kind >>=
      λ slot. Ok (row_pushed rows name kind slot)) (RowsHold (lines ++ l ∷ [])))
      (sym e) (pair_step pair.0 pair.1))

pub rows_none : RowsHold [] (record { names = []; slots = []; objective = None; bounded = [] })
rows_none = record { names = refl; distinct = distinct_nil; within = tt; objective = refl; bounded = tt; slots = refl }
