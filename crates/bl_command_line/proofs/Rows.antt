-- The rows that clap holds, as entries of one value each.
use Rattle.std.proofs.Common.{◌≡◌, ℕ, Bool, true, false, cond, List, [], ◌∷◌, ◌++◌, map, Option, Some, None, refl, sym}
use Rattle.std.proofs.Common.{ap, subst, ◌∙◌, ◌||◌, is_some, find}
use Rattle.std.specs.Prelude.{option_and_then, slice_get}
use Rattle.std.specs.List.{flat_map}
use Rattle.std.specs.Option.{option_map_or, option_to_list}
use Rattle.std.specs.Str.{bytes_eq}
use Rattle.std.proofs.lemmas.List.{append-nil, map-append}
use Rattle.std.proofs.lemmas.List.Concat.{flat_map-append}
use Rattle.std.proofs.lemmas.Slice.Eq.{bytes_eq-Decides}
use Rattle.clap.specs.Facts.{explicit_source}
use Rattle.clap.specs.Takes.{is_given}
use Rattle.clap.specs.Walk.{Row, at_row, first_of, has_row, more_values, with_values, without}
use Rattle.clap.specs.declared.parser.matches.ValueSource.TheVariants.{CommandLine}
use Rattle.clap.specs.declared.builder.value_parser.Reading.TheVariants.{AsWritten}

abbrev pub Text : Type 0
Text = List ℕ

-- the name of an argument and its value
abbrev pub Entry : Type 0
Entry = Text × Text

abbrev pub row : Entry → Row
row e = record {
  id = e.0;
  values = e.1 ∷ [];
  count = None;
  source = Some CommandLine;
  reading = AsWritten;
}

abbrev pub rows : List Entry → List Row
rows entries = map row entries

abbrev pub one_if : Bool → Text → List Text
one_if b text = cond b (text ∷ []) []

abbrev pub named : Text → Entry → List Text
named id e = one_if (bytes_eq e.0 id) e.1

-- the values of the entries of this name
abbrev pub texts_named : Text → List Entry → List Text
texts_named id entries = flat_map (named id) entries

-- the first of them
abbrev pub value_of : Text → List Entry → Option Text
value_of id entries = slice_get (texts_named id entries) 0

first-step : (b : Bool) (e : Entry) (more : Option Row) (texts : List Text)
    → option_and_then (λ (r : Row). slice_get r.values 0) more ≡ slice_get texts 0
    → option_and_then (λ (r : Row). slice_get r.values 0) (cond b (Some (row e)) more)
    ≡ slice_get (one_if b e.1 ++ texts) 0
first-step true e more texts h = refl
first-step false e more texts h = h

pub first-is : (id : Text) (entries : List Entry) → first_of id (rows entries) ≡ value_of id entries
first-is id [] = refl
first-is id (e ∷ entries) =
    first-step (bytes_eq e.0 id) e (find (λ (r : Row). bytes_eq r.id id) (rows entries)) (texts_named id entries)
    (first-is id entries)

has-step : (b has : Bool) (text : Text) (texts : List Text) → has ≡ is_some (slice_get texts 0)
    → (b || has) ≡ is_some (slice_get (one_if b text ++ texts) 0)
has-step true has text texts h = refl
has-step false has text texts h = h

has-is : (id : Text) (entries : List Entry) → has_row id (rows entries) ≡ is_some (value_of id entries)
has-is id [] = refl
has-is id (e ∷ entries) =
    has-step (bytes_eq e.0 id) (has_row id (rows entries)) e.1 (texts_named id entries) (has-is id entries)

given-step : (b : Bool) (e : Entry) (more : Option Row) (texts : List Text)
    → option_map_or (λ (r : Row). explicit_source r.source) more false ≡ is_some (slice_get texts 0)
    → option_map_or (λ (r : Row). explicit_source r.source) (cond b (Some (row e)) more) false
    ≡ is_some (slice_get (one_if b e.1 ++ texts) 0)
given-step true e more texts h = refl
given-step false e more texts h = h

pub given-is : (id : Text) (entries : List Entry) → is_given id (rows entries) ≡ is_some (value_of id entries)
given-is id [] = refl
given-is id (e ∷ entries) =
    given-step (bytes_eq e.0 id) e (find (λ (r : Row). bytes_eq r.id id) (rows entries)) (texts_named id entries)
    (given-is id entries)

-- ---- names that are given once

-- the texts are one at most
abbrev pub IsOnce : List Text → Type 0
IsOnce [] = Unit {0}
IsOnce (text ∷ []) = Unit {0}
IsOnce (text ∷ other ∷ texts) = ⊥

none-before : (texts : List Text) (text : Text) (rest : List Text) → IsOnce (texts ++ text ∷ rest) → texts ≡ []
none-before [] text rest once = refl
none-before (x ∷ []) text rest once = absurd once
none-before (x ∷ y ∷ texts) text rest once = absurd once

-- an argument whose name is given once has no row before its entry
pub fresh : (before rest : List Entry) (id text : Text) → IsOnce (texts_named id (before ++ (id, text) ∷ rest))
    → has_row id (rows before) ≡ false
fresh before rest id text once =
    let own = (bytes_eq-Decides id id).1 refl in
    let split = flat_map-append (named id) before ((id, text) ∷ rest)
    ∙ ap (λ (b : Bool). texts_named id before ++ (one_if b text ++ texts_named id rest)) own in
    has-is id before
    ∙ ap (λ (texts : List Text). is_some (slice_get texts 0))
    (none-before (texts_named id before) text (texts_named id rest) (subst (λ (ts : List Text). IsOnce ts) split once))

pub once-one : (text : Option Text) → IsOnce (option_to_list text)
once-one None = tt
once-one (Some text) = tt

pub first-one : (text : Option Text) → slice_get (option_to_list text) 0 ≡ text
first-one None = refl
first-one (Some text) = refl

pub once-first : (texts : List Text) → IsOnce texts → option_to_list (slice_get texts 0) ≡ texts
once-first [] once = refl
once-first (text ∷ []) once = refl
once-first (text ∷ other ∷ texts) once = absurd once

-- ---- one more entry

abbrev pub with : List Entry → Text → Text → List Entry
with entries id text = entries ++ (id, text) ∷ []

absent-step : (b h : Bool) (at next : List Row) (r : Row) (rest : List Row) → (b || h) ≡ false
    → (h ≡ false → at ≡ rest) → cond b next (r ∷ at) ≡ r ∷ rest
absent-step true h at next r rest none more = absurd cc
absent-step false h at next r rest none more = ap (λ (rs : List Row). r ∷ rs) (more none)

absent : (id : Text) (change : Row → List Row) (missing rs : List Row) → has_row id rs ≡ false
    → at_row id change missing rs ≡ rs ++ missing
absent id change missing [] none = refl
absent id change missing (r ∷ rs) none =
    absent-step (bytes_eq r.id id) (has_row id rs) (at_row id change missing rs) (change r ++ rs) r (rs ++ missing) none
    (absent id change missing rs)

-- a first use of an argument adds its row
pub adds-row : (id text : Text) (entries : List Entry) → has_row id (rows entries) ≡ false
    → with_values id AsWritten CommandLine (text ∷ []) (without id (rows entries)) ≡ rows (with entries id text)
adds-row id text entries none =
    ap (with_values id AsWritten CommandLine (text ∷ []))
    (absent id (λ (r : Row). []) [] (rows entries) none ∙ append-nil (rows entries))
    ∙ absent id (more_values CommandLine (text ∷ [])) (row (id, text) ∷ []) (rows entries) none
    ∙ sym (map-append row entries ((id, text) ∷ []))
