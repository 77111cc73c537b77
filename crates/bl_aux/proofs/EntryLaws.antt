-- What one more line gives.
use Rattle.std.proofs.Common.{◌≡◌, ℕ, cond, List, [], ◌∷◌, ◌++◌, Option, Some, None, Ok, Err, Result, refl, sym, ap}
use Rattle.std.proofs.Common.{◌∙◌, ℤ}
use Rattle.std.specs.List.{filter_map}
use Rattle.std.proofs.lemmas.List.{append-nil}
use Rattle.std.proofs.lemmas.List.Elements.{filter_map-append}
use Rattle.bl_text.specs.Fields.{fields_of}
use Rattle.bl_aux.specs.declared.keys.Key.{Key}
use Rattle.bl_aux.specs.declared.keys.Key.TheVariants.{N, M, Lc, Lr, Lo, Os}
use Rattle.bl_aux.specs.declared.line.Entry.{Entry}
use Rattle.bl_aux.specs.declared.fault.AuxRule.{AuxRule}
use Rattle.bl_aux.specs.Lines.{said, line_said}
use Rattle.bl_aux.specs.Given.{Given, Sizes, is_key, entry_of, entries_of, numbers_of, given_by, entry_rule, said_rule}
use Rattle.bl_aux.specs.Given.{fields_rule, line_rule}
use Rattle.bl_aux.specs.Drafts.{Holding, with_number, with_entry, ruled, entered, after_line}

-- what is held after these lines
abbrev pub held_by : Sizes → List (List ℕ) → Holding
held_by sizes lines = record { sizes = sizes; given = given_by (entries_of lines) }

line_entry : List ℕ → Option Entry
line_entry line = entry_of (fields_of line)

entries_of-push : (lines : List (List ℕ)) (line : List ℕ)
    → entries_of (lines ++ line ∷ []) ≡ entries_of lines ++ filter_map (λ l. entry_of (fields_of l)) (line ∷ [])
entries_of-push lines line = filter_map-append (λ l. entry_of (fields_of l)) lines (line ∷ [])

-- a key's numbers with those of one more entry
numbers_of-push : (key : Key) (entries : List Entry) (entry : Entry)
    → numbers_of key (entries ++ entry ∷ []) ≡ numbers_of key entries ++ numbers_of key (entry ∷ [])
numbers_of-push key entries entry =
    filter_map-append (λ e. cond (is_key key e.key) (Some e.number) None) entries (entry ∷ [])

-- the six lists of a key at which one grows
abbrev grown : Given → Entry → Given
grown given entry = record {
  column_counts = given.column_counts ++ numbers_of N (entry ∷ []);
  row_counts = given.row_counts ++ numbers_of M (entry ∷ []);
  columns = given.columns ++ numbers_of Lc (entry ∷ []);
  rows = given.rows ++ numbers_of Lr (entry ∷ []);
  costs = given.costs ++ numbers_of Lo (entry ∷ []);
  senses = given.senses ++ numbers_of Os (entry ∷ []);
}

given_by-push : (entries : List Entry) (entry : Entry)
    → given_by (entries ++ entry ∷ []) ≡ grown (given_by entries) entry
given_by-push entries entry =
    rw (
      numbers_of-push N entries entry,
      numbers_of-push M entries entry,
      numbers_of-push Lc entries entry,
      numbers_of-push Lr entries entry,
      numbers_of-push Lo entries entry,
      numbers_of-push Os entries entry,
    ) refl

grown-is : (given : Given) (key : Key) (number : ℤ)
    → grown given (record { key = key; number = number }) ≡ with_number given key number
grown-is given N number =
    rw (
      append-nil given.row_counts,
      append-nil given.columns,
      append-nil given.rows,
      append-nil given.costs,
      append-nil given.senses,
    ) refl
grown-is given M number =
    rw (
      append-nil given.column_counts,
      append-nil given.columns,
      append-nil given.rows,
      append-nil given.costs,
      append-nil given.senses,
    ) refl
grown-is given Lc number =
    rw (
      append-nil given.column_counts,
      append-nil given.row_counts,
      append-nil given.rows,
      append-nil given.costs,
      append-nil given.senses,
    ) refl
grown-is given Lr number =
    rw (
      append-nil given.column_counts,
      append-nil given.row_counts,
      append-nil given.columns,
      append-nil given.costs,
      append-nil given.senses,
    ) refl
grown-is given Lo number =
    rw (
      append-nil given.column_counts,
      append-nil given.row_counts,
      append-nil given.columns,
      append-nil given.rows,
      append-nil given.senses,
    ) refl
grown-is given Os number =
    rw (
      append-nil given.column_counts,
      append-nil given.row_counts,
      append-nil given.columns,
      append-nil given.rows,
      append-nil given.costs,
    ) refl

-- the rule that a line breaks, beside what the reader makes of it
abbrev pub Follows : Sizes → List (List ℕ) → List ℕ → Option AuxRule → Type 0
Follows sizes lines line None = after_line (held_by sizes lines) line ≡ Ok (held_by sizes (lines ++ line ∷ []))
Follows sizes lines line (Some rule) = after_line (held_by sizes lines) line ≡ Err rule

pub held-nothing : (sizes : Sizes) (lines : List (List ℕ)) (line : List ℕ) → fields_of line ≡ []
    → held_by sizes lines ≡ held_by sizes (lines ++ line ∷ [])
held-nothing sizes lines line e =
    let same : entries_of (lines ++ line ∷ []) ≡ entries_of lines =
    entries_of-push lines line ∙ rw e (append-nil (entries_of lines)) in
    ap (λ (es : List Entry). record { sizes = sizes; given = given_by es }) (sym same)

pub held-entry : (sizes : Sizes) (lines : List (List ℕ)) (line : List ℕ) (field : List ℕ) (fields : List (List ℕ))
    (entry : Entry) → fields_of line ≡ field ∷ fields → said (field ∷ fields) ≡ Ok entry
    → with_entry (held_by sizes lines) entry ≡ held_by sizes (lines ++ line ∷ [])
held-entry sizes lines line field fields entry f e =
    let more : entries_of (lines ++ line ∷ []) ≡ entries_of lines ++ entry ∷ [] =
    entries_of-push lines line ∙ rw (f, e) refl in
    let given : given_by (entries_of (lines ++ line ∷ []))
    ≡ with_number (given_by (entries_of lines)) entry.key entry.number =
    ap given_by more ∙ given_by-push (entries_of lines) entry
    ∙ grown-is (given_by (entries_of lines)) entry.key entry.number in
    ap (λ (g : Given). record { sizes = sizes; given = g }) (sym given)

follows-ruled : (sizes : Sizes) (lines : List (List ℕ)) (line : List ℕ) (entry : Entry) (broken : Option AuxRule)
    → entered (held_by sizes lines) (line_said (fields_of line)) ≡ ruled (held_by sizes lines) entry broken
    → with_entry (held_by sizes lines) entry ≡ held_by sizes (lines ++ line ∷ []) → Follows sizes lines line broken
follows-ruled sizes lines line entry None e more = e ∙ ap (λ (h : Holding). Ok h) more
follows-ruled sizes lines line entry (Some rule) e more = e

follows-said : (sizes : Sizes) (lines : List (List ℕ)) (line : List ℕ) (field : List ℕ) (fields : List (List ℕ))
    (result : Result Entry AuxRule) → fields_of line ≡ field ∷ fields → said (field ∷ fields) ≡ result
    → Follows sizes lines line (said_rule sizes (given_by (entries_of lines)) result)
follows-said sizes lines line field fields (Ok entry) f e =
    let read : line_said (fields_of line) ≡ Ok (Some entry) = rw (f, e) refl in
    follows-ruled sizes lines line entry (entry_rule sizes (given_by (entries_of lines)) entry)
    (ap (entered (held_by sizes lines)) read) (held-entry sizes lines line field fields entry f e)
follows-said sizes lines line field fields (Err rule) f e =
    let read : line_said (fields_of line) ≡ Err rule = rw (f, e) refl in
    ap (entered (held_by sizes lines)) read

follows-fields : (sizes : Sizes) (lines : List (List ℕ)) (line : List ℕ) (fields : List (List ℕ))
    → fields_of line ≡ fields → Follows sizes lines line (fields_rule sizes (given_by (entries_of lines)) fields)
follows-fields sizes lines line [] f =
    let read : line_said (fields_of line) ≡ Ok None = rw f refl in
    ap (entered (held_by sizes lines)) read ∙ ap (λ (h : Holding). Ok h) (held-nothing sizes lines line f)
follows-fields sizes lines line (field ∷ fields) f =
    follows-said sizes lines line field fields (said (field ∷ fields)) f refl

-- The reader stops at a line exactly where it breaks a rule, and else holds what the lines give with it.
pub follows : (sizes : Sizes) (lines : List (List ℕ)) (line : List ℕ)
    → Follows sizes lines line (line_rule sizes lines line)
unfolding line_rule
follows sizes lines line = follows-fields sizes lines line (fields_of line) refl
