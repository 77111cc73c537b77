-- Trusted. What the lines of an auxiliary text give together, and which rule a line breaks given the lines before it.
use Rattle.std.specs.Prelude.{ℕ, ◌+◌, ℤ, pos, negsuc, Bool, true, false, not, ◌||◌, nat_lt, List, [], ◌∷◌, Option, None}
use Rattle.std.specs.Prelude.{Some, Result, Ok, Err, if◌then◌else◌}
use Rattle.std.specs.List.{filter_map, list_any}
use Rattle.std.specs.Ordering.{int_eq}
use Rattle.bl_text.specs.Fields.{fields_of}
use Rattle.bl_aux.specs.declared.keys.Key.{Key}
use Rattle.bl_aux.specs.declared.keys.Key.TheVariants.{N, M, Lc, Lr, Lo, Os}
use Rattle.bl_aux.specs.declared.fault.AuxRule.{AuxRule}
use Rattle.bl_aux.specs.declared.fault.AuxRule.TheVariants.{OutOfOrder, Repeated, BadIndex, BadSense}
use Rattle.bl_aux.specs.declared.line.Entry.{Entry}
use Rattle.bl_aux.specs.Lines.{said}

-- the key is this one
abbrev pub is_key : Key → Key → Bool
is_key N N = true
is_key M M = true
is_key Lc Lc = true
is_key Lr Lr = true
is_key Lo Lo = true
is_key Os Os = true
is_key _ _ = false

-- what a line says, where it has fields and keeps the rules on a line by itself
abbrev pub entry_said : Result Entry AuxRule → Option Entry
entry_said (Ok entry) = Some entry
entry_said (Err rule) = None

abbrev pub entry_of : List (List ℕ) → Option Entry
entry_of [] = None
entry_of (field ∷ fields) = entry_said (said (field ∷ fields))

-- the entries of lines in order
abbrev pub entries_of : List (List ℕ) → List Entry
entries_of lines = filter_map (λ line. entry_of (fields_of line)) lines

-- the numbers after a key, in order
abbrev pub numbers_of : Key → List Entry → List ℤ
numbers_of key entries = filter_map (λ entry. if is_key key entry.key then Some entry.number else None) entries

-- the numbers after each key
pub record Given : Type 0 where
  pub column_counts : List ℤ
  pub row_counts : List ℤ
  pub columns : List ℤ
  pub rows : List ℤ
  pub costs : List ℤ
  pub senses : List ℤ

abbrev pub given_by : List Entry → Given
given_by entries = record {
  column_counts = numbers_of N entries;
  row_counts = numbers_of M entries;
  columns = numbers_of Lc entries;
  rows = numbers_of Lr entries;
  costs = numbers_of Lo entries;
  senses = numbers_of Os entries;
}

-- how many columns and rows the model has
pub record Sizes : Type 0 where
  pub columns : ℕ
  pub rows : ℕ

abbrev pub sizes_of : ℕ → ℕ → Sizes
sizes_of columns rows = record { columns = columns; rows = rows }

abbrev pub is_empty : List ℤ → Bool
is_empty [] = true
is_empty (number ∷ numbers) = false

-- N stands first, and M second
abbrev pub is_out_of_order : Given → Key → Bool
is_out_of_order given key =
    if is_empty given.column_counts then not (is_key N key)
    else (if is_empty given.row_counts then not (is_key M key) else false)

-- from 0 on and below the limit
abbrev pub is_below : ℕ → ℤ → Bool
is_below limit (pos number) = nat_lt number limit
is_below limit (negsuc _) = false

abbrev pub bad_index : Bool → Option AuxRule
bad_index within = if within then None else Some BadIndex

-- a count, which is given once and is at most the model's
abbrev pub count_rule : ℕ → List ℤ → ℤ → Option AuxRule
count_rule most before number = if is_empty before then bad_index (is_below (most + 1) number) else Some Repeated

-- an index, each given once for its key
abbrev pub index_rule : ℕ → List ℤ → ℤ → Option AuxRule
index_rule size before number =
    if list_any (λ other. int_eq other number) before then Some Repeated else bad_index (is_below size number)

-- 1 or -1, given once
abbrev pub sense_rule : List ℤ → ℤ → Option AuxRule
sense_rule before number =
    if is_empty before
    then (if int_eq number (pos 1) || int_eq number (negsuc 0) then None else Some BadSense)
    else Some Repeated

abbrev pub key_rule : Sizes → Given → Key → ℤ → Option AuxRule
key_rule sizes given N number = count_rule sizes.columns given.column_counts number
key_rule sizes given M number = count_rule sizes.rows given.row_counts number
key_rule sizes given Lc number = index_rule sizes.columns given.columns number
key_rule sizes given Lr number = index_rule sizes.rows given.rows number
key_rule sizes given Lo number = None
key_rule sizes given Os number = sense_rule given.senses number

-- the rule that an entry breaks given what stands before it
unfoldable pub entry_rule : Sizes → Given → Entry → Option AuxRule
entry_rule sizes given entry =
    if is_out_of_order given entry.key then Some OutOfOrder else key_rule sizes given entry.key entry.number

abbrev pub said_rule : Sizes → Given → Result Entry AuxRule → Option AuxRule
said_rule sizes given (Ok entry) = entry_rule sizes given entry
said_rule sizes given (Err rule) = Some rule

-- the rule that a line breaks given what stands before it; a line without fields breaks none
abbrev pub fields_rule : Sizes → Given → List (List ℕ) → Option AuxRule
fields_rule sizes given [] = None
fields_rule sizes given (field ∷ fields) = said_rule sizes given (said (field ∷ fields))

-- the rule that a line breaks given the lines before it
unfoldable pub line_rule : Sizes → List (List ℕ) → List ℕ → Option AuxRule
line_rule sizes before line = fields_rule sizes (given_by (entries_of before)) (fields_of line)
