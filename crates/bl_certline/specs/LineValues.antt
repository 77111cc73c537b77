-- Internal. What a line is read as, as a function of its words.
use Rattle.std.specs.Prelude.{ℕ, zero, suc, Bool, true, false, List, [], ◌∷◌, ℤ, pos, negsuc, nat_le, unsigned_abs}
use Rattle.std.specs.Prelude.{Option, ◌==◌, ◌&&◌, int_le}
use Rattle.std.specs.Prelude.{Some, None, codes, if◌then◌else◌}
use Rattle.std.specs.Option.{option_map}
use Rattle.std.specs.Str.{bytes_eq}
use Rattle.bl_limits.specs.declared.TheConstants.{MAX_PROOF_NUMBER}
use Rattle.bl_certline.specs.declared.line.CertLine.{CertLine}
use Rattle.bl_certline.specs.declared.line.CertLine.TheVariants as lines
use Rattle.bl_certline.specs.declared.line.TightItem.{TightItem}
use Rattle.bl_certline.specs.declared.line.TightItem.TheVariants as items
use Rattle.bl_certline.specs.declared.form.Form.{Form}
use Rattle.bl_certline.specs.declared.form.Form.TheVariants as forms
use Rattle.bl_certline.specs.Fields.{Bytes}
use Rattle.bl_certline.specs.FieldValues.{◌>>=◌, number_of, pair_of}
use Rattle.bl_certline.specs.Forms.{form_of}
use Rattle.bl_certline.specs.SplitWords.{first_word, is_empty}

-- the value, where the test passes
abbrev pub guarded : {X : Type 0} → Bool → X → Option X
guarded test x = if test then Some x else None

-- ---- single words

abbrev pub is_proof_number : ℤ → Bool
is_proof_number z = nat_le (unsigned_abs z) (unsigned_abs MAX_PROOF_NUMBER)

-- a multiplier within its limit, and its index
unfoldable pub multiplier_of : Bytes → Option (ℤ × ℤ)
multiplier_of word = do
  pair ← pair_of word
  guarded (is_proof_number pair.1) pair

-- what holds with equality, by its letter
abbrev pub item_at : ℕ → ℤ → Option TightItem
item_at letter place =
    if letter == 114 then Some (items.Row place) else (if letter == 117 then Some (items.Upper place)
    else (if letter == 108 then Some (items.Lower place) else (if letter == 99 then Some (items.Cut place) else None)))

unfoldable pub item_of : Bytes → Option TightItem
item_of [] = None
item_of (letter ∷ digits) = do
  place ← number_of digits
  item_at letter place

-- ---- several words

-- a number, and the words behind it
unfoldable pub number_at : List Bytes → Option (ℤ × List Bytes)
number_at words = do
  word ← first_word words
  number ← number_of word.0
  Some (number, word.1)

-- the number that stands alone
unfoldable pub only_number : List Bytes → Option ℤ
only_number words = do
  number ← number_at words
  guarded (is_empty number.1) number.0

-- what each word is read as, where each is
abbrev pub each_of : {X : Type 0} → (Bytes → Option X) → List Bytes → Option (List X)
each_of read [] = Some []
each_of read (word ∷ words) = do
  x ← read word
  xs ← each_of read words
  Some (x ∷ xs)

-- both sides of a column
abbrev pub side_of : Bytes → Option Bytes → Option (ℤ × ℤ)
side_of lo hi = do
  l ← number_of lo
  word ← hi
  h ← number_of word
  Some (l, h)

-- both sides for each column
abbrev pub sides_of : List Bytes → Option (List (ℤ × ℤ))
sides_of [] = Some []
sides_of (lo ∷ []) = None
sides_of (lo ∷ hi ∷ words) = do
  side ← side_of lo (Some hi)
  sides ← sides_of words
  Some (side ∷ sides)

-- so many numbers, and the words behind them
abbrev pub numbers_at : ℕ → List Bytes → Option (List ℤ × List Bytes)
numbers_at zero words = Some ([], words)
numbers_at (suc count) words = do
  number ← number_at words
  more ← numbers_at count number.1
  Some (number.0 ∷ more.0, more.1)

-- ---- lines

-- a sense word
abbrev pub sense_of : Bytes → Option Bool
sense_of word =
    if bytes_eq word (codes "max") then Some true else (if bytes_eq word (codes "min") then Some false else None)

-- whether a leaf's proof uses the value row
abbrev pub value_row_of : Bytes → Option Bool
value_row_of word =
    if bytes_eq word (codes "v") then Some true else (if bytes_eq word (codes "-") then Some false else None)

-- a number that isn't negative
unfoldable pub only_count : List Bytes → Option ℤ
only_count words = do
  count ← only_number words
  guarded (int_le (pos 0) count) count

-- a number within the limit of proofs, and the words behind it
unfoldable pub den_at : List Bytes → Option (ℤ × List Bytes)
den_at words = do
  den ← number_at words
  guarded (is_proof_number den.0) den

-- such a number alone
unfoldable pub only_den : List Bytes → Option ℤ
only_den words = do
  den ← den_at words
  guarded (is_empty den.1) den.0

unfoldable pub sense_line : List Bytes → Option CertLine
sense_line words = do
  word ← first_word words
  maximise ← sense_of word.0
  guarded (is_empty word.1) (lines.Sense maximise)

-- what is stated by this word
abbrev pub statement_of : Bytes → List Bytes → Option CertLine
statement_of word words =
    if bytes_eq word (codes "optimal") then option_map lines.StatesOptimal (only_number words)
    else guarded (bytes_eq word (codes "infeasible") && is_empty words) lines.StatesInfeasible

unfoldable pub states_line : List Bytes → Option CertLine
states_line words = do
  word ← first_word words
  statement_of word.0 word.1

unfoldable pub split_line : List Bytes → Option CertLine
split_line words = do
  column ← number_at words
  place ← only_number column.1
  Some (lines.Split column.0 place)

unfoldable pub best_line : List Bytes → Option CertLine
best_line words = do
  value ← number_at words
  response ← each_of number_of value.1
  Some (lines.Best value.0 response)

unfoldable pub proof_line : List Bytes → Option CertLine
proof_line words = do
  den ← den_at words
  mult ← each_of multiplier_of den.1
  Some (lines.Proof den.0 mult)

-- what stands before the cuts of a leaf, and the words behind it
unfoldable pub close_head : List Bytes → Option (ℤ × Bool × ℤ × List Bytes)
close_head words = do
  den ← den_at words
  mark ← first_word den.1
  value_row ← value_row_of mark.0
  count ← number_at mark.1
  Some (den.0, value_row, count.0, count.1)

-- so many cuts, and the words behind them
abbrev pub cuts_at : ℤ → List Bytes → Option (List ℤ × List Bytes)
cuts_at (pos count) words = numbers_at count words
cuts_at (negsuc count) words = None

unfoldable pub close_line : List Bytes → Option CertLine
close_line words = do
  head ← close_head words
  cuts ← cuts_at head.2 head.3
  mult ← each_of multiplier_of cuts.1
  Some (lines.Close head.0 head.1 head.2 cuts.0 mult)

-- the line of a form, where these are the words behind its first
unfoldable pub line_by : Form → List Bytes → Option CertLine
line_by forms.Version words = option_map lines.Version (only_number words)
line_by forms.Sense words = sense_line words
line_by forms.States words = states_line words
line_by forms.Point words = option_map lines.Point (each_of number_of words)
line_by forms.Entries words = option_map lines.Entries (only_count words)
line_by forms.Entry words = option_map lines.EntryHead (each_of number_of words)
line_by forms.Best words = best_line words
line_by forms.NoAnswer words = guarded (is_empty words) lines.NoAnswer
line_by forms.Split words = split_line words
line_by forms.Proof words = proof_line words
line_by forms.Cuts words = option_map lines.CutCount (only_count words)
line_by forms.Cut words = guarded (is_empty words) lines.CutHead
line_by forms.Area words = option_map lines.Area (sides_of words)
line_by forms.Tight words = option_map lines.TightList (each_of item_of words)
line_by forms.Inverse words = option_map lines.Inverse (only_den words)
line_by forms.Multiples words = option_map lines.Unit (each_of multiplier_of words)
line_by forms.At words = option_map lines.At (each_of number_of words)
line_by forms.Response words = option_map lines.Response (each_of number_of words)
line_by forms.Tree words = guarded (is_empty words) lines.TreeHead
line_by forms.Close words = close_line words
line_by forms.End words = guarded (is_empty words) lines.End

-- the line of these words
unfoldable pub line_of_words : List Bytes → Option CertLine
line_of_words words = do
  word ← first_word words
  form ← form_of word.0
  line_by form word.1
