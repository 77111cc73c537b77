-- Internal. The spelling of a line as it is put at the end of a text, piece by piece.
use Rattle.std.specs.Prelude.{◌≡◌, Bool, List, ◌∷◌, ◌++◌, ℤ, codes}
use Rattle.std.specs.List.{flat_map}
use Rattle.std.specs.Fmt.{signed_decimal}
use Rattle.bl_certline.specs.declared.line.CertLine.{CertLine}
use Rattle.bl_certline.specs.declared.line.CertLine.TheVariants as lines
use Rattle.bl_certline.specs.declared.line.TightItem.{TightItem}
use Rattle.bl_certline.specs.Fields.{Bytes, pair_word}
use Rattle.bl_certline.specs.Lines.{item_word, sense_word, value_mark}

-- the bytes that were there still come first
pub record Keeps (old new : Bytes) : Type 0 where
  pub more : Bytes
  pub kept : new ≡ old ++ more

-- a word behind a space
abbrev pub behind : Bytes → Bytes
behind word = 32 ∷ word

abbrev pub numbers_text : List ℤ → Bytes
numbers_text zs = flat_map (λ z. behind (signed_decimal z)) zs

abbrev pub pairs_text : List (ℤ × ℤ) → Bytes
pairs_text ps = flat_map (λ p. behind (pair_word p)) ps

abbrev pub side_text : ℤ × ℤ → Bytes
side_text s = behind (signed_decimal s.0) ++ behind (signed_decimal s.1)

abbrev pub sides_text : List (ℤ × ℤ) → Bytes
sides_text ss = flat_map side_text ss

abbrev pub items_text : List TightItem → Bytes
items_text ts = flat_map (λ t. behind (item_word t)) ts

-- a word and a number
abbrev pub numbered : Bytes → ℤ → Bytes
numbered word z = word ++ behind (signed_decimal z)

-- a word and numbers
abbrev pub headed : Bytes → List ℤ → Bytes
headed word zs = word ++ numbers_text zs

abbrev pub sense_text : Bool → Bytes
sense_text maximise = codes "sense " ++ sense_word maximise

abbrev pub split_text : ℤ → ℤ → Bytes
split_text column place = codes "split" ++ behind (signed_decimal column) ++ behind (signed_decimal place)

abbrev pub best_text : ℤ → List ℤ → Bytes
best_text value response = codes "best" ++ behind (signed_decimal value) ++ numbers_text response

abbrev pub proof_text : ℤ → List (ℤ × ℤ) → Bytes
proof_text den mult = codes "proof" ++ behind (signed_decimal den) ++ pairs_text mult

abbrev pub area_text : List (ℤ × ℤ) → Bytes
area_text sides = codes "box" ++ sides_text sides

abbrev pub tight_text : List TightItem → Bytes
tight_text tight = codes "tight" ++ items_text tight

abbrev pub unit_text : List (ℤ × ℤ) → Bytes
unit_text pairs = codes "unit" ++ pairs_text pairs

unfoldable pub close_head_text : ℤ → Bool → ℤ → Bytes
close_head_text den value_row count =
    codes "close" ++ behind (signed_decimal den) ++ behind (value_mark value_row) ++ behind (signed_decimal count)

abbrev pub close_text : ℤ → Bool → ℤ → List ℤ → List (ℤ × ℤ) → Bytes
close_text den value_row count cuts mult = close_head_text den value_row count ++ numbers_text cuts ++ pairs_text mult

-- the words of a line with one space between them
unfoldable pub line_text : CertLine → Bytes
line_text (lines.Version number) = numbered (codes "mibs-certificate") number
line_text (lines.Sense maximise) = sense_text maximise
line_text (lines.StatesOptimal value) = numbered (codes "states optimal") value
line_text lines.StatesInfeasible = codes "states infeasible"
line_text (lines.Point values) = headed (codes "point") values
line_text (lines.Entries count) = numbered (codes "entries") count
line_text (lines.EntryHead link) = headed (codes "entry") link
line_text (lines.Best value response) = best_text value response
line_text lines.NoAnswer = codes "none"
line_text (lines.Split column place) = split_text column place
line_text (lines.Proof den mult) = proof_text den mult
line_text (lines.CutCount count) = numbered (codes "cuts") count
line_text lines.CutHead = codes "cut"
line_text (lines.Area sides) = area_text sides
line_text (lines.TightList tight) = tight_text tight
line_text (lines.Inverse den) = numbered (codes "inverse") den
line_text (lines.Unit pairs) = unit_text pairs
line_text (lines.At values) = headed (codes "at") values
line_text (lines.Response values) = headed (codes "response") values
line_text lines.TreeHead = codes "tree"
line_text (lines.Close den value_row count cuts mult) = close_text den value_row count cuts mult
line_text lines.End = codes "end"
