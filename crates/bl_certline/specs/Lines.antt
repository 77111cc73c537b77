-- Trusted. The lines of a certificate, and the one spelling of each.
use Rattle.std.specs.Prelude.{◌≡◌, ◌≤◌, Bool, List, [], ◌∷◌, ◌++◌, length, map, ℤ, pos, ◌≤ℤ◌, ◌<ℤ◌, unsigned_abs, codes}
use Rattle.std.specs.Prelude.{⊤, if◌then◌else◌}
use Rattle.std.specs.List.{AllAdjacentBelow, AllByRecursion, flat_map, join_with_byte}
use Rattle.std.specs.Fmt.{signed_decimal}
use Rattle.bl_limits.specs.declared.TheConstants.{MAX_PROOF_NUMBER}
use Rattle.bl_certline.specs.declared.line.CertLine.{CertLine}
use Rattle.bl_certline.specs.declared.line.CertLine.TheVariants as lines
use Rattle.bl_certline.specs.declared.line.TightItem.{TightItem}
use Rattle.bl_certline.specs.declared.line.TightItem.TheVariants as items
use Rattle.bl_certline.specs.Fields.{Bytes, IsPair, IsWhole, pair_word}

-- ---- words

-- what the leader wants of his value
abbrev pub sense_word : Bool → Bytes
sense_word maximise = if maximise then codes "max" else codes "min"

-- `v` where a leaf's proof uses the value row
abbrev pub value_mark : Bool → Bytes
value_mark value_row = if value_row then codes "v" else codes "-"

-- a letter for what holds with equality, and its place
abbrev pub item_word : TightItem → Bytes
item_word (items.Row place) = codes "r" ++ signed_decimal place
item_word (items.Upper place) = codes "u" ++ signed_decimal place
item_word (items.Lower place) = codes "l" ++ signed_decimal place
item_word (items.Cut place) = codes "c" ++ signed_decimal place

-- a word for each number, in plain decimal
abbrev pub number_words : List ℤ → List Bytes
number_words zs = map signed_decimal zs

-- a word for each pair
abbrev pub pair_words : List (ℤ × ℤ) → List Bytes
pair_words ps = map pair_word ps

-- the lower and the upper side for each column
abbrev pub side_words : List (ℤ × ℤ) → List Bytes
side_words ss = flat_map (λ s. number_words (s.0 ∷ s.1 ∷ [])) ss

-- the words of a line
abbrev pub words_of : CertLine → List Bytes
words_of (lines.Version number) = codes "mibs-certificate" ∷ number_words (number ∷ [])
words_of (lines.Sense maximise) = codes "sense" ∷ sense_word maximise ∷ []
words_of (lines.StatesOptimal value) = codes "states" ∷ codes "optimal" ∷ number_words (value ∷ [])
words_of lines.StatesInfeasible = codes "states" ∷ codes "infeasible" ∷ []
words_of (lines.Point values) = codes "point" ∷ number_words values
words_of (lines.Entries count) = codes "entries" ∷ number_words (count ∷ [])
words_of (lines.EntryHead link) = codes "entry" ∷ number_words link
words_of (lines.Best value response) = codes "best" ∷ number_words (value ∷ response)
words_of lines.NoAnswer = codes "none" ∷ []
words_of (lines.Split column place) = codes "split" ∷ number_words (column ∷ place ∷ [])
words_of (lines.Proof den mult) = codes "proof" ∷ signed_decimal den ∷ pair_words mult
words_of (lines.CutCount count) = codes "cuts" ∷ number_words (count ∷ [])
words_of lines.CutHead = codes "cut" ∷ []
words_of (lines.Area sides) = codes "box" ∷ side_words sides
words_of (lines.TightList tight) = codes "tight" ∷ map item_word tight
words_of (lines.Inverse den) = codes "inverse" ∷ number_words (den ∷ [])
words_of (lines.Unit pairs) = codes "unit" ∷ pair_words pairs
words_of (lines.At values) = codes "at" ∷ number_words values
words_of (lines.Response values) = codes "response" ∷ number_words values
words_of lines.TreeHead = codes "tree" ∷ []
words_of (lines.Close den value_row count cuts mult) =
    codes "close" ∷ signed_decimal den ∷ value_mark value_row ∷ signed_decimal count
    ∷ (number_words cuts ++ pair_words mult)
words_of lines.End = codes "end" ∷ []

-- the line's words with one space between them
unfoldable pub spelling : CertLine → Bytes
spelling line = join_with_byte 32 (words_of line)

-- ---- well-formed and canonical lines

-- a denominator or a multiplier is small enough
abbrev pub IsProofNumber : ℤ → Type 0
IsProofNumber z = unsigned_abs z ≤ unsigned_abs MAX_PROOF_NUMBER

-- a number of 64 bits that isn't negative
abbrev pub IsCount : ℤ → Type 0
IsCount z = IsWhole z × (pos 0 ≤ℤ z)

-- numbers of 64 bits
abbrev pub AreWhole : List ℤ → Type 0
AreWhole zs = AllByRecursion IsWhole zs

-- an index and a nonzero multiplier
abbrev pub IsMultiplier : ℤ × ℤ → Type 0
IsMultiplier p = IsPair p × IsProofNumber p.1

-- pairs of that kind
abbrev pub AreMultipliers : List (ℤ × ℤ) → Type 0
AreMultipliers ps = AllByRecursion IsMultiplier ps

-- the place that an item names
abbrev pub place_of : TightItem → ℤ
place_of (items.Row place) = place
place_of (items.Upper place) = place
place_of (items.Lower place) = place
place_of (items.Cut place) = place

-- The numbers of a line keep their limits, no count is negative, no multiplier is 0, and a leaf counts the cuts that it
-- lists. Indices may be negative and in any order: they are judged where it is known what they are indices of.
abbrev pub IsWellFormed : CertLine → Type 0
IsWellFormed (lines.Version number) = IsWhole number
IsWellFormed (lines.Sense maximise) = ⊤
IsWellFormed (lines.StatesOptimal value) = IsWhole value
IsWellFormed lines.StatesInfeasible = ⊤
IsWellFormed (lines.Point values) = AreWhole values
IsWellFormed (lines.Entries count) = IsCount count
IsWellFormed (lines.EntryHead link) = AreWhole link
IsWellFormed (lines.Best value response) = AreWhole (value ∷ response)
IsWellFormed lines.NoAnswer = ⊤
IsWellFormed (lines.Split column place) = IsWhole column × IsWhole place
IsWellFormed (lines.Proof den mult) = IsProofNumber den × AreMultipliers mult
IsWellFormed (lines.CutCount count) = IsCount count
IsWellFormed lines.CutHead = ⊤
IsWellFormed (lines.Area sides) = AllByRecursion (λ s. IsWhole s.0 × IsWhole s.1) sides
IsWellFormed (lines.TightList tight) = AllByRecursion (λ t. IsWhole (place_of t)) tight
IsWellFormed (lines.Inverse den) = IsProofNumber den
IsWellFormed (lines.Unit pairs) = AreMultipliers pairs
IsWellFormed (lines.At values) = AreWhole values
IsWellFormed (lines.Response values) = AreWhole values
IsWellFormed lines.TreeHead = ⊤
IsWellFormed (lines.Close den value_row count cuts mult) =
    IsProofNumber den × IsWhole count × (count ≡ pos (length cuts)) × AreWhole cuts × AreMultipliers mult
IsWellFormed lines.End = ⊤

-- the line is well formed, and these bytes are its spelling
pub record IsSpelled (bytes : Bytes) (line : CertLine) : Type 0 where
  pub well_formed : IsWellFormed line
  pub spelled : bytes ≡ spelling line

-- each index is below the next
abbrev pub IndicesRise : List (ℤ × ℤ) → Type 0
IndicesRise ps = AllAdjacentBelow (λ p q. p.0 <ℤ q.0) ps (length ps)

-- the indices of a line's pairs rise
abbrev pub PairsRise : CertLine → Type 0
PairsRise (lines.Proof den mult) = IndicesRise mult
PairsRise (lines.Unit pairs) = IndicesRise pairs
PairsRise (lines.Close den value_row count cuts mult) = IndicesRise mult
PairsRise other = ⊤

-- the line is well formed, its pairs rise, and these bytes are its spelling
pub record IsCanonical (bytes : Bytes) (line : CertLine) : Type 0 where
  pub well_formed : IsWellFormed line
  pub rising : PairsRise line
  pub spelled : bytes ≡ spelling line
