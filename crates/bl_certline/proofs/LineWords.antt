-- The words of a line hold no space and no line feed, and the line falls into them again.
use Rattle.std.proofs.Common.{◌≡◌, ◌<◌, Bool, true, false, ltb, List, [], ◌∷◌, ◌++◌, map, refl, ap, ◌∙◌}
use Rattle.std.proofs.Common.{arith, codes, ℤ, pos, negsuc}
use Rattle.std.specs.Fmt.{signed_decimal}
use Rattle.std.specs.List.{AllByRecursion, join_with_byte, list_all}
use Rattle.std.proofs.lemmas.Bool.{ltb-true, ne_eqb}
use Rattle.std.proofs.lemmas.List.Elements.{All-from_recursion}
use Rattle.std.proofs.lemmas.List.Splits.{slice_split_at, slice_split_none}
use Rattle.bl_text.specs.Lines.{IsLine}
use Rattle.bl_certline.specs.declared.line.CertLine.{CertLine}
use Rattle.bl_certline.specs.declared.line.CertLine.TheVariants as lines
use Rattle.bl_certline.specs.declared.line.TightItem.{TightItem}
use Rattle.bl_certline.specs.declared.line.TightItem.TheVariants as items
use Rattle.bl_certline.specs.Fields.{Bytes, IsPair, IsWhole, pair_word}
use Rattle.bl_certline.specs.Lines.{AreMultipliers, AreWhole, IsMultiplier, IsProofNumber, IsWellFormed, item_word}
use Rattle.bl_certline.specs.Lines.{number_words, pair_words, place_of, sense_word, side_words, spelling, value_mark}
use Rattle.bl_certline.specs.Lines.{words_of}
use Rattle.bl_certline.specs.SplitWords.{is_empty, split_words}
use Rattle.bl_certline.proofs.Numbers.{IsPlainByte, and_true, number-plain}
use Rattle.bl_certline.proofs.SplitWords.{is_space}

-- ---- bytes of words

-- no space, and no byte below it
abbrev pub IsWord : Bytes → Type 0
IsWord word = AllByRecursion (λ b. 32 < b) word

abbrev pub AreWords : List Bytes → Type 0
AreWords words = AllByRecursion IsWord words

tested : (word : Bytes) → list_all (λ b. ltb 32 b) word ≡ true → IsWord word
tested [] h = tt
tested (b ∷ word) h =
    let both = and_true (ltb 32 b) (list_all (λ b. ltb 32 b) word) h in
    (ltb-true 32 b both.0, tested word both.1)

IsWord-append : (front back : Bytes) → IsWord front → IsWord back → IsWord (front ++ back)
IsWord-append [] back f b = b
IsWord-append (x ∷ front) back f b = (f.0, IsWord-append front back f.1 b)

plain_word : (word : Bytes) → AllByRecursion IsPlainByte word → IsWord word
plain_word [] h = tt
plain_word (b ∷ word) h = (omega (arith, h.0.0), plain_word word h.1)

pub number_word : (z : ℤ) → IsWhole z → IsWord (signed_decimal z)
number_word z whole = plain_word (signed_decimal z) (number-plain z whole)

pair_is_word : (p : ℤ × ℤ) → IsPair p → IsWord (pair_word p)
pair_is_word p h =
    IsWord-append (signed_decimal p.0) (58 ∷ signed_decimal p.1) (number_word p.0 h.index)
    (omega arith, number_word p.1 h.number)

item_is_word : (t : TightItem) → IsWhole (place_of t) → IsWord (item_word t)
item_is_word (items.Row place) h = (omega arith, number_word place h)
item_is_word (items.Upper place) h = (omega arith, number_word place h)
item_is_word (items.Lower place) h = (omega arith, number_word place h)
item_is_word (items.Cut place) h = (omega arith, number_word place h)

-- ---- lists of words

words-map : {X : Type 0} (Is : X → Type 0) (word : X → Bytes) → ((x : X) → Is x → IsWord (word x)) → (xs : List X)
    → AllByRecursion Is xs → AreWords (map word xs)
words-map Is word each [] h = tt
words-map Is word each (x ∷ xs) h = (each x h.0, words-map Is word each xs h.1)

number_are_words : (zs : List ℤ) → AreWhole zs → AreWords (number_words zs)
number_are_words zs h = words-map IsWhole signed_decimal number_word zs h

pair_are_words : (ps : List (ℤ × ℤ)) → AreMultipliers ps → AreWords (pair_words ps)
pair_are_words ps h = words-map IsMultiplier pair_word (λ p m. pair_is_word p m.0) ps h

side_are_words : (ss : List (ℤ × ℤ)) → AllByRecursion (λ s. IsWhole s.0 × IsWhole s.1) ss → AreWords (side_words ss)
side_are_words [] h = tt
side_are_words (s ∷ ss) h = (number_word s.0 h.0.0, (number_word s.1 h.0.1, side_are_words ss h.1))

AreWords-append : (front back : List Bytes) → AreWords front → AreWords back → AreWords (front ++ back)
AreWords-append [] back f b = b
AreWords-append (w ∷ front) back f b = (f.0, AreWords-append front back f.1 b)

sense_is_word : (maximise : Bool) → IsWord (sense_word maximise)
sense_is_word true = tested (codes "max") refl
sense_is_word false = tested (codes "min") refl

mark_is_word : (value_row : Bool) → IsWord (value_mark value_row)
mark_is_word true = tested (codes "v") refl
mark_is_word false = tested (codes "-") refl

pub whole_from_proof_number : (z : ℤ) → IsProofNumber z → IsWhole z
whole_from_proof_number (pos n) h = record { sfits = omega (arith, h) }
whole_from_proof_number (negsuc n) h = record { sfits = omega (arith, h) }

den_is_word : (z : ℤ) → IsProofNumber z → IsWord (signed_decimal z)
den_is_word z h = number_word z (whole_from_proof_number z h)

-- the words of a well-formed line
pub line_words : (line : CertLine) → IsWellFormed line → AreWords (words_of line)
line_words (lines.Version number) h = (tested (codes "mibs-certificate") refl, (number_word number h, tt))
line_words (lines.Sense maximise) h = (tested (codes "sense") refl, (sense_is_word maximise, tt))
line_words (lines.StatesOptimal value) h =
    (tested (codes "states") refl, (tested (codes "optimal") refl, (number_word value h, tt)))
line_words lines.StatesInfeasible h = (tested (codes "states") refl, (tested (codes "infeasible") refl, tt))
line_words (lines.Point values) h = (tested (codes "point") refl, number_are_words values h)
line_words (lines.Entries count) h = (tested (codes "entries") refl, (number_word count h.0, tt))
line_words (lines.EntryHead link) h = (tested (codes "entry") refl, number_are_words link h)
line_words (lines.Best value response) h = (tested (codes "best") refl, number_are_words (value ∷ response) h)
line_words lines.NoAnswer h = (tested (codes "none") refl, tt)
line_words (lines.Split column place) h =
    (tested (codes "split") refl, (number_word column h.0, (number_word place h.1, tt)))
line_words (lines.Proof den mult) h = (tested (codes "proof") refl, (den_is_word den h.0, pair_are_words mult h.1))
line_words (lines.CutCount count) h = (tested (codes "cuts") refl, (number_word count h.0, tt))
line_words lines.CutHead h = (tested (codes "cut") refl, tt)
line_words (lines.Area sides) h = (tested (codes "box") refl, side_are_words sides h)
line_words (lines.TightList tight) h =
    (tested (codes "tight") refl, words-map (λ t. IsWhole (place_of t)) item_word item_is_word tight h)
line_words (lines.Inverse den) h = (tested (codes "inverse") refl, (den_is_word den h, tt))
line_words (lines.Unit pairs) h = (tested (codes "unit") refl, pair_are_words pairs h)
line_words (lines.At values) h = (tested (codes "at") refl, number_are_words values h)
line_words (lines.Response values) h = (tested (codes "response") refl, number_are_words values h)
line_words lines.TreeHead h = (tested (codes "tree") refl, tt)
line_words (lines.Close den value_row count cuts mult) h = (
  tested (codes "close") refl,
  (
    den_is_word den h.0,
    (
      mark_is_word value_row,
      (
        number_word count h.1,
        AreWords-append (number_words cuts) (pair_words mult) (number_are_words cuts h.3) (pair_are_words mult h.4),
      ),
    ),
  ),
)
line_words lines.End h = (tested (codes "end") refl, tt)

-- a line has a word
words_of-some : (line : CertLine) → is_empty (words_of line) ≡ false
words_of-some (lines.Version number) = refl
words_of-some (lines.Sense maximise) = refl
words_of-some (lines.StatesOptimal value) = refl
words_of-some lines.StatesInfeasible = refl
words_of-some (lines.Point values) = refl
words_of-some (lines.Entries count) = refl
words_of-some (lines.EntryHead link) = refl
words_of-some (lines.Best value response) = refl
words_of-some lines.NoAnswer = refl
words_of-some (lines.Split column place) = refl
words_of-some (lines.Proof den mult) = refl
words_of-some (lines.CutCount count) = refl
words_of-some lines.CutHead = refl
words_of-some (lines.Area sides) = refl
words_of-some (lines.TightList tight) = refl
words_of-some (lines.Inverse den) = refl
words_of-some (lines.Unit pairs) = refl
words_of-some (lines.At values) = refl
words_of-some (lines.Response values) = refl
words_of-some lines.TreeHead = refl
words_of-some (lines.Close den value_row count cuts mult) = refl
words_of-some lines.End = refl

-- ---- from the line to its words

no_space : (word : Bytes) → IsWord word → AllByRecursion (λ b. is_space b ≡ false) word
no_space [] h = tt
no_space (b ∷ word) h = (ne_eqb b 32 (λ e. omega (arith, h.0, e)), no_space word h.1)

pub split_words-joined : (words : List Bytes) → is_empty words ≡ false → AreWords words
    → split_words (join_with_byte 32 words) ≡ words
split_words-joined [] some h = absurd cc
split_words-joined (word ∷ []) some h =
    slice_split_none is_space word (All-from_recursion (λ b. is_space b ≡ false) word (no_space word h.0))
split_words-joined (word ∷ next ∷ words) some h =
    slice_split_at is_space word 32 (join_with_byte 32 (next ∷ words))
    (All-from_recursion (λ b. is_space b ≡ false) word (no_space word h.0)) refl
    ∙ ap (λ (ws : List Bytes). word ∷ ws) (split_words-joined (next ∷ words) refl h.1)

-- the spelling of a well-formed line falls into its words
pub split_words-spelling : (line : CertLine) → IsWellFormed line → split_words (spelling line) ≡ words_of line
unfolding spelling
split_words-spelling line h = split_words-joined (words_of line) (words_of-some line) (line_words line h)

-- ---- no line feed

no_line_feed : (word : Bytes) → IsWord word → IsLine word
no_line_feed [] h = tt
no_line_feed (b ∷ word) h = (ne_eqb b 10 (λ e. omega (arith, h.0, e)), no_line_feed word h.1)

IsLine-append : (front back : Bytes) → IsLine front → IsLine back → IsLine (front ++ back)
IsLine-append [] back f b = b
IsLine-append (x ∷ front) back f b = (f.0, IsLine-append front back f.1 b)

line-joined : (words : List Bytes) → AreWords words → IsLine (join_with_byte 32 words)
line-joined [] h = tt
line-joined (word ∷ []) h = no_line_feed word h.0
line-joined (word ∷ next ∷ words) h =
    IsLine-append word (32 ∷ join_with_byte 32 (next ∷ words)) (no_line_feed word h.0)
    (refl, line-joined (next ∷ words) h.1)

-- the spelling of a well-formed line holds no line feed
pub line-spelling : (line : CertLine) → IsWellFormed line → IsLine (spelling line)
unfolding spelling
line-spelling line h = line-joined (words_of line) (line_words line h)
