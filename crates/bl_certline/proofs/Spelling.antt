-- The spelling of a line, piece by piece.
use Rattle.std.proofs.Common.{◌≡◌, Bool, List, [], ◌∷◌, ◌++◌, map, refl, sym, ap, ◌∙◌, append_assoc, codes, ℤ}
use Rattle.std.specs.List.{flat_map, join_with_byte}
use Rattle.std.specs.Fmt.{signed_decimal}
use Rattle.std.proofs.lemmas.List.{append-nil}
use Rattle.bl_certline.specs.declared.line.CertLine.{CertLine}
use Rattle.bl_certline.specs.declared.line.CertLine.TheVariants as lines
use Rattle.bl_certline.specs.Fields.{Bytes, pair_word}
use Rattle.bl_certline.specs.Lines.{item_word, number_words, pair_words, side_words, spelling, value_mark}
use Rattle.bl_certline.specs.Spelled.{behind, close_head_text, close_text, line_text, numbers_text}
use Rattle.bl_certline.specs.Spelled.{pairs_text, sides_text}

-- words with a space before each
abbrev spaced : List Bytes → Bytes
spaced words = flat_map behind words

pub join-spaced : (word : Bytes) (words : List Bytes) → join_with_byte 32 (word ∷ words) ≡ word ++ spaced words
join-spaced word [] = sym (append-nil word)
join-spaced word (next ∷ words) = ap (λ (t : Bytes). word ++ 32 ∷ t) (join-spaced next words)

spaced-append : (front back : List Bytes) → spaced (front ++ back) ≡ spaced front ++ spaced back
spaced-append [] back = refl
spaced-append (word ∷ front) back =
    ap (λ (t : Bytes). behind word ++ t) (spaced-append front back)
    ∙ sym (append_assoc (behind word) (spaced front) (spaced back))

spaced-map : {X : Type 0} (word : X → Bytes) (xs : List X) → flat_map (λ x. behind (word x)) xs ≡ spaced (map word xs)
spaced-map word [] = refl
spaced-map word (x ∷ xs) = ap (λ (t : Bytes). behind (word x) ++ t) (spaced-map word xs)

spaced-sides : (ss : List (ℤ × ℤ)) → sides_text ss ≡ spaced (side_words ss)
spaced-sides [] = refl
spaced-sides (s ∷ ss) =
    append_assoc (behind (signed_decimal s.0)) (behind (signed_decimal s.1)) (sides_text ss)
    ∙ ap (λ (t : Bytes). behind (signed_decimal s.0) ++ (behind (signed_decimal s.1) ++ t)) (spaced-sides ss)

-- a word and words of numbers and the like
joined : {X : Type 0} (head : Bytes) (word : X → Bytes) (xs : List X)
    → head ++ flat_map (λ x. behind (word x)) xs ≡ join_with_byte 32 (head ∷ map word xs)
joined head word xs =
    ap (λ (t : Bytes). head ++ t) (spaced-map word xs) ∙ sym (join-spaced head (map word xs))

joined-sides : (head : Bytes) (ss : List (ℤ × ℤ)) → head ++ sides_text ss ≡ join_with_byte 32 (head ∷ side_words ss)
joined-sides head ss = ap (λ (t : Bytes). head ++ t) (spaced-sides ss) ∙ sym (join-spaced head (side_words ss))

regrouped : (c d m k n p : Bytes)
    → c ++ d ++ m ++ k ++ n ++ p ≡ c ++ (d ++ (m ++ (k ++ (n ++ p))))
regrouped c d m k n p = simp append_assoc

joined-lists : (head : Bytes) (cuts : List ℤ) (mult : List (ℤ × ℤ))
    → head ++ (numbers_text cuts ++ pairs_text mult) ≡ join_with_byte 32 (head ∷ (number_words cuts ++ pair_words mult))
joined-lists head cuts mult =
    ap (λ (t : Bytes). head ++ (t ++ pairs_text mult)) (spaced-map signed_decimal cuts)
    ∙ ap (λ (t : Bytes). head ++ (spaced (number_words cuts) ++ t)) (spaced-map pair_word mult)
    ∙ ap (λ (t : Bytes). head ++ t) (sym (spaced-append (number_words cuts) (pair_words mult)))
    ∙ sym (join-spaced head (number_words cuts ++ pair_words mult))

close-spelling : (den : ℤ) (value_row : Bool) (count : ℤ) (cuts : List ℤ) (mult : List (ℤ × ℤ))
    → close_text den value_row count cuts mult ≡ spelling (lines.Close den value_row count cuts mult)
unfolding close_head_text spelling
close-spelling den value_row count cuts mult =
    regrouped (codes "close") (behind (signed_decimal den)) (behind (value_mark value_row))
    (behind (signed_decimal count)) (numbers_text cuts) (pairs_text mult)
    ∙ ap (λ (t : Bytes). codes "close" ++ 32 ∷ (signed_decimal den ++ 32 ∷ (value_mark value_row ++ 32 ∷ t)))
    (joined-lists (signed_decimal count) cuts mult)

-- what is put piece by piece is the spelling
pub line_text-spelling : (line : CertLine) → line_text line ≡ spelling line
unfolding line_text spelling
line_text-spelling (lines.Version number) = refl
line_text-spelling (lines.Sense maximise) = refl
line_text-spelling (lines.StatesOptimal value) = refl
line_text-spelling lines.StatesInfeasible = refl
line_text-spelling (lines.Point values) = joined (codes "point") signed_decimal values
line_text-spelling (lines.Entries count) = refl
line_text-spelling (lines.EntryHead link) = joined (codes "entry") signed_decimal link
line_text-spelling (lines.Best value response) =
    ap (λ (t : Bytes). codes "best" ++ 32 ∷ t) (joined (signed_decimal value) signed_decimal response)
line_text-spelling lines.NoAnswer = refl
line_text-spelling (lines.Split column place) = refl
line_text-spelling (lines.Proof den mult) =
    ap (λ (t : Bytes). codes "proof" ++ 32 ∷ t) (joined (signed_decimal den) pair_word mult)
line_text-spelling (lines.CutCount count) = refl
line_text-spelling lines.CutHead = refl
line_text-spelling (lines.Area sides) = joined-sides (codes "box") sides
line_text-spelling (lines.TightList tight) = joined (codes "tight") item_word tight
line_text-spelling (lines.Inverse den) = refl
line_text-spelling (lines.Unit pairs) = joined (codes "unit") pair_word pairs
line_text-spelling (lines.At values) = joined (codes "at") signed_decimal values
line_text-spelling (lines.Response values) = joined (codes "response") signed_decimal values
line_text-spelling lines.TreeHead = refl
line_text-spelling (lines.Close den value_row count cuts mult) = close-spelling den value_row count cuts mult
line_text-spelling lines.End = refl
