-- The words that stand between the spaces of a line.
use Rattle.std.proofs.Common.{◌≡◌, ℕ, ◌+◌, Bool, true, false, cond, eqb, ltb, List, [], ◌∷◌, length}
use Rattle.std.proofs.Common.{take, drop, position, Option, Some, None, refl, sym, ap, ◌∙◌, arith}
use Rattle.std.proofs.Common.{Bor, not}
use Rattle.std.specs.Option.{is_some, option_copied}
use Rattle.std.specs.List.{onto_first, position_or_len}
use Rattle.std.proofs.lemmas.Bool.{ltb-false, ltb-true}
use Rattle.std.proofs.lemmas.List.Splits.{slice_split_first, slice_split_none}
use Rattle.std.proofs.lemmas.List.Sums.{fails_before_first}
use Rattle.std.proofs.lemmas.Option.{cond_some}
use Rattle.bl_certline.specs.Fields.{Bytes}
use Rattle.bl_certline.specs.SplitWords.{is_empty, split_words, words_left}

abbrev pub is_space : ℕ → Bool
is_space b = eqb b 32

cond_none : (b : Bool) (v : ℕ) → cond b (Some v) None ≡ None → b ≡ false
cond_none true v e = absurd cc
cond_none false v e = refl

pub split_words-cut : (line : Bytes) (end : ℕ) → Some end ≡ position is_space line
    → split_words line ≡ take end line ∷ split_words (drop (end + 1) line)
split_words-cut line end e =
    let place = position_or_len is_space line in
    let found = cond_some (ltb place (length line)) place end (sym e) in
    slice_split_first is_space line 0 (ltb-true _ _ found.0)
    ∙ ap (λ (i : ℕ). take i line ∷ split_words (drop (i + 1) line)) found.1

pub split_words-whole : (line : Bytes) → None ≡ position is_space line → split_words line ≡ line ∷ []
split_words-whole line e =
    let place = position_or_len is_space line in
    let past = ltb-false place (length line) (cond_none _ place (sym e)) in
    slice_split_none is_space line (λ k d lt. fails_before_first is_space line k d (omega arith))

onto_first-some : (b : ℕ) (words : List Bytes) → is_empty (onto_first b words) ≡ false
onto_first-some b [] = refl
onto_first-some b (word ∷ words) = refl

split-some : (b : ℕ) (line : Bytes) (test : Bool)
    → is_empty (cond test ([] ∷ split_words line) (onto_first b (split_words line))) ≡ false
split-some b line true = refl
split-some b line false = onto_first-some b (split_words line)

-- a line has a word
pub split_words-some : (line : Bytes) → is_empty (split_words line) ≡ false
split_words-some [] = refl
split_words-some (b ∷ line) = split-some b line (is_space b)

pub is_empty-left : (left : Option (Bor Bytes)) (none : Bool) → is_some left ≡ not none
    → none ≡ is_empty (words_left (option_copied left))
is_empty-left None true e = refl
is_empty-left None false e = absurd cc
is_empty-left (Some bytes) true e = absurd cc
is_empty-left (Some bytes) false e = sym (split_words-some bytes.now)
