-- A well-formed line is read from its spelling, and what is read is spelled so.
use Rattle.std.proofs.Common.{◌≡◌, Bool, true, false, cond, List, [], ◌∷◌, ◌++◌, Option, Some, None}
use Rattle.std.proofs.Common.{refl, sym, ap, subst, ◌∙◌, codes, ◌&&◌, ℤ, find}
use Rattle.std.specs.Prelude.{◌↔◌, IsTrue}
use Rattle.std.specs.Bool.{then_some}
use Rattle.std.specs.Fmt.{signed_decimal}
use Rattle.std.specs.Option.{option_map, option_and_then}
use Rattle.std.specs.List.{join_with_byte}
use Rattle.std.specs.Str.{bytes_eq}
use Rattle.std.proofs.lemmas.Bool.{false≢true}
use Rattle.std.proofs.lemmas.List.Splits.{join_with_byte-slice_split}
use Rattle.std.proofs.lemmas.Option.{cond_some, option_and_then_some}
use Rattle.std.proofs.lemmas.Slice.Eq.{bytes_eq-Decides}
use Rattle.bl_certline.specs.declared.form.Form.{Form}
use Rattle.bl_certline.specs.declared.form.Form.TheVariants as forms
use Rattle.bl_certline.specs.declared.form.TheConstants.{FORMS}
use Rattle.bl_certline.specs.declared.line.CertLine.{CertLine}
use Rattle.bl_certline.specs.declared.line.CertLine.TheVariants as lines
use Rattle.bl_certline.specs.Fields.{Bytes, Finds, IsWhole}
use Rattle.bl_certline.specs.FieldValues.{number_of}
use Rattle.bl_certline.specs.Forms.{form_of, word_of}
use Rattle.bl_certline.specs.Lines.{AreMultipliers, AreWhole, IsCanonical, IsProofNumber, IsSpelled, IsWellFormed}
use Rattle.bl_certline.specs.Lines.{PairsRise}
use Rattle.bl_certline.specs.Lines.{number_words, pair_words, sense_word, spelling, value_mark, words_of}
use Rattle.bl_certline.specs.LineValues.{best_line, close_head, close_line, cuts_at, den_at, each_of, guarded, item_of}
use Rattle.bl_certline.specs.LineValues.{line_by, line_of_words, multiplier_of, number_at, only_count, only_den}
use Rattle.bl_certline.specs.LineValues.{only_number, proof_line, sense_line, sense_of, sides_of, split_line}
use Rattle.bl_certline.specs.LineValues.{statement_of, states_line, value_row_of}
use Rattle.bl_certline.specs.SplitWords.{first_word, is_empty, split_words}
use Rattle.bl_certline.proofs.LineWords.{split_words-spelling}
use Rattle.bl_certline.proofs.Numbers.{and_true}
use Rattle.bl_certline.proofs.Reading.{cuts_at-some, cuts_at-spelled, den_at-some, den_at-spelled}
use Rattle.bl_certline.proofs.Reading.{items-some, items-spelled, multipliers-some, multipliers-spelled, none_left}
use Rattle.bl_certline.proofs.Reading.{number_at-some, number_at-spelled, numbers-some, numbers-spelled}
use Rattle.bl_certline.proofs.Reading.{only_count-some, only_count-spelled, only_den-some, only_den-spelled}
use Rattle.bl_certline.proofs.Reading.{only_number-some, only_number-spelled, option_map_some, sides-some}
use Rattle.bl_certline.proofs.Reading.{sides-spelled}

-- a line is well formed, and these are its words
pub record Takes (words : List Bytes) (line : CertLine) : Type 0 where
  well_formed : IsWellFormed line
  spelled : words ≡ words_of line

-- words behind another
behind : (head : Bytes) (words others : List Bytes) → words ≡ others → head ∷ words ≡ head ∷ others
behind head words others e = ap (λ (ws : List Bytes). head ∷ ws) e

-- ---- lines of a word

alone-takes : (head : Bytes) (words : List Bytes) (made line : CertLine) → Takes (head ∷ []) made
    → guarded (is_empty words) made ≡ Some line → Takes (head ∷ words) line
alone-takes head words made line h e =
    let alone = cond_some _ _ _ e in
    subst (Takes (head ∷ words)) alone.1 (record {
      well_formed = h.well_formed;
      spelled = behind head words [] (none_left words alone.0) ∙ h.spelled;
    })

-- ---- lines of numbers

mapped-takes : {X : Type 0} (head : Bytes) (words : List Bytes) (make : X → CertLine) (read : Option X)
    (line : CertLine)
    → ((x : X) → read ≡ Some x → Takes (head ∷ words) (make x)) → option_map make read ≡ Some line
    → Takes (head ∷ words) line
mapped-takes head words make read line each e =
    option_map_some make read line e (λ x got same. subst (Takes (head ∷ words)) same (each x got))

-- ---- lines of several parts

sense_of-some : (word : Bytes) (maximise : Bool) → sense_of word ≡ Some maximise → word ≡ sense_word maximise
sense_of-some word maximise e =
    elim (bytes_eq word (codes "max")) as (λ test. bytes_eq word (codes "max") ≡ test
    → cond test (Some true) (cond (bytes_eq word (codes "min")) (Some false) None) ≡ Some maximise
    → word ≡ sense_word maximise) [
      | true ↦ λ test f.
          let same : true ≡ maximise = cc in
          (bytes_eq-Decides word (codes "max")).0 test ∙ ap sense_word same
      | false ↦ λ test f.
          let found = cond_some _ _ _ f in
          (bytes_eq-Decides word (codes "min")).0 found.0 ∙ ap sense_word found.1
    ] refl e

value_row_of-some : (word : Bytes) (value_row : Bool) → value_row_of word ≡ Some value_row → word ≡ value_mark value_row
value_row_of-some word value_row e =
    elim (bytes_eq word (codes "v")) as (λ test. bytes_eq word (codes "v") ≡ test
    → cond test (Some true) (cond (bytes_eq word (codes "-")) (Some false) None) ≡ Some value_row
    → word ≡ value_mark value_row) [
      | true ↦ λ test f.
          let same : true ≡ value_row = cc in
          (bytes_eq-Decides word (codes "v")).0 test ∙ ap value_mark same
      | false ↦ λ test f.
          let found = cond_some _ _ _ f in
          (bytes_eq-Decides word (codes "-")).0 found.0 ∙ ap value_mark found.1
    ] refl e

pub sense-takes : (words : List Bytes) (line : CertLine) → sense_line words ≡ Some line
    → Takes (codes "sense" ∷ words) line
unfolding sense_line
sense-takes [] line e = absurd cc
sense-takes (word ∷ words) line e =
    option_and_then_some _ (sense_of word) line e (λ maximise read last.
    let alone = cond_some _ _ _ last in
    subst (Takes (codes "sense" ∷ word ∷ words)) alone.1 (record {
      well_formed = tt;
      spelled = behind (codes "sense") (word ∷ words) (word ∷ []) (behind word words [] (none_left words alone.0))
          ∙ ap (λ (w : Bytes). codes "sense" ∷ w ∷ []) (sense_of-some word maximise read);
    }))

statement-takes : (word : Bytes) (words : List Bytes) (line : CertLine) → statement_of word words ≡ Some line
    → Takes (codes "states" ∷ word ∷ words) line
statement-takes word words line e =
    elim (bytes_eq word (codes "optimal")) as (λ test. bytes_eq word (codes "optimal") ≡ test
    → cond test (option_map lines.StatesOptimal (only_number words))
    (guarded (bytes_eq word (codes "infeasible") && is_empty words) lines.StatesInfeasible) ≡ Some line
    → Takes (codes "states" ∷ word ∷ words) line) [
      | true ↦ λ test f.
          let same = (bytes_eq-Decides word (codes "optimal")).0 test in
          option_map_some lines.StatesOptimal (only_number words) line f (λ value read made.
          let found = only_number-some words value read in
          subst (Takes (codes "states" ∷ word ∷ words)) made (record {
            well_formed = found.whole;
            spelled = ap (λ (w : Bytes). codes "states" ∷ w ∷ words) same
                ∙ ap (λ (ws : List Bytes). codes "states" ∷ codes "optimal" ∷ ws) found.spelled;
          }))
      | false ↦ λ test f.
          let tested = cond_some _ _ _ f in
          let both = and_true _ _ tested.0 in
          let same = (bytes_eq-Decides word (codes "infeasible")).0 both.0 in
          subst (Takes (codes "states" ∷ word ∷ words)) tested.1 (record {
            well_formed = tt;
            spelled = ap (λ (w : Bytes). codes "states" ∷ w ∷ words) same
                ∙ ap (λ (ws : List Bytes). codes "states" ∷ codes "infeasible" ∷ ws) (none_left words both.1);
          })
    ] refl e

states-takes : (words : List Bytes) (line : CertLine) → states_line words ≡ Some line
    → Takes (codes "states" ∷ words) line
unfolding states_line
states-takes [] line e = absurd cc
states-takes (word ∷ words) line e = statement-takes word words line e

split-takes : (words : List Bytes) (line : CertLine) → split_line words ≡ Some line → Takes (codes "split" ∷ words) line
unfolding split_line
split-takes words line e =
    option_and_then_some _ (number_at words) line e (λ column first rest.
    option_and_then_some _ (only_number column.1) line rest (λ place second last.
    let one = number_at-some words column first in
    let other = only_number-some column.1 place second in
    let made : lines.Split column.0 place ≡ line = cc in
    subst (Takes (codes "split" ∷ words)) made (record {
      well_formed = (one.whole, other.whole);
      spelled = behind (codes "split") words _ one.spelled
          ∙ ap (λ (ws : List Bytes). codes "split" ∷ signed_decimal column.0 ∷ ws) other.spelled;
    })))

best-takes : (words : List Bytes) (line : CertLine) → best_line words ≡ Some line → Takes (codes "best" ∷ words) line
unfolding best_line
best-takes words line e =
    option_and_then_some _ (number_at words) line e (λ value first rest.
    option_and_then_some _ (each_of number_of value.1) line rest (λ response second last.
    let one = number_at-some words value first in
    let others = numbers-some value.1 response second in
    let made : lines.Best value.0 response ≡ line = cc in
    subst (Takes (codes "best" ∷ words)) made (record {
      well_formed = (one.whole, others.are);
      spelled = behind (codes "best") words _ one.spelled
          ∙ ap (λ (ws : List Bytes). codes "best" ∷ signed_decimal value.0 ∷ ws) others.spelled;
    })))

proof-takes : (words : List Bytes) (line : CertLine) → proof_line words ≡ Some line → Takes (codes "proof" ∷ words) line
unfolding proof_line
proof-takes words line e =
    option_and_then_some _ (den_at words) line e (λ den first rest.
    option_and_then_some _ (each_of multiplier_of den.1) line rest (λ mult second last.
    let one = den_at-some words den first in
    let others = multipliers-some den.1 mult second in
    let made : lines.Proof den.0 mult ≡ line = cc in
    subst (Takes (codes "proof" ∷ words)) made (record {
      well_formed = (one.small, others.are);
      spelled = behind (codes "proof") words _ one.spelled
          ∙ ap (λ (ws : List Bytes). codes "proof" ∷ signed_decimal den.0 ∷ ws) others.spelled;
    })))

-- what stands before the cuts of a leaf
record IsHead (words : List Bytes) (head : ℤ × Bool × ℤ × List Bytes) : Type 0 where
  small : IsProofNumber head.0
  whole : IsWhole head.2
  spelled : words ≡ signed_decimal head.0 ∷ value_mark head.1 ∷ signed_decimal head.2 ∷ head.3

head-rest : (den : ℤ × List Bytes) (words : List Bytes) (head : ℤ × Bool × ℤ × List Bytes) (marked : List Bytes)
    → den.1 ≡ marked → IsProofNumber den.0 → words ≡ signed_decimal den.0 ∷ den.1
    → option_and_then (λ mark. option_and_then (λ value_row. option_and_then (λ count.
    Some (den.0, value_row, count.0, count.1)) (number_at mark.1)) (value_row_of mark.0)) (first_word marked)
    ≡ Some head
    → IsHead words head
head-rest den words head [] same small spelled e = absurd cc
head-rest den words head (mark ∷ others) same small spelled e =
    option_and_then_some _ (value_row_of mark) head e (λ value_row second rest.
    option_and_then_some _ (number_at others) head rest (λ count third last.
    let number = number_at-some others count third in
    let all : ℤ × Bool × ℤ × List Bytes = (den.0, value_row, count.0, count.1) in
    let made : all ≡ head = cc in
    subst (IsHead words) made (record {
      small = small;
      whole = number.whole;
      spelled = spelled ∙ ap (λ (ws : List Bytes). signed_decimal den.0 ∷ ws) same
          ∙ ap (λ (w : Bytes). signed_decimal den.0 ∷ w ∷ others) (value_row_of-some mark value_row second)
          ∙ ap (λ (ws : List Bytes). signed_decimal den.0 ∷ value_mark value_row ∷ ws) number.spelled;
    })))

close_head-some : (words : List Bytes) (head : ℤ × Bool × ℤ × List Bytes) → close_head words ≡ Some head
    → IsHead words head
unfolding close_head
close_head-some words head e =
    option_and_then_some _ (den_at words) head e (λ den first rest.
    let one = den_at-some words den first in head-rest den words head den.1 refl one.small one.spelled rest)

close-takes : (words : List Bytes) (line : CertLine) → close_line words ≡ Some line → Takes (codes "close" ∷ words) line
unfolding close_line
close-takes words line e =
    option_and_then_some _ (close_head words) line e (λ head first rest.
    option_and_then_some _ (cuts_at head.2 head.3) line rest (λ cuts second more.
    option_and_then_some _ (each_of multiplier_of cuts.1) line more (λ mult third last.
    let front = close_head-some words head first in
    let cited = cuts_at-some head.2 head.3 cuts second in
    let pairs = multipliers-some cuts.1 mult third in
    let made : lines.Close head.0 head.1 head.2 cuts.0 mult ≡ line = cc in
    subst (Takes (codes "close" ∷ words)) made (record {
      well_formed = (front.small, front.whole, cited.counted, cited.are, pairs.are);
      spelled = behind (codes "close") words _ front.spelled
          ∙ ap (λ (ws : List Bytes). codes "close" ∷ signed_decimal head.0 ∷ value_mark head.1
          ∷ signed_decimal head.2 ∷ ws) (cited.spelled
          ∙ ap (λ (ws : List Bytes). number_words cuts.0 ++ ws) pairs.spelled);
    }))))

-- ---- lines of each form

line_by-takes : (form : Form) (words : List Bytes) (line : CertLine) → line_by form words ≡ Some line
    → Takes (word_of form ∷ words) line
unfolding line_by
line_by-takes forms.Version words line e =
    mapped-takes _ words lines.Version (only_number words) line (λ z read.
    let found = only_number-some words z read in
    record { well_formed = found.whole; spelled = behind _ words _ found.spelled }) e
line_by-takes forms.Sense words line e = sense-takes words line e
line_by-takes forms.States words line e = states-takes words line e
line_by-takes forms.Point words line e =
    mapped-takes _ words lines.Point (each_of number_of words) line (λ zs read.
    let found = numbers-some words zs read in
    record { well_formed = found.are; spelled = behind _ words _ found.spelled }) e
line_by-takes forms.Entries words line e =
    mapped-takes _ words lines.Entries (only_count words) line (λ z read.
    let found = only_count-some words z read in
    record { well_formed = (found.number.whole, found.from); spelled = behind _ words _ found.number.spelled }) e
line_by-takes forms.Entry words line e =
    mapped-takes _ words lines.EntryHead (each_of number_of words) line (λ zs read.
    let found = numbers-some words zs read in
    record { well_formed = found.are; spelled = behind _ words _ found.spelled }) e
line_by-takes forms.Best words line e = best-takes words line e
line_by-takes forms.NoAnswer words line e =
    alone-takes _ words lines.NoAnswer line (record { well_formed = tt; spelled = refl }) e
line_by-takes forms.Split words line e = split-takes words line e
line_by-takes forms.Proof words line e = proof-takes words line e
line_by-takes forms.Cuts words line e =
    mapped-takes _ words lines.CutCount (only_count words) line (λ z read.
    let found = only_count-some words z read in
    record { well_formed = (found.number.whole, found.from); spelled = behind _ words _ found.number.spelled }) e
line_by-takes forms.Cut words line e =
    alone-takes _ words lines.CutHead line (record { well_formed = tt; spelled = refl }) e
line_by-takes forms.Area words line e =
    mapped-takes _ words lines.Area (sides_of words) line (λ ss read.
    let found = sides-some words ss read in
    record { well_formed = found.are; spelled = behind _ words _ found.spelled }) e
line_by-takes forms.Tight words line e =
    mapped-takes _ words lines.TightList (each_of item_of words) line (λ ts read.
    let found = items-some words ts read in
    record { well_formed = found.are; spelled = behind _ words _ found.spelled }) e
line_by-takes forms.Inverse words line e =
    mapped-takes _ words lines.Inverse (only_den words) line (λ z read.
    let found = only_den-some words z read in
    record { well_formed = found.small; spelled = behind _ words _ found.spelled }) e
line_by-takes forms.Multiples words line e =
    mapped-takes _ words lines.Unit (each_of multiplier_of words) line (λ ps read.
    let found = multipliers-some words ps read in
    record { well_formed = found.are; spelled = behind _ words _ found.spelled }) e
line_by-takes forms.At words line e =
    mapped-takes _ words lines.At (each_of number_of words) line (λ zs read.
    let found = numbers-some words zs read in
    record { well_formed = found.are; spelled = behind _ words _ found.spelled }) e
line_by-takes forms.Response words line e =
    mapped-takes _ words lines.Response (each_of number_of words) line (λ zs read.
    let found = numbers-some words zs read in
    record { well_formed = found.are; spelled = behind _ words _ found.spelled }) e
line_by-takes forms.Tree words line e =
    alone-takes _ words lines.TreeHead line (record { well_formed = tt; spelled = refl }) e
line_by-takes forms.Close words line e = close-takes words line e
line_by-takes forms.End words line e =
    alone-takes _ words lines.End line (record { well_formed = tt; spelled = refl }) e

-- ---- the form of a line

find-passes : {X : Type 0} (test : X → Bool) (xs : List X) (x : X) → find test xs ≡ Some x → test x ≡ true
find-passes test [] x e = absurd cc
find-passes test (y ∷ ys) x e =
    elim (test y) as (λ passes. test y ≡ passes → cond passes (Some y) (find test ys) ≡ Some x → test x ≡ true) [
      | true ↦ λ passes f. let same : y ≡ x = cc in subst (λ z. test z ≡ true) same passes
      | false ↦ λ fails f. find-passes test ys x f
    ] refl e

form_of-some : (word : Bytes) (form : Form) → form_of word ≡ Some form → word ≡ word_of form
form_of-some word form e =
    (bytes_eq-Decides word (word_of form)).0 (find-passes (λ form. bytes_eq word (word_of form)) FORMS form e)

pub line_of_words-takes : (words : List Bytes) (line : CertLine) → line_of_words words ≡ Some line → Takes words line
unfolding line_of_words
line_of_words-takes [] line e = absurd cc
line_of_words-takes (word ∷ words) line e =
    option_and_then_some _ (form_of word) line e (λ form found rest.
    let same = form_of-some word form found in
    let takes = line_by-takes form words line rest in
    record {
      well_formed = takes.well_formed;
      spelled = ap (λ (w : Bytes). w ∷ words) same ∙ takes.spelled;
    })

-- ---- from a line to its words and back

sense-spelled : (maximise : Bool) → sense_line (sense_word maximise ∷ []) ≡ Some (lines.Sense maximise)
unfolding sense_line
sense-spelled true = refl
sense-spelled false = refl

optimal-spelled : (value : ℤ) → IsWhole value
    → states_line (codes "optimal" ∷ signed_decimal value ∷ []) ≡ Some (lines.StatesOptimal value)
unfolding states_line
optimal-spelled value h = rw (only_number-spelled value h) refl

infeasible-spelled : states_line (codes "infeasible" ∷ []) ≡ Some lines.StatesInfeasible
unfolding states_line
infeasible-spelled = refl

split-spelled : (column place : ℤ) → IsWhole column → IsWhole place
    → split_line (signed_decimal column ∷ signed_decimal place ∷ []) ≡ Some (lines.Split column place)
unfolding split_line
split-spelled column place first second =
    rw (number_at-spelled column (signed_decimal place ∷ []) first, only_number-spelled place second) refl

best-spelled : (value : ℤ) (response : List ℤ) → IsWhole value → AreWhole response
    → best_line (signed_decimal value ∷ number_words response) ≡ Some (lines.Best value response)
unfolding best_line
best-spelled value response first second =
    rw (number_at-spelled value (number_words response) first, numbers-spelled response second) refl

proof-spelled : (den : ℤ) (mult : List (ℤ × ℤ)) → IsProofNumber den → AreMultipliers mult
    → proof_line (signed_decimal den ∷ pair_words mult) ≡ Some (lines.Proof den mult)
unfolding proof_line
proof-spelled den mult first second =
    rw (den_at-spelled den (pair_words mult) first, multipliers-spelled mult second) refl

value_row_of-spelled : (value_row : Bool) → value_row_of (value_mark value_row) ≡ Some value_row
value_row_of-spelled true = refl
value_row_of-spelled false = refl

close_head-spelled : (den : ℤ) (value_row : Bool) (count : ℤ) (words : List Bytes) → IsProofNumber den → IsWhole count
    → close_head (signed_decimal den ∷ value_mark value_row ∷ signed_decimal count ∷ words)
    ≡ Some (den, value_row, count, words)
unfolding close_head
close_head-spelled den value_row count words first second =
    rw (
      den_at-spelled den (value_mark value_row ∷ signed_decimal count ∷ words) first,
      value_row_of-spelled value_row,
      number_at-spelled count words second,
    ) refl

close-spelled : (den : ℤ) (value_row : Bool) (count : ℤ) (cuts : List ℤ) (mult : List (ℤ × ℤ))
    → IsWellFormed (lines.Close den value_row count cuts mult)
    → close_line (signed_decimal den ∷ value_mark value_row ∷ signed_decimal count
    ∷ (number_words cuts ++ pair_words mult)) ≡ Some (lines.Close den value_row count cuts mult)
unfolding close_line
close-spelled den value_row count cuts mult h =
    rw (
      close_head-spelled den value_row count (number_words cuts ++ pair_words mult) h.0 h.1,
      cuts_at-spelled count cuts (pair_words mult) h.2 h.3,
      multipliers-spelled mult h.4,
    ) refl

mapped-spelled : {X : Type 0} (make : X → CertLine) (read : Option X) (x : X) → read ≡ Some x
    → option_map make read ≡ Some (make x)
mapped-spelled make read x e = ap (λ o. option_map make o) e

-- the words of a well-formed line are read as that line
pub line_of_words-spelled : (line : CertLine) → IsWellFormed line → line_of_words (words_of line) ≡ Some line
unfolding line_of_words line_by
line_of_words-spelled (lines.Version number) h = mapped-spelled lines.Version _ number (only_number-spelled number h)
line_of_words-spelled (lines.Sense maximise) h = sense-spelled maximise
line_of_words-spelled (lines.StatesOptimal value) h = optimal-spelled value h
line_of_words-spelled lines.StatesInfeasible h = infeasible-spelled
line_of_words-spelled (lines.Point values) h = mapped-spelled lines.Point _ values (numbers-spelled values h)
line_of_words-spelled (lines.Entries count) h =
    mapped-spelled lines.Entries _ count (only_count-spelled count h.0 h.1)
line_of_words-spelled (lines.EntryHead link) h = mapped-spelled lines.EntryHead _ link (numbers-spelled link h)
line_of_words-spelled (lines.Best value response) h = best-spelled value response h.0 h.1
line_of_words-spelled lines.NoAnswer h = refl
line_of_words-spelled (lines.Split column place) h = split-spelled column place h.0 h.1
line_of_words-spelled (lines.Proof den mult) h = proof-spelled den mult h.0 h.1
line_of_words-spelled (lines.CutCount count) h =
    mapped-spelled lines.CutCount _ count (only_count-spelled count h.0 h.1)
line_of_words-spelled lines.CutHead h = refl
line_of_words-spelled (lines.Area sides) h = mapped-spelled lines.Area _ sides (sides-spelled sides h)
line_of_words-spelled (lines.TightList tight) h = mapped-spelled lines.TightList _ tight (items-spelled tight h)
line_of_words-spelled (lines.Inverse den) h = mapped-spelled lines.Inverse _ den (only_den-spelled den h)
line_of_words-spelled (lines.Unit pairs) h = mapped-spelled lines.Unit _ pairs (multipliers-spelled pairs h)
line_of_words-spelled (lines.At values) h = mapped-spelled lines.At _ values (numbers-spelled values h)
line_of_words-spelled (lines.Response values) h = mapped-spelled lines.Response _ values (numbers-spelled values h)
line_of_words-spelled lines.TreeHead h = refl
line_of_words-spelled (lines.Close den value_row count cuts mult) h = close-spelled den value_row count cuts mult h
line_of_words-spelled lines.End h = refl

-- ---- lines

read-spelled : (bytes : Bytes) (line : CertLine) → IsSpelled bytes line
    → line_of_words (split_words bytes) ≡ Some line
read-spelled bytes line h =
    ap (λ (bs : Bytes). line_of_words (split_words bs)) h.spelled
    ∙ ap line_of_words (split_words-spelling line h.well_formed) ∙ line_of_words-spelled line h.well_formed

read-some : (bytes : Bytes) (line : CertLine) → line_of_words (split_words bytes) ≡ Some line → IsSpelled bytes line
unfolding spelling
read-some bytes line e =
    let takes = line_of_words-takes (split_words bytes) line e in
    record {
      well_formed = takes.well_formed;
      spelled = sym (join_with_byte-slice_split 32 bytes)
          ∙ ap (λ (ws : List Bytes). join_with_byte 32 ws) takes.spelled;
    }

-- what is read of the words of a line is the line whose spelling they are
pub finds_spelled : (bytes : Bytes) (read : Option CertLine) → read ≡ line_of_words (split_words bytes)
    → Finds (IsSpelled bytes) read
finds_spelled bytes None e = λ line h. let f = read-spelled bytes line h in cc
finds_spelled bytes (Some line) e = read-some bytes line (sym e)

-- each spelling is of one line
pub one_line : (a b : CertLine) → IsWellFormed a → IsWellFormed b → spelling a ≡ spelling b → a ≡ b
one_line a b first second same =
    let e = read-spelled (spelling a) a (record { well_formed = first; spelled = refl }) in
    let f = read-spelled (spelling a) b (record { well_formed = second; spelled = same }) in
    cc

finds-risen : (bytes : Bytes) (line : CertLine) (rises : Bool) → IsSpelled bytes line → IsTrue rises ↔ PairsRise line
    → Finds (IsCanonical bytes) (then_some rises line)
finds-risen bytes line true h risen =
    record { well_formed = h.well_formed; rising = risen.0 refl; spelled = h.spelled }
finds-risen bytes line false h risen = λ other k.
    let same = one_line other line k.well_formed h.well_formed (sym k.spelled ∙ h.spelled) in
    false≢true (risen.1 (subst PairsRise same k.rising))

-- what is read and has rising pairs is the canonical line whose spelling the bytes are
pub finds_canonical : (bytes : Bytes) (line : CertLine) (rises : Bool) (read : Option CertLine) → IsSpelled bytes line
    → IsTrue rises ↔ PairsRise line → read ≡ then_some rises line → Finds (IsCanonical bytes) read
finds_canonical bytes line rises read h risen e =
    subst (Finds (IsCanonical bytes)) (sym e) (finds-risen bytes line rises h risen)
