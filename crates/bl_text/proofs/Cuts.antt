-- Where the first line and the first field of a text end.
use Rattle.std.proofs.Common.{◌≡◌, ℕ, zero, suc, ◌+◌, ◌<◌, ◌≤◌, Bool, true, false, cond, eqb, ltb, List, [], ◌∷◌, ◌++◌}
use Rattle.std.proofs.Common.{length, get_or, take, drop, Option, Some, None, refl, sym, ap, ◌∙◌, arith, not, position}
use Rattle.std.proofs.Common.{filter, add-one, add-zero}
use Rattle.std.specs.List.{slice_split, position_or_len}
use Rattle.std.specs.Option.{unwrap_or}
use Rattle.std.proofs.lemmas.List.Quantifiers.{position-Some}
use Rattle.std.proofs.lemmas.List.Sums.{fails_before_first}
use Rattle.std.proofs.lemmas.Bool.{ltb-false, lt-ltb, false≢true}
use Rattle.std.proofs.lemmas.List.{length-drop, length-take, get_or-drop, drop_all, take_all}
use Rattle.std.proofs.Math.Seq.{drop-cons}
use Rattle.std.proofs.lemmas.Bool.{eqb-true}
use Rattle.std.proofs.lemmas.List.{take-append-drop, drop_more}
use Rattle.bl_text.specs.Lines.{lines_of}
use Rattle.bl_text.specs.Fields.{is_blank, is_nonempty, fields_of}

-- nothing passes before the place, and the place passes
abbrev pub IsFirst : (ℕ → Bool) → List ℕ → ℕ → Type 0
IsFirst p xs i = (i < length xs) × (p (get_or xs i 0) ≡ true) × ((k : ℕ) → k < i → p (get_or xs k 0) ≡ false)

IsFirst-rest : (p : ℕ → Bool) (x : ℕ) (xs : List ℕ) (i : ℕ) → IsFirst p (x ∷ xs) (suc i) → IsFirst p xs i
IsFirst-rest p x xs i h = (omega (arith, h.0), h.1, λ k lt. h.2 (suc k) (omega arith))

cond-none : (b : Bool) (i : ℕ) → cond b (Some i) None ≡ None → b ≡ false
cond-none true i e = absurd cc
cond-none false i e = refl

not-false : (b : Bool) → not b ≡ false → b ≡ true
not-false true e = refl
not-false false e = absurd cc

not-true : (b : Bool) → not b ≡ true → b ≡ false
not-true true e = absurd cc
not-true false e = refl

none-passes : (p : ℕ → Bool) (xs : List ℕ) → position p xs ≡ None → (k : ℕ) → k < length xs → p (get_or xs k 0) ≡ false
none-passes p xs e k lt =
    let past : length xs ≤ position_or_len p xs =
    ltb-false _ _ (cond-none (ltb (position_or_len p xs) (length xs)) (position_or_len p xs) e) in
    fails_before_first p xs k 0 (omega arith)

lines_of-first : (text : List ℕ) (i : ℕ) → IsFirst (λ b. eqb b 10) text i
    → lines_of text ≡ take i text ∷ lines_of (drop (suc i) text)
lines_of-first [] i h = absurd (omega (arith, h.0))
lines_of-first (b ∷ bs) zero h = rw (h.1) refl
lines_of-first (b ∷ bs) (suc i) h =
    rw (h.2 0 (omega arith), lines_of-first bs i (IsFirst-rest (λ b. eqb b 10) b bs i h)) refl

lines_of-none : (text : List ℕ) → 0 < length text → ((k : ℕ) → k < length text → eqb (get_or text k 0) 10 ≡ false)
    → lines_of text ≡ text ∷ []
lines_of-none [] pos h = absurd (omega arith)
lines_of-none (b ∷ []) pos h = rw (h 0 (omega arith)) refl
lines_of-none (b ∷ c ∷ bs) pos h =
    rw (h 0 (omega arith), lines_of-none (c ∷ bs) (omega arith) (λ k lt. h (suc k) (omega arith))) refl

pub lines_of-cut : (text : List ℕ) (i : ℕ) → position (λ b. eqb b 10) text ≡ Some i
    → lines_of text ≡ take i text ∷ lines_of (drop (i + 1) text)
lines_of-cut text i e = rw add-one (lines_of-first text i (position-Some (λ b. eqb b 10) text i 0 e))

pub lines_of-uncut : (text : List ℕ) → false ≡ eqb (length text) 0 → position (λ b. eqb b 10) text ≡ None
    → lines_of text ≡ text ∷ []
lines_of-uncut [] full e = absurd (false≢true full)
lines_of-uncut (b ∷ bs) full e = lines_of-none (b ∷ bs) (omega arith) (none-passes (λ b. eqb b 10) (b ∷ bs) e)

-- the text is its first line, a line feed and what follows
pub text-cut : (text : List ℕ) (i : ℕ) → position (λ b. eqb b 10) text ≡ Some i
    → text ≡ take i text ++ 10 ∷ drop (i + 1) text
text-cut text i e =
    let first = position-Some (λ b. eqb b 10) text i 0 e in
    let feed : get_or text i 0 ≡ 10 = eqb-true _ _ first.1 in
    sym (take-append-drop i text)
    ∙ ap (λ (back : List ℕ). take i text ++ back)
    (drop_more text i 0 first.0 ∙ ap (λ (b : ℕ). b ∷ drop (i + 1) text) feed)

-- ---- fields

fields_of-blank : (b : ℕ) (bs : List ℕ) → is_blank b ≡ true → fields_of (b ∷ bs) ≡ fields_of bs
fields_of-blank b bs h = rw h refl

fields_of-skip : (line : List ℕ) (i : ℕ) → IsFirst (λ b. not (is_blank b)) line i
    → fields_of line ≡ fields_of (drop i line)
fields_of-skip [] i h = absurd (omega (arith, h.0))
fields_of-skip (b ∷ bs) zero h = refl
fields_of-skip (b ∷ bs) (suc i) h =
    fields_of-blank b bs (not-false _ (h.2 0 (omega arith)))
    ∙ fields_of-skip bs i (IsFirst-rest (λ b. not (is_blank b)) b bs i h)

fields_of-blanks : (line : List ℕ) → ((k : ℕ) → k < length line → not (is_blank (get_or line k 0)) ≡ false)
    → fields_of line ≡ []
fields_of-blanks [] h = refl
fields_of-blanks (b ∷ bs) h =
    fields_of-blank b bs (not-false _ (h 0 (omega arith))) ∙ fields_of-blanks bs (λ k lt. h (suc k) (omega arith))

slice_split-first : (p : ℕ → Bool) (xs : List ℕ) (i : ℕ) → IsFirst p xs i
    → slice_split p xs ≡ take i xs ∷ slice_split p (drop (suc i) xs)
slice_split-first p [] i h = absurd (omega (arith, h.0))
slice_split-first p (b ∷ bs) zero h = rw (h.1) refl
slice_split-first p (b ∷ bs) (suc i) h =
    rw (h.2 0 (omega arith), slice_split-first p bs i (IsFirst-rest p b bs i h)) refl

slice_split-none : (p : ℕ → Bool) (xs : List ℕ) → ((k : ℕ) → k < length xs → p (get_or xs k 0) ≡ false)
    → slice_split p xs ≡ xs ∷ []
slice_split-none p [] h = refl
slice_split-none p (b ∷ bs) h = rw (h 0 (omega arith), slice_split-none p bs (λ k lt. h (suc k) (omega arith))) refl

-- the first byte isn't blank
abbrev BeginsField : List ℕ → Type 0
BeginsField line = (0 < length line) × (is_blank (get_or line 0 0) ≡ false)

-- the first part between blanks is the first field, where it has a byte
filter-front : (line run rest : List ℕ) → slice_split is_blank line ≡ run ∷ slice_split is_blank rest
    → is_nonempty run ≡ true → fields_of line ≡ run ∷ fields_of rest
filter-front line run rest split full =
    ap (filter is_nonempty) split ∙ ap (λ (b : Bool). cond b (run ∷ fields_of rest) (fields_of rest)) full

fields_of-blank-at : (line : List ℕ) (i : ℕ) → i < length line → is_blank (get_or line i 0) ≡ true
    → fields_of (drop i line) ≡ fields_of (drop (suc i) line)
fields_of-blank-at line i lt blank =
    ap fields_of (drop-cons line i 0 lt) ∙ fields_of-blank (get_or line i 0) (drop (suc i) line) blank

fields_of-run : (line : List ℕ) (i : ℕ) → BeginsField line → IsFirst is_blank line i
    → fields_of line ≡ take i line ∷ fields_of (drop i line)
fields_of-run line zero begins h = absurd (false≢true (sym begins.1 ∙ h.1))
fields_of-run line (suc i) begins h =
    let split = slice_split-first is_blank line (suc i) h in
    let at-blank = fields_of-blank-at line (suc i) h.0 h.1 in
    let run : is_nonempty (take (suc i) line) ≡ true = lt-ltb _ _ (omega (arith, length-take (suc i) line, h.0)) in
    filter-front line (take (suc i) line) (drop (suc (suc i)) line) split run
    ∙ ap (λ (fs : List (List ℕ)). take (suc i) line ∷ fs) (sym at-blank)

fields_of-whole : (line : List ℕ) → BeginsField line → ((k : ℕ) → k < length line → is_blank (get_or line k 0) ≡ false)
    → fields_of line ≡ line ∷ fields_of (drop (length line) line)
fields_of-whole line begins h =
    let run : is_nonempty line ≡ true = lt-ltb _ _ begins.0 in
    ap (filter is_nonempty) (slice_split-none is_blank line h) ∙ ap (λ (b : Bool). cond b (line ∷ []) []) run
    ∙ ap (λ (rest : List ℕ). line ∷ fields_of rest) (sym (drop_all (length line) line (omega arith)))

-- the place where the field ends that begins the line
abbrev pub field_end : List ℕ → ℕ
field_end line = unwrap_or (position is_blank line) (length line)

fields_of-at : (line : List ℕ) (o : Option ℕ) → position is_blank line ≡ o → BeginsField line
    → fields_of line ≡ take (unwrap_or o (length line)) line ∷ fields_of (drop (unwrap_or o (length line)) line)
fields_of-at line (Some i) e begins = fields_of-run line i begins (position-Some is_blank line i 0 e)
fields_of-at line None e begins =
    fields_of-whole line begins (none-passes is_blank line e)
    ∙ ap (λ (run : List ℕ). run ∷ fields_of (drop (length line) line)) (sym (take_all (length line) line (omega arith)))

fields_of-begun : (line : List ℕ) → BeginsField line
    → fields_of line ≡ take (field_end line) line ∷ fields_of (drop (field_end line) line)
fields_of-begun line begins = fields_of-at line (position is_blank line) refl begins

first_begins : (line : List ℕ) (start : ℕ) → IsFirst (λ b. not (is_blank b)) line start → BeginsField (drop start line)
first_begins line start first = (
  omega (arith, length-drop start line, first.0),
  ap is_blank (get_or-drop start line 0 0 ∙ ap (λ (i : ℕ). get_or line i 0) (add-zero start))
      ∙ not-true _ first.1,
)

fields_of-cut : (line : List ℕ) (start : ℕ) → position (λ b. not (is_blank b)) line ≡ Some start
    → fields_of line ≡ take (field_end (drop start line)) (drop start line)
    ∷ fields_of (drop (field_end (drop start line)) (drop start line))
fields_of-cut line start e =
    let first = position-Some (λ b. not (is_blank b)) line start 0 e in
    fields_of-skip line start first ∙ fields_of-begun (drop start line) (first_begins line start first)

-- The first field is cut off.
pub fields_of-split : (line tail front back : List ℕ) (start end : ℕ)
    → position (λ b. not (is_blank b)) line ≡ Some start → tail ≡ drop start line
    → end ≡ unwrap_or (position is_blank tail) (length tail) → front ≡ take end tail → back ≡ drop end tail
    → fields_of line ≡ front ∷ fields_of back
fields_of-split line tail front back start end e t f g h = rw (h, g, f, t) (fields_of-cut line start e)

field_end-pos : (line : List ℕ) (o : Option ℕ) → position is_blank line ≡ o → BeginsField line
    → 0 < unwrap_or o (length line)
field_end-pos line None e begins = begins.0
field_end-pos line (Some zero) e begins = absurd (false≢true (sym begins.1 ∙ (position-Some is_blank line 0 0 e).1))
field_end-pos line (Some (suc i)) e begins = omega arith

-- A field has a byte, so less is left.
pub split_field-shorter : (line tail back : List ℕ) (start end : ℕ)
    → position (λ b. not (is_blank b)) line ≡ Some start → tail ≡ drop start line
    → end ≡ unwrap_or (position is_blank tail) (length tail) → back ≡ drop end tail → length back < length line
split_field-shorter line tail back start end e t f h =
    let first = position-Some (λ b. not (is_blank b)) line start 0 e in
    let begins : BeginsField tail = rw t (first_begins line start first) in
    let some : 0 < end = rw f (field_end-pos tail (position is_blank tail) refl begins) in
    rw (h, t) (omega (arith, length-drop start line, length-drop end (drop start line), first.0))

pub fields_of-uncut : (line : List ℕ) → position (λ b. not (is_blank b)) line ≡ None → fields_of line ≡ []
fields_of-uncut line e = fields_of-blanks line (none-passes (λ b. not (is_blank b)) line e)
