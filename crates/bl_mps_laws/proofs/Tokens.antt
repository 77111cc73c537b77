-- The lines of a text without comments and without further blanks: section lines and data lines.
use Rattle.std.proofs.Common.{◌≡◌, ℕ, true, false, List, [], ◌∷◌, ◌++◌, map, refl, sym, ap, ◌∙◌, codes}
use Rattle.std.proofs.Common.{append_assoc, length, Some, arith, rules, not, ◌+◌, suc, take}
use Rattle.std.proofs.lemmas.Bool.{ne_eqb}
use Rattle.std.specs.List.{flat_map, prefix_len, AllByRecursion}
use Rattle.bl_text.specs.Fields.{fields_of, IsField}
use Rattle.bl_text.specs.Lines.{ended, IsLine, lines_of}
use Rattle.bl_text.proofs.FieldLaws.{are_runs}
use Rattle.bl_text.proofs.LineLaws.{has_its_lines}
use Rattle.std.proofs.lemmas.List.{append-nil}
use Rattle.bl_mps_terms.specs.declared.words.Section.{Section}
use Rattle.bl_mps_terms.specs.declared.words.Section.TheVariants.{Name, ObjSense, Rows, Columns, RightSides, Ranges}
use Rattle.bl_mps_terms.specs.declared.words.Section.TheVariants.{Bounds, End}
use Rattle.bl_mps_terms.specs.Words.{Bytes, section_named}
use Rattle.bl_mps_terms.specs.Parts.{is_skipped, begins_section, is_in, is_end, lines_read}

-- ---- words

-- bytes that stand between blanks on one line
pub record IsWord (bytes : Bytes) : Type 0 where
  pub field : IsField bytes
  pub line : IsLine bytes

-- ---- data lines

-- fields, each behind a space
abbrev pub spaced : List Bytes → Bytes
spaced [] = []
spaced (f ∷ fs) = 32 ∷ f ++ spaced fs

-- the same with a line feed
abbrev pub spaced_line : List Bytes → Bytes
spaced_line [] = 10 ∷ []
spaced_line (f ∷ fs) = 32 ∷ f ++ spaced_line fs

spaced-ended : (fs : List Bytes) → ended (spaced fs) ≡ spaced_line fs
spaced-ended [] = refl
spaced-ended (f ∷ fs) =
    ap (λ (t : Bytes). 32 ∷ t) (append_assoc f (spaced fs) (10 ∷ [])
    ∙ ap (λ (t : Bytes). f ++ t) (spaced-ended fs))

fields_of-behind : (f : Bytes) (fs : List Bytes) → IsWord f → AllByRecursion IsWord fs
    → fields_of (f ++ spaced fs) ≡ f ∷ fs
fields_of-behind f [] w h = ap fields_of (append-nil f) ∙ are_runs.run f w.field
fields_of-behind f (g ∷ fs) w h =
    are_runs.parted f (g ++ spaced fs) 32 refl
    ∙ ap (λ (gs : List Bytes). gs ++ fields_of (g ++ spaced fs)) (are_runs.run f w.field)
    ∙ ap (λ (gs : List Bytes). f ∷ gs) (fields_of-behind g fs h.0 h.1)

fields_of-spaced : (fs : List Bytes) → AllByRecursion IsWord fs → fields_of (spaced fs) ≡ fs
fields_of-spaced [] h = are_runs.none
fields_of-spaced (f ∷ fs) h =
    are_runs.parted [] (f ++ spaced fs) 32 refl
    ∙ ap (λ (gs : List Bytes). gs ++ fields_of (f ++ spaced fs)) are_runs.none ∙ fields_of-behind f fs h.0 h.1

pub line-append : (xs ys : Bytes) → IsLine xs → IsLine ys → IsLine (xs ++ ys)
line-append [] ys h k = k
line-append (x ∷ xs) ys h k = (h.0, line-append xs ys h.1 k)

line-spaced : (fs : List Bytes) → AllByRecursion IsWord fs → IsLine (spaced fs)
line-spaced [] h = tt
line-spaced (f ∷ fs) h = (refl, line-append f (spaced fs) h.0.line (line-spaced fs h.1))

-- ---- tokens

-- a section line without further fields, or the fields of a data line
pub data Token : Type 0 where
  Begin : Section → Token
  Fields : List Bytes → Token

abbrev pub word_of : Section → Bytes
word_of Name = codes "NAME"
word_of ObjSense = codes "OBJSENSE"
word_of Rows = codes "ROWS"
word_of Columns = codes "COLUMNS"
word_of RightSides = codes "RHS"
word_of Ranges = codes "RANGES"
word_of Bounds = codes "BOUNDS"
word_of End = codes "ENDATA"

abbrev pub line_of : Token → Bytes
line_of (Begin section) = word_of section
line_of (Fields fs) = spaced fs

abbrev pub text_of : Token → Bytes
text_of (Begin section) = ended (word_of section)
text_of (Fields fs) = spaced_line fs

-- data lines have fields, and these are words
abbrev pub IsToken : Token → Type 0
IsToken (Begin section) = Unit {0}
IsToken (Fields []) = ⊥
IsToken (Fields (f ∷ fs)) = AllByRecursion IsWord (f ∷ fs)

text_of-ended : (token : Token) → text_of token ≡ ended (line_of token)
text_of-ended (Begin section) = refl
text_of-ended (Fields fs) = sym (spaced-ended fs)

pub texts-ended : (tokens : List Token) → flat_map text_of tokens ≡ flat_map ended (map line_of tokens)
texts-ended [] = refl
texts-ended (t ∷ ts) = rw (text_of-ended t, texts-ended ts) refl

line-word : (section : Section) → IsLine (word_of section)
line-word Name = search rules
line-word ObjSense = search rules
line-word Rows = search rules
line-word Columns = search rules
line-word RightSides = search rules
line-word Ranges = search rules
line-word Bounds = search rules
line-word End = search rules

line-token : (token : Token) → IsToken token → IsLine (line_of token)
line-token (Begin section) h = line-word section
line-token (Fields []) h = absurd h
line-token (Fields (f ∷ fs)) h = line-spaced (f ∷ fs) h

pub lines-tokens : (tokens : List Token) → AllByRecursion IsToken tokens → AllByRecursion IsLine (map line_of tokens)
lines-tokens [] h = tt
lines-tokens (t ∷ ts) h = (line-token t h.0, lines-tokens ts h.1)

-- the lines of a text that begins with tokens
pub lines_of-tokens : (tokens : List Token) (rest : Bytes) → AllByRecursion IsToken tokens
    → lines_of (flat_map text_of tokens ++ rest) ≡ map line_of tokens ++ lines_of rest
lines_of-tokens tokens rest h =
    ap (λ (t : Bytes). lines_of (t ++ rest)) (texts-ended tokens)
    ∙ has_its_lines.ended (map line_of tokens) rest (lines-tokens tokens h)

-- ---- what kind of line each is

pub word_skipped : (section : Section) → is_skipped (word_of section) ≡ false
word_skipped Name = refl
word_skipped ObjSense = refl
word_skipped Rows = refl
word_skipped Columns = refl
word_skipped RightSides = refl
word_skipped Ranges = refl
word_skipped Bounds = refl
word_skipped End = refl

pub word_begins : (section : Section) → begins_section (word_of section) ≡ true
word_begins Name = refl
word_begins ObjSense = refl
word_begins Rows = refl
word_begins Columns = refl
word_begins RightSides = refl
word_begins Ranges = refl
word_begins Bounds = refl
word_begins End = refl

pub word_fields : (section : Section) → fields_of (word_of section) ≡ word_of section ∷ []
word_fields Name = refl
word_fields ObjSense = refl
word_fields Rows = refl
word_fields Columns = refl
word_fields RightSides = refl
word_fields Ranges = refl
word_fields Bounds = refl
word_fields End = refl

pub word_named : (section : Section) → section_named (word_of section) ≡ Some section
word_named Name = refl
word_named ObjSense = refl
word_named Rows = refl
word_named Columns = refl
word_named RightSides = refl
word_named Ranges = refl
word_named Bounds = refl
word_named End = refl

pub data_fields : (fs : List Bytes) → IsToken (Fields fs) → fields_of (spaced fs) ≡ fs
data_fields [] h = absurd h
data_fields (f ∷ fs) h = fields_of-spaced (f ∷ fs) h

pub data_skipped : (fs : List Bytes) → IsToken (Fields fs) → is_skipped (spaced fs) ≡ false
data_skipped [] h = absurd h
data_skipped (f ∷ fs) h = rw (fields_of-spaced (f ∷ fs) h) (ne_eqb (length (f ∷ fs)) 0 (λ e. omega (arith, e)))

pub data_begins : (fs : List Bytes) → IsToken (Fields fs) → begins_section (spaced fs) ≡ false
data_begins [] h = absurd h
data_begins (f ∷ fs) h = refl

-- ---- the lines before ENDATA

abbrev pub IsNotEnd : Token → Type 0
IsNotEnd (Begin section) = is_in End (Some section) ≡ false
IsNotEnd (Fields fs) = Unit {0}

pub not_end : (token : Token) → IsToken token → IsNotEnd token → is_end (line_of token) ≡ false
not_end (Begin section) h n =
    rw (word_skipped section, word_begins section, word_fields section, word_named section) n
not_end (Fields fs) h n = rw (data_skipped fs h, data_begins fs h) refl

pub lines_read-first : (line : Bytes) (lines more : List Bytes) → is_end line ≡ false → lines_read lines ≡ more
    → lines_read (line ∷ lines) ≡ line ∷ more
lines_read-first line lines more e h =
    let one : 1 + prefix_len (λ l. not (is_end l)) lines ≡ suc (prefix_len (λ l. not (is_end l)) lines) = omega arith in
    rw e (ap (λ (n : ℕ). take n (line ∷ lines)) one ∙ ap (λ (ls : List Bytes). line ∷ ls) h)

pub lines_read-tokens : (tokens : List Token) (more : List Bytes) → AllByRecursion IsToken tokens
    → AllByRecursion IsNotEnd tokens → lines_read (map line_of tokens ++ word_of End ∷ more) ≡ map line_of tokens
lines_read-tokens [] more h n = refl
lines_read-tokens (t ∷ ts) more h n =
    lines_read-first (line_of t) (map line_of ts ++ word_of End ∷ more) (map line_of ts) (not_end t h.0 n.0)
    (lines_read-tokens ts more h.1 n.1)
