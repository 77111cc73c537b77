-- Texts and their lines.
use Rattle.std.proofs.Common.{◌≡◌, ℕ, Bool, true, false, eqb, List, [], ◌∷◌, ◌++◌, refl, sym, ap, subst, ◌∙◌}
use Rattle.std.proofs.Common.{append_assoc, inl, inr, ◌⊎◌}
use Rattle.std.specs.List.{onto_first, flat_map, AllByRecursion}
use Rattle.std.proofs.lemmas.Bool.{eqb-true}
use Rattle.bl_text.specs.Lines.{lines_of, ended, unended, IsLine, HasItsLines, IsItsLines}

-- a line comes first, and the lines of the rest follow
pub lines_of-line : (line rest : List ℕ) → IsLine line → lines_of (line ++ 10 ∷ rest) ≡ line ∷ lines_of rest
lines_of-line [] rest h = refl
lines_of-line (b ∷ bs) rest h = rw (h.0, lines_of-line bs rest h.1) refl

lines_of-last : (line : List ℕ) → IsLine line → lines_of line ≡ unended line
lines_of-last [] h = refl
lines_of-last (b ∷ []) h = rw (h.0) refl
lines_of-last (b ∷ c ∷ bs) h = rw (h.0, lines_of-last (c ∷ bs) h.1) refl

lines_of-ended : (lines : List (List ℕ)) (rest : List ℕ) → AllByRecursion IsLine lines
    → lines_of (flat_map ended lines ++ rest) ≡ lines ++ lines_of rest
lines_of-ended [] rest h = refl
lines_of-ended (line ∷ lines) rest h =
    ap lines_of (append_assoc (ended line) (flat_map ended lines) rest
    ∙ append_assoc line (10 ∷ []) (flat_map ended lines ++ rest))
    ∙ lines_of-line line (flat_map ended lines ++ rest) h.0
    ∙ ap (λ (ls : List (List ℕ)). line ∷ ls) (lines_of-ended lines rest h.1)

pub has_its_lines : HasItsLines
has_its_lines = record { ended = lines_of-ended; last = lines_of-last }

-- the text, with or without a last line feed
abbrev Joins : List (List ℕ) → List ℕ → Type 0
Joins lines text = (flat_map ended lines ≡ text) ⊎ (flat_map ended lines ≡ ended text)

Joins-feed : (lines : List (List ℕ)) (text : List ℕ) → Joins lines text → Joins ([] ∷ lines) (10 ∷ text)
Joins-feed lines text (inl e) = inl (ap (λ (t : List ℕ). 10 ∷ t) e)
Joins-feed lines text (inr e) = inr (ap (λ (t : List ℕ). 10 ∷ t) e)

empty-not-ended : (text : List ℕ) → [] ≡ ended text → ⊥
empty-not-ended [] e = cc
empty-not-ended (b ∷ text) e = cc

Joins-byte : (b : ℕ) (lines : List (List ℕ)) (text : List ℕ) → Joins lines text → Joins (onto_first b lines) (b ∷ text)
Joins-byte b [] text (inl e) = inr (ap (λ (t : List ℕ). b ∷ t ++ 10 ∷ []) e)
Joins-byte b [] text (inr e) = absurd (empty-not-ended text e)
Joins-byte b (line ∷ lines) text (inl e) = inl (ap (λ (t : List ℕ). b ∷ t) e)
Joins-byte b (line ∷ lines) text (inr e) = inr (ap (λ (t : List ℕ). b ∷ t) e)

onto_first-lines : (b : ℕ) (lines : List (List ℕ)) → eqb b 10 ≡ false → AllByRecursion IsLine lines
    → AllByRecursion IsLine (onto_first b lines)
onto_first-lines b [] e h = ((e, tt), tt)
onto_first-lines b (line ∷ lines) e h = ((e, h.0), h.1)

-- one more byte at the front
step : (b : ℕ) (text : List ℕ) (feed : Bool) → eqb b 10 ≡ feed
    → AllByRecursion IsLine (lines_of text) × Joins (lines_of text) text
    → AllByRecursion IsLine (lines_of (b ∷ text)) × Joins (lines_of (b ∷ text)) (b ∷ text)
step b text true e h =
    subst (λ (x : ℕ). AllByRecursion IsLine (lines_of (x ∷ text)) × Joins (lines_of (x ∷ text)) (x ∷ text))
    (sym (eqb-true b 10 e)) ((tt, h.0), Joins-feed (lines_of text) text h.1)
step b text false e h = rw e (onto_first-lines b (lines_of text) e h.0, Joins-byte b (lines_of text) text h.1)

pub is_its_lines : IsItsLines
is_its_lines [] = (tt, inl refl)
is_its_lines (b ∷ text) = step b text (eqb b 10) refl (is_its_lines text)
