-- A text has at most as many lines as bytes.
use Rattle.std.proofs.Common.{◌≡◌, ℕ, ◌+◌, ◌≤◌, Bool, true, false, eqb, List, [], ◌∷◌, length, refl, arith}
use Rattle.std.specs.List.{onto_first}
use Rattle.bl_text.specs.Lines.{lines_of}

length-onto_first : (b : ℕ) (parts : List (List ℕ)) → length (onto_first b parts) ≤ length parts + 1
length-onto_first b [] = omega arith
length-onto_first b (part ∷ parts) = omega arith

step : (b : ℕ) (text : List ℕ) (feed : Bool) → eqb b 10 ≡ feed → length (lines_of text) ≤ length text
    → length (lines_of (b ∷ text)) ≤ length (b ∷ text)
step b text true e h = rw e (omega arith)
step b text false e h = rw e (omega (arith, length-onto_first b (lines_of text)))

pub length-lines_of : (text : List ℕ) → length (lines_of text) ≤ length text
length-lines_of [] = omega arith
length-lines_of (b ∷ text) = step b text (eqb b 10) refl (length-lines_of text)
