-- The fields of a text's lines are words.
use Rattle.std.proofs.Common.{◌≡◌, ℕ, Bool, true, false, eqb, cond, List, [], ◌∷◌, filter, refl}
use Rattle.std.specs.List.{onto_first, slice_split, AllByRecursion}
use Rattle.bl_text.specs.Fields.{is_blank, is_nonempty, fields_of, IsField}
use Rattle.bl_text.specs.Lines.{IsLine}
use Rattle.bl_text.proofs.FieldLaws.{are_runs}
use Rattle.bl_mps_terms.specs.Words.{Bytes}
use Rattle.bl_mps_laws.proofs.Tokens.{IsWord}

onto_line : (b : ℕ) (parts : List Bytes) → eqb b 10 ≡ false → AllByRecursion IsLine parts
    → AllByRecursion IsLine (onto_first b parts)
onto_line b [] e h = ((e, tt), tt)
onto_line b (part ∷ parts) e h = ((e, h.0), h.1)

split_step : (b : ℕ) (bs : Bytes) (blank : Bool) → is_blank b ≡ blank → eqb b 10 ≡ false
    → AllByRecursion IsLine (slice_split is_blank bs) → AllByRecursion IsLine (slice_split is_blank (b ∷ bs))
split_step b bs true e f h = rw e (tt, h)
split_step b bs false e f h = rw e (onto_line b (slice_split is_blank bs) f h)

split_line : (line : Bytes) → IsLine line → AllByRecursion IsLine (slice_split is_blank line)
split_line [] h = (tt, tt)
split_line (b ∷ bs) h = split_step b bs (is_blank b) refl h.0 (split_line bs h.1)

filter_step : (test : Bool) (part : Bytes) (parts : List Bytes) → IsLine part → AllByRecursion IsLine parts
    → AllByRecursion IsLine (cond test (part ∷ parts) parts)
filter_step true part parts h k = (h, k)
filter_step false part parts h k = k

filter_line : (parts : List Bytes) → AllByRecursion IsLine parts → AllByRecursion IsLine (filter is_nonempty parts)
filter_line [] h = tt
filter_line (part ∷ parts) h =
    filter_step (is_nonempty part) part (filter is_nonempty parts) h.0 (filter_line parts h.1)

both : (fields : List Bytes) → AllByRecursion IsField fields → AllByRecursion IsLine fields
    → AllByRecursion IsWord fields
both [] h k = tt
both (f ∷ fields) h k = (record { field = h.0; line = k.0 }, both fields h.1 k.1)

-- The fields of a line are words.
pub words_of : (line : Bytes) → IsLine line → AllByRecursion IsWord (fields_of line)
words_of line h =
    both (fields_of line) (are_runs.each line) (filter_line (slice_split is_blank line) (split_line line h))
