-- Lines and their fields.
use Rattle.std.proofs.Common.{◌≡◌, ℕ, Bool, true, false, cond, List, [], ◌∷◌, ◌++◌, refl, ap, ◌∙◌, filter, length}
use Rattle.std.proofs.Common.{arith}
use Rattle.std.specs.List.{onto_first, slice_split, AllByRecursion}
use Rattle.std.proofs.lemmas.Bool.{lt-ltb}
use Rattle.std.proofs.lemmas.List.Elements.{filter-append}
use Rattle.bl_text.specs.Fields.{is_blank, is_nonempty, fields_of, IsField, AreRuns}

-- no blank
abbrev IsRun : List ℕ → Type 0
IsRun bytes = AllByRecursion (λ b. is_blank b ≡ false) bytes

-- there is always a first part
record HasFirst (parts : List (List ℕ)) : Type 0 where
  first : List ℕ
  others : List (List ℕ)
  are : parts ≡ first ∷ others

HasFirst-onto : (b : ℕ) (parts : List (List ℕ)) → HasFirst (onto_first b parts)
HasFirst-onto b [] = record { first = b ∷ []; others = []; are = refl }
HasFirst-onto b (x ∷ xs) = record { first = b ∷ x; others = xs; are = refl }

slice_split-step : (b : ℕ) (bs : List ℕ) (blank : Bool) → is_blank b ≡ blank → HasFirst (slice_split is_blank (b ∷ bs))
slice_split-step b bs true e = record { first = []; others = slice_split is_blank bs; are = rw e refl }
slice_split-step b bs false e = rw e (HasFirst-onto b (slice_split is_blank bs))

slice_split-first : (line : List ℕ) → HasFirst (slice_split is_blank line)
slice_split-first [] = record { first = []; others = []; are = refl }
slice_split-first (b ∷ bs) = slice_split-step b bs (is_blank b) refl

onto_first-append : (b : ℕ) (xs ys : List (List ℕ)) → HasFirst xs → onto_first b (xs ++ ys) ≡ onto_first b xs ++ ys
onto_first-append b xs ys h = rw (h.are) refl

slice_split-blank-step : (b : ℕ) (front back : List ℕ) (blank : ℕ) (test : Bool) → is_blank b ≡ test
    → slice_split is_blank (front ++ blank ∷ back) ≡ slice_split is_blank front ++ slice_split is_blank back
    → slice_split is_blank (b ∷ front ++ blank ∷ back) ≡ slice_split is_blank (b ∷ front) ++ slice_split is_blank back
slice_split-blank-step b front back blank true e h = rw (e, h) refl
slice_split-blank-step b front back blank false e h =
    rw (e, h) (onto_first-append b (slice_split is_blank front) (slice_split is_blank back) (slice_split-first front))

-- the parts before a blank and behind it
slice_split-blank : (front back : List ℕ) (blank : ℕ) → is_blank blank ≡ true
    → slice_split is_blank (front ++ blank ∷ back) ≡ slice_split is_blank front ++ slice_split is_blank back
slice_split-blank [] back blank h = rw h refl
slice_split-blank (b ∷ front) back blank h =
    slice_split-blank-step b front back blank (is_blank b) refl (slice_split-blank front back blank h)

slice_split-run : (run : List ℕ) → IsRun run → slice_split is_blank run ≡ run ∷ []
slice_split-run [] h = refl
slice_split-run (b ∷ bs) h = rw (h.0, slice_split-run bs h.1) refl

fields_of-run : (run : List ℕ) → IsField run → fields_of run ≡ run ∷ []
fields_of-run [] h = absurd h
fields_of-run (b ∷ bs) h =
    ap (filter is_nonempty) (slice_split-run (b ∷ bs) h)
    ∙ ap (λ (t : Bool). cond t ((b ∷ bs) ∷ []) []) (lt-ltb 0 (length (b ∷ bs)) (omega arith))

-- the parts have no blank
AreRuns-onto : (b : ℕ) (parts : List (List ℕ)) → is_blank b ≡ false → AllByRecursion IsRun parts
    → AllByRecursion IsRun (onto_first b parts)
AreRuns-onto b [] e h = ((e, tt), tt)
AreRuns-onto b (x ∷ xs) e h = ((e, h.0), h.1)

parts-runs-step : (b : ℕ) (bs : List ℕ) (test : Bool) → is_blank b ≡ test
    → AllByRecursion IsRun (slice_split is_blank bs) → AllByRecursion IsRun (slice_split is_blank (b ∷ bs))
parts-runs-step b bs true e h = rw e (tt, h)
parts-runs-step b bs false e h = rw e (AreRuns-onto b (slice_split is_blank bs) e h)

parts-runs : (line : List ℕ) → AllByRecursion IsRun (slice_split is_blank line)
parts-runs [] = (tt, tt)
parts-runs (b ∷ bs) = parts-runs-step b bs (is_blank b) refl (parts-runs bs)

full-parts : (parts : List (List ℕ)) → AllByRecursion IsRun parts → AllByRecursion IsField (filter is_nonempty parts)
full-parts [] h = tt
full-parts ([] ∷ xs) h = full-parts xs h.1
full-parts ((b ∷ bs) ∷ xs) h = let full : is_nonempty (b ∷ bs) ≡ true = lt-ltb 0 (length (b ∷ bs)) (omega arith) in
    rw full (h.0, full-parts xs h.1)

pub are_runs : AreRuns
are_runs = record {
  each = λ line. full-parts (slice_split is_blank line) (parts-runs line);
  none = refl;
  run = fields_of-run;
  parted = λ front back blank h. ap (filter is_nonempty) (slice_split-blank front back blank h)
      ∙ filter-append is_nonempty (slice_split is_blank front) (slice_split is_blank back);
}
