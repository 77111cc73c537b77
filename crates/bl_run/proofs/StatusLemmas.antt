-- What a line in pieces leaves on a sink, by how far it came.
use Rattle.std.proofs.Common.{◌≡◌, ℕ, ◌+◌, ◌<◌, List, ◌∷◌, ◌++◌, length, take, drop, get_or, sym, ap, subst, ◌∙◌}
use Rattle.std.proofs.Common.{inl, inr, add-one, drop-cons, append_assoc, codes}
use Rattle.std.specs.Prelude.{Some, Ok, Err}
use Rattle.std.specs.declared.result.Result.{Result}
use Rattle.std.specs.List.{flat_map}
use Rattle.std.proofs.lemmas.List.{take-append-drop}
use Rattle.std.proofs.lemmas.List.Concat.{flat_map-append}
use Rattle.bl_outer.specs.Count.{Grew}
use Rattle.bl_outer.specs.Files.{Told}
use Rattle.bl_outer.specs.Sink.{SinkState, Adds, AddsPrefix}
use Rattle.bl_outer.proofs.Laws.{Told_then, Told-weaker, Adds_then, Adds_then_prefix, AddsPrefix-append}
use Rattle.bl_run.specs.Endings.{Place, place_text, file_line}
use Rattle.bl_run.specs.Promise.{Tells}
use Rattle.bl_run.specs.Steps.{Puts}

-- a first part that wasn't taken whole is one of the line
pub cut_short : (line more : List ℕ) (old new : SinkState) → Told (AddsPrefix line) old.bytes new.bytes
    → Told (AddsPrefix (line ++ more)) old.bytes new.bytes
cut_short line more old new h =
    Told-weaker (AddsPrefix line) (AddsPrefix (line ++ more))
    (λ s t g. AddsPrefix-append line more s t g) old.bytes new.bytes h

-- a line, and what was put after it
pub puts_then : {T E : Type 0} (r : Result T E) (line more : List ℕ) (old middle new : SinkState)
    → Told (Adds line) old.bytes middle.bytes → middle.faults ≡ old.faults → Puts more middle new r
    → Puts (line ++ more) old new r
puts_then (Ok x) line more old middle new put same h = (
  Told_then (Adds line) (Adds more) (Adds (line ++ more))
      (λ s t u a b. Adds_then line more s t u a b) old.bytes middle.bytes new.bytes put h.0,
  h.1 ∙ same,
)
puts_then (Err e) line more old middle new put same h = (
  Told_then (Adds line) (AddsPrefix more) (AddsPrefix (line ++ more))
      (λ s t u a b. Adds_then_prefix line more s t u a b) old.bytes middle.bytes new.bytes put h.0,
  subst (λ (n : ℕ). Grew n new.faults) same h.1,
)

-- what is put of things one after the other: the texts of those before a place, of the one there, and of those behind
module _ {X : Type 0} (text : X → List ℕ) where
  abbrev joined : List X → List ℕ
  joined xs = flat_map text xs

  split_at : (xs : List X) (i : ℕ) (d : X) → i < length xs
      → joined xs ≡ joined (take i xs) ++ (text (get_or xs i d) ++ joined (drop (i + 1) xs))
  split_at xs i d below =
      let cut : drop i xs ≡ get_or xs i d ∷ drop (i + 1) xs = rw add-one (drop-cons xs i d below) in
      ap joined (sym (take-append-drop i xs)) ∙ (flat_map-append text (take i xs) (drop i xs)
      ∙ ap (λ (rest : List X). joined (take i xs) ++ joined rest) cut)

  -- the text at a place wasn't taken whole
  pub stopped_at : (xs : List X) (i : ℕ) (d x : X) (old middle new : SinkState) → i < length xs → x ≡ get_or xs i d
      → Told (Adds (joined (take i xs))) old.bytes middle.bytes → middle.faults ≡ old.faults
      → Told (AddsPrefix (text x)) middle.bytes new.bytes → Grew middle.faults new.faults
      → Told (AddsPrefix (joined xs)) old.bytes new.bytes × Grew old.faults new.faults
  stopped_at xs i d x old middle new below is put same part grew =
      let rest : List ℕ = joined (drop (i + 1) xs) in
      let whole : joined xs ≡ joined (take i xs) ++ (text x ++ rest) =
      split_at xs i d below ∙ ap (λ (y : X). joined (take i xs) ++ (text y ++ joined (drop (i + 1) xs))) (sym is) in (
        subst (λ (line : List ℕ). Told (AddsPrefix line) old.bytes new.bytes) (sym whole)
            (Told_then (Adds (joined (take i xs))) (AddsPrefix (text x ++ rest))
            (AddsPrefix (joined (take i xs) ++ (text x ++ rest)))
            (λ s t u a b. Adds_then_prefix (joined (take i xs)) (text x ++ rest) s t u a b)
            old.bytes middle.bytes new.bytes put (cut_short (text x) rest middle new part)),
        subst (λ (n : ℕ). Grew n new.faults) same grew,
      )

-- what was put of a line is what tells it
pub told : {T E : Type 0} (line : List ℕ) (r : Result T E) (old new : SinkState) → Puts line old new r
    → Tells (Some line) old new
told line (Ok x) old new h = inl h
told line (Err e) old new h = inr h

-- the pieces of the line on a text that breaks a rule
pub fault_pieces : (file rule : List ℕ) (place : Place)
    → codes "mibs: " ++ (file ++ codes ": ") ++ (place_text place ++ (rule ++ codes "\n")) ≡ file_line file
    (place_text place ++ rule)
fault_pieces file rule place = simp append_assoc

-- the pieces of the lines on spent budgets
pub nodes_pieces : (budget made : List ℕ)
    → codes "mibs: node budget " ++ (budget ++ (codes " spent with " ++ (made ++ codes " nodes\n")))
    ≡ codes "mibs: node budget " ++ ((budget ++ (codes " spent with " ++ (made ++ codes " nodes"))) ++ codes "\n")
nodes_pieces budget made = simp append_assoc

pub head_pieces : (budget made : List ℕ)
    → codes "mibs: follower budget " ++ (budget ++ (codes " spent with " ++ (made ++ codes " nodes at link")))
    ≡ codes "mibs: follower budget "
    ++ ((budget ++ (codes " spent with " ++ (made ++ codes " nodes"))) ++ codes " at link")
head_pieces budget made = simp append_assoc

-- the line on the follower's budget has the link behind its head
pub follower_pieces : (spent link : List ℕ)
    → (codes "mibs: follower budget " ++ (spent ++ codes " at link")) ++ (link ++ codes "\n")
    ≡ codes "mibs: follower budget " ++ (spent ++ (codes " at link" ++ (link ++ codes "\n")))
follower_pieces spent link = simp append_assoc
