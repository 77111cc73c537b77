-- What a file has that was written whole.
use Rattle.std.proofs.Common.{◌≡◌, List, ℕ, ◌++◌, length, arith, sym, ap, ◌∙◌, inr, subst}
use Rattle.std.specs.Prelude.{Option, Some}
use Rattle.std.specs.Option.{option_map}
use Rattle.std.proofs.lemmas.List.{take_all}
use Rattle.bl_outer.specs.Files.{Files, Empties, Appends, Told}
use Rattle.bl_outer.specs.Shelf.{Mode, Writing, chosen_name}
use Rattle.bl_outer.proofs.Laws.{Told_then}
use Rattle.bl_run.specs.Promise.{WritesPrefix}

-- the whole text is one of its first parts
whole_part : (name text : List ℕ) (s t u : Files) → Empties name s t → Appends name text t u
    → WritesPrefix name text s u
whole_part name text s t u g h = inr (
  length text,
  record {
    file = h.file ∙ ap (option_map (λ bytes. bytes ++ text)) g.file
        ∙ ap Some (sym (take_all (length text) text (omega arith)));
    others = λ other differ. h.others other differ ∙ g.others other differ;
  },
)

-- a file that was made empty, and to which the text was added
pub written_part : (name text : List ℕ) (mode : Mode) (old middle new : Option Files) → mode ≡ Writing name
    → Told (Empties name) old middle → Told (Appends (chosen_name mode) text) middle new
    → Told (WritesPrefix name text) old new
written_part name text mode old middle new chosen g h =
    Told_then (Empties name) (Appends name text) (WritesPrefix name text)
    (λ s t u a b. whole_part name text s t u a b) old middle new g
    (subst (λ (m : Mode). Told (Appends (chosen_name m) text) middle new) chosen h)
