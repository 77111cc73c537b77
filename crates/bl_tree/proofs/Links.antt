-- The link of a box, number by number.
use Rattle.std.proofs.Common.{◌≡◌, ℕ, ◌<◌, sym, ◌∙◌, List, length}
use Rattle.std.specs.Prelude.{ℤ, pos, slice_index, All}
use Rattle.std.proofs.lemmas.List.{ext_get_or, length-map}
use Rattle.bl_whole.specs.Sums.{component}
use Rattle.bl_terms.specs.Points.{Area, IsWithinArea, values_at}
use Rattle.bl_terms.specs.Programs.{Program, root}
use Rattle.bl_terms.proofs.PlaceLemmas.{values_at-entry}
use Rattle.bl_model.specs.View.{IsModel}
use Rattle.bl_fproof.proofs.Problems.{link_places}

pub link_by_numbers : (link lo : List ℤ) (links : List ℕ) → length link ≡ length links
    → ((k : ℕ) → k < length links → component link k ≡ component lo (slice_index links k)) → link ≡ values_at lo links
link_by_numbers link lo links size each =
    ext_get_or (pos 0) link (values_at lo links) (size ∙ sym (length-map links (λ k. component lo k)))
    (λ k b. let at : k < length links = rw (← size) b in
    each k at ∙ sym (values_at-entry lo links k at))

-- the linking columns are columns of a part of the box
pub links_there : (p : Program) (a : Area) (lo : List ℤ) (links : List ℕ) → IsModel p → IsWithinArea a (root p)
    → lo ≡ a.lo → links ≡ p.links → All (λ k. k < length lo) links
links_there p a lo links m within low same = rw (same, low) (link_places p a.lo m within.columns)
