-- Internal. The rules of a leaf, said of what a checker keeps.
use Rattle.std.specs.Prelude.{◌≡◌, ℤ, Bool, true, false, List, map, unsigned_abs, Option, Some, None, All}
use Rattle.bl_terms.specs.Points.{Area, IsWithinArea, Fixes, Linear}
use Rattle.bl_terms.specs.Programs.{Program}
use Rattle.bl_cut_terms.specs.NoGoods.{LocalRow, local_row_at}
use Rattle.bl_leaf_terms.specs.Nodes.{fixed_link}
use Rattle.bl_check_rules.specs.Answers.{answer_in}
use Rattle.bl_check_state.specs.declared.said.Said.{Said}

-- ---- the cited cuts

-- the kept cut that a number names
abbrev pub cut_named : List LocalRow → ℤ → LocalRow
cut_named cuts i = local_row_at cuts (unsigned_abs i)

-- the boxes of the cited cuts contain this one
abbrev pub LiesInCited : Area → List LocalRow → List ℤ → Type 0
LiesInCited a cuts cited = All (λ i. IsWithinArea a (cut_named cuts i).area) cited

-- the rows of the cited cuts
abbrev pub cited_rows : List LocalRow → List ℤ → List Linear
cited_rows cuts cited = map (λ i. (cut_named cuts i).row) cited

-- ---- the entries

-- the box fixes the linking columns, and this is kept of their link
pub record IsFixedAnswer (p : Program) (said : Said) (a : Area) (answer : Option ℤ) : Type 0 where
  pub fixes : Fixes a p.links
  pub kept : answer_in said.answers (fixed_link p a) ≡ Some answer

-- the right side of the value row, where the row is used and there is one
abbrev pub IsUsedValue : Program → Said → Area → Bool → Option ℤ → Type 0
IsUsedValue p said a false value = value ≡ None
IsUsedValue p said a true None = (v : ℤ) → ¬ IsFixedAnswer p said a (Some v)
IsUsedValue p said a true (Some v) = IsFixedAnswer p said a (Some v)
