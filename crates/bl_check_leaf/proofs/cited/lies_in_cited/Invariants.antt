use Rattle.std.specs.List.{AllWithin}
use Rattle.bl_terms.specs.Points.{IsWithinArea}
use Rattle.bl_check_leaf.specs.Kept.{cut_named}
use Rattle.bl_check_leaf.proofs.cited.lies_in_cited.Given as goal

abbrev pub invariant-loop-place : goal.invariant-loop-place
invariant-loop-place l = AllWithin (λ i. IsWithinArea l.area (cut_named l.cuts i).area) l.cited 0 l.place-index
