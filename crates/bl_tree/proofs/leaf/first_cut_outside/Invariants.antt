use Rattle.std.proofs.Common.{ℕ, ◌<◌}
use Rattle.bl_terms.specs.Points.{IsWithinArea}
use Rattle.bl_cut_terms.specs.NoGoods.{cut_of}
use Rattle.bl_cut.specs.Cuts.{cut_at}
use Rattle.bl_tree.proofs.leaf.first_cut_outside.Given as goal

abbrev pub invariant-loop-place : goal.invariant-loop-place
invariant-loop-place l = (k : ℕ) → k < l.place → IsWithinArea l.area (cut_of (cut_at l.cuts k)).area
