use Rattle.std.proofs.Common.{ℕ, ◌<◌}
use Rattle.bl_node.specs.NodeCuts.{BreaksAt}
use Rattle.bl_node.proofs.cuts.breaks_one.Given as goal

abbrev pub invariant-loop-place : goal.invariant-loop-place
invariant-loop-place l = (k : ℕ) → k < l.place → ¬ BreaksAt l.model l.area l.cuts l.point k
