use Rattle.std.proofs.Common.{◌≡◌, ℕ, ◌<◌}
use Rattle.std.specs.Prelude.{slice_index}
use Rattle.bl_whole.specs.Sums.{component}
use Rattle.bl_tree.proofs.problem.is_link_at.Given as goal

abbrev pub invariant-loop-j : goal.invariant-loop-j
invariant-loop-j l = (k : ℕ) → k < l.j → component l.link k ≡ component l.lo (slice_index l.links k)
