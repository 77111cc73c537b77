use Rattle.std.proofs.Common.{◌≡◌, ℕ, ◌<◌}
use Rattle.std.specs.Prelude.{slice_index}
use Rattle.bl_whole.specs.Sums.{component}
use Rattle.bl_model.proofs.boxes.are_fixed.Given as goal

abbrev pub invariant-loop-at : goal.invariant-loop-at
invariant-loop-at l = (j : ℕ) → j < l.at
    → component l.lo (slice_index l.columns j) ≡ component l.hi (slice_index l.columns j)
