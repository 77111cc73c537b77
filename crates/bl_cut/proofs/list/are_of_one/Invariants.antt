use Rattle.std.proofs.Common.{◌≡◌, ℕ, ◌<◌}
use Rattle.std.specs.Prelude.{map}
use Rattle.std.specs.Arc.{arc_value}
use Rattle.bl_cut.specs.Cuts.{cut_at}
use Rattle.bl_cut.proofs.list.are_of_one.Given as goal

abbrev pub invariant-loop-place : goal.invariant-loop-place
invariant-loop-place l =
    (k : ℕ) → k < l.place → (cut_at (map arc_value l.cuts) k).program ≡ (cut_at (map arc_value l.cuts) 0).program
