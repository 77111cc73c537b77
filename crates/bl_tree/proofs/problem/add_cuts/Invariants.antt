use Rattle.std.proofs.Common.{◌≡◌, ℕ, ◌<◌, ◌++◌}
use Rattle.std.specs.Prelude.{take}
use Rattle.bl_cut.specs.Cuts.{IsProvedCut, cut_at}
use Rattle.bl_tree.specs.Closing.{rows_of}
use Rattle.bl_tree.proofs.problem.add_cuts.Given as goal

abbrev pub invariant-loop-place : goal.invariant-loop-place
invariant-loop-place l = record {
  problem : l.problem ≡ record l.initial.problem {
    rows = l.initial.problem.rows ++ rows_of (take l.place l.cuts);
  };
  proved : (k : ℕ) → k < l.place → IsProvedCut (cut_at l.cuts k);
}
