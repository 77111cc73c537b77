use Rattle.std.proofs.Common.{◌≡◌, ℕ, ◌<◌, length}
use Rattle.bl_whole.specs.Sums.{component}
use Rattle.bl_bound.specs.Sums.{rows_part, rhs_part}
use Rattle.bl_bound.proofs.proof.add_rows.Given as goal

abbrev pub invariant-loop-i : goal.invariant-loop-i
invariant-loop-i l = record {
  columns : (j : ℕ) → j < length l.problem.area.lo → component l.sums j ≡ rows_part l.problem l.proof l.i j;
  rhs : l.rhs ≡ rhs_part l.problem l.proof l.i;
}
