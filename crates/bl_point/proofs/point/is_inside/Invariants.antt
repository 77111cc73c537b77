use Rattle.std.proofs.Common.{ℕ, ◌<◌, ◌≤ℤ◌}
use Rattle.bl_whole.specs.Sums.{component}
use Rattle.bl_point.proofs.point.is_inside.Given as goal

abbrev pub invariant-loop-j : goal.invariant-loop-j
invariant-loop-j l = record {
  least : (k : ℕ) → k < l.j → component l.problem.area.lo k ≤ℤ component l.point k;
  most : (k : ℕ) → k < l.j → component l.point k ≤ℤ component l.problem.area.hi k;
}
