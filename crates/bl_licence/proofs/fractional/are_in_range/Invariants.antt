use Rattle.std.proofs.Common.{ℕ, ◌<◌}
use Rattle.std.specs.Prelude.{◌-ℤ◌}
use Rattle.bl_whole.specs.Sums.{component}
use Rattle.bl_simplex.specs.Fractions.{IsReduced}
use Rattle.bl_simplex.specs.Rationals.{fraction_at}
use Rattle.bl_licence.specs.Steps.{IsBetween}
use Rattle.bl_licence.proofs.fractional.are_in_range.Given as goal

abbrev pub invariant-loop-j : goal.invariant-loop-j
invariant-loop-j l = record {
  between : (k : ℕ) → k < l.j
      → IsBetween (component l.problem.area.hi k -ℤ component l.problem.area.lo k) (fraction_at l.distances k);
  reduced : (k : ℕ) → k < l.j → IsReduced (fraction_at l.distances k);
}
