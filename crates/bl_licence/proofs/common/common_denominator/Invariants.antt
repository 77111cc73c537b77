use Rattle.std.proofs.Common.{◌≡◌, ◌<◌, ◌≤◌}
use Rattle.bl_simplex.specs.Rationals.{fraction_at, common_denominator}
use Rattle.bl_licence.proofs.common.common_denominator.Given as goal

abbrev pub invariant-loop-k : goal.invariant-loop-k
invariant-loop-k l = record {
  value : l.common ≡ common_denominator l.k (fraction_at l.fractions);
  positive : 0 < l.common;
  small : l.common ≤ 1125899906842624;
}
