use Rattle.std.proofs.Common.{◌+◌, ◌*◌, ◌∷◌, length}
use Rattle.std.specs.Prelude.{◌≤ℤ◌}
use Rattle.bl_whole.specs.Sums.{component}
use Rattle.bl_terms.specs.Programs.{InBox}
use Rattle.bl_plain.specs.Walk.{Varies}
use Rattle.bl_plain.proofs.WalkLemmas.{IsLeastBelow}
use Rattle.bl_plain.proofs.follower.+least.Given as goal

abbrev pub decreases-least_cost : goal.decreases-least_cost
decreases-least_cost l = 2 * length l.columns.now

abbrev pub decreases-least_over : goal.decreases-least_over
decreases-least_over l = 2 * length l.rest.now + 1

-- the least cost of the points whose value of the column is below `value`
abbrev pub invariant-least_over-loop-value : goal.invariant-least_over-loop-value
invariant-least_over-loop-value l = record {
  inside : InBox l.model l.z;
  moved : Varies l.model (l.column ∷ l.rest) l.fn.z l.z;
  from : component l.model.lo l.column ≤ℤ l.value;
  least : IsLeastBelow l.model (l.column ∷ l.rest) l.fn.z l.column l.value l.least;
}
