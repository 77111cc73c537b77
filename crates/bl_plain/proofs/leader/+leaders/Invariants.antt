use Rattle.std.proofs.Common.{◌≡◌, ◌+◌, ◌*◌, ◌∷◌, ◌++◌, length}
use Rattle.std.specs.Prelude.{◌≤ℤ◌}
use Rattle.bl_whole.specs.Sums.{component}
use Rattle.bl_terms.specs.Programs.{InBox, columns}
use Rattle.bl_terms.specs.Feasible.{BilevelFeasible}
use Rattle.bl_plain.specs.Walk.{Varies}
use Rattle.bl_plain.proofs.BestLemmas.{Seeks}
use Rattle.bl_plain.proofs.leader.+leaders.Given as goal

abbrev pub decreases-try_leaders : goal.decreases-try_leaders
decreases-try_leaders l = 2 * length l.columns.now

abbrev pub decreases-try_choices : goal.decreases-try_choices
decreases-try_choices l = 2 * length l.rest.now + 1

-- the best of the points whose value of the column is below `value`
abbrev pub invariant-try_choices-loop-value : goal.invariant-try_choices-loop-value
invariant-try_choices-loop-value l = record {
  inside : InBox l.model l.z;
  moved : Varies l.model (l.column ∷ (l.rest ++ l.model.follower)) l.fn.z l.z;
  from : component l.model.lo l.column ≤ℤ l.value;
  room : length l.best.point ≡ columns l.model;
  best : Seeks l.model l.column (l.rest ++ l.model.follower) l.fn.z (BilevelFeasible l.model) l.value l.fn.best l.best;
}
