use Rattle.std.proofs.Common.{◌≡◌, ◌+◌, ◌*◌, ◌∷◌, length}
use Rattle.std.specs.Prelude.{◌≤ℤ◌}
use Rattle.bl_whole.specs.Sums.{component}
use Rattle.bl_terms.specs.Programs.{InBox, columns}
use Rattle.bl_plain.specs.Walk.{Varies, AnswersAt}
use Rattle.bl_plain.proofs.BestLemmas.{Seeks}
use Rattle.bl_plain.proofs.leader.+responses.Given as goal

abbrev pub decreases-try_responses : goal.decreases-try_responses
decreases-try_responses l = 2 * length l.columns.now

abbrev pub decreases-try_values : goal.decreases-try_values
decreases-try_values l = 2 * length l.rest.now + 1

-- the best of the points whose value of the column is below `value`
abbrev pub invariant-try_values-loop-value : goal.invariant-try_values-loop-value
invariant-try_values-loop-value l = record {
  inside : InBox l.model l.z;
  moved : Varies l.model (l.column ∷ l.rest) l.fn.z l.z;
  from : component l.model.lo l.column ≤ℤ l.value;
  room : length l.best.point ≡ columns l.model;
  best : Seeks l.model l.column l.rest l.fn.z (AnswersAt l.model l.least) l.value l.fn.best l.best;
}
