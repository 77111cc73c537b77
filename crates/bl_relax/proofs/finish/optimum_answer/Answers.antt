use Rattle.std.proofs.Common.{◌^◌, arith}
use Rattle.std.proofs.lemmas.Int.{ints}
use Rattle.bl_relax.proofs.LastAnswers.{point_past}
use Rattle.bl_relax.proofs.finish.optimum_answer.Goals as goal

pub large_answer-requires-clause-numbers : goal.large_answer-requires-clause-numbers
large_answer-requires-clause-numbers c =
    point_past c.args.problem.now c.args.cutoff c.args.tableau.now c.in_ok-distances.distances.items
    c.deref.result.now (2 ^ 50) c.requires.run c.requires.open_box c.requires.feasible c.in_ok-distances.ensures
    c.deref.ensures.value c.in-None.ensures (omega (arith, ints))
