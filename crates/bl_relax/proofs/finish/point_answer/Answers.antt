use Rattle.std.proofs.Common.{refl}
use Rattle.bl_vertex.specs.Optima.{AreAllWhole}
use Rattle.bl_relax.proofs.LastAnswers.{in_box, all_whole, whole_answer, split_answer}
use Rattle.bl_relax.proofs.finish.point_answer.Goals as goal

pub whole_point-requires-clause-in_box : goal.whole_point-requires-clause-in_box
whole_point-requires-clause-in_box c =
    in_box c.args.problem.now c.args.cutoff c.args.distances.items c.deref-then-are_whole.result.now
    c.requires.problem_fits c.requires.optimum c.deref-then-are_whole.ensures.value

pub returns-then-are_whole : goal.returns-then-are_whole
returns-then-are_whole c =
    let q = c.args.problem.now in
    let u = c.args.cutoff in
    let fs = c.args.distances.items in
    let ds = c.deref-then-are_whole.result.now in
    let e = c.deref-then-are_whole.ensures.value in
    let all : AreAllWhole q ds =
    all_whole q u fs c.deref.result.now ds c.requires.optimum c.deref.ensures.value e
    (c.if-are_whole.ensures.whole refl) in
    whole_answer q u fs ds c.new.result c.requires.problem_fits c.requires.optimum e all
    (rw c.new.ensures c.in_ok-point.ensures)

pub returns-in-None : goal.returns-in-None
returns-in-None c =
    split_answer c.args.problem.now c.args.cutoff c.args.distances.items c.deref.result.now c.new-in-None.result
    c.requires.problem_fits c.requires.optimum c.deref.ensures.value c.new-in-None.ensures
    (c.if-are_whole.ensures.other refl)
