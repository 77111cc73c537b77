use Rattle.std.proofs.Common.{rules, ◌∙◌, to_z, of_z, FitsSigned}
use Rattle.std.specs.Int.{w64}
use Rattle.std.proofs.lemmas.Int.{to_z-of_z}
use Rattle.bl_cut_proof.proofs.ResponseLemmas.{problem_at_link, better}
use Rattle.bl_cut_proof.proofs.response.has_better_response.Goals as goal

pub returns : goal.returns
returns c =
    let fits : FitsSigned w64 c.follower_of.result = search rules in
    better c.args.model.now c.in_ok-problem.problem c.args.point.now c.args.response.now
    (to_z w64 (of_z w64 c.follower_of.result))
    c.is_cheaper_point.result c.in_ok-rows.ensures.model.sound
    (problem_at_link c.args.model.now c.in_ok-rows.rows c.in_ok-problem.problem c.lo.result.now c.hi.result.now
    c.deref.result.now c.args.point.now c.in_ok-problem.ensures.value c.lo.ensures.value c.hi.ensures.value
    c.in_ok-rows.ensures.rows (c.deref.ensures.value ∙ c.in_ok-link.ensures.value))
    (to_z-of_z w64 _ fits ∙ c.follower_of.ensures) c.is_cheaper_point.ensures
