use Rattle.std.proofs.Common.{◌∙◌, subst}
use Rattle.bl_terms.specs.Programs.{link_of}
use Rattle.bl_terms.specs.Bounds.{Problem, IsPoint}
use Rattle.bl_terms.specs.FollowerProofs.{follower_box}
use Rattle.bl_terms.proofs.PointLemmas.{part_of_itself}
use Rattle.bl_terms.proofs.FollowerProofLemmas.{follower_points}
use Rattle.bl_cut_proof.proofs.ResponseLemmas.{problem_at_link}
use Rattle.bl_nogood.proofs.tests.is_response.Goals as goal

pub returns : goal.returns
returns c = λ t.
    let p = c.args.model.now in
    let y = c.args.response.now in
    let link = link_of p c.args.point.now in
    let e = problem_at_link p c.in_ok-rows.rows c.in_ok-problem.problem c.lo.result.now c.hi.result.now
    c.deref.result.now c.args.point.now c.in_ok-problem.ensures.value c.lo.ensures.value c.hi.ensures.value
    c.in_ok-rows.ensures.rows (c.deref.ensures.value ∙ c.in_ok-link.ensures.value) in
    ((follower_points p link y (follower_box p) c.in_ok-rows.ensures.model.sound (part_of_itself (follower_box p))).0
    (subst (λ (x : Problem). IsPoint x y) e (c.whole_at.ensures.0 t).point)).1
