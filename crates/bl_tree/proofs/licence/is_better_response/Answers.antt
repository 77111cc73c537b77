use Rattle.std.proofs.Common.{◌≡◌, ◌∙◌, ap, List, ℤ, rules}
use Rattle.std.specs.Prelude.{FitsSigned}
use Rattle.std.specs.Int.{w64}
use Rattle.std.proofs.lemmas.Int.{to_z-of_z}
use Rattle.bl_terms.specs.Programs.{link_of}
use Rattle.bl_fproof.specs.Entries.{whole_problem}
use Rattle.bl_tree.proofs.Licences.{better_by}
use Rattle.bl_tree.proofs.licence.is_better_response.Goals as goal

pub returns : goal.returns
returns c =
    let p = c.args.model.now in
    let q = c.in_ok-problem.problem in
    let link : c.deref.result.now ≡ link_of p c.args.point.now = c.deref.ensures.value ∙ c.in_ok-link.ensures.value in
    let rows : c.in_ok-rows.rows ≡ whole_problem p (link_of p c.args.point.now) =
    c.in_ok-rows.ensures.rows ∙ ap (λ (l : List ℤ). whole_problem p l) link in
    let same : q ≡ c.in_ok-rows.rows =
    c.in_ok-problem.ensures.value ∙ rw (c.lo.ensures.value, c.hi.ensures.value) in
    let fits : FitsSigned w64 c.follower_of-cost.result = search rules in
    better_by p c.args.point.now c.args.response.now q c.follower_of-cost.result c.whole_at.result
    c.in_ok-rows.ensures.model (same ∙ rows) c.follower_of-cost.ensures
    (rw (to_z-of_z w64 _ fits) at c.whole_at.ensures)
