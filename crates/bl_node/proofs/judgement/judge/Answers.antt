use Rattle.std.proofs.Common.{◌≡◌, sym, subst, ap, ◌∙◌, List}
use Rattle.std.specs.Prelude.{ℤ}
use Rattle.bl_terms.specs.Points.{InArea}
use Rattle.bl_terms.specs.Programs.{Program, root, link_of}
use Rattle.bl_terms.proofs.PointLemmas.{point_of_part}
use Rattle.bl_follower.specs.Answers.{IsFailure}
use Rattle.bl_node.specs.Works.{job_of, fails_as}
use Rattle.bl_node.proofs.Failures.{fails_at, err_as}
use Rattle.bl_node.proofs.judgement.judge.Goals as goal

pub link_of-requires : goal.link_of-requires
link_of-requires g c =
    subst (λ (p : Program). InArea (root p) c.args.point.now) (sym c.deref.ensures)
    (point_of_part c.requires.job.job.within c.requires.inside)

pub returns-in_err-kept-clause-err : goal.returns-in_err-kept-clause-err
returns-in_err-kept-clause-err g c =
    let j = job_of c.args.task.now in
    let z = c.args.point.now in
    let fail = c.in_err-kept.field-0.0 in
    let link : c.deref-2.result.now ≡ link_of j.program z = c.deref-2.ensures.value ∙ c.in_ok-link.ensures.value
    ∙ ap (λ (p : Program). link_of p z) c.deref.ensures in
    err_as c.from_residual-in_err-kept.result j c.args.budget (fails_as fail) c.from_residual-in_err-kept.ensures.1
    (fails_at j z c.args.budget fail c.requires.job c.requires.inside
    (subst (λ (l : List ℤ). IsFailure j.program l c.args.budget fail) link c.in_err-kept.ensures.err))
