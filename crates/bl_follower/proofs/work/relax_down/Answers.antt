use Rattle.std.proofs.Common.{refl}
use Rattle.bl_terms.specs.Bounds.{over}
use Rattle.bl_bound.specs.Plain.{IsBetterPoint}
use Rattle.bl_relax.specs.declared.relaxed.Relaxed.TheVariants.{Closed, Whole}
use Rattle.bl_follower.specs.Search.{cutoff_of}
use Rattle.bl_follower.proofs.Boxes.{same_problem, relaxed_over, made_over}
use Rattle.bl_follower.proofs.Responses.{better_best}
use Rattle.bl_follower.proofs.work.relax_down.Goals as goal

pub returns-in-Closed-clause-worked : goal.returns-in-Closed-clause-worked
returns-in-Closed-clause-worked c =
    let q = c.args.rows.now in
    let a = c.args.part.now in
    let same = same_problem q c.in_ok-problem.problem a c.lo.result.now c.hi.result.now c.in_ok-problem.ensures.value
    c.lo.ensures c.hi.ensures in
    relaxed_over c.in_ok-problem.problem (over q a) c.cutoff.result (cutoff_of c.relaxations.best)
    c.in_ok-proof.field-0 (Closed c.in-Closed.proof) same c.cutoff.ensures c.in-Closed.is c.in_ok-proof.ensures

pub relaxations-preserved-in-Whole : goal.relaxations-preserved-in-Whole
relaxations-preserved-in-Whole c =
    let q = c.args.rows.now in
    let a = c.args.part.now in
    let z = c.in-Whole.point in
    let same = same_problem q c.in_ok-problem.problem a c.lo.result.now c.hi.result.now c.in_ok-problem.ensures.value
    c.lo.ensures c.hi.ensures in
    let better : IsBetterPoint (over q a) (cutoff_of c.relaxations.best) z =
    relaxed_over c.in_ok-problem.problem (over q a) c.cutoff.result (cutoff_of c.relaxations.best)
    c.in_ok-proof.field-0 (Whole z) same c.cutoff.ensures c.in-Whole.is c.in_ok-proof.ensures in
    better_best q a c.args.best.now c.relaxations.best c.response_at.result z c.requires.part c.relaxations.invariant
    better (made_over c.in_ok-problem.problem (over q a) z z c.response_at.result same refl c.response_at.ensures)
