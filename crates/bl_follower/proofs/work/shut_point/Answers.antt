use Rattle.std.proofs.Common.{◌≡◌, ◌∙◌, refl, ap}
use Rattle.std.specs.Prelude.{Some, None}
use Rattle.bl_terms.specs.Bounds.{over}
use Rattle.bl_whole.specs.Sums.{dot}
use Rattle.bl_follower.specs.declared.response.Response.{Response}
use Rattle.bl_follower.specs.Search.{cutoff_of}
use Rattle.bl_follower.proofs.Boxes.{same_problem, plain_over, one_point_over, made_over, plain_proves}
use Rattle.bl_follower.proofs.Boxes.{closed_by_itself}
use Rattle.bl_follower.proofs.Responses.{same_best, better_best}
use Rattle.bl_follower.proofs.work.shut_point.Goals as goal

pub returns-in-Some-clause-shut : goal.returns-in-Some-clause-shut
returns-in-Some-clause-shut c =
    let q = c.args.rows.now in
    let a = c.args.part.now in
    let same = same_problem q c.in_ok-problem.problem a c.lo.result.now c.hi.result.now c.in_ok-problem.ensures.value
    c.lo.ensures c.hi.ensures in
    plain_proves (over q a) (cutoff_of c.args.best.now) c.in-Some.proof
    (plain_over c.in_ok-problem.problem (over q a) c.cutoff.result (cutoff_of c.args.best.now) c.in_ok-proof.field-0
    (Some c.in-Some.proof) same c.cutoff.ensures c.in-Some.is c.in_ok-proof.ensures.plain)

pub unwrap-requires : goal.unwrap-requires
unwrap-requires c =
    let q = c.args.rows.now in
    let a = c.args.part.now in
    let r = c.response_at.result in
    let same = same_problem q c.in_ok-problem.problem a c.lo.result.now c.hi.result.now c.in_ok-problem.ensures.value
    c.lo.ensures c.hi.ensures in
    let place = c.new-point.ensures ∙ c.in_ok-from_slice-in-None.ensures.items ∙ c.lo-in-None.ensures in
    let made = made_over c.in_ok-problem.problem (over q a) c.new-point.result a.lo r same place
    c.response_at.ensures in
    let value : r.value ≡ dot q.cost a.lo = ap (λ (r : Response). r.value) made in
    closed_by_itself (over q a) r.value c.in_ok-proof-in-None.proof c.requires.point value
    (one_point_over c.in_ok-problem.problem (over q a) c.cutoff-in-None.result (Some r.value)
    c.in_ok-proof-in-None.proof c.in_ok-proof-in-None.proof same c.cutoff-in-None.ensures refl
    c.in_ok-proof-in-None.ensures.one_point)

pub returns-clause-best : goal.returns-clause-best
returns-clause-best c =
    let q = c.args.rows.now in
    let a = c.args.part.now in
    let best = c.args.best.now in
    let r = c.response_at.result in
    let same = same_problem q c.in_ok-problem.problem a c.lo.result.now c.hi.result.now c.in_ok-problem.ensures.value
    c.lo.ensures c.hi.ensures in
    let place = c.new-point.ensures ∙ c.in_ok-from_slice-in-None.ensures.items ∙ c.lo-in-None.ensures in
    let made = made_over c.in_ok-problem.problem (over q a) c.new-point.result a.lo r same place
    c.response_at.ensures in
    let clause = one_point_over c.in_ok-problem.problem (over q a) c.cutoff.result (cutoff_of best)
    c.in_ok-proof.field-0 None same c.cutoff.ensures c.in-None.is c.in_ok-proof.ensures.one_point in
    better_best q a best best r a.lo c.requires.part (same_best q best c.requires.best)
    ((clause c.requires.point).0 refl) made

pub returns-clause-shut : goal.returns-clause-shut
returns-clause-shut c =
    let q = c.args.rows.now in
    let a = c.args.part.now in
    let r = c.response_at.result in
    let same = same_problem q c.in_ok-problem.problem a c.lo.result.now c.hi.result.now c.in_ok-problem.ensures.value
    c.lo.ensures c.hi.ensures in
    plain_proves (over q a) (Some r.value) c.unwrap.result
    (plain_over c.in_ok-problem.problem (over q a) c.cutoff-in-None.result (Some r.value)
    c.in_ok-proof-in-None.proof (Some c.unwrap.result) same c.cutoff-in-None.ensures c.unwrap.ensures
    c.in_ok-proof-in-None.ensures.plain)
