use Rattle.std.proofs.Common.{◌≡◌, refl, ap, ◌∙◌, List}
use Rattle.std.specs.Prelude.{ℤ, Option, Some, option_map}
use Rattle.std.specs.Arc.{arc_value}
use Rattle.std.specs.Int.{w64}
use Rattle.std.proofs.lemmas.Int.{to_z-of_z}
use Rattle.bl_terms.specs.Points.{Area}
use Rattle.bl_terms.specs.Programs.{cost_at}
use Rattle.bl_leaf_terms.specs.Incumbents.{Incumbent}
use Rattle.bl_leaf_terms.specs.Nodes.{plain_problem}
use Rattle.bl_follower.proofs.Boxes.{plain_over, one_point_over, plain_proves, closed_by_itself}
use Rattle.bl_node.specs.Works.{job_of}
use Rattle.bl_node.specs.Standing.{cutoff_with}
use Rattle.bl_node.proofs.Points.{fixed_incumbent}
use Rattle.bl_node.proofs.relaxation.close_point.Goals as goal

pub returns-in-Some-clause-closed : goal.returns-in-Some-clause-closed
returns-in-Some-clause-closed c =
    let j = job_of c.args.task.now in
    let q = plain_problem j.program j.area (Some c.args.value) in
    let u = cutoff_with j (option_map arc_value c.args.found.now) in
    plain_proves q u c.in-Some.proof
    (plain_over q q u u c.in_ok-proof.field-0 (Some c.in-Some.proof) refl refl c.in-Some.is
    (rw (to_z-of_z w64 _ c.ranges.value) at c.in_ok-proof.ensures.plain))

pub take-requires-clause-incumbent : goal.take-requires-clause-incumbent
take-requires-clause-incumbent c =
    let j = job_of c.args.task.now in
    let one_point = rw (to_z-of_z w64 _ c.ranges.value) at c.in_ok-proof.ensures.one_point in
    let point = c.in_ok-point.ensures.items ∙ c.lo.ensures.value ∙ ap (λ (a : Area). a.lo) c.deref.ensures in
    fixed_incumbent j.program j.area c.args.kept.now c.in_ok-copy.field-0 c.args.value j.area.lo
    c.in_ok-point.point.items c.requires.job.model c.requires.job.job.within c.requires.value c.in_ok-copy.ensures point
    ((one_point c.requires.point).0 c.in_default.is).point

pub unwrap-requires : goal.unwrap-requires
unwrap-requires c =
    let j = job_of c.args.task.now in
    let q = plain_problem j.program j.area (Some c.args.value) in
    let point : c.in_ok-point.point.items ≡ j.area.lo =
    c.in_ok-point.ensures.items ∙ c.lo.ensures.value ∙ ap (λ (a : Area). a.lo) c.deref.ensures in
    let cutoff = ap (λ (f : Option Incumbent). cutoff_with j f) c.in_ok-take.ensures.taken
    ∙ ap (λ (z : List ℤ). Some (cost_at j.program z)) point in
    closed_by_itself q (cost_at j.program j.area.lo) c.in_ok-proof-2.proof c.requires.point refl
    (one_point_over q q (cutoff_with j (option_map arc_value c.take.new.found)) (Some (cost_at j.program j.area.lo))
    c.in_ok-proof-2.proof c.in_ok-proof-2.proof refl cutoff refl
    (rw (to_z-of_z w64 _ c.ranges.value) at c.in_ok-proof-2.ensures.one_point))

pub returns-clause-closed : goal.returns-clause-closed
returns-clause-closed c =
    let j = job_of c.args.task.now in
    let q = plain_problem j.program j.area (Some c.args.value) in
    let u = cutoff_with j (option_map arc_value c.take.new.found) in
    plain_proves q u c.unwrap.result
    (plain_over q q u u c.in_ok-proof-2.proof (Some c.unwrap.result) refl refl c.unwrap.ensures
    (rw (to_z-of_z w64 _ c.ranges.value) at c.in_ok-proof-2.ensures.plain))
