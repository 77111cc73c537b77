use Rattle.std.proofs.Common.{refl, sym, subst, List}
use Rattle.std.specs.Prelude.{ℤ, Some, option_map}
use Rattle.std.specs.Arc.{arc_value}
use Rattle.std.specs.Int.{w64}
use Rattle.std.proofs.lemmas.Int.{to_z-of_z}
use Rattle.bl_terms.specs.Programs.{cost_at}
use Rattle.bl_bound.specs.Plain.{CostsLess, IsBetterPoint}
use Rattle.bl_relax.specs.declared.relaxed.Relaxed.TheVariants as relaxed
use Rattle.bl_follower.proofs.Boxes.{relaxed_over}
use Rattle.bl_leaf_terms.specs.Nodes.{plain_problem}
use Rattle.bl_node.specs.Works.{job_of}
use Rattle.bl_node.specs.Standing.{cutoff_with}
use Rattle.bl_node.proofs.Steps.{found_more}
use Rattle.bl_node.proofs.Points.{fixed_incumbent}
use Rattle.bl_node.proofs.Falls.{taken_falls}
use Rattle.bl_node.proofs.relaxation.relax_down.Goals as goal

pub returns-in-Stuck-clause-relaxed : goal.returns-in-Stuck-clause-relaxed
returns-in-Stuck-clause-relaxed c =
    let j = job_of c.args.task.now in
    let q = plain_problem j.program j.area (Some c.args.value) in
    let u = cutoff_with j (option_map arc_value c.relaxations.found) in (
      relaxed_over q q u u c.in_ok-proof.field-0 (relaxed.Stuck c.in-Stuck.why) refl refl c.in-Stuck.is
          (rw (to_z-of_z w64 _ c.ranges.value) at c.in_ok-proof.ensures),
      c.requires.several,
    )

pub take-requires-clause-incumbent : goal.take-requires-clause-incumbent
take-requires-clause-incumbent c =
    let j = job_of c.args.task.now in
    let q = plain_problem j.program j.area (Some c.args.value) in
    let u = cutoff_with j (option_map arc_value c.relaxations.found) in
    let better : IsBetterPoint q u c.in-Whole.point =
    relaxed_over q q u u c.in_ok-proof.field-0 (relaxed.Whole c.in-Whole.point) refl refl c.in-Whole.is
    (rw (to_z-of_z w64 _ c.ranges.value) at c.in_ok-proof.ensures) in
    fixed_incumbent j.program j.area c.args.kept.now c.in_ok-copy-in-Whole.field-0 c.args.value c.in-Whole.point
    c.into_vec.result.items c.requires.job.model c.requires.job.job.within c.requires.value
    c.in_ok-copy-in-Whole.ensures c.into_vec.ensures better.point

pub relaxations-smaller : goal.relaxations-smaller
relaxations-smaller c =
    let j = job_of c.args.task.now in
    let q = plain_problem j.program j.area (Some c.args.value) in
    let u = cutoff_with j (option_map arc_value c.relaxations.found) in
    let better : IsBetterPoint q u c.in-Whole.point =
    relaxed_over q q u u c.in_ok-proof.field-0 (relaxed.Whole c.in-Whole.point) refl refl c.in-Whole.is
    (rw (to_z-of_z w64 _ c.ranges.value) at c.in_ok-proof.ensures) in
    let less : CostsLess u (cost_at j.program c.into_vec.result.items) =
    subst (λ (z : List ℤ). CostsLess u (cost_at j.program z)) (sym c.into_vec.ensures) better.cost in
    taken_falls j (option_map arc_value c.relaxations.found) (option_map arc_value c.take.new.found)
    (record {
      program = j.program;
      point = c.into_vec.result.items;
      entry = c.in_ok-copy-in-Whole.field-0;
    })
    c.requires.job c.relaxations.invariant.found c.in_ok-take-in-Whole.ensures.found.found
    c.in_ok-take-in-Whole.ensures.taken less

pub relaxations-preserved : goal.relaxations-preserved
relaxations-preserved c =
    found_more (job_of c.args.task.now) (option_map arc_value c.args.found.now)
    (option_map arc_value c.relaxations.found) (option_map arc_value c.take.new.found) c.relaxations.invariant
    c.in_ok-take-in-Whole.ensures.found
