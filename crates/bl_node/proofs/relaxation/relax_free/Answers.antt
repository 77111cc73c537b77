use Rattle.std.proofs.Common.{refl, sym, subst, List}
use Rattle.std.specs.Prelude.{ℤ, Option, None, option_map}
use Rattle.std.specs.Arc.{arc_value}
use Rattle.bl_terms.specs.Programs.{MeetsRows, cost_at}
use Rattle.bl_bound.specs.Plain.{IsBetterPoint}
use Rattle.bl_relax.specs.declared.relaxed.Relaxed.TheVariants as relaxed
use Rattle.bl_follower.proofs.Boxes.{relaxed_over}
use Rattle.bl_leaf_terms.specs.Nodes.{plain_problem}
use Rattle.bl_node.specs.Works.{job_of}
use Rattle.bl_node.specs.Standing.{cutoff_with, IsJudged}
use Rattle.bl_node.proofs.Steps.{found_more}
use Rattle.bl_node.proofs.Points.{free_point}
use Rattle.bl_node.proofs.Falls.{judged_falls}
use Rattle.bl_node.proofs.Failures.{keeps_more}
use Rattle.bl_node.proofs.relaxation.relax_free.Goals as goal

pub judge-requires-clause-rows : goal.judge-requires-clause-rows
judge-requires-clause-rows g c =
    let j = job_of c.args.task.now in
    let q = plain_problem j.program j.area None in
    let u = cutoff_with j (option_map arc_value c.relaxations.found) in
    let better : IsBetterPoint q u c.in-Whole.point =
    relaxed_over q q u u c.in_ok-proof.field-0 (relaxed.Whole c.in-Whole.point) refl refl c.in-Whole.is
    c.in_ok-proof.ensures in
    subst (λ (z : List ℤ). MeetsRows j.program z) (sym c.as_slice.ensures)
    (free_point j.program j.area c.in-Whole.point better.point)

pub returns-in_err-response-in-Whole-clause-keeps : goal.returns-in_err-response-in-Whole-clause-keeps
returns-in_err-response-in-Whole-clause-keeps g c =
    keeps_more (g.S.Source.held c.args.pool.now) (g.S.Source.held c.relaxations.pool)
    (g.S.Source.held c.judge.new.pool) c.relaxations.invariant.keeps c.in_err-response-in-Whole.ensures.keeps

pub returns-in-Some-clause-found : goal.returns-in-Some-clause-found
returns-in-Some-clause-found g c =
    found_more (job_of c.args.task.now) (option_map arc_value c.args.found.now)
    (option_map arc_value c.relaxations.found) (option_map arc_value c.judge.new.found) c.relaxations.invariant.found
    c.in_ok-response-in-Whole.ensures.found

pub returns-in-Some-clause-keeps : goal.returns-in-Some-clause-keeps
returns-in-Some-clause-keeps g c =
    keeps_more (g.S.Source.held c.args.pool.now) (g.S.Source.held c.relaxations.pool)
    (g.S.Source.held c.judge.new.pool) c.relaxations.invariant.keeps c.in_ok-response-in-Whole.ensures.keeps

pub relaxations-smaller : goal.relaxations-smaller
relaxations-smaller g c =
    let j = job_of c.args.task.now in
    let q = plain_problem j.program j.area None in
    let old = option_map arc_value c.relaxations.found in
    let new = option_map arc_value c.judge.new.found in
    let u = cutoff_with j old in
    let z = c.as_slice.result.now in
    let better : IsBetterPoint q u z =
    subst (λ (x : List ℤ). IsBetterPoint q u x) (sym c.as_slice.ensures)
    (relaxed_over q q u u c.in_ok-proof.field-0 (relaxed.Whole c.in-Whole.point) refl refl c.in-Whole.is
    c.in_ok-proof.ensures) in
    judged_falls j old new (cost_at j.program z) c.requires.job c.relaxations.invariant.found.found
    c.in_ok-response-in-Whole.ensures.found.found better.cost
    (subst (λ (o : Option (List ℤ)). IsJudged j new z o) c.in_default.is c.in_ok-response-in-Whole.ensures.judged)

pub relaxations-preserved : goal.relaxations-preserved
relaxations-preserved g c = record {
  found = found_more (job_of c.args.task.now) (option_map arc_value c.args.found.now)
      (option_map arc_value c.relaxations.found) (option_map arc_value c.judge.new.found)
      c.relaxations.invariant.found c.in_ok-response-in-Whole.ensures.found;
  keeps = keeps_more (g.S.Source.held c.args.pool.now) (g.S.Source.held c.relaxations.pool)
      (g.S.Source.held c.judge.new.pool) c.relaxations.invariant.keeps c.in_ok-response-in-Whole.ensures.keeps;
}
