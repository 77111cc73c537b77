use Rattle.std.specs.Prelude.{option_map}
use Rattle.std.specs.Arc.{arc_value}
use Rattle.bl_node.specs.Works.{job_of}
use Rattle.bl_node.proofs.Steps.{found_more}
use Rattle.bl_node.proofs.Failures.{keeps_more}
use Rattle.bl_node.proofs.cutting.relax_cut.Goals as goal

pub returns-in_err-response-clause-keeps : goal.returns-in_err-response-clause-keeps
returns-in_err-response-clause-keeps g c =
    keeps_more (g.S.Source.held c.args.pool.now) (g.S.Source.held c.relaxations.pool)
    (g.S.Source.held c.judge.new.pool) c.relaxations.invariant.keeps c.in_err-response.ensures.keeps

pub returns-in_default-clause-found : goal.returns-in_default-clause-found
returns-in_default-clause-found g c =
    found_more (job_of c.args.task.now) (option_map arc_value c.args.found.now)
    (option_map arc_value c.relaxations.found) (option_map arc_value c.judge.new.found) c.relaxations.invariant.found
    c.in_ok-response.ensures.found

pub returns-in_default-clause-keeps : goal.returns-in_default-clause-keeps
returns-in_default-clause-keeps g c =
    keeps_more (g.S.Source.held c.args.pool.now) (g.S.Source.held c.relaxations.pool)
    (g.S.Source.held c.judge.new.pool) c.relaxations.invariant.keeps c.in_ok-response.ensures.keeps

pub returns-in_err-attempt-clause-keeps : goal.returns-in_err-attempt-clause-keeps
returns-in_err-attempt-clause-keeps g c =
    keeps_more (g.S.Source.held c.args.pool.now) (g.S.Source.held c.relaxations.pool)
    (g.S.Source.held c.judge.new.pool) c.relaxations.invariant.keeps c.in_ok-response.ensures.keeps

pub returns-then-not-branch-clause-found : goal.returns-then-not-branch-clause-found
returns-then-not-branch-clause-found g c =
    found_more (job_of c.args.task.now) (option_map arc_value c.args.found.now)
    (option_map arc_value c.relaxations.found) (option_map arc_value c.judge.new.found) c.relaxations.invariant.found
    c.in_ok-response.ensures.found

pub returns-then-not-branch-clause-stay : goal.returns-then-not-branch-clause-stay
returns-then-not-branch-clause-stay g c =
    λ z b. c.in_ok-attempt.ensures.attempt.stay z (c.relaxations.invariant.stay z b)

pub returns-then-not-branch-clause-keeps : goal.returns-then-not-branch-clause-keeps
returns-then-not-branch-clause-keeps g c =
    keeps_more (g.S.Source.held c.args.pool.now) (g.S.Source.held c.relaxations.pool)
    (g.S.Source.held c.judge.new.pool) c.relaxations.invariant.keeps c.in_ok-response.ensures.keeps

pub relaxations-preserved : goal.relaxations-preserved
relaxations-preserved g c = record {
  found = found_more (job_of c.args.task.now) (option_map arc_value c.args.found.now)
      (option_map arc_value c.relaxations.found) (option_map arc_value c.judge.new.found)
      c.relaxations.invariant.found c.in_ok-response.ensures.found;
  cuts = c.in_ok-attempt.ensures.cuts;
  stay = λ z b. c.in_ok-attempt.ensures.attempt.stay z (c.relaxations.invariant.stay z b);
  keeps = keeps_more (g.S.Source.held c.args.pool.now) (g.S.Source.held c.relaxations.pool)
      (g.S.Source.held c.judge.new.pool) c.relaxations.invariant.keeps c.in_ok-response.ensures.keeps;
}
