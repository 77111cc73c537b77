use Rattle.bl_node.specs.Works.{job_of}
use Rattle.bl_node.proofs.Failures.{keeps_more, one_point_fixes}
use Rattle.bl_node.proofs.nodes.work_free.Goals as goal

pub divide-requires-clause-several : goal.divide-requires-clause-several
divide-requires-clause-several g c =
    let j = job_of c.args.task.now in
    λ one. c.requires.free
    (one_point_fixes j.program j.area c.requires.job.model.sound c.requires.job.job.within one)

pub returns-in_err-leaf-clause-keeps : goal.returns-in_err-leaf-clause-keeps
returns-in_err-leaf-clause-keeps g c =
    keeps_more (g.S.Source.held c.args.pool.now) (g.S.Source.held c.rounds.pool) (g.S.Source.held c.cut_round.new.pool)
    c.rounds.invariant.keeps c.in_err-leaf.ensures.keeps

pub returns-in-Closed-clause-keeps : goal.returns-in-Closed-clause-keeps
returns-in-Closed-clause-keeps g c =
    keeps_more (g.S.Source.held c.args.pool.now) (g.S.Source.held c.rounds.pool) (g.S.Source.held c.cut_round.new.pool)
    c.rounds.invariant.keeps c.in_ok-leaf.ensures.keeps

pub returns-in_err-divide-in-Stuck-clause-keeps : goal.returns-in_err-divide-in-Stuck-clause-keeps
returns-in_err-divide-in-Stuck-clause-keeps g c =
    keeps_more (g.S.Source.held c.args.pool.now) (g.S.Source.held c.rounds.pool) (g.S.Source.held c.cut_round.new.pool)
    c.rounds.invariant.keeps c.in_ok-leaf.ensures.keeps

pub returns-in-Stuck-clause-keeps : goal.returns-in-Stuck-clause-keeps
returns-in-Stuck-clause-keeps g c =
    keeps_more (g.S.Source.held c.args.pool.now) (g.S.Source.held c.rounds.pool) (g.S.Source.held c.cut_round.new.pool)
    c.rounds.invariant.keeps c.in_ok-leaf.ensures.keeps

pub rounds-preserved : goal.rounds-preserved
rounds-preserved g c = record {
  found = c.in_ok-leaf.ensures.found.found;
  cuts = c.in_ok-leaf.ensures.cuts;
  keeps = keeps_more (g.S.Source.held c.args.pool.now) (g.S.Source.held c.rounds.pool)
      (g.S.Source.held c.cut_round.new.pool) c.rounds.invariant.keeps c.in_ok-leaf.ensures.keeps;
}
