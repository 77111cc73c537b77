use Rattle.std.specs.Prelude.{option_map}
use Rattle.std.specs.Arc.{arc_value}
use Rattle.bl_node.specs.Works.{job_of}
use Rattle.bl_node.proofs.Steps.{found_more}
use Rattle.bl_node.proofs.Falls.{later_round}
use Rattle.bl_node.proofs.Failures.{keeps_more}
use Rattle.bl_node.proofs.rounds.cut_round.Goals as goal

pub returns-in_err-round-in-Stuck-clause-keeps : goal.returns-in_err-round-in-Stuck-clause-keeps
returns-in_err-round-in-Stuck-clause-keeps g c =
    keeps_more (g.S.Source.held c.args.pool.now) (g.S.Source.held c.relax_free.new.pool)
    (g.S.Source.held c.after_licence.new.pool) c.in_ok-proof.ensures.keeps c.in_err-round-in-Stuck.ensures.keeps

pub returns-in_ok-round-in-Stuck-clause-found : goal.returns-in_ok-round-in-Stuck-clause-found
returns-in_ok-round-in-Stuck-clause-found g c =
    found_more (job_of c.args.task.now) (option_map arc_value c.args.found.now)
    (option_map arc_value c.relax_free.new.found) (option_map arc_value c.after_licence.new.found)
    c.in_ok-proof.ensures.found c.in_ok-round-in-Stuck.ensures.found

pub returns-in_ok-round-in-Stuck-clause-round : goal.returns-in_ok-round-in-Stuck-clause-round
returns-in_ok-round-in-Stuck-clause-round g c =
    later_round (job_of c.args.task.now) (option_map arc_value c.args.found.now)
    (option_map arc_value c.relax_free.new.found) (option_map arc_value c.after_licence.new.found)
    c.after_licence.new.cuts.made c.in_ok-round-in-Stuck.round c.requires.job c.requires.found
    c.in_ok-proof.ensures.found c.in_ok-round-in-Stuck.ensures.round

pub returns-in_ok-round-in-Stuck-clause-keeps : goal.returns-in_ok-round-in-Stuck-clause-keeps
returns-in_ok-round-in-Stuck-clause-keeps g c =
    keeps_more (g.S.Source.held c.args.pool.now) (g.S.Source.held c.relax_free.new.pool)
    (g.S.Source.held c.after_licence.new.pool) c.in_ok-proof.ensures.keeps c.in_ok-round-in-Stuck.ensures.keeps
