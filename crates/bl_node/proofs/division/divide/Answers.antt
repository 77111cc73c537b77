use Rattle.std.specs.Prelude.{option_map}
use Rattle.std.specs.Arc.{arc_value}
use Rattle.bl_node.specs.Works.{job_of}
use Rattle.bl_node.proofs.Divisions.{node_licence, dividing}
use Rattle.bl_node.proofs.division.divide.Goals as goal

pub make-why-requires : goal.make-why-requires
make-why-requires c =
    node_licence (job_of c.args.task.now) (option_map arc_value c.args.found) (arc_value c.in_ok-model.model)
    (arc_value c.in_ok-area.area) (option_map arc_value c.in_ok-cutoff.cutoff) c.args.kept c.args.why c.requires.job
    c.requires.found c.in_ok-model.ensures.cases c.in_ok-area.ensures.cases c.in_ok-cutoff.ensures c.requires.licence

pub returns : goal.returns
returns c = (
  dividing (job_of c.args.task.now) (option_map arc_value c.args.found) c.in_ok-halves.halves c.make-why.result
      c.args.cuts.all _ _ _ _ _ _ _ _ c.args.cuts.made c.requires.found c.in_ok-halves.ensures
      c.in_ok-clone.ensures.cases c.make-why.ensures c.in_ok-model.ensures.cases c.in_ok-area.ensures.cases
      c.in_ok-cutoff.ensures c.requires.cuts c.requires.tried,
  c.requires.found.incumbent,
)
