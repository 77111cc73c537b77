use Rattle.std.proofs.Common.{◌∙◌}
use Rattle.std.specs.Prelude.{option_map}
use Rattle.std.specs.Arc.{arc_value}
use Rattle.bl_node.specs.Works.{job_of}
use Rattle.bl_node.proofs.Steps.{taken_as}
use Rattle.bl_node.proofs.found.take.Goals as goal

pub returns-clause-found : goal.returns-clause-found
returns-clause-found c =
    taken_as (job_of c.args.task.now) (option_map arc_value c.args.found.now) (arc_value c.in_ok-clone.field-0)
    c.args.point.items c.args.kept (arc_value c.in_ok-incumbent.incumbent) c.requires.found c.in_ok-clone.ensures.cases
    (c.in_ok-incumbent.ensures.ok ∙ c.make-incumbent.ensures) c.requires.incumbent c.requires.better
