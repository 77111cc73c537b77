use Rattle.std.specs.Prelude.{option_map}
use Rattle.std.specs.Arc.{arc_value}
use Rattle.bl_node.specs.Works.{job_of}
use Rattle.bl_node.specs.Standing.{cutoff_with, IsFoundAfter, height}
use Rattle.bl_node.proofs.relaxation.relax_down.Given as goal

abbrev pub invariant-relaxations : goal.invariant-relaxations
invariant-relaxations l =
    IsFoundAfter (job_of l.task) (option_map arc_value l.initial.found) (option_map arc_value l.found)

abbrev pub decreases-relaxations : goal.decreases-relaxations
decreases-relaxations l = height (cutoff_with (job_of l.task) (option_map arc_value l.found))
