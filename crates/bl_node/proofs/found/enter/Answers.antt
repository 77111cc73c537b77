use Rattle.std.proofs.Common.{rules}
use Rattle.std.specs.Prelude.{FitsSigned, option_map}
use Rattle.std.specs.Arc.{arc_value}
use Rattle.std.specs.Int.{w64}
use Rattle.std.proofs.lemmas.Int.{to_z-of_z}
use Rattle.bl_node.specs.Works.{job_of}
use Rattle.bl_node.proofs.Steps.{entered, found_itself}
use Rattle.bl_node.proofs.found.enter.Goals as goal

pub returns-in_ok-new : goal.returns-in_ok-new
returns-in_ok-new c =
    let fits : FitsSigned w64 c.value.result = search rules in
    let test = rw (to_z-of_z w64 _ fits) at c.is_below.ensures in
    entered (job_of c.args.task.now) (option_map arc_value c.args.found.now) c.args.incumbent
    (arc_value c.in_ok-new.field-0) c.cutoff.result c.value.result c.requires.found c.requires.program
    c.value.ensures.incumbent c.cutoff.ensures c.value.ensures.value (test.0 (search rules)) c.in_ok-new.ensures.ok

pub returns-else-is_below : goal.returns-else-is_below
returns-else-is_below c =
    found_itself (job_of c.args.task.now) (option_map arc_value c.args.found.now) c.requires.found
