use Rattle.std.specs.Prelude.{option_map}
use Rattle.std.specs.Arc.{arc_value}
use Rattle.bl_node.specs.Works.{job_of}
use Rattle.bl_node.specs.Standing.{cutoff_with}
use Rattle.bl_node.proofs.Closings.{bounded_by_value}
use Rattle.bl_node.proofs.leaves.closed_with_value.Goals as goal

pub leaf_of-requires-clause-shown : goal.leaf_of-requires-clause-shown
leaf_of-requires-clause-shown c =
    let j = job_of c.args.task.now in
    bounded_by_value j.program j.area (cutoff_with j (option_map arc_value c.args.found.now)) c.args.proof
    c.in_ok-cuts.cuts c.args.kept c.args.value c.in_ok-cuts.ensures c.requires.value c.requires.proof
