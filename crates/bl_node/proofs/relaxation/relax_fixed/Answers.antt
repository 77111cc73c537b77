use Rattle.std.specs.Int.{w64}
use Rattle.std.proofs.lemmas.Int.{to_z-of_z}
use Rattle.bl_node.proofs.relaxation.relax_fixed.Goals as goal

pub returns-clause-relaxed : goal.returns-clause-relaxed
returns-clause-relaxed c = rw (to_z-of_z w64 _ c.ranges.value) at c.relax_down.ensures.relaxed
