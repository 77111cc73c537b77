use Rattle.std.specs.Prelude.{option_map}
use Rattle.std.specs.Arc.{arc_value}
use Rattle.bl_source.specs.Sources.{KeepsEntries}
use Rattle.bl_node.specs.Works.{job_of}
use Rattle.bl_node.specs.Standing.{cutoff_with, IsFound, AreNodeCuts, height}
use Rattle.bl_node.proofs.nodes.work_free.Given as goal

abbrev pub invariant-rounds : goal.invariant-rounds
invariant-rounds g l = record {
  found : IsFound (job_of l.task) (option_map arc_value l.found);
  cuts : AreNodeCuts (job_of l.task) l.cuts.all l.cuts.made;
  keeps : KeepsEntries (g.S.Source.held l.initial.pool) (g.S.Source.held l.pool);
}

abbrev pub decreases-rounds : goal.decreases-rounds
decreases-rounds g l = height (cutoff_with (job_of l.task) (option_map arc_value l.found))
