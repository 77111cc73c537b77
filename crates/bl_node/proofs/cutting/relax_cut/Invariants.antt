use Rattle.std.specs.Prelude.{option_map, length, ◌-◌}
use Rattle.std.specs.Arc.{arc_value}
use Rattle.bl_limits.specs.declared.TheConstants.{MAX_NEW_CUTS}
use Rattle.bl_source.specs.Sources.{KeepsEntries}
use Rattle.bl_node.specs.Works.{job_of}
use Rattle.bl_node.specs.Standing.{IsFoundAfter, AreNodeCuts, StayBroken}
use Rattle.bl_node.proofs.cutting.relax_cut.Given as goal

abbrev pub invariant-relaxations : goal.invariant-relaxations
invariant-relaxations g l = record {
  found : IsFoundAfter (job_of l.task) (option_map arc_value l.initial.found) (option_map arc_value l.found);
  cuts : AreNodeCuts (job_of l.task) l.cuts.all l.cuts.made;
  stay : StayBroken (job_of l.task) l.initial.cuts.made l.cuts.made;
  keeps : KeepsEntries (g.S.Source.held l.initial.pool) (g.S.Source.held l.pool);
}

abbrev pub decreases-relaxations : goal.decreases-relaxations
decreases-relaxations g l = MAX_NEW_CUTS - length l.cuts.made
