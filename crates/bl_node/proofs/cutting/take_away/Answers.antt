use Rattle.bl_terms.proofs.PointLemmas.{point_of_part}
use Rattle.bl_node.proofs.cutting.take_away.Goals as goal

pub is_taken_away-requires : goal.is_taken_away-requires
is_taken_away-requires c = point_of_part c.requires.job.job.within c.requires.inside
