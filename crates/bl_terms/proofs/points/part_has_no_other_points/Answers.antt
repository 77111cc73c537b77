use Rattle.bl_terms.proofs.PointLemmas.{point_of_part}
use Rattle.bl_terms.proofs.points.part_has_no_other_points.Goals as goal

pub returns : goal.returns
returns c = λ a outer z part inside. point_of_part part inside
