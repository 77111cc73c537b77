use Rattle.std.proofs.Common.{sym, subst}
use Rattle.bl_terms.specs.Points.{InArea}
use Rattle.bl_terms.specs.Programs.{Program, root}
use Rattle.bl_terms.proofs.PointLemmas.{point_of_part}
use Rattle.bl_node.proofs.cuts.attempt.Goals as goal

pub breaks_one-requires : goal.breaks_one-requires
breaks_one-requires c =
    subst (λ (p : Program). InArea (root p) c.args.point.now) (sym c.deref.ensures)
    (point_of_part c.requires.job.job.within c.requires.inside)
