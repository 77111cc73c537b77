use Rattle.std.proofs.Common.{refl, sym, subst}
use Rattle.std.specs.Arc.{arc_value}
use Rattle.bl_terms.specs.Points.{Area, IsWithinArea}
use Rattle.bl_terms.specs.Programs.{Program, root}
use Rattle.bl_tree.proofs.Links.{links_there}
use Rattle.bl_node.proofs.nodes.work_with.Goals as goal

pub fixes-requires : goal.fixes-requires
fixes-requires g c =
    let p = c.deref-3.result.now in
    let a = c.deref-2.result.now in
    links_there p a a.lo c.links.result.now c.links.ensures.model
    (subst (λ (x : Area). IsWithinArea x (root p)) (sym c.deref-2.ensures)
    (subst (λ (x : Program). IsWithinArea (arc_value c.args.task.now.area) (root x)) (sym c.deref-3.ensures)
    c.requires.job.within))
    refl c.links.ensures.links
