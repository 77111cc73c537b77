use Rattle.std.proofs.Common.{refl}
use Rattle.bl_tree.proofs.Links.{links_there}
use Rattle.bl_check_leaf.proofs.links.fixed_answer.Goals as goal

pub fixes-requires : goal.fixes-requires
fixes-requires c =
    links_there c.args.model.now c.args.area.now c.args.area.now.lo c.links.result.now c.links.ensures.model
    c.requires.part.within refl c.links.ensures.links
