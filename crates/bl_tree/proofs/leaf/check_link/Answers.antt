use Rattle.bl_tree.proofs.Links.{links_there}
use Rattle.std.proofs.Common.{refl}
use Rattle.bl_tree.proofs.leaf.check_link.Goals as goal

pub fixes-requires : goal.fixes-requires
fixes-requires c =
    links_there c.args.model.now c.args.area.now c.args.area.now.lo c.links.result.now c.links.ensures.model
    c.requires.within refl c.links.ensures.links

pub is_link_at-requires : goal.is_link_at-requires
is_link_at-requires c =
    links_there c.args.model.now c.args.area.now c.lo.result.now c.links-2.result.now c.links-2.ensures.model
    c.requires.within c.lo.ensures.value c.links-2.ensures.links
