use Rattle.bl_certtext.proofs.Elements.{links_below}
use Rattle.bl_certtext.proofs.places.is_link.Goals as goal

pub in_ranges-requires : goal.in_ranges-requires
in_ranges-requires c = rw c.links.ensures.links (links_below c.args.model.now c.links.ensures.model)
