use Rattle.bl_tree.proofs.Links.{links_there}
use Rattle.bl_node.proofs.division.asked_place.Goals as goal

pub widest_among-requires-clause-columns : goal.widest_among-requires-clause-columns
widest_among-requires-clause-columns c =
    links_there c.args.model.now c.args.area.now c.lo-in-Better.result.now c.links-in-Better.result.now
    c.links-in-Better.ensures.model c.requires c.lo-in-Better.ensures.value c.links-in-Better.ensures.links
