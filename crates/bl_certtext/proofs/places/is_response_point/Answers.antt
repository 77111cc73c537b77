use Rattle.bl_certtext.proofs.Elements.{follower_below}
use Rattle.bl_certtext.proofs.places.is_response_point.Goals as goal

pub in_ranges-requires : goal.in_ranges-requires
in_ranges-requires c = rw c.follower.ensures.follower (follower_below c.args.model.now c.follower.ensures.model)
