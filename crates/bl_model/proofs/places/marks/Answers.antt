use Rattle.std.proofs.Common.{◌≡◌, arith, false}
use Rattle.bl_terms.specs.Points.{is_among}
use Rattle.bl_model.proofs.PlaceLemmas.{is_map_of_places}
use Rattle.bl_model.proofs.places.marks.Goals as goal

pub returns : goal.returns
returns c = is_map_of_places false c.loop-at.marks.items
    (λ k. is_among k c.args.places.now) c.args.count c.loop-at.invariant.count
    (λ k below. let done : c.loop-at.at ≡ 0 = omega arith in rw done at (c.loop-at.invariant.values k))
