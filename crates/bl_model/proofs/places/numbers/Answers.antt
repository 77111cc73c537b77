use Rattle.std.proofs.Common.{◌≡◌, arith, pos}
use Rattle.bl_model.specs.Build.{number_for}
use Rattle.bl_model.proofs.PlaceLemmas.{is_map_of_places}
use Rattle.bl_model.proofs.places.numbers.Goals as goal

pub returns : goal.returns
returns c = is_map_of_places (pos 0) c.loop-at.values.items
    (number_for c.args.pairs.now) c.args.count c.loop-at.invariant.count
    (λ k below. let done : c.loop-at.at ≡ 0 = omega arith in rw done at (c.loop-at.invariant.values k))
