use Rattle.std.proofs.Common.{refl}
use Rattle.std.proofs.lemmas.List.Elements.{AllWithin-more}
use Rattle.bl_certtext.specs.Places.{IsThere}
use Rattle.bl_certtext.proofs.Elements.{at_any}
use Rattle.bl_certtext.proofs.places.are_there.Goals as goal

pub loop-item-preserved : goal.loop-item-preserved
loop-item-preserved c =
    let i = c.loop-item.item-index in
    AllWithin-more (IsThere c.args.model.now c.args.earlier) c.args.items.now 0 i c.loop-item.invariant
    (λ d. at_any (IsThere c.args.model.now c.args.earlier) c.args.items.now i _ d c.loop-item-test.true
    (c.if-not-is_there.ensures.0 refl))
