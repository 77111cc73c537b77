use Rattle.std.proofs.Common.{◌∙◌, ap}
use Rattle.bl_cut_terms.specs.Adopting.{reordered}
use Rattle.bl_cut_proof.proofs.CodeLemmas.{map_more}
use Rattle.bl_cut_proof.proofs.units.reordered_units.Goals as goal

pub loop-unit-preserved : goal.loop-unit-preserved
loop-unit-preserved c =
    map_more (λ unit. reordered unit 0 c.args.order.now) c.args.units.now c.loop-unit.moved.items c.push.new.self.items
    c.loop-unit.unit-index c.unit-item.result c.new.result c.loop-unit-test.true c.loop-unit.invariant
    (c.new.ensures ∙ c.in_ok-terms.ensures
    ∙ ap (λ u. reordered u 0 c.args.order.now) (c.as_slice.ensures ∙ c.unit-item.is))
    c.in_ok-push.ensures.items
