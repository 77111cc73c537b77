use Rattle.std.proofs.Common.{refl, arith, ◌-◌, ◌<◌, length, get_or, pos}
use Rattle.std.proofs.lemmas.List.Sorted.{all_adjacent_more}
use Rattle.bl_certline.specs.declared.line.TightItem.{TightItem}
use Rattle.bl_certline.specs.declared.line.TightItem.TheVariants.{Row}
use Rattle.bl_certtext.specs.Places.{IsBefore}
use Rattle.bl_certtext.proofs.Elements.{at_any}
use Rattle.bl_certtext.proofs.places.are_in_order.Goals as goal

pub loop-place-preserved : goal.loop-place-preserved
loop-place-preserved c =
    let xs = c.args.items.now in
    let i = c.loop-place.place in
    let none : TightItem = Row (pos 0) in
    let last : i - 1 < length xs = omega arith in
    all_adjacent_more xs IsBefore i (omega arith) c.loop-place.invariant
    (λ d. at_any (λ y. IsBefore (get_or xs (i - 1) d) y) xs i none d c.loop-place-test.true
    (at_any (λ x. IsBefore x (get_or xs i none)) xs (i - 1) none d last (c.if-not-is_before.ensures.0 refl)))
