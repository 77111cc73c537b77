use Rattle.std.proofs.Common.{refl, rules, pos}
use Rattle.std.specs.Prelude.{slice_index_or, FitsSigned}
use Rattle.std.specs.Int.{w64}
use Rattle.std.proofs.lemmas.Int.{to_z-of_z}
use Rattle.std.proofs.lemmas.List.Elements.{AllWithin-more}
use Rattle.bl_certtext.specs.Places.{IsPlace}
use Rattle.bl_certtext.proofs.Elements.{at_any}
use Rattle.bl_certtext.proofs.places.are_places.Goals as goal

pub loop-number-preserved : goal.loop-number-preserved
loop-number-preserved c =
    let i = c.loop-number.number-index in
    let xs = c.args.numbers.now in
    let fits : FitsSigned w64 (slice_index_or xs i (pos 0)) = search rules in
    let here : IsPlace c.args.count (slice_index_or xs i (pos 0)) =
    rw to_z-of_z at (c.if-not-is_place.ensures.0 refl) in
    AllWithin-more (IsPlace c.args.count) xs 0 i c.loop-number.invariant
    (λ d. at_any (IsPlace c.args.count) xs i (pos 0) d c.loop-number-test.true here)
