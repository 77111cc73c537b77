use Rattle.std.proofs.Common.{refl, rules, pos, subst, ap, ◌∙◌, ◌≡◌}
use Rattle.std.specs.Prelude.{ℤ, slice_index_or, FitsSigned}
use Rattle.std.specs.Int.{w64}
use Rattle.std.proofs.lemmas.Int.{to_z-of_z}
use Rattle.std.proofs.lemmas.List.Elements.{AllWithin-more}
use Rattle.bl_terms.specs.Points.{IsWithinArea}
use Rattle.bl_cut_terms.specs.NoGoods.{LocalRow}
use Rattle.bl_certtext.proofs.Elements.{at_any}
use Rattle.bl_check_leaf.specs.Kept.{cut_named}
use Rattle.bl_check_leaf.proofs.cited.lies_in_cited.Goals as goal

pub loop-place-preserved : goal.loop-place-preserved
loop-place-preserved c =
    let at = c.loop-place.place-index in
    let cited = c.args.cited.now in
    let cuts = c.args.cuts.now in
    let place = slice_index_or cited at (pos 0) in
    let fits : FitsSigned w64 (slice_index_or cited at (pos 0)) = search rules in
    let same : c.cut_at.result.now ≡ cut_named cuts place =
    c.cut_at.ensures ∙ ap (cut_named cuts) (to_z-of_z w64 place fits) in
    let here : IsWithinArea c.args.area.now (cut_named cuts place).area =
    subst (λ (x : LocalRow). IsWithinArea c.args.area.now x.area) (c.behind-cuts.view_is ∙ same)
    (c.if-not-within.ensures.0 refl) in
    AllWithin-more (λ (i : ℤ). IsWithinArea c.args.area.now (cut_named cuts i).area) cited 0 at c.loop-place.invariant
    (λ d. at_any (λ (i : ℤ). IsWithinArea c.args.area.now (cut_named cuts i).area) cited at (pos 0) d
    c.loop-place-test.true here)
