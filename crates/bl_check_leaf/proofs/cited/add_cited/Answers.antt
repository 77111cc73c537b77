use Rattle.std.proofs.Common.{length, pos, rules, sym, ap, ◌∙◌, ◌≡◌}
use Rattle.std.specs.Prelude.{slice_index_or, FitsSigned}
use Rattle.std.specs.Int.{w64}
use Rattle.std.proofs.lemmas.Int.{to_z-of_z}
use Rattle.bl_terms.specs.Points.{Linear}
use Rattle.bl_terms.specs.Bounds.{Problem}
use Rattle.bl_cut_terms.specs.NoGoods.{LocalRow}
use Rattle.bl_check_leaf.specs.Kept.{cut_named}
use Rattle.bl_check_leaf.proofs.CitedCuts.{named_small}
use Rattle.bl_check_leaf.proofs.cited.add_cited.Goals as goal

pub row-requires : goal.row-requires
row-requires c =
    let at = c.loop-place.place-index in
    let cited = c.args.cited.now in
    let cuts = c.args.cuts.now in
    let place = slice_index_or cited at (pos 0) in
    let fits : FitsSigned w64 (slice_index_or cited at (pos 0)) = search rules in
    let same : c.cut_at.result.now ≡ cut_named cuts place =
    c.cut_at.ensures ∙ ap (cut_named cuts) (to_z-of_z w64 place fits) in
    ap length c.deref.ensures.value ∙ ap (λ (r : Linear). length r.coef) c.row.view_is
    ∙ ap (λ (x : LocalRow). length x.row.coef) (c.behind-cuts.view_is ∙ same)
    ∙ (named_small (length c.args.problem.now.area.lo) cuts place c.requires.columns
    (c.requires.there at (pos 0) c.loop-place-test.true)).size
    ∙ ap (λ (q : Problem). length q.area.lo) (sym c.loop-place.invariant)
