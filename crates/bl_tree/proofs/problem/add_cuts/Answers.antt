use Rattle.std.proofs.Common.{◌≡◌, ◌<◌, ap, sym, ◌∙◌, length, arith, rules, subst}
use Rattle.std.specs.Prelude.{FitsSigned}
use Rattle.std.specs.Int.{w64}
use Rattle.std.proofs.lemmas.Int.{to_z-of_z}
use Rattle.bl_terms.specs.Programs.{columns}
use Rattle.bl_terms.specs.Bounds.{Problem}
use Rattle.bl_cut_terms.specs.NoGoods.{NoGoodCut, cut_of}
use Rattle.bl_cut.specs.Cuts.{IsProvedCut, no_cut, cut_at}
use Rattle.bl_cut.proofs.CutLemmas.{row_columns}
use Rattle.bl_cut.proofs.CutLemmas.{all_by_places}
use Rattle.bl_tree.proofs.CutLists.{row_is, cut_added, one_more}
use Rattle.bl_tree.proofs.problem.add_cuts.Goals as goal

pub row-requires : goal.row-requires
row-requires c =
    let cut = c.cut_at-cut.result.now in
    let b : c.loop-place.place < length c.args.cuts.now = omega (arith, c.count-place-end.ensures.value) in
    ap length c.coef.ensures.value ∙ row_columns cut c.coef.ensures.proved
    ∙ ap (λ (x : NoGoodCut). columns x.program) c.cut_at-cut.ensures ∙ c.requires c.loop-place.place no_cut b
    ∙ ap (λ (q : Problem). length q.area.lo) (sym c.loop-place.invariant.problem)

pub loop-place-preserved : goal.loop-place-preserved
loop-place-preserved c =
    let cuts = c.args.cuts.now in
    let i = c.loop-place.place in
    let b : i < length cuts = omega (arith, c.count-place-end.ensures.value) in
    let right : FitsSigned w64 c.right.result = search rules in
    let row : record { coef = c.coef.result.now; rhs = c.right.result } ≡ (cut_of (cut_at cuts i)).row =
    row_is (cut_of c.cut_at-cut.result.now).row c.coef.result.now c.right.result c.coef.ensures.value
    c.right.ensures.value
    ∙ ap (λ (x : NoGoodCut). (cut_of x).row) c.cut_at-cut.ensures in
    record {
      problem = cut_added c.args.problem.now c.loop-place.problem c.row.new.self cuts i
          (record { coef = c.coef.result.now; rhs = c.right.result }) b c.loop-place.invariant.problem row
          (rw (to_z-of_z w64 _ right) at c.in_ok-row.ensures.ok);
      proved = one_more (λ k. IsProvedCut (cut_at cuts k)) i c.loop-place.invariant.proved
          (subst (λ (x : NoGoodCut). IsProvedCut x) c.cut_at-cut.ensures c.coef.ensures.proved);
    }

pub returns-clause-proved : goal.returns-clause-proved
returns-clause-proved c =
    all_by_places IsProvedCut c.args.cuts.now c.loop-place.place (omega (arith, c.count-place-end.ensures.value))
    c.loop-place.invariant.proved
