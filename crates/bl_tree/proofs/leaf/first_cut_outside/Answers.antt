use Rattle.std.proofs.Common.{◌≤◌, length, arith, rules}
use Rattle.bl_terms.specs.Points.{IsWithinArea}
use Rattle.bl_cut_terms.specs.NoGoods.{cut_of}
use Rattle.bl_cut.specs.Cuts.{cut_at}
use Rattle.bl_cut.proofs.CutLemmas.{all_by_places}
use Rattle.bl_tree.proofs.CutLists.{one_more}
use Rattle.bl_tree.proofs.leaf.first_cut_outside.Goals as goal

pub loop-place-preserved : goal.loop-place-preserved
loop-place-preserved c =
    let a = c.args.area.now in
    let cuts = c.args.cuts.now in
    let inside : IsWithinArea a (cut_of (cut_at cuts c.loop-place.place)).area = search rules in
    one_more (λ k. IsWithinArea a (cut_of (cut_at cuts k)).area) c.loop-place.place c.loop-place.invariant inside

pub returns : goal.returns
returns c =
    let cuts = c.args.cuts.now in
    let count = c.count-place-end.ensures.value in
    let past = c.loop-place-test.false in
    let all : length cuts ≤ c.loop-place.place = omega arith in
    all_by_places (λ x. IsWithinArea c.args.area.now (cut_of x).area) cuts c.loop-place.place all c.loop-place.invariant
