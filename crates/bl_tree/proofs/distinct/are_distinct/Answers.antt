use Rattle.std.proofs.Common.{refl, length, ◌≤◌, arith}
use Rattle.bl_tree.proofs.CutLists.{distinct_by_places}
use Rattle.bl_tree.proofs.distinct.are_distinct.Goals as goal

pub returns : goal.returns
returns c =
    let cuts = c.args.cuts.now in
    let count = c.count-place-end.ensures.value in
    let past = c.loop-place-test.false in
    let all : length cuts ≤ c.loop-place.place = omega arith in
    (λ _. distinct_by_places cuts c.loop-place.place all c.loop-place.invariant, λ _. refl)
