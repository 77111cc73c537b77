use Rattle.std.proofs.Common.{◌≡◌, ◌∙◌, ◌+◌, ◌-◌, ap, arith, length}
use Rattle.std.specs.Prelude.{slice_set}
use Rattle.bl_terms.specs.Points.{Area}
use Rattle.bl_cut_terms.specs.NoGoods.{LocalRow}
use Rattle.bl_check_cuts.proofs.HeldLemmas.{row_of_last}
use Rattle.bl_check_cuts.proofs.sums.keep.Goals as goal

pub returns-clause-cuts : goal.returns-clause-cuts
returns-clause-cuts c =
    let rows = c.args.held.now.cuts.items in
    let n = c.len-last.result - 1 in
    let row = c.args.summed.row in
    let last : length rows ≡ n + 1 = omega (arith, c.args.held.now.cuts.ok.0) in
    ap (λ (a : Area). slice_set rows n (let r : LocalRow = record { area = a; row = row } in r))
    (ap (λ (r : LocalRow). r.area) (c.behind-held.view_is ∙ c.index_mut.ensures.value))
    ∙ row_of_last rows n row c.index_mut.result.now last
