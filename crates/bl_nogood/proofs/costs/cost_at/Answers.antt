use Rattle.std.proofs.Common.{pos, sym, ◌∙◌, rules}
use Rattle.std.specs.Prelude.{slice_index_or, FitsSigned}
use Rattle.std.specs.Int.{w64}
use Rattle.std.proofs.lemmas.Int.{to_z-of_z}
use Rattle.bl_fproof.proofs.Picks.{pick_sum_fits, pick_sum_more}
use Rattle.bl_nogood.proofs.costs.cost_at.Goals as goal

pub plus_product-cost-requires-clause-sum_fits : goal.plus_product-cost-requires-clause-sum_fits
plus_product-cost-requires-clause-sum_fits c =
    let j = c.loop-j.j in
    let place = slice_index_or c.args.columns.now j 0 in
    let cost : FitsSigned w64 (slice_index_or c.args.costs.now place (pos 0)) = search rules in
    let value : FitsSigned w64 (slice_index_or c.args.values.now j (pos 0)) = search rules in
    rw (to_z-of_z, to_z-of_z, c.loop-j.invariant)
    (pick_sum_fits c.args.costs.now c.args.values.now c.args.columns.now j c.requires.costs c.requires.values
    c.requires.few
    c.loop-j-test.true)

pub loop-j-preserved : goal.loop-j-preserved
loop-j-preserved c =
    let j = c.loop-j.j in
    let place = slice_index_or c.args.columns.now j 0 in
    let cost : FitsSigned w64 (slice_index_or c.args.costs.now place (pos 0)) = search rules in
    let value : FitsSigned w64 (slice_index_or c.args.values.now j (pos 0)) = search rules in
    let e = rw (to_z-of_z, to_z-of_z, c.loop-j.invariant) at c.plus_product-cost.ensures in
    let fits : FitsSigned w64 c.plus_product-cost.result = search rules in
    rw to_z-of_z (e ∙ sym (pick_sum_more c.args.costs.now c.args.values.now c.args.columns.now j c.loop-j-test.true))
