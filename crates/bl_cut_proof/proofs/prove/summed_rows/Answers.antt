use Rattle.std.proofs.Common.{rules, ◌≡◌, ◌∙◌, ap, length, arith}
use Rattle.bl_cut_terms.specs.NoGoods.{tight_rows}
use Rattle.bl_cut_proof.specs.Proving.{local_rows}
use Rattle.bl_cut_proof.proofs.ProveLemmas.{sized_fit, sized}
use Rattle.bl_cut_proof.proofs.prove.summed_rows.Goals as goal

pub lowered_sum-requires-clause-rows : goal.lowered_sum-requires-clause-rows
lowered_sum-requires-clause-rows c =
    let p = c.args.model.now in
    let a = c.args.area.now in
    sized_fit p a c.args.earlier.now c.args.parts.now (length c.lo.result.now) c.deref.result.now c.lo.ensures.model
    c.lo-sides.ensures.limits c.count-count.ensures.cuts c.requires.within c.requires.shape (ap length c.lo.ensures.lo)
    (c.deref.ensures.value ∙ c.in_ok-rows.ensures
    ∙ ap (tight_rows p a (local_rows c.args.earlier.now)) c.as_slice.ensures)

pub returns-in-Some-clause-ok : goal.returns-in-Some-clause-ok
returns-in-Some-clause-ok c =
    let p = c.args.model.now in
    let a = c.args.area.now in
    let count : c.len.result ≡ length c.in_ok-rows.rows.items = search rules in
    sized p a c.args.earlier.now c.args.parts.now c.in_ok-rows.rows.items c.deref.result.now c.in-Some.row
    (length c.lo.result.now) c.lo.ensures.model c.lo-sides.ensures.limits c.count-count.ensures.cuts
    c.requires.within c.requires.shape (ap length c.lo.ensures.lo) c.deref.ensures.value
    (c.in_ok-rows.ensures ∙ ap (tight_rows p a (local_rows c.args.earlier.now)) c.as_slice.ensures)
    (omega (arith, c.if-len.false)) (rw c.in-Some.is at c.in_ok-row.ensures)
