use Rattle.std.proofs.Common.{◌≡◌, ◌∙◌, ap, sym, subst, All, length, rules}
use Rattle.bl_cut_terms.specs.NoGoods.{IsThere, tight_rows}
use Rattle.bl_cut_proof.specs.Proving.{local_rows}
use Rattle.bl_nogood.proofs.KeptLemmas.{candidates_there, candidate_rows_fit, kept_within, count_rows, made_parts}
use Rattle.bl_nogood.proofs.make.made_parts.Goals as goal

pub tight_rows-requires-clause-there : goal.tight_rows-requires-clause-there
tight_rows-requires-clause-there c =
    let p = c.args.model.now in
    let a = c.args.area.now in
    let earlier = c.args.earlier.now in
    subst (All (IsThere p a (local_rows earlier))) (sym c.deref.ensures.value)
    (candidates_there p a earlier c.args.point.now c.in_ok-candidates.candidates.items c.in_ok-candidates.ensures)

pub basis_of-requires-clause-rows : goal.basis_of-requires-clause-rows
basis_of-requires-clause-rows c =
    let p = c.args.model.now in
    let a = c.args.area.now in
    let earlier = c.args.earlier.now in
    candidate_rows_fit p a earlier c.args.point.now c.in_ok-candidates.candidates.items c.deref-2.result.now
    c.lo-columns.ensures.model c.lo-sides.ensures.limits c.count-count.ensures.cuts c.requires.within
    c.in_ok-candidates.ensures
    (c.deref-2.ensures.value ∙ c.in_ok-rows.ensures ∙ ap (tight_rows p a (local_rows earlier)) c.deref.ensures.value)

pub parts_of-requires : goal.parts_of-requires
parts_of-requires c =
    let p = c.args.model.now in
    let a = c.args.area.now in
    let earlier = c.args.earlier.now in
    kept_within p a earlier c.in_ok-candidates.candidates.items c.deref-3.result.now c.deref-2.result.now c.in-Ok.basis
    c.deref-3.ensures.value
    (c.deref-2.ensures.value ∙ c.in_ok-rows.ensures ∙ ap (tight_rows p a (local_rows earlier)) c.deref.ensures.value)
    c.in-Ok.ensures.basis

pub returns-clause-ok : goal.returns-clause-ok
returns-clause-ok c =
    let p = c.args.model.now in
    let a = c.args.area.now in
    let earlier = c.args.earlier.now in
    let items = c.in_ok-candidates.candidates.items in
    let rows = c.in_ok-rows.ensures ∙ ap (tight_rows p a (local_rows earlier)) c.deref.ensures.value in
    let all : c.len-count.result ≡ length c.in_ok-rows.rows.items = search rules in
    let count = all ∙ count_rows p a earlier items c.in_ok-rows.rows.items rows in
    made_parts p a earlier c.args.point.now c.args.response.now c.in_ok-candidates.candidates.items c.deref-3.result.now
    c.deref-2.result.now c.in-Ok.basis c.in_ok-parts.parts c.len-count.result c.requires.within c.requires.point
    c.requires.response c.in_ok-compare.ensures c.in_ok-candidates.ensures c.deref-3.ensures.value
    (c.deref-2.ensures.value ∙ c.in_ok-rows.ensures ∙ ap (tight_rows p a (local_rows earlier)) c.deref.ensures.value)
    c.in-Ok.ensures.exact c.in-Ok.ensures.basis c.in_ok-parts.ensures count
