use Rattle.std.proofs.Common.{rules, ◌≡◌, ◌∙◌, subst, length}
use Rattle.std.proofs.lemmas.List.{length-map}
use Rattle.bl_cut_terms.specs.NoGoods.{NoGoodCut, last_step}
use Rattle.bl_cut.specs.Cuts.{IsValidCut}
use Rattle.bl_cut.proofs.CutLemmas.{valid, last_shared}
use Rattle.bl_cut.proofs.proved.ProvedCut.last.Goals as goal

pub returns-clause-value : goal.returns-clause-value
returns-clause-value c =
    let some = rw length-map at c.self.invariant.some in
    let count : c.len.result ≡ length c.self.inside.steps.items = search rules in
    subst (λ (p : NoGoodCut). c.deref.result.now ≡ last_step p.steps) c.self.view_is
    (c.deref.ensures ∙ last_shared c.self.inside.steps.items c.len.result c.index.result.now some count
    c.index.ensures)

pub returns-clause-valid : goal.returns-clause-valid
returns-clause-valid c = subst IsValidCut c.self.view_is (valid _ c.self.invariant)
