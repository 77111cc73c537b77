use Rattle.std.proofs.Common.{◌≡◌, ◌∙◌, ap, sym, subst, ◌<◌, length, ℕ}
use Rattle.std.specs.Prelude.{List, All}
use Rattle.bl_terms.specs.Programs.{Program}
use Rattle.bl_model.specs.View.{IsModel}
use Rattle.bl_model.proofs.BoxLemmas.{links_below}
use Rattle.bl_model.proofs.bilevel.Bilevel.link_of.Goals as goal

pub numbers_at-requires : goal.numbers_at-requires
numbers_at-requires c =
    let p : Program = c.args.self.now in
    let model : IsModel p = subst IsModel c.self.view_is c.self.invariant in
    let links : c.deref.result.now ≡ p.links =
    c.deref.ensures.value ∙ ap (λ (q : Program). q.links) c.self.view_is in
    subst (λ (ks : List ℕ). All (λ k. k < length c.args.z.now) ks) (sym links)
    (subst (λ (n : ℕ). All (λ k. k < n) p.links) (sym c.requires.columns) (links_below p model.sound))
