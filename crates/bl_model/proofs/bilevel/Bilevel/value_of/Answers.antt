use Rattle.std.proofs.Common.{◌≡◌, ◌≤◌, ◌∙◌, length, ap, sym, subst, arith, rules, ◌*◌}
use Rattle.std.specs.Prelude.{ℤ, List}
use Rattle.std.specs.Int.{w64}
use Rattle.std.proofs.lemmas.Int.{to_z-of_z}
use mir.Val.{SFits}
use Rattle.bl_limits.specs.declared.TheConstants.{MAX_COLUMNS, MAX_NUMBER}
use Rattle.bl_whole.specs.Sums.{dot}
use Rattle.bl_whole.specs.Within.{AreWithin, IsWithin}
use Rattle.bl_whole.proofs.WithinLemmas.{within_dot, within_more}
use Rattle.bl_terms.specs.Programs.{Program}
use Rattle.bl_model.specs.View.{IsModel}
use Rattle.bl_model.proofs.PointLemmas.{InBox-within}
use Rattle.bl_model.proofs.bilevel.Bilevel.value_of.Goals as goal

pub in_sense-requires-clause-cost : goal.in_sense-requires-clause-cost
in_sense-requires-clause-cost c =
    let p : Program = c.args.self.now in
    let z : List ℤ = c.args.z.now in
    let model : IsModel p = subst IsModel c.self.view_is c.self.invariant in
    let costs : AreWithin MAX_NUMBER p.cost = record { each = λ k _. model.limits.costs k } in
    let few : length p.cost ≤ MAX_COLUMNS = omega (arith, model.sound.cost_columns, model.limits.few_columns) in
    let value : IsWithin (MAX_COLUMNS * (MAX_NUMBER * MAX_NUMBER)) (dot p.cost z) =
    within_more (within_dot costs (InBox-within p z model c.requires)) (omega (arith, few)) in
    let is : c.dot.result ≡ dot p.cost z =
    c.dot.ensures ∙ ap (λ (cs : List ℤ). dot cs z)
    (c.deref.ensures.value ∙ ap (λ (q : Program). q.cost) c.self.view_is) in
    let fits : SFits w64 c.dot.result = search rules in
    subst (λ x. IsWithin (MAX_COLUMNS * (MAX_NUMBER * MAX_NUMBER)) x)
    (sym is ∙ sym (to_z-of_z w64 c.dot.result fits)) value
