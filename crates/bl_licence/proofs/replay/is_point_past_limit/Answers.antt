use Rattle.std.proofs.Common.{rules, ◌≡◌, ◌^◌, ◌≤◌, List, length, refl, sym, ◌∙◌, subst}
use Rattle.std.proofs.lemmas.Bool.{false≢true}
use Rattle.bl_simplex.specs.Fractions.{Fraction}
use Rattle.bl_simplex.specs.Rationals.{fraction_at, common_denominator}
use Rattle.bl_tableau.specs.Runs.{current}
use Rattle.bl_licence.proofs.Limits.{point_past, point_past_not}
use Rattle.bl_licence.proofs.replay.is_point_past_limit.Goals as goal

pub returns-in-Some : goal.returns-in-Some
returns-in-Some c =
    let t = c.args.tableau.now in
    let Small : List Fraction → Type 0 = λ xs. common_denominator (length xs) (fraction_at xs) ≤ 2 ^ 50 in
    let small : Small c.in_ok-values.values.items = subst Small c.deref.ensures.value c.in-Some.ensures.0 in (
      λ f. absurd (false≢true f),
      λ h. absurd (point_past_not t.problem c.args.cutoff
          (current t) c.in_ok-values.values.items c.in_ok-values.ensures small h),
    )

pub returns : goal.returns
returns c =
    let t = c.args.tableau.now in
    let Small : List Fraction → Type 0 = λ xs. common_denominator (length xs) (fraction_at xs) ≤ 2 ^ 50 in
    let past : Small c.in_ok-values.values.items → ⊥ =
    subst (λ xs. Small xs → ⊥) c.deref.ensures.value c.in-None.ensures in
    let feasible = c.is_feasible.ensures.0 (search rules) in (
      λ _. point_past t.problem c.args.cutoff (current t) c.in_ok-values.values.items
          (λ h. false≢true (sym c.if-closes.false ∙ c.closes.ensures.1 h)) feasible c.in_ok-values.ensures past,
      λ _. refl,
    )
