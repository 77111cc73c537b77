use Rattle.std.proofs.Common.{◌≡◌, ℕ, ◌↔◌, List, sym, subst}
use Rattle.std.specs.Prelude.{Bool, IsTrue, IfOk}
use Rattle.bl_simplex.specs.Fractions.{Fraction}
use Rattle.bl_simplex.specs.Licences.{IsFractional, PassesWidth, PassesPivots}
use Rattle.bl_licence.specs.declared.why.Why.{Why}
use Rattle.bl_licence.specs.Why.{IsLicence}
use Rattle.bl_licence.proofs.why.why_holds.Goals as goal

pub returns-in-Fraction : goal.returns-in-Fraction
returns-in-Fraction c =
    let q = c.args.problem.now in
    let u = c.args.cutoff in
    let r = c.is_fractional.result in
    let Test : Why → Type 0 = λ w. IfOk r (λ b. IsTrue b ↔ IsLicence q u w) in
    let ByList : List Fraction → Type 0 = λ fs. IfOk r (λ b. IsTrue b ↔ IsFractional q u fs) in
    subst Test (sym c.in-Fraction.is) (subst ByList c.as_slice.ensures c.is_fractional.ensures)

pub returns-in-Wide : goal.returns-in-Wide
returns-in-Wide c =
    let q = c.args.problem.now in
    let u = c.args.cutoff in
    let r = c.passes_width.result in
    let Test : Why → Type 0 = λ w. IfOk r (λ b. IsTrue b ↔ IsLicence q u w) in
    let ByList : List (ℕ × ℕ) → Type 0 =
    λ ps. IfOk r (λ b. IsTrue b ↔ PassesWidth q u ps c.in-Wide.row c.in-Wide.column) in
    subst Test (sym c.in-Wide.is) (subst ByList c.as_slice-in-Wide.ensures c.passes_width.ensures)

pub returns-in-Tired : goal.returns-in-Tired
returns-in-Tired c =
    let q = c.args.problem.now in
    let u = c.args.cutoff in
    let r = c.passes_pivots.result in
    let Test : Why → Type 0 = λ w. IfOk r (λ b. IsTrue b ↔ IsLicence q u w) in
    let ByList : List (ℕ × ℕ) → Type 0 = λ ps. IfOk r (λ b. IsTrue b ↔ PassesPivots q u ps) in
    subst Test (sym c.in-Tired.is) (subst ByList c.as_slice-in-Tired.ensures c.passes_pivots.ensures)
