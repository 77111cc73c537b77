use Rattle.std.proofs.Common.{◌≡◌, pos, ◌+ℤ◌, unsigned_abs, false, to_z, of_z, subst, sym, ap, ◌∙◌}
use Rattle.std.specs.Option.{ok_or}
use Rattle.std.specs.Prelude.{Ok}
use Rattle.std.specs.Int.{w128}
use Rattle.bl_simplex.specs.Gcd.{gcd}
use Rattle.bl_simplex.specs.Fractions.{Fraction, narrow, sum_left, sum_top, sum_bottom}
use Rattle.bl_frac.proofs.Signed.{landed, narrow_from_test}
use Rattle.bl_frac.proofs.LowestTerms.{parts_of_sum, IsReduced-lowest, sum_bottom_positive, stored}
use Rattle.bl_frac.proofs.Terms.{term, denominator, wide_answer, sum_of-wide_left, sum_of-wide_right, sum_of-wide_top}
use Rattle.bl_frac.proofs.Terms.{sum_of-wide_bottom, sum_of-narrow}
use Rattle.bl_frac.proofs.arithmetic.add.Goals as goal

pub returns-in_err-left : goal.returns-in_err-left
returns-in_err-left c =
    let p : Fraction = record { num = c.a.inside.num; den = c.a.inside.den } in
    let q : Fraction = record { num = c.b.inside.num; den = c.b.inside.den } in
    let left = term p.num q.den c.quotient.result
    (gcd p.den q.den) c.gcd-divisor.result c.a.invariant.num_narrow c.b.invariant.den_narrow
    c.gcd-divisor.ensures.value c.quotient.ensures.value c.quotient.ensures.bound in
    rw (← c.a.view_is, ← c.b.view_is)
    (wide_answer _ _ c.from_residual.ensures.0
    (sum_of-wide_left _ _ (subst (λ z. narrow z ≡ false) left c.in_err-left.ensures)))

pub returns-in_err-right : goal.returns-in_err-right
returns-in_err-right c =
    let p : Fraction = record { num = c.a.inside.num; den = c.a.inside.den } in
    let q : Fraction = record { num = c.b.inside.num; den = c.b.inside.den } in
    let right = term q.num p.den c.quotient-part.result
    (gcd p.den q.den) c.gcd-divisor.result c.b.invariant.num_narrow c.a.invariant.den_narrow
    c.gcd-divisor.ensures.value c.quotient-part.ensures.value c.quotient-part.ensures.bound in
    rw (← c.a.view_is, ← c.b.view_is)
    (wide_answer _ _ c.from_residual-in_err-right.ensures.0
    (sum_of-wide_right _ _ (subst (λ z. narrow z ≡ false) right c.in_err-right.ensures)))

pub returns-in_err-top : goal.returns-in_err-top
returns-in_err-top c =
    let p : Fraction = record { num = c.a.inside.num; den = c.a.inside.den } in
    let q : Fraction = record { num = c.b.inside.num; den = c.b.inside.den } in
    let left = term p.num q.den c.quotient.result
    (gcd p.den q.den) c.gcd-divisor.result c.a.invariant.num_narrow c.b.invariant.den_narrow
    c.gcd-divisor.ensures.value c.quotient.ensures.value c.quotient.ensures.bound in
    let right = term q.num p.den c.quotient-part.result
    (gcd p.den q.den) c.gcd-divisor.result c.b.invariant.num_narrow c.a.invariant.den_narrow
    c.gcd-divisor.ensures.value c.quotient-part.ensures.value c.quotient-part.ensures.bound in
    let first = landed _ _ _ c.in_ok-left.ensures left in
    let second = landed _ _ _ c.in_ok-right.ensures right in
    let top : to_z w128 (of_z w128 c.in_ok-left.left) +ℤ to_z w128 (of_z w128 c.in_ok-right.right) ≡ sum_top p q =
    ap (λ z. z +ℤ to_z w128 (of_z w128 c.in_ok-right.right)) first.2 ∙ ap (λ z. sum_left p q +ℤ z) second.2 in
    rw (← c.a.view_is, ← c.b.view_is)
    (wide_answer _ _ c.from_residual-in_err-top.ensures.0
    (sum_of-wide_top _ _ (subst (λ z. narrow z ≡ false) top c.in_err-top.ensures)))

pub returns-in_err-product : goal.returns-in_err-product
returns-in_err-product c =
    let p : Fraction = record { num = c.a.inside.num; den = c.a.inside.den } in
    let q : Fraction = record { num = c.b.inside.num; den = c.b.inside.den } in
    let bottom = denominator p.den q.den c.quotient-part.result
    (gcd p.den q.den) c.gcd-divisor.result c.a.invariant.den_narrow c.b.invariant.den_narrow
    c.gcd-divisor.ensures.value c.quotient-part.ensures.value c.quotient-part.ensures.bound in
    rw (← c.a.view_is, ← c.b.view_is)
    (wide_answer _ _ c.from_residual-in_err-product.ensures.0
    (sum_of-wide_bottom _ _ (subst (λ z. narrow z ≡ false) bottom c.in_err-product.ensures)))

pub invariant_of-result : goal.invariant_of-result
invariant_of-result c =
    let p : Fraction = record { num = c.a.inside.num; den = c.a.inside.den } in
    let q : Fraction = record { num = c.b.inside.num; den = c.b.inside.den } in
    let left = term p.num q.den c.quotient.result
    (gcd p.den q.den) c.gcd-divisor.result c.a.invariant.num_narrow c.b.invariant.den_narrow
    c.gcd-divisor.ensures.value c.quotient.ensures.value c.quotient.ensures.bound in
    let right = term q.num p.den c.quotient-part.result
    (gcd p.den q.den) c.gcd-divisor.result c.b.invariant.num_narrow c.a.invariant.den_narrow
    c.gcd-divisor.ensures.value c.quotient-part.ensures.value c.quotient-part.ensures.bound in
    let first = landed _ _ _ c.in_ok-left.ensures left in
    let second = landed _ _ _ c.in_ok-right.ensures right in
    let top : to_z w128 (of_z w128 c.in_ok-left.left) +ℤ to_z w128 (of_z w128 c.in_ok-right.right) ≡ sum_top p q =
    ap (λ z. z +ℤ to_z w128 (of_z w128 c.in_ok-right.right)) first.2 ∙ ap (λ z. sum_left p q +ℤ z) second.2 in
    let third = landed _ _ _ c.in_ok-top.ensures top in
    let bottom = denominator p.den q.den c.quotient-part.result
    (gcd p.den q.den) c.gcd-divisor.result c.a.invariant.den_narrow c.b.invariant.den_narrow
    c.gcd-divisor.ensures.value c.quotient-part.ensures.value c.quotient-part.ensures.bound in
    let fourth = landed _ _ _ c.in_ok-product.ensures bottom in
    let under : c.unsigned_abs-bottom.result ≡ sum_bottom p q =
    c.unsigned_abs-bottom.ensures.value ∙ ap unsigned_abs fourth.2 in
    let common : c.gcd-common.result ≡ gcd (unsigned_abs (sum_top p q)) (gcd p.den q.den) =
    c.gcd-common.ensures.value
    ∙ ap (λ x. gcd x c.gcd-divisor.result) (c.unsigned_abs.ensures.value ∙ ap unsigned_abs third.2)
    ∙ ap (gcd (unsigned_abs (sum_top p q))) c.gcd-divisor.ensures.value in
    let parts = parts_of_sum p q _ _ _ _ _ c.a.invariant c.b.invariant third.2 under common c.share.ensures
    c.quotient-2.ensures.value in
    let reduced = IsReduced-lowest (sum_top p q) (sum_bottom p q) (narrow_from_test (sum_top p q) third.1)
    (narrow_from_test (pos (sum_bottom p q)) fourth.1) (sum_bottom_positive p q c.a.invariant c.b.invariant) in
    let kept = stored _ _ _ parts reduced in
    kept.0

pub returns : goal.returns
returns c =
    let p : Fraction = record { num = c.a.inside.num; den = c.a.inside.den } in
    let q : Fraction = record { num = c.b.inside.num; den = c.b.inside.den } in
    let left = term p.num q.den c.quotient.result
    (gcd p.den q.den) c.gcd-divisor.result c.a.invariant.num_narrow c.b.invariant.den_narrow
    c.gcd-divisor.ensures.value c.quotient.ensures.value c.quotient.ensures.bound in
    let right = term q.num p.den c.quotient-part.result
    (gcd p.den q.den) c.gcd-divisor.result c.b.invariant.num_narrow c.a.invariant.den_narrow
    c.gcd-divisor.ensures.value c.quotient-part.ensures.value c.quotient-part.ensures.bound in
    let first = landed _ _ _ c.in_ok-left.ensures left in
    let second = landed _ _ _ c.in_ok-right.ensures right in
    let top : to_z w128 (of_z w128 c.in_ok-left.left) +ℤ to_z w128 (of_z w128 c.in_ok-right.right) ≡ sum_top p q =
    ap (λ z. z +ℤ to_z w128 (of_z w128 c.in_ok-right.right)) first.2 ∙ ap (λ z. sum_left p q +ℤ z) second.2 in
    let third = landed _ _ _ c.in_ok-top.ensures top in
    let bottom = denominator p.den q.den c.quotient-part.result
    (gcd p.den q.den) c.gcd-divisor.result c.a.invariant.den_narrow c.b.invariant.den_narrow
    c.gcd-divisor.ensures.value c.quotient-part.ensures.value c.quotient-part.ensures.bound in
    let fourth = landed _ _ _ c.in_ok-product.ensures bottom in
    let under : c.unsigned_abs-bottom.result ≡ sum_bottom p q =
    c.unsigned_abs-bottom.ensures.value ∙ ap unsigned_abs fourth.2 in
    let common : c.gcd-common.result ≡ gcd (unsigned_abs (sum_top p q)) (gcd p.den q.den) =
    c.gcd-common.ensures.value
    ∙ ap (λ x. gcd x c.gcd-divisor.result) (c.unsigned_abs.ensures.value ∙ ap unsigned_abs third.2)
    ∙ ap (gcd (unsigned_abs (sum_top p q))) c.gcd-divisor.ensures.value in
    let parts = parts_of_sum p q _ _ _ _ _ c.a.invariant c.b.invariant third.2 under common c.share.ensures
    c.quotient-2.ensures.value in
    let reduced = IsReduced-lowest (sum_top p q) (sum_bottom p q) (narrow_from_test (sum_top p q) third.1)
    (narrow_from_test (pos (sum_bottom p q)) fourth.1) (sum_bottom_positive p q c.a.invariant c.b.invariant) in
    let kept = stored _ _ _ parts reduced in
    rw (← c.a.view_is, ← c.b.view_is)
    (ap Ok kept.1 ∙ sym (ap (λ o. ok_or o (record {})) (sum_of-narrow p q first.1 second.1 third.1 fourth.1)))
