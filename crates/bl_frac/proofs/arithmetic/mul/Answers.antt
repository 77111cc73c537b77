use Rattle.std.proofs.Common.{◌≡◌, pos, ◌*ℤ◌, unsigned_abs, int_div, false, ℕ, ℤ, to_z, of_z, subst, sym, ap, ◌∙◌}
use Rattle.std.specs.Option.{ok_or}
use Rattle.std.specs.Prelude.{Ok}
use Rattle.std.specs.Int.{w128}
use Rattle.bl_simplex.specs.Gcd.{gcd}
use Rattle.bl_simplex.specs.Fractions.{Fraction, IsReduced, narrow, product_top, product_bottom}
use Rattle.bl_frac.proofs.Signed.{landed, narrow_from_test}
use Rattle.bl_frac.proofs.LowestTerms.{share_value, shares_product, IsReduced-product}
use Rattle.bl_frac.proofs.Terms.{wide_answer, product_of-wide_top, product_of-wide_bottom, product_of-narrow}
use Rattle.bl_frac.proofs.arithmetic.mul.Goals as goal

pub returns-in_err-num : goal.returns-in_err-num
returns-in_err-num c =
    let p : Fraction = record { num = c.a.inside.num; den = c.a.inside.den } in
    let q : Fraction = record { num = c.b.inside.num; den = c.b.inside.den } in
    let left = share_value p.num _ q.den _ _ c.a.invariant.num_narrow c.unsigned_abs.ensures.value
    c.gcd-first.ensures.value c.share.ensures in
    let right = share_value q.num _ p.den _ _ c.b.invariant.num_narrow c.unsigned_abs-2.ensures.value
    c.gcd-second.ensures.value c.share-2.ensures in
    let top : to_z w128 (of_z w128 c.share.result) *ℤ to_z w128 (of_z w128 c.share-2.result) ≡ product_top p q =
    ap (λ z. z *ℤ to_z w128 (of_z w128 c.share-2.result)) left.1
    ∙ ap (λ z. int_div p.num (pos (gcd (unsigned_abs p.num) q.den)) *ℤ z) right.1 in
    rw (← c.a.view_is, ← c.b.view_is)
    (wide_answer _ _ c.from_residual.ensures.0
    (product_of-wide_top _ _ (subst (λ z. narrow z ≡ false) top c.in_err-num.ensures)))

pub returns-in_err-den : goal.returns-in_err-den
returns-in_err-den c =
    let p : Fraction = record { num = c.a.inside.num; den = c.a.inside.den } in
    let q : Fraction = record { num = c.b.inside.num; den = c.b.inside.den } in
    let left = share_value p.num _ q.den _ _ c.a.invariant.num_narrow c.unsigned_abs.ensures.value
    c.gcd-first.ensures.value c.share.ensures in
    let right = share_value q.num _ p.den _ _ c.b.invariant.num_narrow c.unsigned_abs-2.ensures.value
    c.gcd-second.ensures.value c.share-2.ensures in
    let top : to_z w128 (of_z w128 c.share.result) *ℤ to_z w128 (of_z w128 c.share-2.result) ≡ product_top p q =
    ap (λ z. z *ℤ to_z w128 (of_z w128 c.share-2.result)) left.1
    ∙ ap (λ z. int_div p.num (pos (gcd (unsigned_abs p.num) q.den)) *ℤ z) right.1 in
    let first = landed _ _ _ c.in_ok-num.ensures top in
    let bottom = shares_product p.den q.den _ _ (gcd (unsigned_abs q.num) p.den)
    (gcd (unsigned_abs p.num) q.den) _ _ c.a.invariant.den_narrow c.b.invariant.den_narrow c.quotient.ensures.value
    c.quotient.ensures.bound c.quotient-2.ensures.value c.quotient-2.ensures.bound right.0 left.0 in
    rw (← c.a.view_is, ← c.b.view_is)
    (wide_answer _ _ c.from_residual-in_err-den.ensures.0
    (product_of-wide_bottom _ _ (subst (λ z. narrow z ≡ false) bottom c.in_err-den.ensures)))

pub invariant_of-result : goal.invariant_of-result
invariant_of-result c =
    let p : Fraction = record { num = c.a.inside.num; den = c.a.inside.den } in
    let q : Fraction = record { num = c.b.inside.num; den = c.b.inside.den } in
    let left = share_value p.num _ q.den _ _ c.a.invariant.num_narrow c.unsigned_abs.ensures.value
    c.gcd-first.ensures.value c.share.ensures in
    let right = share_value q.num _ p.den _ _ c.b.invariant.num_narrow c.unsigned_abs-2.ensures.value
    c.gcd-second.ensures.value c.share-2.ensures in
    let top : to_z w128 (of_z w128 c.share.result) *ℤ to_z w128 (of_z w128 c.share-2.result) ≡ product_top p q =
    ap (λ z. z *ℤ to_z w128 (of_z w128 c.share-2.result)) left.1
    ∙ ap (λ z. int_div p.num (pos (gcd (unsigned_abs p.num) q.den)) *ℤ z) right.1 in
    let first = landed _ _ _ c.in_ok-num.ensures top in
    let bottom = shares_product p.den q.den _ _ (gcd (unsigned_abs q.num) p.den)
    (gcd (unsigned_abs p.num) q.den) _ _ c.a.invariant.den_narrow c.b.invariant.den_narrow c.quotient.ensures.value
    c.quotient.ensures.bound c.quotient-2.ensures.value c.quotient-2.ensures.bound right.0 left.0 in
    let second = landed _ _ _ c.in_ok-den.ensures bottom in
    let under : c.unsigned_abs-3.result ≡ product_bottom p q =
    c.unsigned_abs-3.ensures.value ∙ ap unsigned_abs second.2 in
    let make : ℤ → Fraction = λ z. record { num = z; den = c.unsigned_abs-3.result } in
    let over : ℕ → Fraction = λ n. record { num = product_top p q; den = n } in
    let parts : make (to_z w128 (of_z w128 c.in_ok-num.num))
    ≡ record { num = product_top p q; den = product_bottom p q } = ap make first.2 ∙ ap over under in
    subst IsReduced (sym parts)
    (IsReduced-product p q c.a.invariant c.b.invariant (narrow_from_test (product_top p q) first.1)
    (narrow_from_test (pos (product_bottom p q)) second.1))

pub returns : goal.returns
returns c =
    let p : Fraction = record { num = c.a.inside.num; den = c.a.inside.den } in
    let q : Fraction = record { num = c.b.inside.num; den = c.b.inside.den } in
    let left = share_value p.num _ q.den _ _ c.a.invariant.num_narrow c.unsigned_abs.ensures.value
    c.gcd-first.ensures.value c.share.ensures in
    let right = share_value q.num _ p.den _ _ c.b.invariant.num_narrow c.unsigned_abs-2.ensures.value
    c.gcd-second.ensures.value c.share-2.ensures in
    let top : to_z w128 (of_z w128 c.share.result) *ℤ to_z w128 (of_z w128 c.share-2.result) ≡ product_top p q =
    ap (λ z. z *ℤ to_z w128 (of_z w128 c.share-2.result)) left.1
    ∙ ap (λ z. int_div p.num (pos (gcd (unsigned_abs p.num) q.den)) *ℤ z) right.1 in
    let first = landed _ _ _ c.in_ok-num.ensures top in
    let bottom = shares_product p.den q.den _ _ (gcd (unsigned_abs q.num) p.den)
    (gcd (unsigned_abs p.num) q.den) _ _ c.a.invariant.den_narrow c.b.invariant.den_narrow c.quotient.ensures.value
    c.quotient.ensures.bound c.quotient-2.ensures.value c.quotient-2.ensures.bound right.0 left.0 in
    let second = landed _ _ _ c.in_ok-den.ensures bottom in
    let under : c.unsigned_abs-3.result ≡ product_bottom p q =
    c.unsigned_abs-3.ensures.value ∙ ap unsigned_abs second.2 in
    let make : ℤ → Fraction = λ z. record { num = z; den = c.unsigned_abs-3.result } in
    let over : ℕ → Fraction = λ n. record { num = product_top p q; den = n } in
    let parts : make (to_z w128 (of_z w128 c.in_ok-num.num))
    ≡ record { num = product_top p q; den = product_bottom p q } = ap make first.2 ∙ ap over under in
    rw (← c.a.view_is, ← c.b.view_is)
    (ap Ok parts ∙ sym (ap (λ o. ok_or o (record {})) (product_of-narrow p q first.1 second.1)))
