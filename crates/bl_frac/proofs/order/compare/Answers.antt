use Rattle.std.proofs.Common.{pos, ◌*ℤ◌, to_z, of_z, ◌∙◌, ap}
use Rattle.std.specs.Int.{w128}
use Rattle.std.specs.Ordering.{int_cmp}
use Rattle.bl_simplex.specs.Fractions.{order_of}
use Rattle.bl_frac.proofs.Signed.{signed_back, signed_of, narrowed_value}
use Rattle.bl_frac.proofs.order.compare.Goals as goal

pub returns-in-Ok-Ok : goal.returns-in-Ok-Ok
unfolding order_of
returns-in-Ok-Ok c =
    let p = c.a.inside in
    let q = c.b.inside in
    let num = signed_back p.num c.a.invariant.num_narrow in
    let other = signed_back q.num c.b.invariant.num_narrow in
    let den = signed_of p.den c.a.invariant.den_narrow in
    let under = signed_of q.den c.b.invariant.den_narrow in
    let left = narrowed_value _ (p.num *ℤ pos q.den) _ _ c.product-left.ensures c.in-Ok-Ok.is-0
    (ap (λ z. z *ℤ to_z w128 q.den) num ∙ ap (λ z. p.num *ℤ z) under) in
    let right = narrowed_value _ (q.num *ℤ pos p.den) _ _ c.product-right.ensures c.in-Ok-Ok.is-1
    (ap (λ z. z *ℤ to_z w128 p.den) other ∙ ap (λ z. q.num *ℤ z) den) in
    rw (← c.a.view_is, ← c.b.view_is)
    (c.cmp.ensures ∙ ap (λ z. int_cmp z (to_z w128 (of_z w128 c.in-Ok-Ok.right))) left.2
    ∙ ap (int_cmp (p.num *ℤ pos q.den)) right.2)
