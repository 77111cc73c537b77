use Rattle.std.proofs.Common.{◌∙◌, ap, unsigned_abs}
use Rattle.bl_simplex.specs.Fractions.{order_of}
use Rattle.bl_frac.proofs.Signed.{signed_back}
use Rattle.bl_frac.proofs.Ratios.{order_of_naturals, order_of_negatives, order_below, order_above}
use Rattle.bl_frac.proofs.order.compare_by_quotients.Goals as goal

pub returns-in-true-true : goal.returns-in-true-true
unfolding order_of
returns-in-true-true c =
    let p = c.a.inside in
    let q = c.b.inside in
    let left = signed_back p.num c.a.invariant.num_narrow in
    let right = signed_back q.num c.b.invariant.num_narrow in
    let size = c.unsigned_abs-left.ensures.value ∙ ap unsigned_abs left in
    let other = c.unsigned_abs-right.ensures.value ∙ ap unsigned_abs right in
    let e = order_of_negatives p.num q.num p.den q.den (rw left at c.in-true-true.is-0)
    (rw right at c.in-true-true.is-1) in
    rw (← c.a.view_is, ← c.b.view_is) (cc)

pub returns-in-true-false : goal.returns-in-true-false
unfolding order_of
returns-in-true-false c =
    let p = c.a.inside in
    let q = c.b.inside in
    let left = signed_back p.num c.a.invariant.num_narrow in
    let right = signed_back q.num c.b.invariant.num_narrow in
    let e = order_below p.num q.num p.den q.den c.b.invariant.den_positive (rw left at c.in-true-false.is-0)
    (rw right at c.in-true-false.is-1) in
    rw (← c.a.view_is, ← c.b.view_is) (cc)

pub returns-in-false-true : goal.returns-in-false-true
unfolding order_of
returns-in-false-true c =
    let p = c.a.inside in
    let q = c.b.inside in
    let left = signed_back p.num c.a.invariant.num_narrow in
    let right = signed_back q.num c.b.invariant.num_narrow in
    let e = order_above p.num q.num p.den q.den c.a.invariant.den_positive (rw left at c.in-false-true.is-0)
    (rw right at c.in-false-true.is-1) in
    rw (← c.a.view_is, ← c.b.view_is) (cc)

pub returns-in-false-false : goal.returns-in-false-false
unfolding order_of
returns-in-false-false c =
    let p = c.a.inside in
    let q = c.b.inside in
    let left = signed_back p.num c.a.invariant.num_narrow in
    let right = signed_back q.num c.b.invariant.num_narrow in
    let size = c.unsigned_abs-left.ensures.value ∙ ap unsigned_abs left in
    let other = c.unsigned_abs-right.ensures.value ∙ ap unsigned_abs right in
    let e = order_of_naturals p.num q.num p.den q.den (rw left at c.in-false-false.is-0)
    (rw right at c.in-false-false.is-1) in
    rw (← c.a.view_is, ← c.b.view_is) (cc)
