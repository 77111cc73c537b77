use Rattle.std.proofs.Common.{◌≡◌, arith, rules, ap, List, []}
use Rattle.std.specs.Prelude.{◌≤ℤ◌, ◌+ℤ◌, pos, ℤ}
use Rattle.std.specs.Int.{w64}
use mir.Val.{to_z, of_z}
use Rattle.std.proofs.lemmas.Int.{ints}
use Rattle.std.proofs.lemmas.List.{nil_from_length}
use Rattle.bl_whole.specs.Sums.{component}
use Rattle.bl_whole.proofs.WithinLemmas.{within_high, within_low}
use Rattle.bl_plain.proofs.WalkLemmas.{In-set, IsLeastBelow-step, IsLeastBelow-all, Varies-step, IsLeastCost-none}
use Rattle.bl_plain.proofs.follower.+least.Goals as goal

pub least_cost-returns-in-empty-2-clause-least : goal.least_cost-returns-in-empty-2-clause-least
least_cost-returns-in-empty-2-clause-least t c =
    let none : c.args.columns.now ≡ [] = nil_from_length c.args.columns.now (omega (arith, c.in-empty.len_below)) in
    rw none (IsLeastCost-none c.args.model.now c.args.z.now
    (λ lower. let yes = c.meets_lower.ensures.1 lower in let no = c.if-meets_lower.false in cc))

pub least_over-least_cost-requires : goal.least_over-least_cost-requires
least_over-least_cost-requires t c =
    let high-in = within_high (c.lo.ensures.model.limits.upper_bounds c.args.column) in
    let low-in = within_low (c.lo.ensures.model.limits.upper_bounds c.args.column) in
    let hi = ap (λ (xs : List ℤ). component xs c.args.column) c.hi.ensures.hi in
    let high : to_z w64 c.loop-value.value-bits ≤ℤ component c.args.model.now.hi c.args.column =
    omega (arith, ints, c.loop-value-test.true) in (
      search rules,
      (
        In-set c.args.model.now c.loop-value.z c.args.column
            (to_z w64 c.loop-value.value-bits) c.loop-value.invariant.inside c.requires.column
            c.loop-value.invariant.from
            high,
        c.requires.rest,
      ),
    )

pub least_over-loop-value-preserved : goal.least_over-loop-value-preserved
least_over-loop-value-preserved t c =
    let p = c.args.model.now in
    let column = c.args.column in
    let rest = c.args.rest.now in
    let x = to_z w64 c.loop-value.value-bits in
    let now = c.loop-value.invariant in
    let high-in = within_high (c.lo.ensures.model.limits.upper_bounds column) in
    let low-in = within_low (c.lo.ensures.model.limits.upper_bounds column) in
    let hi = ap (λ (xs : List ℤ). component xs column) c.hi.ensures.hi in
    let high : x ≤ℤ component p.hi column = omega (arith, ints, c.loop-value-test.true) in
    let low-from = within_low (c.lo.ensures.model.limits.lower_bounds column) in
    let from = now.from in
    let next : to_z w64 (of_z w64 (x +ℤ pos 1)) ≡ x +ℤ pos 1 = omega (arith, ints) in
    let after = Varies-step p column rest c.args.z.now c.loop-value.z c.least_cost.new.z x now.inside c.requires.column
    now.from high now.moved c.least_cost.ensures.point in
    record {
      inside = after.0;
      moved = after.1;
      from = omega (arith, ints);
      least = rw (next, c.lesser-least.ensures)
          (IsLeastBelow-step p column rest c.args.z.now c.loop-value.z x c.loop-value.least c.least_cost.result
          (omega (arith, now.inside.columns, c.requires.column)) now.from high now.moved now.least
          c.least_cost.ensures.least);
    }

pub least_over-returns-clause-least : goal.least_over-returns-clause-least
least_over-returns-clause-least t c =
    let high-in = within_high (c.lo.ensures.model.limits.upper_bounds c.args.column) in
    let low-in = within_low (c.lo.ensures.model.limits.upper_bounds c.args.column) in
    let hi = ap (λ (xs : List ℤ). component xs c.args.column) c.hi.ensures.hi in
    IsLeastBelow-all c.args.model.now c.args.column c.args.rest.now c.args.z.now _ c.loop-value.least
    (omega (arith, ints, c.loop-value-test.false)) c.loop-value.invariant.least
