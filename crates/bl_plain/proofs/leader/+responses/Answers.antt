use Rattle.std.proofs.Common.{◌≡◌, arith, rules, ap, List}
use Rattle.std.specs.Prelude.{◌≤ℤ◌, ◌+ℤ◌, pos, ℤ}
use Rattle.std.specs.Int.{w64}
use mir.Val.{to_z, of_z}
use Rattle.std.proofs.lemmas.Int.{ints, to_z-of_z}
use Rattle.bl_whole.specs.Sums.{component}
use Rattle.bl_whole.proofs.WithinLemmas.{within_high, within_low}
use Rattle.bl_plain.specs.Walk.{AnswersAt}
use Rattle.bl_plain.proofs.WalkLemmas.{In-set, Varies-step}
use Rattle.bl_plain.proofs.BestLemmas.{Seeks-step, Seeks-end}
use Rattle.bl_plain.proofs.leader.+responses.Goals as goal

pub try_values-try_responses-requires : goal.try_values-try_responses-requires
try_values-try_responses-requires t c =
    let now = c.loop-value.invariant in
    let high-in = within_high (c.lo.ensures.model.limits.upper_bounds c.args.column) in
    let low-in = within_low (c.lo.ensures.model.limits.upper_bounds c.args.column) in
    let hi = ap (λ (xs : List ℤ). component xs c.args.column) c.hi.ensures.hi in
    let high : to_z w64 c.loop-value.value-bits ≤ℤ component c.args.model.now.hi c.args.column =
    omega (arith, ints, c.loop-value-test.true) in (
      search rules,
      (
        In-set c.args.model.now c.loop-value.z c.args.column
            (to_z w64 c.loop-value.value-bits) now.inside c.requires.column now.from high,
        (c.requires.rest, now.room),
      ),
    )

pub try_values-loop-value-preserved : goal.try_values-loop-value-preserved
try_values-loop-value-preserved t c =
    let p = c.args.model.now in
    let column = c.args.column in
    let rest = c.args.rest.now in
    let x = to_z w64 c.loop-value.value-bits in
    let now = c.loop-value.invariant in
    let high-in = within_high (c.lo.ensures.model.limits.upper_bounds column) in
    let low-in = within_low (c.lo.ensures.model.limits.upper_bounds column) in
    let hi = ap (λ (xs : List ℤ). component xs column) c.hi.ensures.hi in
    let high : x ≤ℤ component p.hi column = omega (arith, ints, c.loop-value-test.true) in
    let low-from = within_low (c.lo.ensures.model.limits.lower_bounds column) in
    let from = now.from in
    let next : to_z w64 (of_z w64 (x +ℤ pos 1)) ≡ x +ℤ pos 1 = omega (arith, ints) in
    let after = Varies-step p column rest c.args.z.now c.loop-value.z c.try_responses.new.z x now.inside
    c.requires.column now.from high now.moved c.try_responses.ensures.point in
    record {
      inside = after.0;
      moved = after.1;
      from = omega (arith, ints);
      room = c.try_responses.ensures.room;
      best = rw next (Seeks-step p column rest c.args.z.now c.loop-value.z
          (AnswersAt p (to_z w64 (of_z w64 c.args.least))) x c.args.best.now c.loop-value.best c.try_responses.new.best
          (omega (arith, now.inside.columns, c.requires.column)) now.from high now.moved now.best
          c.try_responses.ensures.best);
    }

pub try_values-returns-clause-best : goal.try_values-returns-clause-best
try_values-returns-clause-best t c =
    let high-in = within_high (c.lo.ensures.model.limits.upper_bounds c.args.column) in
    let low-in = within_low (c.lo.ensures.model.limits.upper_bounds c.args.column) in
    let hi = ap (λ (xs : List ℤ). component xs c.args.column) c.hi.ensures.hi in
    let same = to_z-of_z w64 c.args.least c.ranges.least in
    Seeks-end c.args.model.now c.args.column c.args.rest.now c.args.z.now
    (AnswersAt c.args.model.now c.args.least) _ c.args.best.now c.loop-value.best
    (omega (arith, ints, c.loop-value-test.false)) (rw same at c.loop-value.invariant.best)
