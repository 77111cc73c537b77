use Rattle.std.proofs.Common.{◌≡◌, ◌∙◌, ◌++◌, ◌∷◌, arith, rules, ap, List}
use Rattle.std.specs.Prelude.{◌≤ℤ◌, ◌+ℤ◌, pos, ℤ, FitsSigned, slice_index_or}
use Rattle.std.specs.Int.{w64}
use mir.Val.{to_z, of_z}
use Rattle.std.proofs.lemmas.Int.{ints, to_z-of_z}
use Rattle.bl_whole.specs.Sums.{component}
use Rattle.bl_whole.proofs.WithinLemmas.{within_high, within_low}
use Rattle.bl_terms.specs.Feasible.{BilevelFeasible}
use Rattle.bl_plain.proofs.WalkLemmas.{In-set, Varies-step, Varies-refl}
use Rattle.bl_plain.proofs.BestLemmas.{Seeks-start, Seeks-step, Seeks-end, choices-below}
use Rattle.bl_plain.proofs.leader.+leaders.Goals as goal

pub try_choices-try_leaders-requires : goal.try_choices-try_leaders-requires
try_choices-try_leaders-requires t c =
    let now = c.loop-value.invariant in
    let high-in = within_high (c.lo.ensures.model.limits.upper_bounds c.args.column) in
    let low-in = within_low (c.lo.ensures.model.limits.upper_bounds c.args.column) in
    let hi = ap (λ (xs : List ℤ). component xs c.args.column) c.hi.ensures.hi in
    let high : to_z w64 c.loop-value.value-bits ≤ℤ component c.args.model.now.hi c.args.column =
    omega (arith, ints, c.loop-value-test.true) in (
      search rules,
      (
        In-set c.args.model.now c.loop-value.z c.args.column
            (to_z w64 c.loop-value.value-bits) now.inside c.requires.column now.from high,
        (c.requires.rest, now.room),
      ),
    )

pub try_choices-loop-value-preserved : goal.try_choices-loop-value-preserved
try_choices-loop-value-preserved t c =
    let p = c.args.model.now in
    let column = c.args.column in
    let rest = c.args.rest.now ++ p.follower in
    let x = to_z w64 c.loop-value.value-bits in
    let now = c.loop-value.invariant in
    let high-in = within_high (c.lo.ensures.model.limits.upper_bounds column) in
    let low-in = within_low (c.lo.ensures.model.limits.upper_bounds column) in
    let hi = ap (λ (xs : List ℤ). component xs column) c.hi.ensures.hi in
    let high : x ≤ℤ component p.hi column = omega (arith, ints, c.loop-value-test.true) in
    let low-from = within_low (c.lo.ensures.model.limits.lower_bounds column) in
    let from = now.from in
    let next : to_z w64 (of_z w64 (x +ℤ pos 1)) ≡ x +ℤ pos 1 = omega (arith, ints) in
    let after = Varies-step p column rest c.args.z.now c.loop-value.z c.try_leaders.new.z x now.inside
    c.requires.column now.from high now.moved c.try_leaders.ensures.point in
    record {
      inside = after.0;
      moved = after.1;
      from = omega (arith, ints);
      room = c.try_leaders.ensures.room;
      best = rw next (Seeks-step p column rest c.args.z.now c.loop-value.z
          (BilevelFeasible p) x c.args.best.now c.loop-value.best c.try_leaders.new.best
          (omega (arith, now.inside.columns, c.requires.column)) now.from high now.moved now.best
          c.try_leaders.ensures.best);
    }

pub try_choices-returns-clause-best : goal.try_choices-returns-clause-best
try_choices-returns-clause-best t c =
    let high-in = within_high (c.lo.ensures.model.limits.upper_bounds c.args.column) in
    let low-in = within_low (c.lo.ensures.model.limits.upper_bounds c.args.column) in
    let hi = ap (λ (xs : List ℤ). component xs c.args.column) c.hi.ensures.hi in
    Seeks-end c.args.model.now c.args.column (c.args.rest.now ++ c.args.model.now.follower) c.args.z.now
    (BilevelFeasible c.args.model.now) _ c.args.best.now c.loop-value.best
    (omega (arith, ints, c.loop-value-test.false)) c.loop-value.invariant.best

pub try_choices-loop-value-init : goal.try_choices-loop-value-init
try_choices-loop-value-init t c =
    let p = c.args.model.now in
    let column = c.args.column in
    let cs = c.args.rest.now ++ p.follower in
    let fits : FitsSigned w64 (slice_index_or c.lo.result.now column (pos 0)) = search rules in
    let start : to_z w64 (of_z w64 (slice_index_or c.lo.result.now column (pos 0))) ≡ component p.lo column =
    to_z-of_z w64 (slice_index_or c.lo.result.now column (pos 0)) fits
    ∙ ap (λ (xs : List ℤ). component xs column) c.lo.ensures.lo in
    record {
      inside = c.requires.point;
      moved = Varies-refl p (column ∷ cs) c.args.z.now
          (choices-below p column c.args.rest.now c.lo.ensures.model c.requires.column c.requires.rest)
          c.requires.point;
      from = omega (arith, ints, start);
      room = c.requires.room;
      best = rw start (Seeks-start p column cs c.args.z.now (BilevelFeasible p) c.args.best.now);
    }
