use Rattle.std.proofs.Common.{rules, ◌≡◌, ℕ, ◌^◌, ◌<◌, ◌≤◌, length, sym, ap, ◌∙◌, subst, arith}
use Rattle.std.specs.Prelude.{IsTrue, true, false}
use Rattle.std.proofs.lemmas.Bool.{false≢true}
use Rattle.bl_simplex.specs.Dictionaries.{columns}
use Rattle.bl_licence.proofs.Points.{Setting, divides_each, fractional_from_test, rows_to_test, cost_to_test, RowsPass}
use Rattle.bl_licence.proofs.Points.{CostPasses}
use Rattle.bl_licence.proofs.fractional.is_fractional.Goals as goal

pub scaled_point-requires-clause-multiple : goal.scaled_point-requires-clause-multiple
scaled_point-requires-clause-multiple c =
    divides_each c.args.problem.now c.args.distances.now c.in-Some.common
    (omega (arith, ap length c.lo.ensures.value)) c.in-Some.ensures.1

pub returns-then-not-meets_rows : goal.returns-then-not-meets_rows
returns-then-not-meets_rows c =
    let q = c.args.problem.now in
    let fs = c.args.distances.now in
    let m = c.in-Some.common in
    let size : length fs ≡ columns q = omega (arith, ap length c.lo.ensures.value) in
    let reduced = c.are_in_range.ensures.reduced (search rules) in
    let s : Setting q fs m c.in_ok-point.point.items =
    record {
      fits = c.requires;
      size = size;
      reduced = reduced;
      multiple = c.in-Some.ensures.1;
      point =
          c.in_ok-point.ensures.point;
    } in
    let failed : IsTrue c.meets_rows.result → IsTrue false = λ t. search rules in (
      λ f. absurd (false≢true f),
      λ h. failed (c.meets_rows.ensures.1
          (subst (RowsPass q m) (sym c.deref.ensures.value)
          (rows_to_test q c.args.cutoff fs m c.in_ok-point.point.items s h))),
    )

pub returns : goal.returns
returns c =
    let q = c.args.problem.now in
    let u = c.args.cutoff in
    let fs = c.args.distances.now in
    let m = c.in-Some.common in
    let size : length fs ≡ columns q = omega (arith, ap length c.lo.ensures.value) in
    let reduced = c.are_in_range.ensures.reduced (search rules) in
    let s : Setting q fs m c.in_ok-point.point.items =
    record {
      fits = c.requires;
      size = size;
      reduced = reduced;
      multiple = c.in-Some.ensures.1;
      point =
          c.in_ok-point.ensures.point;
    } in
    let small : m ≤ 2 ^ 50 = (let a = c.in-Some.ensures.0 in let e = c.in-Some.ensures.1 in omega arith) in
    let rows = subst (RowsPass q m) c.deref.ensures.value (c.meets_rows.ensures.0 (search rules)) in (
      λ t. fractional_from_test q u fs m c.in_ok-point.point.items s (c.are_in_range.ensures.value.0 (search rules))
          (c.has_fraction.ensures.0 (search rules)) small rows
          (subst (CostPasses q u m) c.deref-2.ensures.value (c.is_below_cutoff.ensures.0 t)),
      λ h. c.is_below_cutoff.ensures.1
          (subst (CostPasses q u m) (sym c.deref-2.ensures.value)
          (cost_to_test q u fs m c.in_ok-point.point.items s h.cost)),
    )
