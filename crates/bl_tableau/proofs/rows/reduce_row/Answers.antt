use Rattle.std.proofs.Common.{◌≡◌, ◌+◌, pos, ap, subst, arith}
use Rattle.std.specs.Prelude.{◌==◌}
use Rattle.bl_simplex.specs.Fractions.{Fraction}
use Rattle.bl_simplex.specs.Rationals.{fraction_at}
use Rattle.bl_tableau.proofs.Places.{remainder_without_factor}
use Rattle.bl_tableau.proofs.RowSteps.{read_cell, read_reduced, same_number}
use Rattle.bl_tableau.proofs.rows.reduce_row.Goals as goal

pub returns-then-is_zero-clause-ok : goal.returns-then-is_zero-clause-ok
returns-then-is_zero-clause-ok c j h =
    let a = c.args in
    let xs = a.cells.now in
    let all = c.requires.numbers.each in
    let factor = read_cell xs (a.start + a.column) _ (omega arith) c.index-cells-start.is in
    let is_nought : Fraction → Type 0 = λ f. f.num ≡ pos 0 in
    remainder_without_factor (fraction_at xs (a.start + a.column)) (fraction_at xs (a.start + j))
    (fraction_at xs (a.pivot + j)) (j == a.column) (all (a.start + a.column) (omega arith))
    (all (a.start + j) (omega arith)) (all (a.pivot + j) (omega arith))
    (subst is_nought factor (c.is_zero.ensures.0 c.if-is_zero.true))
    (λ e. ap (λ k. fraction_at xs (a.start + k)) (same_number j a.column e))

pub eliminated-requires-clause-number : goal.eliminated-requires-clause-number
eliminated-requires-clause-number c =
    read_reduced c.loop-j.cells (c.args.start + c.loop-j.j) _ c.loop-j.invariant.numbers
    (omega arith) c.index-cells-start-in-loop-j.is

pub eliminated-requires-clause-scaled_reduced : goal.eliminated-requires-clause-scaled_reduced
eliminated-requires-clause-scaled_reduced c =
    read_reduced c.loop-j.cells (c.args.pivot + c.loop-j.j) _ c.loop-j.invariant.numbers
    (omega arith) c.index-cells-pivot.is
