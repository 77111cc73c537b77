use Rattle.std.proofs.Common.{◌≡◌, pos, subst}
use Rattle.bl_simplex.specs.Fractions.{Fraction}
use Rattle.bl_tableau.proofs.RowSteps.{read_cell}
use Rattle.bl_elimination.proofs.Numbers.{without-nought}
use Rattle.bl_elimination.proofs.row.reduce_numbers.Goals as goal

pub returns-then-is_zero-clause-ok : goal.returns-then-is_zero-clause-ok
returns-then-is_zero-clause-ok c =
    let a = c.args in
    let xs = a.numbers.now in
    let factor = read_cell xs a.column _ c.requires.column_in c.index-numbers-column.is in
    let is_nought : Fraction → Type 0 = λ f. f.num ≡ pos 0 in
    without-nought xs a.by.now a.column c.requires.sizes c.requires.column_in c.requires.numbers c.requires.by_reduced
    (subst is_nought factor (c.is_zero.ensures.value.0 c.if-is_zero.true))
