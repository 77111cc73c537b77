use Rattle.std.proofs.Common.{◌≢◌, pos, sym, subst, arith}
use Rattle.bl_simplex.specs.Fractions.{Fraction}
use Rattle.bl_tableau.proofs.RowSteps.{read_cell}
use Rattle.bl_elimination.proofs.Numbers.{first_nonzero-at, first_nonzero-nowhere}
use Rattle.bl_elimination.proofs.row.first_nonzero.Goals as goal

pub returns-then-not-is_zero-clause-value : goal.returns-then-not-is_zero-clause-value
returns-then-not-is_zero-clause-value c =
    let xs = c.args.numbers.now in
    let here = read_cell xs c.loop-j.j _ (omega arith) c.index-numbers-j.is in
    let other : Fraction → Type 0 = λ f. f.num ≢ pos 0 in
    sym (first_nonzero-at xs c.loop-j.j (omega arith) c.loop-j.invariant (subst other here (λ h. let bad =
    c.if-not-is_zero.ensures.value.1 h in absurd (grind arith))))

pub returns-clause-value : goal.returns-clause-value
returns-clause-value c = sym (first_nonzero-nowhere c.args.numbers.now (λ k l. c.loop-j.invariant k (omega arith)))
