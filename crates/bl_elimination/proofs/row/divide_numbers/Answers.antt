use Rattle.std.proofs.Common.{◌≡◌, sym, ap, ◌∙◌, arith}
use Rattle.std.specs.Prelude.{None}
use Rattle.bl_simplex.specs.Fractions.{quotient_of}
use Rattle.bl_simplex.specs.Rationals.{fraction_at}
use Rattle.bl_elimination.proofs.Numbers.{divided-some, divided-none, on_err, none_of}
use Rattle.bl_tableau.proofs.RowSteps.{read_cell}
use Rattle.bl_elimination.proofs.row.divide_numbers.Goals as goal

pub returns-in_err-share-clause-err : goal.returns-in_err-share-clause-err
returns-in_err-share-clause-err c =
    let a = c.args in
    let j = c.loop-j.j in
    let wide : quotient_of (fraction_at a.numbers.now j) a.pivot ≡ None =
    ap (λ x. quotient_of x a.pivot) (sym (c.loop-j.invariant.left j (omega arith)))
    ∙ ap (λ x. quotient_of x a.pivot) (sym (read_cell c.loop-j.numbers j _ (omega arith) c.index-numbers-j.is))
    ∙ none_of _ _ _ c.in_err-share.ensures.value in
    on_err _ _ (divided-none a.numbers.now a.pivot j (omega arith) wide)

pub returns-clause-ok : goal.returns-clause-ok
returns-clause-ok c =
    let a = c.args in
    divided-some a.numbers.now c.loop-j.numbers a.pivot (omega arith)
    (λ k l. c.loop-j.invariant.done k (omega arith))
