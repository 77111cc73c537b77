use Rattle.std.proofs.Common.{◌≡◌, sym, ap, ◌∙◌, arith}
use Rattle.std.specs.Prelude.{None}
use Rattle.bl_simplex.specs.Rationals.{fraction_at}
use Rattle.bl_elimination.specs.Elimination.{less_multiple}
use Rattle.bl_elimination.proofs.Numbers.{less_row-some, less_row-none, on_err, none_of}
use Rattle.bl_tableau.proofs.RowSteps.{read_cell}
use Rattle.bl_elimination.proofs.row.take_multiple.Goals as goal

pub returns-in_err-rest-clause-err : goal.returns-in_err-rest-clause-err
returns-in_err-rest-clause-err c =
    let a = c.args in
    let j = c.loop-j.j in
    let wide : less_multiple (fraction_at a.numbers.now j) a.factor (fraction_at a.by.now j) ≡ None =
    ap (λ x. less_multiple x a.factor (fraction_at a.by.now j)) (sym (c.loop-j.invariant.left j (omega arith)))
    ∙ ap (λ x. less_multiple x a.factor (fraction_at a.by.now j)) (sym (read_cell c.loop-j.numbers j _
    (omega arith) c.index-numbers-j.is))
    ∙ ap (less_multiple c.index-numbers-j.result a.factor) (sym (read_cell a.by.now j _ (omega
    (arith, c.requires.sizes)) c.index-by-j.is))
    ∙ none_of _ _ _ c.in_err-rest.ensures.value in
    on_err _ _ (less_row-none a.numbers.now a.by.now a.factor j c.requires.sizes (omega arith) wide)

pub returns-clause-ok : goal.returns-clause-ok
returns-clause-ok c =
    let a = c.args in
    less_row-some a.numbers.now a.by.now c.loop-j.numbers a.factor c.requires.sizes (omega arith)
    (λ k l. c.loop-j.invariant.done k (omega arith))
