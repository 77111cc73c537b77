use Rattle.std.proofs.Common.{◌≡◌, length, ap, sym, ◌∙◌, arith}
use Rattle.std.specs.Prelude.{None}
use Rattle.bl_elimination.specs.Elimination.{without}
use Rattle.bl_elimination.proofs.Numbers.{on_err}
use Rattle.bl_elimination.proofs.RowLists.{row_at, cleared-some, cleared-none, other_default}
use Rattle.bl_elimination.proofs.rows.clear.Goals as goal

pub returns-in_err-reduce-clause-err : goal.returns-in_err-reduce-clause-err
returns-in_err-reduce-clause-err c =
    let a = c.args in
    let i = c.loop-i.i in
    let wide : without a.column a.by.now (row_at a.rows.now i) ≡ None =
    ap (without a.column a.by.now) (sym (c.loop-i.invariant.left i (omega arith)))
    ∙ ap (without a.column a.by.now) (sym (other_default c.loop-i.rows i c.index-rows-i.result (omega arith)))
    ∙ c.in_err-reduce.ensures.err in
    on_err _ _ (cleared-none a.column a.by.now a.rows.now i (omega arith) wide)

pub returns-clause-ok : goal.returns-clause-ok
returns-clause-ok c =
    let a = c.args in
    cleared-some a.column a.by.now a.rows.now c.loop-i.rows (omega arith)
    (λ k l. c.loop-i.invariant.done k (omega arith))

pub returns-clause-sizes : goal.returns-clause-sizes
returns-clause-sizes c k d l = ap length (other_default c.loop-i.rows k d l) ∙ c.loop-i.invariant.sizes k l
