use Rattle.std.proofs.Common.{◌≡◌, ◌+◌, List, sym, subst, arith}
use Rattle.bl_simplex.specs.Fractions.{Fraction}
use Rattle.bl_tableau.specs.Cells.{AreReduced}
use Rattle.bl_tableau.proofs.RowSteps.{RowsDone, wide_share, wide_remainder, rows_begin, rows_step, rows_skip, rows_end}
use Rattle.bl_tableau.proofs.RowSteps.{rows_apart}
use Rattle.bl_tableau.proofs.rows.pivot_rows.Goals as goal
use Rattle.bl_tableau.proofs.rows.pivot_rows.Goals.{then-i-at+in_default-reduce_row, else-i-at}

pub returns-in-Err-clause-err : goal.returns-in-Err-clause-err
returns-in-Err-clause-err c =
    let a = c.args in
    let e = c.in-Err.ensures in
    wide_share a.cells.now a.rows a.width a.at.row a.at.column c.in-Err.column c.requires.row_in e.err e.wide e.earlier

pub loop-i-init : goal.loop-i-init
loop-i-init c =
    let a = c.args in
    let e = c.in_default.ensures in
    record {
      rows = rows_begin a.cells.now c.divide_row.new.cells a.rows a.width a.at.row a.at.column e.ok e.others;
      numbers = e.lowest_terms;
    }

pub reduce_row-requires-clause-apart : goal.reduce_row-requires-clause-apart
reduce_row-requires-clause-apart c = rows_apart c.loop-i.i c.args.at.row c.args.width c.if-i-at.true

pub returns-in-Err-reduce_row-clause-err : goal.returns-in-Err-reduce_row-clause-err
returns-in-Err-reduce_row-clause-err c =
    let a = c.args in
    let e = c.in-Err-reduce_row.ensures in
    wide_remainder a.cells.now c.loop-i.cells a.rows a.width a.at.row a.at.column c.loop-i.i c.in-Err-reduce_row.column
    c.loop-i.invariant.rows c.loop-i-test.true c.if-i-at.true c.requires.column_in e.err e.wide e.earlier

pub loop-i-preserved : goal.loop-i-preserved
loop-i-preserved c =
    let a = c.args in
    let Kept : List Fraction → Type 0 =
    λ zs. record {
      rows : RowsDone a.cells.now zs a.rows a.width a.at.row a.at.column (c.loop-i.i + 1);
      numbers : AreReduced zs;
    } in
    elim c.if-i-at.branch [
      | then-i-at+in_default-reduce_row w ↦
          let e = w.in_default-reduce_row.ensures in
          subst Kept (sym w.cells-is)
          (record {
            rows = rows_step a.cells.now c.loop-i.cells w.reduce_row.new.cells a.rows a.width a.at.row a.at.column
                c.loop-i.i c.loop-i.invariant.rows c.loop-i-test.true c.requires.row_in w.if-i-at.true
                c.requires.column_in e.ok e.others;
            numbers = e.lowest_terms;
          })
      | else-i-at w ↦
          subst Kept (sym w.cells-is)
          (record {
            rows = rows_skip a.cells.now c.loop-i.cells a.rows a.width a.at.row a.at.column c.loop-i.i
                c.loop-i.invariant.rows w.if-i-at.false;
            numbers = c.loop-i.invariant.numbers;
          })
    ]

pub returns-clause-ok : goal.returns-clause-ok
returns-clause-ok c =
    let a = c.args in
    let last : c.loop-i.i ≡ a.rows = omega arith in
    rows_end a.cells.now c.loop-i.cells a.rows a.width a.at.row a.at.column
    (subst (λ n. RowsDone a.cells.now c.loop-i.cells a.rows a.width a.at.row a.at.column n) last
    c.loop-i.invariant.rows)
