use Rattle.std.proofs.Common.{◌≡◌, ◌+◌, length, ap, subst, arith}
use Rattle.bl_simplex.specs.Dictionaries.{columns, cost_row}
use Rattle.bl_tableau.proofs.OpeningSteps.{RowsOpened, rows_opened_more}
use Rattle.bl_tableau.proofs.opening.opening_cells.Goals as goal

pub loop-i-preserved : goal.loop-i-preserved
loop-i-preserved c =
    rows_opened_more c.args.problem.now c.loop-i.cells.items c.push_row.new.cells.items c.loop-i.i c.loop-i.invariant
    c.in_ok-push_row.ensures

pub loop-k-preserved : goal.loop-k-preserved
loop-k-preserved c =
    let q = c.args.problem.now in
    let more = rows_opened_more q c.loop-k.cells.items c.push_range.new.cells.items
    (length q.rows + c.loop-k.k) c.loop-k.invariant c.in_ok-push_range.ensures in
    let next : length q.rows + c.loop-k.k + 1 ≡ length q.rows + (c.loop-k.k + 1) = omega arith in
    subst (RowsOpened q c.push_range.new.cells.items) next more

pub returns-clause-places : goal.returns-clause-places
returns-clause-places c =
    let q = c.args.problem.now in
    let all : c.loop-k.k ≡ columns q =
    omega (arith, ap length c.cost-columns.ensures.value, c.requires.shape.cost_columns) in
    let before : RowsOpened q c.loop-k.cells.items (cost_row q) =
    subst (λ n. RowsOpened q c.loop-k.cells.items (length q.rows + n)) all c.loop-k.invariant in
    (rows_opened_more q c.loop-k.cells.items c.push_cost.new.cells.items
    (cost_row q) before c.in_ok-push_cost.ensures).places
