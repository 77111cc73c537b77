use Rattle.std.proofs.Common.{◌≡◌, ℕ, ◌+◌, List, length, ◌∙◌, false, sym, ap, subst, arith}
use Rattle.std.specs.Vec.{vec_capacity}
use Rattle.bl_simplex.specs.Dictionaries.{columns, height_of}
use Rattle.bl_tableau.specs.Runs.{KeepsReplay}
use Rattle.bl_tableau.proofs.RunSteps.{keeps_opening}
use Rattle.bl_tableau.proofs.tableau.Tableau.start.Goals as goal

pub invariant_of-result : goal.invariant_of-result
invariant_of-result c =
    let q = c.args.problem.now in
    let fits = c.requires in
    let cells = c.in_ok-cells.ensures in
    let count : length c.cost.result.now ≡ columns q = ap length c.cost.ensures.value ∙ fits.shape.cost_columns in
    let heights : length c.in_ok-row_labels.row_labels.items ≡ height_of q =
    omega (arith, c.in_ok-row_labels.ensures.size, ap length c.rows.ensures.value, count) in
    let widths : length c.in_ok-column_labels.column_labels.items ≡ columns q =
    omega (arith, c.in_ok-column_labels.ensures.size, count) in
    let Kept : List (ℕ × ℕ) → Type 0 =
    λ ps. KeepsReplay (record { problem = q; most = c.args.most; pivots = ps; spent = false })
    c.in_ok-cells.cells.items c.in_ok-row_labels.row_labels.items c.in_ok-column_labels.column_labels.items
    (vec_capacity c.in_ok-pivots.pivots) in
    subst Kept (sym c.in_ok-pivots.ensures.items)
    (keeps_opening q c.args.most c.in_ok-cells.cells.items c.in_ok-row_labels.row_labels.items
    c.in_ok-column_labels.column_labels.items (vec_capacity c.in_ok-pivots.pivots) fits cells.size heights widths
    (omega (arith, c.in_ok-pivots.ensures.capacity)) cells.places
    (λ i h. c.in_ok-row_labels.ensures.value i (omega (arith, ap length c.rows.ensures.value, count))
    ∙ ap (λ n. n + i) count)
    (λ j h. c.in_ok-column_labels.ensures.value j (omega (arith, count)) ∙ omega arith)
    cells.lowest_terms)
