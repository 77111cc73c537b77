use Rattle.std.proofs.Common.{ℕ, ◌<◌, ◌≤ℤ◌, ◌<ℤ◌, pos}
use Rattle.std.specs.Prelude.{MatchOption}
use Rattle.bl_simplex.specs.Dictionaries.{cost_row, columns}
use Rattle.bl_tableau.specs.Runs.{current}
use Rattle.bl_relax.proofs.choice.leaving_row.Given as goal

abbrev pub invariant-loop-i : goal.invariant-loop-i
invariant-loop-i l =
    let q = l.tableau.problem in
    let d = current l.tableau in
    MatchOption l.row ((k : ℕ) → k < l.i → pos 0 ≤ℤ (d.place k (columns q)).num)
    (λ r. (r < cost_row q) × ((d.place r (columns q)).num <ℤ pos 0))
