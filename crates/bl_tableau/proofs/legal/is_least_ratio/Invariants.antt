use Rattle.std.proofs.Common.{ℕ, ◌<◌, length}
use Rattle.std.specs.Prelude.{slice_index}
use Rattle.bl_simplex.specs.Rationals.{fraction_at}
use Rattle.bl_simplex.specs.LegalPivots.{ratio_of, IsCandidate, LosesRatioTest}
use Rattle.bl_tableau.proofs.legal.is_least_ratio.Given as goal

abbrev pub invariant-loop-j : goal.invariant-loop-j
invariant-loop-j l = (k : ℕ) → k < l.j → IsCandidate (length l.entries) (fraction_at l.entries) k
    → LosesRatioTest (slice_index l.labels) l.column k l.least
    (ratio_of (fraction_at l.costs) (fraction_at l.entries) k)
