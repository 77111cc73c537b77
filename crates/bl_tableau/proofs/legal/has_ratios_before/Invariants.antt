use Rattle.std.proofs.Common.{ℕ, ◌<◌, length}
use Rattle.std.specs.Prelude.{IsSome}
use Rattle.bl_simplex.specs.Rationals.{fraction_at}
use Rattle.bl_simplex.specs.LegalPivots.{ratio_of, IsCandidate}
use Rattle.bl_tableau.proofs.legal.has_ratios_before.Given as goal

abbrev pub invariant-loop-j : goal.invariant-loop-j
invariant-loop-j l = (k : ℕ) → k < l.j → IsCandidate (length l.entries) (fraction_at l.entries) k
    → IsSome (ratio_of (fraction_at l.costs) (fraction_at l.entries) k)
