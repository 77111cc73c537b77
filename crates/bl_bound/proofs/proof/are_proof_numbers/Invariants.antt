use Rattle.std.proofs.Common.{ℕ, ◌<◌, pos, ◌≤ℤ◌}
use Rattle.bl_whole.specs.Sums.{component}
use Rattle.bl_limits.specs.declared.TheConstants.{MAX_PROOF_NUMBER}
use Rattle.bl_bound.proofs.proof.are_proof_numbers.Given as goal

abbrev pub invariant-loop-number : goal.invariant-loop-number
invariant-loop-number l = (k : ℕ) → k < l.number-index
    → (pos 0 ≤ℤ component l.numbers k) × (component l.numbers k ≤ℤ MAX_PROOF_NUMBER)
