use Rattle.std.proofs.Common.{◌≡◌, ℕ, ◌<◌, pos}
use Rattle.bl_simplex.specs.Rationals.{fraction_at}
use Rattle.bl_elimination.proofs.row.first_nonzero.Given as goal

abbrev pub invariant-loop-j : goal.invariant-loop-j
invariant-loop-j l = (k : ℕ) → k < l.j → (fraction_at l.numbers k).num ≡ pos 0
