use Rattle.std.proofs.Common.{◌≢◌, ℤ, pos, take}
use Rattle.std.specs.Prelude.{All}
use Rattle.bl_certtext.proofs.places.lack.Given as goal

abbrev pub invariant-loop-pair : goal.invariant-loop-pair
invariant-loop-pair l = All (λ (p : ℤ × ℤ). p.0 ≢ pos l.index) (take l.pair-index l.pairs)
