use Rattle.std.proofs.Common.{ℤ, take}
use Rattle.std.specs.Prelude.{All}
use Rattle.bl_certtext.specs.Places.{IsPlace}
use Rattle.bl_certtext.proofs.places.are_below.Given as goal

abbrev pub invariant-loop-pair : goal.invariant-loop-pair
invariant-loop-pair l = All (λ (p : ℤ × ℤ). IsPlace l.count p.0) (take l.pair-index l.pairs)
