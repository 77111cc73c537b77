use Rattle.bl_place.specs.Widest.{IsWidestBelow}
use Rattle.bl_place.proofs.width.widest.Given as goal

abbrev pub invariant-loop-j : goal.invariant-loop-j
invariant-loop-j l = IsWidestBelow (record { lo = l.lo; hi = l.hi }) l.j l.best
