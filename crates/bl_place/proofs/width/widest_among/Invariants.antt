use Rattle.bl_place.specs.Widest.{IsWidestOf}
use Rattle.bl_place.proofs.width.widest_among.Given as goal

abbrev pub invariant-loop-j : goal.invariant-loop-j
invariant-loop-j l = IsWidestOf (record { lo = l.lo; hi = l.hi }) l.columns l.j l.best
