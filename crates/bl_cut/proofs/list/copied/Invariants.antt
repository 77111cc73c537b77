use Rattle.std.proofs.Common.{◌≡◌, take, map}
use Rattle.std.specs.Arc.{arc_value}
use Rattle.bl_cut.proofs.list.copied.Given as goal

abbrev pub invariant-loop-cut : goal.invariant-loop-cut
invariant-loop-cut l = map arc_value l.copies.items ≡ take l.cut-index (map arc_value l.cuts)
