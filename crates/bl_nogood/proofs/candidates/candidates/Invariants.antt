use Rattle.std.proofs.Common.{take}
use Rattle.bl_nogood.specs.Candidates.{AreChosen, IsCandidate}
use Rattle.bl_nogood.proofs.candidates.candidates.Given as goal

abbrev pub invariant-loop-item : goal.invariant-loop-item
invariant-loop-item l =
    AreChosen (IsCandidate l.model l.area l.earlier l.point) (take l.item-index l.item-items) l.chosen.items
