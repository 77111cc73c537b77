use Rattle.std.proofs.Common.{◌≡◌, [], drop, map}
use Rattle.std.specs.Arc.{arc_value}
use Rattle.bl_cert_book.specs.Leaves.{adopt_all}
use Rattle.bl_cert.proofs.tree.adopt_all.Given as goal

abbrev pub invariant-loop-k : goal.invariant-loop-k
invariant-loop-k l =
    adopt_all (record { steps = map arc_value l.fn.steps.items; places = [] }) l.cuts
    ≡ adopt_all (record { steps = map arc_value l.steps.items; places = l.places.items }) (drop l.k l.cuts)
