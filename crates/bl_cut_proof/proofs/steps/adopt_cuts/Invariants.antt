use Rattle.std.proofs.Common.{◌≡◌, [], drop, map, Some}
use Rattle.std.specs.Arc.{arc_value}
use Rattle.bl_cut_terms.specs.Adopting.{adopt_cuts}
use Rattle.bl_cut_proof.proofs.steps.adopt_cuts.Given as goal

abbrev pub invariant-loop-cut : goal.invariant-loop-cut
invariant-loop-cut l =
    adopt_cuts l.tight 0 l.earlier (Some (record { steps = map arc_value l.fn.steps.items; places = [] }))
    ≡ adopt_cuts l.tight l.cut (drop l.cut l.earlier)
    (Some (record { steps = map arc_value l.steps.items; places = l.places.items }))
