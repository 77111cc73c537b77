use Rattle.std.proofs.Common.{◌≡◌, [], drop, map}
use Rattle.std.specs.Arc.{arc_value}
use Rattle.bl_cut_terms.specs.Adopting.{adopt}
use Rattle.bl_cut_proof.proofs.steps.adopt_steps.Given as goal

abbrev pub invariant-loop-step : goal.invariant-loop-step
invariant-loop-step l =
    adopt (record { steps = map arc_value l.fn.steps.items; places = [] }) (map arc_value l.taken)
    ≡ adopt (record { steps = map arc_value l.steps.items; places = l.places.items })
    (drop l.step-index (map arc_value l.taken))
