use Rattle.std.proofs.Common.{◌≡◌, ◌+◌, drop, map}
use Rattle.std.specs.Arc.{arc_value}
use Rattle.bl_cut_terms.specs.Adopting.{place_in}
use Rattle.bl_cut_proof.proofs.steps.place_in.Given as goal

abbrev pub invariant-loop-place : goal.invariant-loop-place
invariant-loop-place l = place_in (map arc_value l.steps) l.step
    ≡ l.place + place_in (drop l.place (map arc_value l.steps)) l.step
