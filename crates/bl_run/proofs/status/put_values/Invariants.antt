use Rattle.std.proofs.Common.{◌≡◌, take}
use Rattle.bl_outer.specs.Files.{Told}
use Rattle.bl_outer.specs.Sink.{Adds}
use Rattle.bl_run.specs.Steps.{link_text}
use Rattle.bl_run.proofs.status.put_values.Given as goal

-- the values so far stand at the end
abbrev pub invariant-loop-value : goal.invariant-loop-value
invariant-loop-value g l =
    let before = g.E.Sink.state l.initial.err in
    let now = g.E.Sink.state l.err in
    record {
      put : Told (Adds (link_text (take l.value-index l.values))) before.bytes now.bytes;
      unfaulted : now.faults ≡ before.faults;
    }
