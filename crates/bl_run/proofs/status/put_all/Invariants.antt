use Rattle.std.proofs.Common.{◌≡◌, ℕ, List, take, Bor}
use Rattle.std.specs.List.{flat_map}
use Rattle.bl_outer.specs.Files.{Told}
use Rattle.bl_outer.specs.Sink.{Adds}
use Rattle.bl_run.proofs.status.put_all.Given as goal

-- the pieces so far stand at the end
abbrev pub invariant-loop-piece : goal.invariant-loop-piece
invariant-loop-piece g l =
    let before = g.E.Sink.state l.initial.err in
    let now = g.E.Sink.state l.err in
    record {
      put : Told (Adds (flat_map (λ (piece : Bor (List ℕ)). piece.now) (take l.piece-index l.pieces))) before.bytes
          now.bytes;
      unfaulted : now.faults ≡ before.faults;
    }
