use Rattle.std.proofs.Common.{◌≡◌}
use Rattle.std.specs.Prelude.{take}
use Rattle.bl_terms.specs.Bounds.{over}
use Rattle.bl_fproof.proofs.rows.FollowerRows.problem.Given as goal

abbrev pub invariant-loop-row : goal.invariant-loop-row
invariant-loop-row l =
    l.problem ≡ record {
      rows = take l.row-index l.self.rows;
      cost = l.self.cost;
      area = record { lo = l.lo; hi = l.hi };
    }
