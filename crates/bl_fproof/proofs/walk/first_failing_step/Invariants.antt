use Rattle.std.specs.Prelude.{reverse, All}
use Rattle.bl_fproof.specs.Steps.{nodes_of}
use Rattle.bl_fproof.specs.Stacks.{IsPart}
use Rattle.bl_fproof.proofs.Walks.{IsWalked}
use Rattle.bl_fproof.proofs.walk.first_failing_step.Given as goal

abbrev pub invariant-loop-place : goal.invariant-loop-place
invariant-loop-place l = record {
  walked : IsWalked l.rows l.cutoff (nodes_of l.steps) l.place (reverse l.stack.items);
  parts : All (IsPart l.rows) l.stack.items;
}
