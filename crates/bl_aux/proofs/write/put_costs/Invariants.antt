use Rattle.std.proofs.Common.{◌≡◌, ◌++◌, take}
use Rattle.bl_aux.specs.Canonical.{number_lines}
use Rattle.bl_aux.proofs.write.put_costs.Given as goal

abbrev pub invariant-loop-cost : goal.invariant-loop-cost
invariant-loop-cost l = l.text.items ≡ l.initial.text.items ++ number_lines l.key (take l.cost-index l.costs)
