use Rattle.std.proofs.Common.{◌≡◌, ◌≤◌, drop, length}
use Rattle.bl_check_rules.specs.Numbers.{numbers_of}
use Rattle.bl_check_rules.proofs.listed.listed_numbers.Given as goal

abbrev pub invariant-loop-left : goal.invariant-loop-left
invariant-loop-left l = record {
  numbers : l.numbers.items ≡ numbers_of l.count (drop l.left l.pairs);
  within : l.left ≤ length l.pairs;
}

abbrev pub decreases-loop-left : goal.decreases-loop-left
decreases-loop-left l = l.left
