use Rattle.std.proofs.Common.{◌≡◌, ◌++◌, map, pos, nat_eq}
use Rattle.std.specs.Prelude.{if◌then◌else◌}
use Rattle.std.specs.List.{range_with_len}
use Rattle.bl_simplex.specs.Fractions.{whole_fraction}
use Rattle.bl_tableau.specs.Cells.{AreReduced}
use Rattle.bl_elimination.proofs.row.push_slot.Given as goal

abbrev pub invariant-loop-t : goal.invariant-loop-t
invariant-loop-t l = record {
  items : l.numbers.items ≡ l.fn.numbers.items
      ++ map (λ t. whole_fraction (if nat_eq t l.slot then pos 1 else pos 0)) (range_with_len 0 l.t);
  numbers : AreReduced l.numbers.items;
}
