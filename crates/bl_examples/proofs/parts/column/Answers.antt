use Rattle.std.proofs.Common.{rules, w64}
use Rattle.std.proofs.lemmas.Int.{to_z-of_z}
use Rattle.bl_examples.proofs.parts.column.Goals as goal

pub returns : goal.returns
returns c = rw (to_z-of_z w64 c.args.lo c.ranges.lo, to_z-of_z w64 c.args.hi c.ranges.hi) record {
  lo = c.requires.lo;
  hi = c.requires.hi;
  ordered = c.requires.ordered;
  cost = search rules;
  rising = search rules;
  within = search rules;
  small = search rules;
}
