use Rattle.std.proofs.Common.{rules, w64}
use Rattle.std.proofs.lemmas.Int.{to_z-of_z}
use Rattle.std.specs.Arc.{arc_value}
use Rattle.bl_terms.specs.Points.{Area}
use Rattle.bl_model.specs.Boxes.{IsBox}
use Rattle.bl_model.proofs.BoxLemmas.{low_half-box, high_half-box}
use Rattle.bl_model.proofs.halves.Halves.make.Goals as goal

pub invariant_of-result : goal.invariant_of-result
invariant_of-result c =
    let a : Area = arc_value c.args.parent in
    let is : IsBox a = search rules in
    rw (to_z-of_z w64 c.args.at c.ranges.at) (
      record {
        split = c.requires;
        area = is;
        low = low_half-box a c.args.column c.args.at c.requires is;
        high = high_half-box a c.args.column c.args.at c.requires is;
      },
      search rules,
      search rules,
    )
