use Rattle.std.proofs.Common.{rules, ◌≡◌}
use Rattle.std.specs.Arc.{arc_value}
use Rattle.std.specs.Prelude.{slice_set}
use Rattle.bl_terms.specs.Trees.{low_half}
use Rattle.bl_model.specs.Boxes.{IsBox}
use Rattle.bl_model.proofs.BoxLemmas.{low_half-box}
use Rattle.bl_model.proofs.halves.low_half.Goals as goal

pub invariant_of-result : goal.invariant_of-result
invariant_of-result c =
    let is : IsBox (low_half c.args.parent.now c.args.column c.args.at) =
    low_half-box c.args.parent.now c.args.column c.args.at c.requires c.hi.ensures.limits in
    let lo : (arc_value c.in_ok-clone.field-0).items ≡ c.args.parent.now.lo = search rules in
    let hi : (arc_value c.in_ok-new.field-0).items ≡ slice_set c.args.parent.now.hi c.args.column c.args.at =
    search rules in
    rw (lo, hi) is
