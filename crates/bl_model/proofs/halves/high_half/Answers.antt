use Rattle.std.proofs.Common.{rules, ◌≡◌, pos}
use Rattle.std.specs.Arc.{arc_value}
use Rattle.std.specs.Prelude.{slice_set, ◌+ℤ◌}
use Rattle.bl_terms.specs.Trees.{high_half}
use Rattle.bl_model.specs.Boxes.{IsBox}
use Rattle.bl_model.proofs.BoxLemmas.{high_half-box}
use Rattle.bl_model.proofs.halves.high_half.Goals as goal

pub invariant_of-result : goal.invariant_of-result
invariant_of-result c =
    let is : IsBox (high_half c.args.parent.now c.args.column c.args.at) =
    high_half-box c.args.parent.now c.args.column c.args.at c.requires c.hi.ensures.limits in
    let hi : (arc_value c.in_ok-clone.field-0).items ≡ c.args.parent.now.hi = search rules in
    let lo : (arc_value c.in_ok-new.field-0).items ≡ slice_set c.args.parent.now.lo c.args.column (c.args.at +ℤ pos 1) =
    search rules in
    rw (hi, lo) is
