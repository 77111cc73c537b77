use Rattle.std.proofs.Common.{rules, length, FitsSigned}
use Rattle.std.specs.Int.{w128}
use Rattle.std.proofs.lemmas.Int.{to_z-of_z}
use Rattle.bl_cut_proof.proofs.RowLemmas.{lowered_fits}
use Rattle.bl_cut_proof.proofs.sums.small_right_sum.Goals as goal

pub minus-lowered-requires : goal.minus-lowered-requires
minus-lowered-requires c =
    let sum : FitsSigned w128 c.right_sum-sum.result = search rules in
    rw (to_z-of_z w128 _ sum)
    (lowered_fits (length c.args.rows.now) c.right_sum-sum.result c.requires.few c.right_sum-sum.ensures.size)
