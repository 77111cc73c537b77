use Rattle.std.proofs.Common.{◌∙◌, ap, to_z, of_z}
use Rattle.std.specs.Prelude.{slice_set}
use Rattle.std.specs.Int.{w64}
use Rattle.std.proofs.lemmas.Int.{to_z-of_z}
use Rattle.bl_terms.specs.Points.{zeros}
use Rattle.bl_bound.proofs.PlainLaws.{zeros-replicate}
use Rattle.bl_cut_proof.proofs.SameLemmas.{row_same}
use Rattle.bl_cut_proof.proofs.rows.side.Goals as goal

pub returns : goal.returns
returns c =
    let zeros_of = c.in_ok-coef.ensures.items_if_clones_equal (λ y e. e) ∙ zeros-replicate c.args.columns in
    row_same _ (record { coef = slice_set (zeros c.args.columns) c.args.column c.args.coefficient; rhs = c.args.right })
    (ap (λ xs. slice_set xs c.args.column (to_z w64 (of_z w64 c.args.coefficient))) zeros_of
    ∙ ap (slice_set (zeros c.args.columns) c.args.column) (to_z-of_z w64 _ c.ranges.coefficient))
    (to_z-of_z w64 _ c.ranges.right)
