use Rattle.std.proofs.Common.{length, pos, ap, ◌∙◌}
use Rattle.std.specs.Prelude.{slice_set}
use Rattle.std.proofs.Math.ListN.{replicate}
use Rattle.bl_bound.proofs.PlainLaws.{zeros-replicate, made}
use Rattle.bl_bound.proofs.plain.row_alone.Goals as goal

pub returns : goal.returns
returns c =
    let zeros_of = c.in_ok-mult.ensures.items_if_clones_equal (λ y e. e)
    ∙ ap (λ rows. replicate (length rows) (pos 0)) c.rows.ensures.value
    ∙ zeros-replicate (length c.args.problem.now.rows) in
    made (pos 0) _ _ (c.new.ensures ∙ ap (λ xs. slice_set xs c.args.row (pos 1)) zeros_of)
