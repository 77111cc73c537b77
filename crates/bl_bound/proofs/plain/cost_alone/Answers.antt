use Rattle.std.proofs.Common.{length, pos, ap, ◌∙◌}
use Rattle.std.proofs.Math.ListN.{replicate}
use Rattle.bl_bound.proofs.PlainLaws.{zeros-replicate, made}
use Rattle.bl_bound.proofs.plain.cost_alone.Goals as goal

pub returns : goal.returns
returns c =
    let zeros_of = c.in_ok-mult.ensures.items_if_clones_equal (λ y e. e)
    ∙ ap (λ rows. replicate (length rows) (pos 0)) c.rows.ensures.value
    ∙ zeros-replicate (length c.args.problem.now.rows) in
    made (pos 1) _ _ (c.new.ensures ∙ zeros_of)
