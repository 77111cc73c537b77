use Rattle.std.proofs.Common.{◌∙◌, sym}
use Rattle.std.proofs.lemmas.Bool.{true≢false}
use Rattle.bl_cut_proof.proofs.ProveLemmas.{shape_from}
use Rattle.bl_cut_proof.proofs.prove.sized_rows.Goals as goal

pub returns-then-not-has_shape-clause-err : goal.returns-then-not-has_shape-clause-err
returns-then-not-has_shape-clause-err c =
    λ h. true≢false (sym (c.has_shape.ensures.1
    (shape_from c.args.model.now c.args.area.now c.args.earlier.now c.args.parts.now h.0 h.1))
    ∙ c.if-not-has_shape.true)
