use Rattle.std.proofs.Common.{◌∙◌, ap, map}
use Rattle.std.specs.Arc.{arc_value}
use Rattle.std.proofs.lemmas.Result.{err_from_is_err_and}
use Rattle.bl_cut_terms.specs.Adopting.{last_place}
use Rattle.bl_cut_proof.proofs.CodeLemmas.{used_over, used_none, size_fault}
use Rattle.bl_cut_proof.proofs.steps.adopt_used.Goals as goal

pub returns-clause-ok : goal.returns-clause-ok
returns-clause-ok c =
    λ ps. used_over (map arc_value c.args.steps.now.items) (map arc_value c.adopt_steps.new.steps.items)
    (map arc_value c.steps.result.now) c.args.cut.now c.in_ok-places.places.items ps c.last_place.result
    c.steps.ensures.value c.in_ok-places.ensures.ok (c.last_place.ensures ∙ ap last_place c.deref.ensures.value)

pub returns-in_err-places-clause-err : goal.returns-in_err-places-clause-err
returns-in_err-places-clause-err c =
    let p = err_from_is_err_and c.from_residual.result c.from_residual.ensures.1 in
    rw (p.1, p.2) (size_fault c.in_err-places.field-0.0
    (λ none ps. used_none (map arc_value c.args.steps.now.items) (map arc_value c.steps.result.now) c.args.cut.now ps
    c.steps.ensures.value none) c.in_err-places.ensures.err)
