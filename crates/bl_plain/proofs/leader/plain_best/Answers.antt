use Rattle.std.proofs.Common.{◌≡◌, ◌∙◌, rules}
use Rattle.bl_plain.proofs.AnswerLemmas.{answer_found}
use Rattle.bl_plain.proofs.leader.plain_best.Goals as goal

pub returns : goal.returns
returns c =
    let copied : c.in_ok-z.z.items ≡ c.lo.result.now = search rules in
    let z : c.deref_mut.result.now ≡ c.args.model.now.lo = c.deref_mut.ensures.value ∙ copied ∙ c.lo.ensures.lo in
    rw c.into_optimum.ensures
    (answer_found c.args.model.now c.in_ok-columns.columns.items c.in_ok-to_vec.field-0.items c.try_leaders.new.best
    c.lo.ensures.model c.in_ok-columns.ensures.below c.in_ok-columns.ensures.all
    (rw (z, c.deref.ensures.value) at c.try_leaders.ensures.best))
