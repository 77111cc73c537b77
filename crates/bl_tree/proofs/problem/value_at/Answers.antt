use Rattle.std.proofs.Common.{subst, ℤ}
use Rattle.std.specs.Prelude.{MatchOption}
use Rattle.bl_fproof.specs.Entries.{Admitted}
use Rattle.bl_leaf_terms.specs.Nodes.{HasValue}
use Rattle.bl_tree.proofs.problem.value_at.Goals as goal

pub returns-in-Some-clause-value : goal.returns-in-Some-clause-value
returns-in-Some-clause-value c =
    let p = c.args.model.now in
    let a = c.args.area.now in
    rw (c.in-Some.is) (subst (λ (e : Admitted). MatchOption c.value_of.result ((v : ℤ) → ¬ HasValue p a e v)
    (HasValue p a e)) c.entry.ensures c.value_of.ensures.value)
