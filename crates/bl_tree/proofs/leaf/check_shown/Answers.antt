use Rattle.std.proofs.Common.{subst}
use Rattle.std.specs.Prelude.{option_map, OnOk, Option}
use Rattle.std.specs.Arc.{arc_value}
use Rattle.std.specs.Option.{option_copied}
use Rattle.bl_fproof.specs.Entries.{Admitted}
use Rattle.bl_leaf_terms.specs.Leaves.{IsBounded}
use Rattle.bl_tree.proofs.Leaves.{bounded_leaf, silent_leaf}
use Rattle.bl_tree.proofs.leaf.check_shown.Goals as goal

pub returns-in-Bounded-clause-ok : goal.returns-in-Bounded-clause-ok
returns-in-Bounded-clause-ok c =
    let p = c.args.model.now in
    let a = c.args.area.now in
    let best = option_map arc_value (option_copied c.args.best) in
    bounded_leaf p a best c.cutoff_by-cutoff.result c.in-Bounded.proof c.in-Bounded.cuts c.in-Bounded.value_row
    c.args.leaf.now c.check_bound.result c.requires.within c.in-Bounded.is c.requires.link
    c.cutoff_by-cutoff.ensures.incumbent c.cutoff_by-cutoff.ensures.value
    (subst (λ (row : Option Admitted). OnOk c.check_bound.result
    (IsBounded p a c.cutoff_by-cutoff.result c.in-Bounded.proof c.in-Bounded.cuts row)) c.as_ref.ensures.value
    c.check_bound.ensures.ok)
    c.check_bound.ensures.model c.check_bound.ensures.area

pub returns-in-NoAnswer-clause-ok : goal.returns-in-NoAnswer-clause-ok
returns-in-NoAnswer-clause-ok c =
    silent_leaf c.args.model.now c.args.area.now (option_map arc_value (option_copied c.args.best)) c.in-NoAnswer.kept
    c.args.leaf.now c.check_no_answer.result c.check_no_answer.ensures.admitted c.requires.area c.requires.within
    c.in-NoAnswer.is c.requires.link c.cutoff_by-cutoff.ensures.incumbent c.check_no_answer.ensures.ok
