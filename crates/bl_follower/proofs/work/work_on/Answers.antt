use Rattle.std.proofs.Common.{subst}
use Rattle.bl_terms.specs.Bounds.{Proves, over}
use Rattle.bl_licence.specs.Why.{IsLicence}
use Rattle.bl_follower.specs.Search.{cutoff_of, IsWorked}
use Rattle.bl_follower.proofs.Responses.{part_high_within}
use Rattle.bl_follower.proofs.Progress.{more_by_shut, more_by_stuck}
use Rattle.bl_follower.proofs.work.work_on.Goals as goal

pub split_or_leave-requires-clause-small : goal.split_or_leave-requires-clause-small
split_or_leave-requires-clause-small c =
    part_high_within c.args.rows.now c.args.part c.requires.grown.parts.0

pub returns-in_default : goal.returns-in_default
returns-in_default c =
    more_by_shut c.args.rows.now c.args.budget c.args.best.now c.shut_point.new.best c.args.tree.now _ c.args.part
    c.in_ok-proof.proof c.requires c.in_ok-proof.ensures.best c.in_ok-proof.ensures.shut c.in_ok-shut.ensures

pub returns-in_ok-shut-in-Shut : goal.returns-in_ok-shut-in-Shut
returns-in_ok-shut-in-Shut c =
    let q = c.args.rows.now in
    let a = c.args.part in
    let u = cutoff_of c.relax_down.new.best in
    let proves : Proves (over q a) u c.in-Shut.proof =
    subst (λ x. IsWorked q a u x) c.in-Shut.is c.in_ok-proof-2.ensures.worked in
    more_by_shut q c.args.budget c.args.best.now c.relax_down.new.best c.args.tree.now _ a c.in-Shut.proof c.requires
    c.in_ok-proof-2.ensures.best proves c.in_ok-shut-in-Shut.ensures

pub returns-in_ok-split_or_leave-in-Stuck : goal.returns-in_ok-split_or_leave-in-Stuck
returns-in_ok-split_or_leave-in-Stuck c =
    let q = c.args.rows.now in
    let a = c.args.part in
    let u = cutoff_of c.relax_down.new.best in
    let licence : IsLicence (over q a) u c.in-Stuck.why =
    subst (λ x. IsWorked q a u x) c.in-Stuck.is c.in_ok-proof-2.ensures.worked in
    more_by_stuck q c.args.budget c.args.best.now c.relax_down.new.best c.args.tree.now _ a
    c.place_by-place.result.column c.place_by-place.result.at c.cutoff.result c.in-Stuck.why c.requires
    c.in_ok-proof-2.ensures.best c.place_by-place.ensures licence c.cutoff.ensures
    c.in_ok-split_or_leave-in-Stuck.ensures
