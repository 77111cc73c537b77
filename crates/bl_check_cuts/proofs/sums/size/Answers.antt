use Rattle.std.proofs.Common.{sym, ◌∙◌, subst, map}
use Rattle.std.proofs.lemmas.Option.{MatchOption-at_none, MatchOption-at_some}
use Rattle.bl_terms.specs.Points.{IsWithinArea}
use Rattle.bl_terms.specs.Programs.{root}
use Rattle.bl_cut_terms.specs.NoGoods.{LocalRow}
use Rattle.bl_check_terms.specs.Rules.{IsSized}
use Rattle.bl_check_terms.specs.Values.{tight_of}
use Rattle.bl_check_cuts.specs.Sums.{AddsUp}
use Rattle.bl_check_cuts.proofs.SumLemmas.{earlier_rows, kept, last_within, not_kept}
use Rattle.bl_check_cuts.proofs.sums.size.Goals as goal

pub add_up-requires-clause-within : goal.add_up-requires-clause-within
add_up-requires-clause-within c =
    let p = c.args.model.now in
    let rows = c.args.held.now.cuts.items in
    subst (λ (r : LocalRow). IsWithinArea r.area (root p)) (sym c.last.view_is)
    (last_within p rows c.in-Some.earlier.now c.in-Some.last.now c.requires.begun
    (sym c.deref.ensures.value ∙ c.in-Some.ensures.cases.0))

pub add_up-requires-clause-earlier : goal.add_up-requires-clause-earlier
add_up-requires-clause-earlier c =
    let rows = c.args.held.now.cuts.items in
    earlier_rows c.args.model.now rows c.in-Some.earlier.now c.in-Some.last.now c.requires.begun
    (sym c.deref.ensures.value ∙ c.in-Some.ensures.cases.0)

pub returns-in_default-2 : goal.returns-in_default-2
returns-in_default-2 c = λ cuts h.
    let p = c.args.model.now in
    let earlier = c.in-Some.earlier.now in
    let tight = map tight_of c.args.items.now in
    not_kept p c.args.held.now cuts earlier c.in-Some.last.now h
    (sym c.deref.ensures.value ∙ c.in-Some.ensures.cases.0) c.requires.begun.some _ tight
    (subst (λ (r : LocalRow). ¬ IsSized p r.area earlier tight) c.last.view_is
    (MatchOption-at_none _ _ c.in_default-2.is c.in_ok-summed.ensures))

pub returns : goal.returns
returns c = λ cuts h.
    let p = c.args.model.now in
    let earlier = c.in-Some.earlier.now in
    let tight = map tight_of c.args.items.now in
    let summed = c.in-Some-2.summed in
    kept p c.args.held.now cuts earlier c.in-Some.last.now h
    (sym c.deref.ensures.value ∙ c.in-Some.ensures.cases.0) c.requires.begun.some _ tight
    summed.rows.items summed.row
    (subst (λ (r : LocalRow). AddsUp p r.area earlier tight summed.rows.items summed.row) c.last.view_is
    (MatchOption-at_some _ _ summed c.in-Some-2.is c.in_ok-summed.ensures))
    c.keep.ensures.cuts c.keep.ensures.tight c.keep.ensures.den c.keep.ensures.units c.keep.ensures.point
