use Rattle.std.proofs.Common.{◌∙◌, ◌<◌, ◌^◌, ap, arith, length, map}
use Rattle.std.proofs.lemmas.Option.{MatchOption-at_none, MatchOption-at_some}
use Rattle.bl_check_terms.specs.Values.{tight_of}
use Rattle.bl_check_cuts.proofs.RowLemmas.{rows_fit}
use Rattle.bl_check_cuts.proofs.SumLemmas.{adds_up, too_large}
use Rattle.bl_check_cuts.proofs.sums.add_up.Goals as goal

pub returns-in_default : goal.returns-in_default
returns-in_default c = λ sized. MatchOption-at_none _ _ c.in_default.is c.in_ok-rows.ensures sized.there

pub lowered_sum-requires-clause-rows : goal.lowered_sum-requires-clause-rows
lowered_sum-requires-clause-rows c =
    let p = c.args.model.now in
    let rows = MatchOption-at_some _ _ c.in-Some.rows c.in-Some.is c.in_ok-rows.ensures in
    rows_fit p c.args.area.now c.args.earlier.now (map tight_of c.args.items.now) (length c.lo-columns.result.now)
    c.deref.result.now c.lo-columns.ensures.model c.lo-sides.ensures.limits c.requires.within.columns
    c.requires.earlier rows.1 (ap length c.lo-columns.ensures.lo) (c.deref.ensures.value ∙ rows.0)

pub returns-in-None : goal.returns-in-None
returns-in-None c =
    let p = c.args.model.now in
    let rows = MatchOption-at_some _ _ c.in-Some.rows c.in-Some.is c.in_ok-rows.ensures in
    too_large p c.args.area.now c.args.earlier.now (map tight_of c.args.items.now) (length c.lo-columns.result.now)
    c.deref.result.now (ap length c.lo-columns.ensures.lo) (c.deref.ensures.value ∙ rows.0)
    (MatchOption-at_none _ _ c.in-None.is c.in_ok-row.ensures)

pub returns-in-Some-2 : goal.returns-in-Some-2
returns-in-Some-2 c =
    let p = c.args.model.now in
    let rows = MatchOption-at_some _ _ c.in-Some.rows c.in-Some.is c.in_ok-rows.ensures in
    let few : length c.in-Some.rows.items < 2 ^ 32 = omega (arith, c.in-Some.rows.ok.0) in
    adds_up p c.args.area.now c.args.earlier.now (map tight_of c.args.items.now) (length c.lo-columns.result.now)
    c.in-Some.rows.items c.deref.result.now c.in-Some-2.row (ap length c.lo-columns.ensures.lo) rows.0 few rows.1
    c.deref.ensures.value (MatchOption-at_some _ _ c.in-Some-2.row c.in-Some-2.is c.in_ok-row.ensures)
