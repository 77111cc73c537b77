use Rattle.std.proofs.Common.{subst, sym}
use Rattle.bl_check.proofs.CutLines.{IsUnitReady, UnitTest, unit_line, unit_ready}
use Rattle.bl_check.proofs.checker.Checker.unit.Goals as goal

pub unit-requires-clause-some : goal.unit-requires-clause-some
unit-requires-clause-some c =
    (unit_ready c.args.model.now c.args.self.now c.args.pairs c.lo-columns.ensures.model c.requires.asked).some

pub unit-requires-clause-summed : goal.unit-requires-clause-summed
unit-requires-clause-summed c =
    (unit_ready c.args.model.now c.args.self.now c.args.pairs c.lo-columns.ensures.model c.requires.asked).summed

pub unit-requires-clause-column : goal.unit-requires-clause-column
unit-requires-clause-column c =
    (unit_ready c.args.model.now c.args.self.now c.args.pairs c.lo-columns.ensures.model c.requires.asked).column

pub unit-requires-clause-places : goal.unit-requires-clause-places
unit-requires-clause-places c =
    let ready = unit_ready c.args.model.now c.args.self.now c.args.pairs c.lo-columns.ensures.model c.requires.asked in
    (subst (IsUnitReady c.args.model.now c.args.self.now.said.cuts) (sym c.as_slice.ensures) ready).places

pub unit-requires-clause-unit : goal.unit-requires-clause-unit
unit-requires-clause-unit c =
    let ready = unit_ready c.args.model.now c.args.self.now c.args.pairs c.lo-columns.ensures.model c.requires.asked in
    (subst (IsUnitReady c.args.model.now c.args.self.now.said.cuts) (sym c.as_slice.ensures) ready).unit

pub returns : goal.returns
returns c =
    let p = c.args.model.now in
    let old = c.args.self.now in
    let kept = c.in_ok-kept.kept in
    unit_line p old c.unit.new.held c.args.pairs kept c.unless.result c.unless.ensures
    (subst (UnitTest p old.said.cuts c.unit.new.held kept) c.as_slice.ensures c.in_ok-kept.ensures)
