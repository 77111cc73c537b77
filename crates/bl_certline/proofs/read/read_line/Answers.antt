use Rattle.std.proofs.Common.{subst}
use Rattle.bl_certline.specs.Fields.{Finds}
use Rattle.bl_certline.specs.Lines.{IsSpelled}
use Rattle.bl_certline.proofs.LineReading.{finds_canonical}
use Rattle.bl_certline.proofs.read.read_line.Goals as goal

pub returns : goal.returns
returns c =
    let spelled = subst (Finds (IsSpelled c.args.bytes.now)) c.in-Some.is c.in_ok-line.ensures in
    finds_canonical c.args.bytes.now c.in-Some.line c.pairs_rise.result c.then_some.result spelled c.pairs_rise.ensures
    c.then_some.ensures
