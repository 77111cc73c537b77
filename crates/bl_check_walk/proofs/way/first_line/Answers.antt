use Rattle.std.proofs.Common.{subst, take}
use Rattle.bl_certline.specs.Fields.{Finds}
use Rattle.bl_certline.specs.Lines.{IsSpelled}
use Rattle.bl_check_walk.proofs.FirstLines.{no_spelled, no_feed}
use Rattle.bl_check_walk.proofs.way.first_line.Goals as goal

pub returns-in_default : goal.returns-in_default
returns-in_default c = no_feed c.args.bytes.now c.in_default.ensures

pub returns-in-None : goal.returns-in-None
returns-in-None c =
    let front = take c.in-Some.end c.args.bytes.now in
    no_spelled c.args.bytes.now c.in-Some.end c.in-Some.ensures
    (subst (Finds (IsSpelled front)) c.in-None.is c.in_ok-line.ensures)
