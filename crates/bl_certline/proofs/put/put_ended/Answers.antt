use Rattle.std.proofs.Common.{rules, sym, append_assoc}
use Rattle.std.proofs.lemmas.Result.{IfOk-equal}
use Rattle.bl_certline.proofs.Spelling.{line_text-spelling}
use Rattle.bl_certline.proofs.put.put_ended.Goals as goal

pub returns-clause-ok : goal.returns-clause-ok
returns-clause-ok c =
    let spelled = line_text-spelling c.args.line.now in
    rw (sym spelled) (search (rules, IfOk-equal, append_assoc))
