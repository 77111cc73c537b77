use Rattle.std.proofs.Common.{◌++◌, codes}
use Rattle.std.proofs.lemmas.Result.{err_from_is_err_and}
use Rattle.bl_run.specs.Steps.{place_of, rule_line}
use Rattle.bl_run.proofs.StatusLemmas.{cut_short, puts_then, fault_pieces}
use Rattle.bl_run.proofs.status.tell_fault.Goals as goal

pub returns-in_err-put_all : goal.returns-in_err-put_all
returns-in_err-put_all g c =
    let head = codes "mibs: " ++ (c.args.file.now ++ codes ": ") in
    let p = err_from_is_err_and c.from_residual.result c.from_residual.ensures.1 in
    let put = rw c.as_bytes.ensures.value at c.in_err-put_all.ensures in
    rw (p.1, ← fault_pieces c.args.file.now c.args.fault.rule.now (place_of c.args.fault.place)) (
      cut_short head (rule_line c.args.fault) (g.E.Sink.state c.args.err.now) (g.E.Sink.state c.put_all.new.err) put.0,
      put.1,
    )

pub returns : goal.returns
returns g c =
    let head = codes "mibs: " ++ (c.args.file.now ++ codes ": ") in
    let put = rw c.as_bytes.ensures.value at c.in_ok-put_all.ensures in
    rw (← fault_pieces c.args.file.now c.args.fault.rule.now (place_of c.args.fault.place))
    (puts_then c.put_rule.result head (rule_line c.args.fault) (g.E.Sink.state c.args.err.now)
    (g.E.Sink.state c.put_all.new.err) (g.E.Sink.state c.put_rule.new.err) put.0 put.1 c.put_rule.ensures)
