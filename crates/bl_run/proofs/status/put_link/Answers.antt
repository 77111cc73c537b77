use Rattle.std.proofs.Common.{codes}
use Rattle.std.proofs.lemmas.Result.{err_from_is_err_and}
use Rattle.bl_run.specs.Steps.{link_text}
use Rattle.bl_run.proofs.StatusLemmas.{cut_short, puts_then}
use Rattle.bl_run.proofs.status.put_link.Goals as goal

pub returns-in_err-put_values : goal.returns-in_err-put_values
returns-in_err-put_values g c =
    let p = err_from_is_err_and c.from_residual.result c.from_residual.ensures.1 in
    let put = c.in_err-put_values.ensures in
    rw p.1 (
      cut_short (link_text c.args.link.now) (codes "\n") (g.E.Sink.state c.args.err.now)
          (g.E.Sink.state c.put_values.new.err) put.0,
      put.1,
    )

pub returns : goal.returns
returns g c =
    let put = c.in_ok-put_values.ensures in
    puts_then c.put_all.result (link_text c.args.link.now) (codes "\n") (g.E.Sink.state c.args.err.now)
    (g.E.Sink.state c.put_values.new.err) (g.E.Sink.state c.put_all.new.err) put.0 put.1 c.put_all.ensures
