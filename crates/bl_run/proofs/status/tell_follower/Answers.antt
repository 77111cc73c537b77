use Rattle.std.proofs.Common.{◌++◌, codes}
use Rattle.std.proofs.lemmas.Result.{err_from_is_err_and}
use Rattle.bl_run.specs.Steps.{follower_head, link_text}
use Rattle.bl_run.proofs.StatusLemmas.{cut_short, puts_then}
use Rattle.bl_run.proofs.status.tell_follower.Goals as goal

pub returns-in_err-put_head : goal.returns-in_err-put_head
returns-in_err-put_head g c =
    let p = err_from_is_err_and c.from_residual.result c.from_residual.ensures.1 in
    let put = c.in_err-put_head.ensures in
    rw p.1 (
      cut_short (follower_head c.args.budget c.args.made) (link_text c.args.link.now ++ codes "\n")
          (g.E.Sink.state c.args.err.now) (g.E.Sink.state c.put_head.new.err) put.0,
      put.1,
    )

pub returns : goal.returns
returns g c =
    let put = c.in_ok-put_head.ensures in
    puts_then c.put_link.result (follower_head c.args.budget c.args.made) (link_text c.args.link.now ++ codes "\n")
    (g.E.Sink.state c.args.err.now) (g.E.Sink.state c.put_head.new.err) (g.E.Sink.state c.put_link.new.err) put.0
    put.1 c.put_link.ensures
