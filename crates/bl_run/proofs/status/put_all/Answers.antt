use Rattle.std.proofs.Common.{ℕ, List, Bor, arith, refl}
use Rattle.std.proofs.lemmas.Result.{err_from_is_err_and}
use Rattle.bl_run.proofs.StatusLemmas.{stopped_at}
use Rattle.bl_run.proofs.status.put_all.Goals as goal

pub returns-in_err-put : goal.returns-in_err-put
returns-in_err-put g c =
    let p = err_from_is_err_and c.from_residual.result c.from_residual.ensures.1 in
    rw p.1
    (stopped_at (λ (piece : Bor (List ℕ)). piece.now) c.args.pieces.now c.loop-piece.piece-index _ _
    (g.E.Sink.state c.args.err.now) (g.E.Sink.state c.loop-piece.err) (g.E.Sink.state c.put.new.self)
    (omega arith) refl c.loop-piece.invariant.put c.loop-piece.invariant.unfaulted c.in_err-put.ensures.err
    c.in_err-put.ensures.fault)
