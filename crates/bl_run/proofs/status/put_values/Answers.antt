use Rattle.std.proofs.Common.{◌++◌, codes, arith, refl, rules}
use Rattle.std.specs.Prelude.{ℤ, pos, FitsSigned, slice_index_or}
use Rattle.std.specs.Int.{w64}
use Rattle.std.specs.Fmt.{signed_decimal}
use Rattle.std.proofs.lemmas.Int.{to_z-of_z}
use Rattle.std.proofs.lemmas.Result.{err_from_is_err_and}
use Rattle.bl_run.proofs.StatusLemmas.{stopped_at}
use Rattle.bl_run.proofs.status.put_values.Goals as goal

pub returns-in_err-put_value : goal.returns-in_err-put_value
returns-in_err-put_value g c =
    let p = err_from_is_err_and c.from_residual.result c.from_residual.ensures.1 in
    let value = slice_index_or c.args.values.now c.loop-value.value-index (pos 0) in
    let fits : FitsSigned w64 value = search rules in
    let put = rw (to_z-of_z w64 value fits) at c.in_err-put_value.ensures in
    rw p.1
    (stopped_at (λ (z : ℤ). codes " " ++ signed_decimal z) c.args.values.now c.loop-value.value-index (pos 0) value
    (g.E.Sink.state c.args.err.now) (g.E.Sink.state c.loop-value.err) (g.E.Sink.state c.put_value.new.err)
    (omega arith) refl c.loop-value.invariant.put c.loop-value.invariant.unfaulted put.0 put.1)
