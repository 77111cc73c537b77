use Rattle.std.proofs.lemmas.Result.{err_from_is_err_and}
use Rattle.bl_run.proofs.CertLemmas.{written_part}
use Rattle.bl_run.proofs.cert.write_file.Goals as goal

pub returns-in_err-finish-clause-err : goal.returns-in_err-finish-clause-err
returns-in_err-finish-clause-err g c =
    let p = err_from_is_err_and c.from_residual-in_err-finish.result c.from_residual-in_err-finish.ensures.1 in
    rw (p.1, c.in_err-finish.ensures.files)
    (written_part c.args.name.now c.args.text.now _ _ _ _ c.in_ok-begin.ensures.chosen c.in_ok-begin.ensures.ok
    c.in_ok-append.ensures.ok)
