use Rattle.std.proofs.lemmas.Result.{err_from_is_err_and}
use Rattle.bl_words.specs.declared.commands.Command.TheVariants.{Check}
use Rattle.bl_run.proofs.StepLemmas.{texts_stop, cert_stops, checking_stops, check_unprinted, check_printed}
use Rattle.bl_run.proofs.check.check.Goals as goal

pub returns-in_err-texts : goal.returns-in_err-texts
returns-in_err-texts g c =
    let p = err_from_is_err_and c.from_residual.result c.from_residual.ensures.1 in
    rw (p.1, p.2)
    (texts_stop Check c.args.words.now (g.F.Shelf.state c.args.files.now) (g.F.Shelf.state c.read_texts.new.files)
    (g.O.Sink.state c.args.out.now) c.in_err-texts.field-0.0 c.in_err-texts.ensures.failed
    c.in_err-texts.ensures.counts)

pub returns-in_err-cert : goal.returns-in_err-cert
returns-in_err-cert g c =
    let p = err_from_is_err_and c.from_residual-in_err-cert.result c.from_residual-in_err-cert.ensures.1 in
    rw (p.1, p.2)
    (cert_stops c.args.words.now c.in_ok-texts.texts (g.F.Shelf.state c.args.files.now)
    (g.F.Shelf.state c.read_texts.new.files) c.in_ok-texts.ensures.read c.in_ok-texts.ensures.counts
    c.cert_file-file.result.now c.cert_file-file.ensures (g.F.Shelf.state c.read_whole.new.files)
    (g.O.Sink.state c.args.out.now) c.in_err-cert.field-0.0 c.in_err-cert.ensures.failed c.in_err-cert.ensures.counts)

pub returns-in_err-report : goal.returns-in_err-report
returns-in_err-report g c =
    let p = err_from_is_err_and c.from_residual-in_err-report.result c.from_residual-in_err-report.ensures.1 in
    rw (p.1, p.2)
    (checking_stops c.args.words.now c.in_ok-texts.texts (g.F.Shelf.state c.args.files.now)
    (g.F.Shelf.state c.read_texts.new.files) c.in_ok-texts.ensures.read c.in_ok-texts.ensures.counts
    c.cert_file-file.result.now c.cert_file-file.ensures (g.F.Shelf.state c.read_whole.new.files)
    c.in_ok-cert.cert.items c.in_ok-cert.ensures.read c.in_ok-cert.ensures.counts (g.O.Sink.state c.args.out.now)
    c.in_err-report.field-0.0 (rw c.deref.ensures.value at c.in_err-report.ensures.failed))

pub returns-in_err-put : goal.returns-in_err-put
returns-in_err-put g c =
    let p = err_from_is_err_and c.from_residual-in_err-put.result c.from_residual-in_err-put.ensures.1 in
    rw (p.1, p.2)
    (check_unprinted c.args.words.now c.in_ok-texts.texts (g.F.Shelf.state c.args.files.now)
    (g.F.Shelf.state c.read_texts.new.files) c.in_ok-texts.ensures.read c.in_ok-texts.ensures.counts
    c.cert_file-file.result.now c.cert_file-file.ensures (g.F.Shelf.state c.read_whole.new.files)
    c.in_ok-cert.cert.items c.in_ok-cert.ensures.read c.in_ok-cert.ensures.counts c.in_ok-report.report.items
    (rw c.deref.ensures.value at c.in_ok-report.ensures.accepted) (g.O.Sink.state c.args.out.now)
    (g.O.Sink.state c.put.new.self) (rw c.deref-2.ensures.value at c.in_err-put.ensures.err)
    c.in_err-put.ensures.fault)

pub returns : goal.returns
returns g c =
    check_printed c.args.words.now c.in_ok-texts.texts (g.F.Shelf.state c.args.files.now)
    (g.F.Shelf.state c.read_texts.new.files) c.in_ok-texts.ensures.read c.in_ok-texts.ensures.counts
    c.cert_file-file.result.now c.cert_file-file.ensures (g.F.Shelf.state c.read_whole.new.files)
    c.in_ok-cert.cert.items c.in_ok-cert.ensures.read c.in_ok-cert.ensures.counts c.in_ok-report.report.items
    (rw c.deref.ensures.value at c.in_ok-report.ensures.accepted) (g.O.Sink.state c.args.out.now)
    (g.O.Sink.state c.put.new.self) (rw c.deref-2.ensures.value at c.in_ok-put.ensures.ok)
    c.in_ok-put.ensures.fault
