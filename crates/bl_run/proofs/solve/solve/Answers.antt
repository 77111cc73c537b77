use Rattle.std.proofs.lemmas.Result.{err_from_is_err_and}
use Rattle.bl_words.specs.declared.commands.Command.TheVariants.{Solve}
use Rattle.bl_run.proofs.StepLemmas.{texts_stop, solving_stops, cert_cut_off, solve_unprinted, solve_printed}
use Rattle.bl_run.proofs.solve.solve.Goals as goal

pub returns-in_err-texts : goal.returns-in_err-texts
returns-in_err-texts g c =
    let p = err_from_is_err_and c.from_residual.result c.from_residual.ensures.1 in
    rw (p.1, p.2)
    (texts_stop Solve c.args.words.now (g.F.Shelf.state c.args.files.now) (g.F.Shelf.state c.read_texts.new.files)
    (g.O.Sink.state c.args.out.now) c.in_err-texts.field-0.0 c.in_err-texts.ensures.failed
    c.in_err-texts.ensures.counts)

pub returns-in_err-solved : goal.returns-in_err-solved
returns-in_err-solved g c =
    let p = err_from_is_err_and c.from_residual-in_err-solved.result c.from_residual-in_err-solved.ensures.1 in
    rw (p.1, p.2)
    (solving_stops c.args.words.now c.in_ok-texts.texts (g.F.Shelf.state c.args.files.now)
    (g.F.Shelf.state c.read_texts.new.files) c.in_ok-texts.ensures.read c.in_ok-texts.ensures.counts
    (g.O.Sink.state c.args.out.now) c.in_err-solved.field-0.0 c.in_err-solved.ensures.failed)

pub returns-in_err-write_asked : goal.returns-in_err-write_asked
returns-in_err-write_asked g c =
    let told = c.in_ok-solved.ensures.report in
    let p = err_from_is_err_and c.from_residual-in_err-write_asked.result
    c.from_residual-in_err-write_asked.ensures.1 in
    rw (p.1, p.2)
    (cert_cut_off c.args.words.now c.in_ok-texts.texts (g.F.Shelf.state c.args.files.now)
    (g.F.Shelf.state c.read_texts.new.files) c.in_ok-texts.ensures.read c.in_ok-texts.ensures.counts
    (g.F.Shelf.state c.write_asked.new.files) c.in_ok-solved.solved.report.answer
    c.in_ok-solved.solved.report.text.items c.in_ok-solved.solved.cert.items told (g.O.Sink.state c.args.out.now)
    c.in_err-write_asked.field-0.0 (rw c.deref.ensures.value at c.in_err-write_asked.ensures))

pub returns-in_err-put : goal.returns-in_err-put
returns-in_err-put g c =
    let told = c.in_ok-solved.ensures.report in
    let p = err_from_is_err_and c.from_residual-in_err-put.result c.from_residual-in_err-put.ensures.1 in
    rw (p.1, p.2)
    (solve_unprinted c.args.words.now c.in_ok-texts.texts (g.F.Shelf.state c.args.files.now)
    (g.F.Shelf.state c.read_texts.new.files) c.in_ok-texts.ensures.read c.in_ok-texts.ensures.counts
    (g.F.Shelf.state c.write_asked.new.files) c.in_ok-solved.solved.report.answer
    c.in_ok-solved.solved.report.text.items c.in_ok-solved.solved.cert.items told
    (rw c.deref.ensures.value at c.in_ok-write_asked.ensures) (g.O.Sink.state c.args.out.now)
    (g.O.Sink.state c.put.new.self) (rw c.deref-2.ensures.value at c.in_err-put.ensures.err)
    c.in_err-put.ensures.fault)

pub returns : goal.returns
returns g c =
    let told = c.in_ok-solved.ensures.report in
    solve_printed c.args.words.now c.in_ok-texts.texts (g.F.Shelf.state c.args.files.now)
    (g.F.Shelf.state c.read_texts.new.files) c.in_ok-texts.ensures.read c.in_ok-texts.ensures.counts
    (g.F.Shelf.state c.write_asked.new.files) c.in_ok-solved.solved.report.answer
    c.in_ok-solved.solved.report.text.items c.in_ok-solved.solved.cert.items told
    (rw c.deref.ensures.value at c.in_ok-write_asked.ensures) (g.O.Sink.state c.args.out.now)
    (g.O.Sink.state c.put.new.self) (rw c.deref-2.ensures.value at c.in_ok-put.ensures.ok)
    c.in_ok-put.ensures.fault
