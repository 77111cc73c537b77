use Rattle.std.proofs.lemmas.Result.{err_from_is_err_and}
use Rattle.bl_words.specs.declared.commands.Command.TheVariants.{Show}
use Rattle.bl_run.proofs.StepLemmas.{texts_stop, memory_stops, show_unprinted, show_printed}
use Rattle.bl_run.proofs.show.show.Goals as goal

pub returns-in_err-texts : goal.returns-in_err-texts
returns-in_err-texts g c =
    let p = err_from_is_err_and c.from_residual.result c.from_residual.ensures.1 in
    rw (p.1, p.2)
    (texts_stop Show c.args.words.now (g.F.Shelf.state c.args.files.now) (g.F.Shelf.state c.read_texts.new.files)
    (g.O.Sink.state c.args.out.now) c.in_err-texts.field-0.0 c.in_err-texts.ensures.failed
    c.in_err-texts.ensures.counts)

pub returns-in_err-text : goal.returns-in_err-text
returns-in_err-text g c =
    let p = err_from_is_err_and c.from_residual-in_err-text.result c.from_residual-in_err-text.ensures.1 in
    rw (p.1, p.2)
    (memory_stops Show c.args.words.now c.in_ok-texts.texts (g.F.Shelf.state c.args.files.now)
    (g.F.Shelf.state c.read_texts.new.files) c.in_ok-texts.ensures.read c.in_ok-texts.ensures.counts
    (g.O.Sink.state c.args.out.now))

pub returns-in_err-put : goal.returns-in_err-put
returns-in_err-put g c =
    let p = err_from_is_err_and c.from_residual-in_err-put.result c.from_residual-in_err-put.ensures.1 in
    rw (p.1, p.2)
    (show_unprinted c.args.words.now c.in_ok-texts.texts (g.F.Shelf.state c.args.files.now)
    (g.F.Shelf.state c.read_texts.new.files) c.in_ok-texts.ensures.read c.in_ok-texts.ensures.counts
    (g.O.Sink.state c.args.out.now) (g.O.Sink.state c.put.new.self) c.in_ok-text.text.items c.in_ok-text.ensures
    (rw c.deref.ensures.value at c.in_err-put.ensures.err) c.in_err-put.ensures.fault)

pub returns : goal.returns
returns g c =
    show_printed c.args.words.now c.in_ok-texts.texts (g.F.Shelf.state c.args.files.now)
    (g.F.Shelf.state c.read_texts.new.files) c.in_ok-texts.ensures.read c.in_ok-texts.ensures.counts
    (g.O.Sink.state c.args.out.now) (g.O.Sink.state c.put.new.self) c.in_ok-text.text.items c.in_ok-text.ensures
    (rw c.deref.ensures.value at c.in_ok-put.ensures.ok) c.in_ok-put.ensures.fault
