use Rattle.std.proofs.Common.{◌∙◌, ap, sym, subst, length, List}
use Rattle.std.specs.Prelude.{IfOk, IfErr}
use Rattle.bl_terms.specs.Programs.{Program, columns}
use Rattle.bl_raw.specs.declared.raw.RawColumn.{RawColumn}
use Rattle.bl_words.specs.declared.commands.Command.TheVariants.{Solve}
use Rattle.bl_run.specs.declared.solve.Solved.{Solved}
use Rattle.bl_run.specs.Steps.{IsReport, FailsToSolve, asked_by}
use Rattle.bl_run.proofs.SolveLemmas.{program-columns}
use Rattle.bl_run.proofs.solve.solve_texts.Goals as goal

pub told_of-requires-clause-columns : goal.told_of-requires-clause-columns
told_of-requires-clause-columns c =
    ap (λ (cs : List RawColumn). length cs) c.as_slice.ensures
    ∙ sym (ap columns (c.in_ok-outcome.ensures.program ∙ c.in_ok-model.ensures) ∙ program-columns _ _)

pub returns-clause-report : goal.returns-clause-report
returns-clause-report c =
    let words = asked_by Solve c.args.words.now in
    let P : List RawColumn → Program → Type 0 =
    λ cs p. IfOk c.told_of.result
    (λ (s : Solved). IsReport cs p words s.report.answer s.report.text.items s.cert.items) in
    let own = c.in_ok-outcome.outcome.book.ledger.book.program in
    subst (λ (p : Program). P c.args.texts.now.mps.columns p) (c.in_ok-outcome.ensures.program ∙ c.in_ok-model.ensures)
    (subst (λ (cs : List RawColumn). P cs own) c.as_slice.ensures c.told_of.ensures.report)

pub returns-clause-failed : goal.returns-clause-failed
returns-clause-failed c =
    subst (λ (p : Program). IfErr c.told_of.result (FailsToSolve p (asked_by Solve c.args.words.now)))
    (c.in_ok-outcome.ensures.program ∙ c.in_ok-model.ensures) c.told_of.ensures.failed
