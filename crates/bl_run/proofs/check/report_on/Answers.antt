use Rattle.std.proofs.Common.{◌∙◌, ap, sym, length, List}
use Rattle.bl_raw.specs.declared.raw.RawColumn.{RawColumn}
use Rattle.bl_terms.specs.Programs.{columns}
use Rattle.bl_run.proofs.SolveLemmas.{program-columns}
use Rattle.bl_run.proofs.check.report_on.Goals as goal

pub accepted_report-requires-clause-columns : goal.accepted_report-requires-clause-columns
accepted_report-requires-clause-columns c =
    ap (λ (cs : List RawColumn). length cs) c.as_slice-columns.ensures
    ∙ sym (ap columns c.in_ok-model.ensures ∙ program-columns _ _)
