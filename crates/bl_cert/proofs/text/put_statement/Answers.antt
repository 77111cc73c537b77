use Rattle.std.proofs.Common.{sym, ◌∙◌, subst}
use Rattle.bl_terms.specs.Programs.{Program, InBox}
use Rattle.bl_cert.proofs.Certificates.{best-inside}
use Rattle.bl_cert.proofs.text.put_statement.Goals as goal

pub value_of-value-requires : goal.value_of-value-requires
value_of-value-requires c =
    let l = c.args.book.now.ledger in
    subst (λ (p : Program). InBox p c.point-point.result.now) (sym (c.deref.ensures ∙ c.model.ensures.value))
    (subst (InBox l.book.program) (sym c.point-point.ensures.value)
    (best-inside l c.in-Some.best.now c.model.ensures.kept (sym c.in-Some.ensures)))
