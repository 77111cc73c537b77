use Rattle.std.proofs.Common.{sym, ◌∙◌, ap, length, Option, ℕ}
use Rattle.std.specs.Option.{unwrap_or}
use Rattle.bl_text.proofs.Cuts.{fields_of-split, fields_of-uncut, split_field-shorter}
use Rattle.bl_text.proofs.fields.split_field.Goals as goal

pub returns-in_err-start-clause-first : goal.returns-in_err-start-clause-first
returns-in_err-start-clause-first c =
    rw c.from_residual.ensures (fields_of-uncut c.args.line.now (sym c.in_err-start.ensures))

pub returns-clause-first : goal.returns-clause-first
returns-clause-first c =
    let tail = c.split_at.result.1.now in
    let end = c.unwrap_or-end.ensures ∙ ap (λ (o : Option ℕ). unwrap_or o (length tail)) c.first_blank.ensures in
    fields_of-split c.args.line.now tail _ _ _ _
    (sym c.in_ok-start.ensures) c.split_at.ensures.back end c.split_at-2.ensures.front c.split_at-2.ensures.back

pub returns-clause-shorter : goal.returns-clause-shorter
returns-clause-shorter c =
    let tail = c.split_at.result.1.now in
    let end = c.unwrap_or-end.ensures ∙ ap (λ (o : Option ℕ). unwrap_or o (length tail)) c.first_blank.ensures in
    split_field-shorter c.args.line.now tail _ _ _
    (sym c.in_ok-start.ensures) c.split_at.ensures.back end c.split_at-2.ensures.back
