use Rattle.std.proofs.Common.{Err, sym, ap, subst, ◌∙◌}
use Rattle.bl_text.specs.Lines.{lines_of}
use Rattle.bl_aux.specs.Given.{sizes_of}
use Rattle.bl_aux.specs.Drafts.{Holding, Reads, after_lines}
use Rattle.bl_aux.proofs.FaultLaws.{held_after, refused_after}
use Rattle.bl_aux.proofs.read.read_lines.Goals as goal

pub returns-in-Ok-clause-held : goal.returns-in-Ok-clause-held
returns-in-Ok-clause-held c =
    held_after (sizes_of c.args.columns c.args.rows) c.args.text.now _
    (ap (λ (h : Holding). after_lines h 1 (lines_of c.args.text.now)) (sym c.none-draft.ensures) ∙ c.in-Ok.ensures)

pub returns-in-Err-clause-refused : goal.returns-in-Err-clause-refused
returns-in-Err-clause-refused c =
    refused_after (sizes_of c.args.columns c.args.rows) c.args.text.now c.enter_lines.new.draft c.in-Err.error
    c.requires
    (subst (λ (h : Holding). Reads (Err c.in-Err.error) c.enter_lines.new.draft
    (after_lines h 1 (lines_of c.args.text.now))) c.none-draft.ensures c.in-Err.ensures)
