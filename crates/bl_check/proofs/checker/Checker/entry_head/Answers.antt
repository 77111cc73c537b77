use Rattle.std.proofs.Common.{None, subst, List}
use Rattle.std.specs.Prelude.{ℤ}
use Rattle.bl_check_terms.specs.Reading.{entry_of_link}
use Rattle.bl_check.specs.Keeping.{IsNoted, IsOpenAs}
use Rattle.bl_check.proofs.StatedLines.{entry_head_line}
use Rattle.bl_check.proofs.checker.Checker.entry_head.Goals as goal

pub returns : goal.returns
returns c =
    let p = c.args.model.now in
    let old = c.args.self.now in
    entry_head_line p old c.note.new.self c.in_ok-entry.entry c.args.link c.lo-columns.ensures.model
    (subst (λ (l : List ℤ). IsNoted old.said.answers c.note.new.self l None) c.as_slice-2.ensures c.in_ok-note.ensures)
    (subst (λ (l : List ℤ). IsOpenAs p c.in_ok-entry.entry (entry_of_link l)) c.as_slice.ensures c.in_ok-entry.ensures)
