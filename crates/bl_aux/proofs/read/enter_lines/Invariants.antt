use Rattle.std.proofs.Common.{◌≡◌, ◌+◌, ◌≤◌, length}
use Rattle.bl_text.specs.Lines.{lines_of}
use Rattle.bl_aux.specs.Drafts.{after_lines}
use Rattle.bl_aux.proofs.read.enter_lines.Given as goal

abbrev pub invariant-loop-line : goal.invariant-loop-line
invariant-loop-line l = record {
  reads : after_lines l.initial.draft 1 (lines_of l.text) ≡ after_lines l.draft l.number l.line-iterator;
  room : l.number + length l.line-iterator ≤ 1 + length (lines_of l.text);
}
