use Rattle.std.proofs.Common.{◌≡◌, ◌+◌, ◌≤◌, length}
use Rattle.bl_text.specs.Lines.{lines_of}
use Rattle.bl_mps_read.specs.Reader.{IsTidy, no_state, text_read}
use Rattle.bl_mps_read.specs.ReaderViews.{reader_view}
use Rattle.bl_mps_read.proofs.reader.read_lines.Given as goal

abbrev pub invariant-loop-line : goal.invariant-loop-line
invariant-loop-line l = record {
  tidy : IsTidy (reader_view l.reader);
  number : l.number + length l.rest ≤ length l.text;
  read : text_read 0 no_state (lines_of l.text) ≡ text_read l.number (reader_view l.reader) (lines_of l.rest);
}

abbrev pub decreases-loop-line : goal.decreases-loop-line
decreases-loop-line l = length l.rest
