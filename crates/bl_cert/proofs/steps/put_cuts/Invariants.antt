use Rattle.std.proofs.Common.{◌≡◌, ◌++◌, take, map}
use Rattle.std.specs.Prelude.{All}
use Rattle.std.specs.List.{flat_map}
use Rattle.std.specs.Arc.{arc_value}
use Rattle.bl_certtext.specs.Texts.{text_of}
use Rattle.bl_check_terms.specs.Writing.{cut_lines}
use Rattle.bl_cert.specs.Pieces.{HasFewTight}
use Rattle.bl_cert.proofs.steps.put_cuts.Given as goal

abbrev pub invariant-loop-step : goal.invariant-loop-step
invariant-loop-step l = record {
  text : l.text.items ≡ l.fn.text.items ++ text_of (flat_map cut_lines (map arc_value (take l.step-index l.steps)));
  few : All HasFewTight (map arc_value (take l.step-index l.steps));
}
