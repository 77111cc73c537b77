use Rattle.std.proofs.Common.{◌≡◌, ◌++◌, take, map}
use Rattle.bl_fproof.specs.Steps.{nodes_of}
use Rattle.bl_certtext.specs.Texts.{text_of}
use Rattle.bl_check_terms.specs.Writing.{proof_line}
use Rattle.bl_cert.proofs.entries.put_steps.Given as goal

abbrev pub invariant-loop-step : goal.invariant-loop-step
invariant-loop-step l =
    l.text.items ≡ l.fn.text.items ++ text_of (map (proof_line l.model) (nodes_of (take l.step-index l.steps)))
