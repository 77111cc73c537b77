use Rattle.std.proofs.Common.{◌≡◌, ◌++◌, take, map}
use Rattle.bl_certtext.specs.Texts.{text_of}
use Rattle.bl_check_terms.specs.Writing.{unit_line}
use Rattle.bl_cert.proofs.steps.put_units.Given as goal

abbrev pub invariant-loop-unit : goal.invariant-loop-unit
invariant-loop-unit l = l.text.items ≡ l.fn.text.items ++ text_of (map unit_line (take l.unit-index l.units))
