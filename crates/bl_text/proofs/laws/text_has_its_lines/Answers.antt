use Rattle.bl_text.proofs.LineLaws.{has_its_lines}
use Rattle.bl_text.proofs.laws.text_has_its_lines.Goals as goal

pub returns : goal.returns
returns c = has_its_lines
