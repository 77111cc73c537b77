use Rattle.bl_text.proofs.LineLaws.{is_its_lines}
use Rattle.bl_text.proofs.laws.text_is_its_lines.Goals as goal

pub returns : goal.returns
returns c = is_its_lines
