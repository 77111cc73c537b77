use Rattle.std.proofs.Common.{ap, ◌∙◌}
use Rattle.bl_certline.specs.SplitWords.{is_empty}
use Rattle.bl_certline.proofs.SplitWords.{is_empty-left}
use Rattle.bl_certline.proofs.words.is_empty.Goals as goal

pub returns : goal.returns
returns c = is_empty-left c.words.inside.left c.is_none.result c.is_none.ensures ∙ ap is_empty c.words.view_is
