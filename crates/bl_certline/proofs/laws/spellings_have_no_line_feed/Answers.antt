use Rattle.bl_certline.proofs.LineWords.{line-spelling}
use Rattle.bl_certline.proofs.laws.spellings_have_no_line_feed.Goals as goal

pub returns : goal.returns
returns c = line-spelling
