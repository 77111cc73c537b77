use Rattle.std.proofs.lemmas.Result.{IfOk-weaker}
use Rattle.bl_certline.proofs.LineReading.{finds_spelled}
use Rattle.bl_certline.proofs.read.read_spelled.Goals as goal

pub returns : goal.returns
returns c = IfOk-weaker c.line_of.result _ _ (finds_spelled c.args.bytes.now) c.line_of.ensures
