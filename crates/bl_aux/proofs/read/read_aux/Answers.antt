use Rattle.std.proofs.Common.{rules}
use Rattle.bl_aux.specs.Given.{sizes_of}
use Rattle.bl_aux.proofs.GoodLines.{says_followers}
use Rattle.bl_aux.proofs.read.read_aux.Goals as goal

pub returns-in-Some-clause-fits : goal.returns-in-Some-clause-fits
returns-in-Some-clause-fits c =
    says_followers (sizes_of c.args.columns c.args.rows) c.args.bytes.now c.in-Some.aux (search rules)
