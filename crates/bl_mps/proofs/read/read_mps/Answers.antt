use Rattle.std.proofs.Math.Facts.{to_z-of_z}
use Rattle.bl_mps.proofs.OneModel.{given_exact}
use Rattle.bl_mps.proofs.read.read_mps.Goals as goal

pub returns-clause-exact : goal.returns-clause-exact
returns-clause-exact c =
    given_exact c.args.default_upper c.args.bytes.now c.read_mps.result
    (rw (to_z-of_z c.ranges.default_upper) at c.read_mps.ensures.exact)
