use Rattle.bl_frac.proofs.Rationals.{sum_of-gives, sum_of-fails}
use Rattle.bl_frac.proofs.laws.sum_law.Goals as goal

pub returns : goal.returns
returns c = record { gives = sum_of-gives; fails = sum_of-fails }
