use Rattle.bl_frac.proofs.Rationals.{quotient_of-gives, quotient_of-fails}
use Rattle.bl_frac.proofs.laws.quotient_law.Goals as goal

pub returns : goal.returns
returns c = record { gives = quotient_of-gives; fails = quotient_of-fails }
