use Rattle.bl_frac.proofs.Rationals.{difference_of-gives, difference_of-fails}
use Rattle.bl_frac.proofs.laws.difference_law.Goals as goal

pub returns : goal.returns
returns c = record { gives = difference_of-gives; fails = difference_of-fails }
