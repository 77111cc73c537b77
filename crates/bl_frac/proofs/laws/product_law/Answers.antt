use Rattle.bl_frac.proofs.Rationals.{product_of-gives, product_of-fails}
use Rattle.bl_frac.proofs.laws.product_law.Goals as goal

pub returns : goal.returns
returns c = record { gives = product_of-gives; fails = product_of-fails }
