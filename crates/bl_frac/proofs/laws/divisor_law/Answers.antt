use Rattle.bl_frac.proofs.Multiples.{divisors, multiples}
use Rattle.bl_frac.proofs.laws.divisor_law.Goals as goal

pub returns : goal.returns
returns c = record { divisor = divisors; multiple = multiples }
