use Rattle.std.proofs.Common.{refl}
use Rattle.bl_simplex.specs.Gcd.{gcd, lcm}
use Rattle.bl_simplex.specs.Fractions.{lowest, sum_of, product_of, quotient_of}
use Rattle.bl_simplex.proofs.facts.worked_fractions.Goals as goal

pub returns : goal.returns
unfolding gcd lcm lowest sum_of product_of quotient_of
returns c = record {
  divisor = refl;
  divisor_of_nothing = refl;
  multiple = refl;
  brought_to_lowest_terms = refl;
  sum = refl;
  product = refl;
  quotient = refl;
}
