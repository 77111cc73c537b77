use Rattle.std.proofs.Common.{refl}
use Rattle.bl_simplex.specs.Gcd.{gcd}
use Rattle.bl_simplex.specs.Fractions.{lowest, sum_of, difference_of, product_of, quotient_of}
use Rattle.bl_simplex.specs.Dictionaries.{opening}
use Rattle.bl_simplex.specs.Pivots.{pivot_place, pivoted}
use Rattle.bl_simplex.proofs.facts.worked_pivots.Goals as goal

pub returns : goal.returns
unfolding gcd lowest sum_of difference_of product_of quotient_of opening pivot_place pivoted
returns c = record {
  opening_first = refl;
  opening_second = refl;
  opening_value = refl;
  once_second = refl;
  once_value = refl;
  once_label = refl;
  twice_first = refl;
  twice_second = refl;
  twice_value = refl;
}
