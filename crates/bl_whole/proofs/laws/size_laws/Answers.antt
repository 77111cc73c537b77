use Rattle.bl_whole.proofs.WithinLemmas.{within_low, within_high, within_from_bounds, within_sum, within_product}
use Rattle.bl_whole.proofs.WithinLemmas.{within_sum_below, fits_from_within, dots_fit}
use Rattle.bl_whole.proofs.laws.size_laws.Goals as goal

pub returns : goal.returns
returns c = record {
  bounds = λ m z h. (within_low h, within_high h);
  from_bounds = within_from_bounds;
  sum = λ m n a b. within_sum;
  product = λ m n a b. within_product;
  sum_by_place = within_sum_below;
  fits = λ w m z. fits_from_within w;
  dots_fit = λ w m n cs zs. dots_fit w;
}
