use Rattle.bl_whole.proofs.Products.{mul_le_left, mul_le_left_neg, lt_of_mul_lt, le_of_mul_le}
use Rattle.bl_whole.proofs.laws.product_order.Goals as goal

pub returns : goal.returns
returns c = record {
  keeps = λ a b c. mul_le_left c;
  turns = λ a b c. mul_le_left_neg c;
  strict = λ a b c. lt_of_mul_lt c;
  cancels = λ a b c. le_of_mul_le c;
}
