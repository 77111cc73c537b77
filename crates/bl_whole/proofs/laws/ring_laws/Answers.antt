use Rattle.bl_whole.proofs.Products.{*ℤ-+ℤ, +ℤ-*ℤ, *ℤ--ℤ, -ℤ-*ℤ, *ℤ_assoc, neg_ℤ-*ℤ}
use Rattle.bl_whole.proofs.laws.ring_laws.Goals as goal

pub returns : goal.returns
returns c = record {
  left = *ℤ-+ℤ;
  right = +ℤ-*ℤ;
  left_difference = *ℤ--ℤ;
  right_difference = -ℤ-*ℤ;
  grouping = *ℤ_assoc;
  negation = neg_ℤ-*ℤ;
}
