-- How fractions compare with whole numbers.
use Rattle.std.proofs.Common.{rules, ◌≡◌, ◌≢◌, ℕ, ◌<◌, Less, Equal, Greater, ℤ, pos, ◌*ℤ◌, ◌≤ℤ◌, ◌<ℤ◌, ◌⊎◌, sym, ap}
use Rattle.std.proofs.Common.{◌∙◌, subst, arith}
use Rattle.std.specs.declared.cmp.Ordering.{Ordering}
use Rattle.std.specs.Ordering.{int_cmp}
use Rattle.std.specs.Prelude.{IsTrue}
use Rattle.std.specs.Int.Signed.{le_z}
use Rattle.std.specs.Cmp.{int_cmp_is, int_ranks}
use Rattle.std.specs.Ordering.{MatchOrdering}
use Rattle.std.proofs.lemmas.Int.{ints, by_lt_z}
use Rattle.std.proofs.Math.IntN.{*ℤ_comm}
use Rattle.bl_whole.proofs.Products.{*ℤ_one}
use Rattle.bl_simplex.specs.Fractions.{Fraction, whole_fraction, order_of}
use Rattle.bl_simplex.specs.Rationals.{IsAtMost}
use Rattle.bl_licence.specs.Steps.{IsAbove}

less_ranks : (x y : ℤ) (r : Ordering) → int_cmp x y ≡ r → MatchOrdering r (x <ℤ y) (x ≡ y) (y <ℤ x)
less_ranks x y r e = subst (λ o. MatchOrdering o (x <ℤ y) (x ≡ y) (y <ℤ x)) e (int_ranks x y)

pub above_from_order : (least : ℤ) (x : Fraction) → order_of (whole_fraction least) x ≡ Less → IsAbove least x
unfolding order_of
above_from_order least x e =
    subst (λ z. (least *ℤ pos x.den) <ℤ z) (*ℤ_one x.num) (less_ranks (least *ℤ pos x.den) (x.num *ℤ pos 1) Less e)

pub order_from_above : (least : ℤ) (x : Fraction) → IsAbove least x → order_of (whole_fraction least) x ≡ Less
unfolding order_of
order_from_above least x h =
    sym (int_cmp_is (least *ℤ pos x.den) (x.num *ℤ pos 1) Less
    (subst (λ z. (least *ℤ pos x.den) <ℤ z) (sym (*ℤ_one x.num)) h))

pub at_most_from_order : (x : Fraction) (most : ℤ) → order_of x (whole_fraction most) ≢ Greater → IsAtMost x most
unfolding order_of
at_most_from_order x most ne = record {
  cross = by_lt_z (most *ℤ pos x.den) x.num
      (λ more. absurd (ne (sym
      (int_cmp_is (x.num *ℤ pos 1) (most *ℤ pos x.den) Greater
      (subst (λ z. (most *ℤ pos x.den) <ℤ z) (sym (*ℤ_one x.num)) more)))))
      (λ l. l);
}

pub order_from_at_most : (x : Fraction) (most : ℤ) → IsAtMost x most → order_of x (whole_fraction most) ≢ Greater
unfolding order_of
order_from_at_most x most h e =
    let more = less_ranks (x.num *ℤ pos 1) (most *ℤ pos x.den) Greater e in
    let more' : (most *ℤ pos x.den) <ℤ x.num = subst (λ z. (most *ℤ pos x.den) <ℤ z) (*ℤ_one x.num) more in
    let l = h.cross in
    omega (arith, ints)

le_test : (x y : ℤ) → (IsTrue (le_z x y) → x ≤ℤ y) × (x ≤ℤ y → IsTrue (le_z x y))
le_test x y = (λ t. search rules, λ l. search rules)

pub at_most_test : (a b x y : ℤ) → a ≡ x → b ≡ y → (IsTrue (le_z a b) → x ≤ℤ y) × (x ≤ℤ y → IsTrue (le_z a b))
at_most_test a b x y ea eb =
    subst (λ z. (IsTrue (le_z z b) → x ≤ℤ y) × (x ≤ℤ y → IsTrue (le_z z b))) (sym ea)
    (subst (λ z. (IsTrue (le_z x z) → x ≤ℤ y) × (x ≤ℤ y → IsTrue (le_z x z))) (sym eb) (le_test x y))
