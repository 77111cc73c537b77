-- The coprimality that the sum and the product keep.
use Rattle.std.proofs.Common.{◌≡◌, ℕ, zero, suc, ◌+◌, ◌-◌, ◌*◌, ◌/◌, ◌<◌, ◌⊎◌, inl, inr, ℤ, pos, negsuc, neg_ℤ, ◌+ℤ◌}
use Rattle.std.proofs.Common.{◌*ℤ◌, unsigned_abs, int_div, refl, sym, ap, ◌∙◌, subst, arith}
use Rattle.std.specs.Int.{◌∣◌}
use Rattle.std.proofs.lemmas.Int.{unsigned_abs-mul}
use Rattle.std.proofs.lemmas.Bool.Decides.{nat_tests}
use Rattle.std.proofs.Math.Nat.{dvd-add, dvd-sub, dvd_trans, dvd-mul_left_of_dvd, dvd_refl, div-mul_cancel}
use Rattle.std.proofs.Math.IntN.{+ℤ_comm}
use Rattle.bl_simplex.specs.Gcd.{gcd}
use Rattle.bl_frac.proofs.GcdLaws.{gcd_dvd_left, gcd_dvd_right, gcd_comm, coprime_from, common_of_coprime}
use Rattle.bl_frac.proofs.GcdLaws.{coprime_of_dvd, coprime_swap, coprime-mul, coprime_shares, share_dvd}
use Rattle.bl_frac.proofs.GcdLaws.{gcd-mul_coprime}

pub magnitude-neg : (n : ℕ) → unsigned_abs (neg_ℤ (pos n)) ≡ n
magnitude-neg zero = refl
magnitude-neg (suc n) = refl

pub magnitude-share : (z : ℤ) (g : ℕ) → unsigned_abs (int_div z (pos g)) ≡ unsigned_abs z / g
magnitude-share (pos n) g = refl
magnitude-share (negsuc n) g = magnitude-neg (suc n / g)

-- how the magnitudes of a sum and of its terms are tied
magnitudes : (x y : ℤ)
    → (unsigned_abs x ≡ unsigned_abs (x +ℤ y) + unsigned_abs y)
    ⊎ ((unsigned_abs x + unsigned_abs y ≡ unsigned_abs (x +ℤ y))
    ⊎ (unsigned_abs x + unsigned_abs (x +ℤ y) ≡ unsigned_abs y))
magnitudes (pos a) (pos b) = inr (inl refl)
magnitudes (pos a) (negsuc b) = grind (arith, nat_tests)
magnitudes (negsuc a) (pos b) = grind (arith, nat_tests)
magnitudes (negsuc a) (negsuc b) = inr (inl (omega arith))

-- what divides a sum and one term divides the other
dvd_other : (x y : ℤ) (d : ℕ) → d ∣ unsigned_abs (x +ℤ y) → d ∣ unsigned_abs y → d ∣ unsigned_abs x
dvd_other x y d h k =
    elim (magnitudes x y) [
      | inl e ↦ subst (λ n. d ∣ n) (sym e) (dvd-add d h k)
      | inr w ↦ elim w [
        | inl e ↦
            let part : unsigned_abs (x +ℤ y) - unsigned_abs y ≡ unsigned_abs x = omega arith in
            subst (λ n. d ∣ n) part (dvd-sub d h k)
        | inr e ↦
            let part : unsigned_abs y - unsigned_abs (x +ℤ y) ≡ unsigned_abs x = omega arith in
            subst (λ n. d ∣ n) part (dvd-sub d k h)
      ]
    ]

-- a factor of one term that is coprime to the other term is coprime to the sum
coprime_sum : (x y : ℤ) (p : ℕ) → p ∣ unsigned_abs y → gcd (unsigned_abs x) p ≡ 1 → gcd (unsigned_abs (x +ℤ y)) p ≡ 1
coprime_sum x y p h e =
    coprime_from (unsigned_abs (x +ℤ y)) p
    (λ d k l. common_of_coprime (unsigned_abs x) p d e (dvd_other x y d k (dvd_trans d l h)) l)

-- a numerator times the other denominator's share, against its own denominator's share
coprime_term : (m : ℤ) (d e : ℕ) → 0 < d → 0 < e → gcd (unsigned_abs m) d ≡ 1
    → gcd (unsigned_abs (m *ℤ pos (e / gcd d e))) (d / gcd d e) ≡ 1
coprime_term m d e hd he h =
    let g = gcd d e in
    let size : unsigned_abs (m *ℤ pos (e / g)) ≡ unsigned_abs m * (e / g) = unsigned_abs-mul m (pos (e / g)) in
    let own : gcd (unsigned_abs m) (d / g) ≡ 1 =
    coprime_swap (d / g) (unsigned_abs m)
    (coprime_of_dvd d (unsigned_abs m) (d / g) (coprime_swap (unsigned_abs m) d h)
    (share_dvd d g (gcd_dvd_left d e))) in
    let apart : gcd (e / g) (d / g) ≡ 1 = coprime_swap (d / g) (e / g) (coprime_shares d e he) in
    ap (λ x. gcd x (d / g)) size ∙ coprime-mul (unsigned_abs m) (e / g) (d / g) own apart

share_in_term : (n : ℤ) (p : ℕ) → p ∣ unsigned_abs (n *ℤ pos p)
share_in_term n p = subst (λ x. p ∣ x) (sym (unsigned_abs-mul n (pos p)))
    (dvd-mul_left_of_dvd p (dvd_refl p) (unsigned_abs n))

-- What is common to the numerator and the denominator of a sum is common to the numerator and the
-- greatest common divisor of the two denominators.
pub gcd_of_sum : (m n : ℤ) (d e : ℕ) → 0 < d → 0 < e → gcd (unsigned_abs m) d ≡ 1 → gcd (unsigned_abs n) e ≡ 1
    → gcd (unsigned_abs (m *ℤ pos (e / gcd d e) +ℤ n *ℤ pos (d / gcd d e))) ((d / gcd d e) * e)
    ≡ gcd (unsigned_abs (m *ℤ pos (e / gcd d e) +ℤ n *ℤ pos (d / gcd d e))) (gcd d e)
gcd_of_sum m n d e hd he hm hn =
    let g = gcd d e in
    let x = m *ℤ pos (e / g) in
    let y = n *ℤ pos (d / g) in
    let top = unsigned_abs (x +ℤ y) in
    let first : gcd top (d / g) ≡ 1 = coprime_sum x y (d / g) (share_in_term n (d / g)) (coprime_term m d e hd he hm) in
    let flip : gcd e d ≡ g = gcd_comm e d in
    let term : gcd (unsigned_abs y) (e / g) ≡ 1 =
    subst (λ k. gcd (unsigned_abs (n *ℤ pos (d / k))) (e / k) ≡ 1) flip (coprime_term n e d he hd hn) in
    let turned : gcd (unsigned_abs (y +ℤ x)) (e / g) ≡ 1 = coprime_sum y x (e / g) (share_in_term m (e / g)) term in
    let second : gcd top (e / g) ≡ 1 = subst (λ z. gcd (unsigned_abs z) (e / g) ≡ 1) (+ℤ_comm y x) turned in
    let whole : (e / g) * g ≡ e = div-mul_cancel g (gcd_dvd_right d e) in
    gcd-mul_coprime top (d / g) e first ∙ ap (gcd top) (sym whole) ∙ gcd-mul_coprime top (e / g) g second

coprime_parts : (a b c k : ℕ) → gcd a b ≡ 1 → c ∣ a → k ∣ b → gcd c k ≡ 1
coprime_parts a b c k e p q = coprime_swap k c (coprime_of_dvd b c k (coprime_swap c b (coprime_of_dvd a b c e p)) q)

-- the shares that a product multiplies
pub coprime_products : (m d n e : ℕ) → 0 < d → 0 < e → gcd m d ≡ 1 → gcd n e ≡ 1
    → gcd ((m / gcd m e) * (n / gcd n d)) ((d / gcd n d) * (e / gcd m e)) ≡ 1
coprime_products m d n e hd he hm hn =
    let g = gcd m e in
    let h = gcd n d in
    let across : gcd (m / g) (e / g) ≡ 1 = coprime_shares m e he in
    let back : gcd (n / h) (d / h) ≡ 1 = coprime_shares n d hd in
    let first : gcd (m / g) (d / h) ≡ 1 =
    coprime_parts m d (m / g) (d / h) hm (share_dvd m g (gcd_dvd_left m e)) (share_dvd d h (gcd_dvd_right n d)) in
    let second : gcd (n / h) (e / g) ≡ 1 =
    coprime_parts n e (n / h) (e / g) hn (share_dvd n h (gcd_dvd_left n d)) (share_dvd e g (gcd_dvd_right m e)) in
    let own : gcd ((m / g) * (n / h)) (d / h) ≡ 1 = coprime-mul (m / g) (n / h) (d / h) first back in
    let other : gcd ((m / g) * (n / h)) (e / g) ≡ 1 = coprime-mul (m / g) (n / h) (e / g) across second in
    gcd-mul_coprime ((m / g) * (n / h)) (d / h) (e / g) own ∙ other
