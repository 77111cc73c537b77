-- The comparison of two ratios by their signs, their whole parts and what is left.
use Rattle.std.proofs.Common.{◌≡◌, ◌≢◌, ℕ, zero, suc, ◌+◌, ◌*◌, ◌/◌, ◌%◌, ◌<◌, ◌≤◌, ◌⊎◌, inl, inr, true, false, Less}
use Rattle.std.proofs.Common.{Equal, Greater, ℤ, pos, negsuc, neg_ℤ, ◌*ℤ◌, refl, sym, ap, ◌∙◌, subst, arith}
use Rattle.std.proofs.Math.Nat.{mul-lt-mul_of_pos_right, mul-le-mul_right}
use Rattle.std.specs.Ordering.{nat_cmp, int_cmp}
use Rattle.std.specs.Prelude.{unsigned_abs}
use Rattle.std.specs.Int.Signed.{lt_z}
use Rattle.std.proofs.lemmas.Nat.{div-add-mod', mod_below}
use Rattle.std.proofs.lemmas.Bool.Decides.{nat_tests}
use Rattle.std.proofs.lemmas.Bool.{cases_order}

pub not_below_zero : (m : ℕ) → lt_z (pos m) (pos 0) ≡ true → ⊥
not_below_zero m h = grind (arith, nat_tests)

below_natural : (x y : ℕ) → 0 < x → int_cmp (neg_ℤ (pos x)) (pos y) ≡ Less
below_natural zero y h = absurd (omega arith)
below_natural (suc x) y h = refl

above_negative : (x y : ℕ) → 0 < x → int_cmp (pos y) (neg_ℤ (pos x)) ≡ Greater
above_negative zero y h = absurd (omega arith)
above_negative (suc x) y h = refl

nat_cmp-less : (x y : ℕ) → x < y → nat_cmp x y ≡ Less
nat_cmp-less x y h = grind (arith, nat_tests)

nat_cmp-greater : (x y : ℕ) → y < x → nat_cmp x y ≡ Greater
nat_cmp-greater x y h = grind (arith, nat_tests)

nat_cmp-equal : (x y : ℕ) → x ≡ y → nat_cmp x y ≡ Equal
nat_cmp-equal x y h = grind (arith, nat_tests)

int_cmp-pos : (x y : ℕ) → int_cmp (pos x) (pos y) ≡ nat_cmp x y
int_cmp-pos x y = grind (arith, nat_tests)

int_cmp-neg : (x y : ℕ) → int_cmp (neg_ℤ (pos x)) (neg_ℤ (pos y)) ≡ nat_cmp y x
int_cmp-neg zero zero = grind (arith, nat_tests)
int_cmp-neg zero (suc y) = grind (arith, nat_tests)
int_cmp-neg (suc x) zero = grind (arith, nat_tests)
int_cmp-neg (suc x) (suc y) = grind (arith, nat_tests)

-- two pairs in one order
nat_cmp-same : (x y u v : ℕ) → (x < y → u < v) → (y < x → v < u) → (x ≡ y → u ≡ v) → nat_cmp x y ≡ nat_cmp u v
nat_cmp-same x y u v less greater equal =
    elim (cases_order x y) [
      | inl e ↦ nat_cmp-equal x y e ∙ sym (nat_cmp-equal u v (equal e))
      | inr w ↦ elim w [
        | inl l ↦ nat_cmp-less x y l ∙ sym (nat_cmp-less u v (less l))
        | inr g ↦ nat_cmp-greater x y g ∙ sym (nat_cmp-greater u v (greater g))
      ]
    ]

-- with a smaller whole part the ratio is smaller
whole_part_less : (k l q s t u : ℕ) → t < q → 0 < s → k < l → (k * q + t) * s < (l * s + u) * q
whole_part_less k l q s t u ht hs h =
    let rest : t * s < q * s = mul-lt-mul_of_pos_right ht hs in
    let steps : (k + 1) * (q * s) ≤ l * (q * s) = mul-le-mul_right (q * s) (omega arith) in
    omega (arith, rest, steps)

pub ratios_by_quotients : (p q r s : ℕ) → 0 < q → 0 < s → p / q ≢ r / s
    → nat_cmp (p / q) (r / s) ≡ nat_cmp (p * s) (r * q)
ratios_by_quotients p q r s hq hs ne =
    let left : (p / q) * q + p % q ≡ p = div-add-mod' p q in
    let right : (r / s) * s + r % s ≡ r = div-add-mod' r s in
    nat_cmp-same (p / q) (r / s) (p * s) (r * q)
    (λ h. subst (λ x. x * s < r * q) left
    (subst (λ y. ((p / q) * q + p % q) * s < y * q) right
    (whole_part_less (p / q) (r / s) q s (p % q) (r % s) (mod_below p q hq) hs h)))
    (λ h. subst (λ y. y * q < p * s) right
    (subst (λ x. ((r / s) * s + r % s) * q < x * s) left
    (whole_part_less (r / s) (p / q) s q (r % s) (p % q) (mod_below r s hs) hq h)))
    (λ e. absurd (ne e))

nat_cmp-offset : (c x y : ℕ) → nat_cmp (c + x) (c + y) ≡ nat_cmp x y
nat_cmp-offset c x y = nat_cmp-same (c + x) (c + y) x y (λ h. omega arith) (λ h. omega arith) (λ h. omega arith)

pub ratios_by_rests : (p q r s : ℕ) → p / q ≡ r / s → nat_cmp (p * s) (r * q) ≡ nat_cmp ((p % q) * s) ((r % s) * q)
ratios_by_rests p q r s e =
    let left : (p / q) * q + p % q ≡ p = div-add-mod' p q in
    let right : (r / s) * s + r % s ≡ r = div-add-mod' r s in
    let k = p / q in
    let common = k * (q * s) in
    let first : p * s ≡ common + (p % q) * s = ap (λ x. x * s) (sym left) ∙ omega arith in
    let turned : k * s + r % s ≡ r = ap (λ x. x * s + r % s) e ∙ right in
    let second : r * q ≡ common + (r % s) * q = ap (λ x. x * q) (sym turned) ∙ omega arith in
    ap (λ x. nat_cmp x (r * q)) first ∙ ap (λ y. nat_cmp (common + (p % q) * s) y) second
    ∙ nat_cmp-offset common ((p % q) * s) ((r % s) * q)

pub product_positive : (m n : ℕ) → 0 < m → 0 < n → 0 < m * n
product_positive m n hm hn = omega (arith, mul-lt-mul_of_pos_right hm hn)

rest_alone : (t u q s : ℕ) → 0 < q → t ≡ 0 → nat_cmp t u ≡ nat_cmp (t * s) (u * q)
rest_alone t u q s hq e =
    nat_cmp-same t u (t * s) (u * q)
    (λ l. let none : t * s ≡ 0 = ap (λ x. x * s) e ∙ omega arith in
    omega (arith, product_positive u q (omega arith) hq))
    (λ l. absurd (omega arith))
    (λ z.
    let left : t * s ≡ 0 * s = ap (λ x. x * s) e in
    let right : u * q ≡ 0 * q = ap (λ x. x * q) (sym z ∙ e) in
    omega arith)

nat_cmp_turned : (x y u v : ℕ) → nat_cmp y x ≡ nat_cmp v u → nat_cmp x y ≡ nat_cmp u v
nat_cmp_turned x y u v h = grind (arith, nat_tests)

pub ratios_at_zero : (t u q s : ℕ) → 0 < q → 0 < s → (t ≡ 0) ⊎ ((t ≡ 0 → ⊥) × (u ≡ 0))
    → nat_cmp t u ≡ nat_cmp (t * s) (u * q)
ratios_at_zero t u q s hq hs h =
    elim h [
      | inl e ↦ rest_alone t u q s hq e
      | inr w ↦ nat_cmp_turned t u (t * s) (u * q) (rest_alone u t s q hs w.1)
    ]

-- ---- by the signs

pub order_of_naturals : (m n : ℤ) (d e : ℕ) → lt_z m (pos 0) ≡ false → lt_z n (pos 0) ≡ false
    → int_cmp (m *ℤ pos e) (n *ℤ pos d) ≡ nat_cmp (unsigned_abs m * e) (unsigned_abs n * d)
order_of_naturals (pos m) (pos n) d e hm hn = int_cmp-pos (m * e) (n * d)
order_of_naturals (pos m) (negsuc n) d e hm hn = cc
order_of_naturals (negsuc m) n d e hm hn = cc

pub order_of_negatives : (m n : ℤ) (d e : ℕ) → lt_z m (pos 0) ≡ true → lt_z n (pos 0) ≡ true
    → int_cmp (m *ℤ pos e) (n *ℤ pos d) ≡ nat_cmp (unsigned_abs n * d) (unsigned_abs m * e)
order_of_negatives (pos m) n d e hm hn = absurd (not_below_zero m hm)
order_of_negatives (negsuc m) (pos n) d e hm hn = absurd (not_below_zero n hn)
order_of_negatives (negsuc m) (negsuc n) d e hm hn = int_cmp-neg (suc m * e) (suc n * d)

pub order_below : (m n : ℤ) (d e : ℕ) → 0 < e → lt_z m (pos 0) ≡ true → lt_z n (pos 0) ≡ false
    → int_cmp (m *ℤ pos e) (n *ℤ pos d) ≡ Less
order_below (pos m) n d e h hm hn = absurd (not_below_zero m hm)
order_below (negsuc m) (negsuc n) d e h hm hn = cc
order_below (negsuc m) (pos n) d e h hm hn =
    below_natural (suc m * e) (n * d) (product_positive (suc m) e (omega arith) h)

pub order_above : (m n : ℤ) (d e : ℕ) → 0 < d → lt_z m (pos 0) ≡ false → lt_z n (pos 0) ≡ true
    → int_cmp (m *ℤ pos e) (n *ℤ pos d) ≡ Greater
order_above m (pos n) d e h hm hn = absurd (not_below_zero n hn)
order_above (negsuc m) (negsuc n) d e h hm hn = cc
order_above (pos m) (negsuc n) d e h hm hn =
    above_negative (suc n * d) (m * e) (product_positive (suc n) d (omega arith) h)
