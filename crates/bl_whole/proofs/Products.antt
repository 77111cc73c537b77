-- The ring laws of the whole numbers that std lacks, and products against order.
use Rattle.std.proofs.Common.{◌≡◌, zero, suc, refl, ◌∙◌, arith}
use Rattle.std.specs.Prelude.{ℤ, pos, negsuc, ◌+ℤ◌, ◌-ℤ◌, ◌*ℤ◌, neg_ℤ, ◌≤ℤ◌, ◌<ℤ◌}
use Rattle.std.proofs.Math.IntN.{suc_ℤ-*ℤ, pred_ℤ-*ℤ, zero-*ℤ, *ℤ_comm, pos-*ℤ-pos, +ℤ_invr}
use Rattle.std.specs.Int.Signed.{clash_ℤ}
use Rattle.std.proofs.lemmas.Int.{ints, by_lt_z}

-- ---- the ring

-- a · (b + c) = a · b + a · c
pub *ℤ-+ℤ : (a b c : ℤ) → a *ℤ (b +ℤ c) ≡ a *ℤ b +ℤ a *ℤ c
*ℤ-+ℤ (pos zero) b c = rw (zero-*ℤ (b +ℤ c), zero-*ℤ b, zero-*ℤ c) refl
*ℤ-+ℤ (pos (suc n)) b c =
    let i = *ℤ-+ℤ (pos n) b c in
    let e = suc_ℤ-*ℤ (pos n) (b +ℤ c) in
    let f = suc_ℤ-*ℤ (pos n) b in
    let g = suc_ℤ-*ℤ (pos n) c in
    omega (arith, ints)
*ℤ-+ℤ (negsuc zero) b c =
    let e = pred_ℤ-*ℤ (pos zero) (b +ℤ c) in
    let f = pred_ℤ-*ℤ (pos zero) b in
    let g = pred_ℤ-*ℤ (pos zero) c in
    omega (arith, ints, zero-*ℤ (b +ℤ c), zero-*ℤ b, zero-*ℤ c)
*ℤ-+ℤ (negsuc (suc n)) b c =
    let i = *ℤ-+ℤ (negsuc n) b c in
    let e = pred_ℤ-*ℤ (negsuc n) (b +ℤ c) in
    let f = pred_ℤ-*ℤ (negsuc n) b in
    let g = pred_ℤ-*ℤ (negsuc n) c in
    omega (arith, ints)

-- (a + b) · c = a · c + b · c
pub +ℤ-*ℤ : (a b c : ℤ) → (a +ℤ b) *ℤ c ≡ a *ℤ c +ℤ b *ℤ c
+ℤ-*ℤ a b c = rw (*ℤ_comm (a +ℤ b) c, *ℤ-+ℤ c a b, *ℤ_comm c a, *ℤ_comm c b) refl

-- (-a) · b = -(a · b)
pub neg_ℤ-*ℤ : (a b : ℤ) → neg_ℤ a *ℤ b ≡ neg_ℤ (a *ℤ b)
neg_ℤ-*ℤ a b =
    let e = +ℤ-*ℤ a (neg_ℤ a) b in
    let f : (a +ℤ neg_ℤ a) *ℤ b ≡ pos 0 = rw (+ℤ_invr a) (zero-*ℤ b) in
    omega (arith, ints)

-- a · (-b) = -(a · b)
pub *ℤ-neg_ℤ : (a b : ℤ) → a *ℤ neg_ℤ b ≡ neg_ℤ (a *ℤ b)
*ℤ-neg_ℤ a b = rw (*ℤ_comm a (neg_ℤ b), neg_ℤ-*ℤ b a, *ℤ_comm b a) refl

-- a · (b - c) = a · b - a · c
pub *ℤ--ℤ : (a b c : ℤ) → a *ℤ (b -ℤ c) ≡ a *ℤ b -ℤ a *ℤ c
*ℤ--ℤ a b c = rw (*ℤ-+ℤ a b (neg_ℤ c), *ℤ-neg_ℤ a c) refl

-- (a - b) · c = a · c - b · c
pub -ℤ-*ℤ : (a b c : ℤ) → (a -ℤ b) *ℤ c ≡ a *ℤ c -ℤ b *ℤ c
-ℤ-*ℤ a b c = rw (+ℤ-*ℤ a (neg_ℤ b) c, neg_ℤ-*ℤ b c) refl

-- (a · b) · c = a · (b · c)
pub *ℤ_assoc : (a b c : ℤ) → (a *ℤ b) *ℤ c ≡ a *ℤ (b *ℤ c)
*ℤ_assoc (pos zero) b c = rw (zero-*ℤ b, zero-*ℤ c, zero-*ℤ (b *ℤ c)) refl
*ℤ_assoc (pos (suc n)) b c =
    rw (suc_ℤ-*ℤ (pos n) b, suc_ℤ-*ℤ (pos n) (b *ℤ c), +ℤ-*ℤ (pos n *ℤ b) b c, *ℤ_assoc (pos n) b c) refl
*ℤ_assoc (negsuc zero) b c =
    rw (
      pred_ℤ-*ℤ (pos zero) b,
      pred_ℤ-*ℤ (pos zero) (b *ℤ c),
      -ℤ-*ℤ (pos zero *ℤ b) b c,
      zero-*ℤ b,
      zero-*ℤ c,
      zero-*ℤ (b *ℤ c),
    ) refl
*ℤ_assoc (negsuc (suc n)) b c =
    rw (pred_ℤ-*ℤ (negsuc n) b, pred_ℤ-*ℤ (negsuc n) (b *ℤ c), -ℤ-*ℤ (negsuc n *ℤ b) b c, *ℤ_assoc (negsuc n) b c) refl

-- 1 · a = a and a · 1 = a
pub one-*ℤ : (a : ℤ) → pos 1 *ℤ a ≡ a
one-*ℤ a = let e = suc_ℤ-*ℤ (pos 0) a in omega (arith, ints, zero-*ℤ a)

pub *ℤ_one : (a : ℤ) → a *ℤ pos 1 ≡ a
*ℤ_one a = *ℤ_comm a (pos 1) ∙ one-*ℤ a

-- ---- products against order

-- a product of two numbers that are not negative is not negative
pub mul_nonneg : {a b : ℤ} → pos 0 ≤ℤ a → pos 0 ≤ℤ b → pos 0 ≤ℤ (a *ℤ b)
mul_nonneg {a = pos m} {b = pos n} p q = omega (arith, ints, pos-*ℤ-pos m n)
mul_nonneg {a = pos m} {b = negsuc n} p q = absurd q.le
mul_nonneg {a = negsuc m} {b = b} p q = absurd p.le

-- a product of two positive numbers is positive
pub mul_positive : {a b : ℤ} → pos 0 <ℤ a → pos 0 <ℤ b → pos 0 <ℤ (a *ℤ b)
mul_positive {a} {b} p q =
    let g = mul_nonneg {a = a -ℤ pos 1} {b = b} (omega (arith, ints)) (omega (arith, ints)) in
    let e = -ℤ-*ℤ a (pos 1) b in
    let f = suc_ℤ-*ℤ (pos 0) b in
    omega (arith, ints, zero-*ℤ b)

-- a factor that is not negative keeps an order, and one that is not positive turns it round
pub mul_le_left : {a b : ℤ} (c : ℤ) → pos 0 ≤ℤ c → a ≤ℤ b → (c *ℤ a) ≤ℤ (c *ℤ b)
mul_le_left {a} {b} c p h =
    let g = mul_nonneg {a = c} {b = b -ℤ a} p (omega (arith, ints)) in
    let e = *ℤ--ℤ c b a in
    omega (arith, ints)

pub mul_le_left_neg : {a b : ℤ} (c : ℤ) → c ≤ℤ pos 0 → a ≤ℤ b → (c *ℤ b) ≤ℤ (c *ℤ a)
mul_le_left_neg {a} {b} c p h =
    let g = mul_nonneg {a = neg_ℤ c} {b = b -ℤ a} (omega (arith, ints)) (omega (arith, ints)) in
    let e = *ℤ--ℤ (neg_ℤ c) b a in
    let f = neg_ℤ-*ℤ c a in
    let i = neg_ℤ-*ℤ c b in
    omega (arith, ints)

-- a positive factor may be taken away from both sides of an order
pub lt_of_mul_lt : {a b : ℤ} (c : ℤ) → pos 0 ≤ℤ c → (c *ℤ a) <ℤ (c *ℤ b) → a <ℤ b
lt_of_mul_lt {a} {b} c p h = by_lt_z a b (λ y. y) (λ n. clash_ℤ h (mul_le_left c p n))

pub le_of_mul_le : {a b : ℤ} (c : ℤ) → pos 0 <ℤ c → (c *ℤ a) ≤ℤ (c *ℤ b) → a ≤ℤ b
le_of_mul_le {a} {b} c p h =
    by_lt_z b a
    (λ y.
    let g = mul_positive {a = c} {b = a -ℤ b} p (omega (arith, ints)) in
    let e = *ℤ--ℤ c a b in
    omega (arith, ints))
    (λ n. n)
