-- The greatest common divisor divides both numbers, and each common divisor divides it.
use Rattle.std.proofs.Common.{◌≡◌, ℕ, zero, suc, ◌*◌, ◌/◌, ◌%◌, ◌<◌, ◌≤◌, refl, sym, ap, ◌∙◌, subst, arith}
use Rattle.std.proofs.Math.Nat.{le_of_dvd, dvd-zero, dvd_trans, dvd_antisymm, dvd-mul_left, dvd-mul_right}
use Rattle.std.proofs.Math.Nat.{dvd-mul_left_of_dvd, eq-one_of_dvd-one, pos_of_dvd_of_pos, mul-dvd-mul_left}
use Rattle.std.proofs.Math.Nat.{dvd_of_mul-dvd-mul_left, mul-div_cancel', div-mul_cancel, mul_comm}
use Rattle.std.proofs.Math.Nat.{eq_of_mul-eq-mul_left}
use Rattle.std.specs.Int.{IsGcd, ◌∣◌}
use Rattle.std.proofs.lemmas.Nat.Gcd.{IsGcd-from_zero, IsGcd-from_mod, IsGcd-swap, same_from_IsGcd}
use Rattle.std.proofs.lemmas.Nat.{mod_below}
use Rattle.bl_simplex.specs.Gcd.{gcd, gcd_within}

IsGcd-gcd_within : (n a b : ℕ) → b ≤ n → IsGcd a b (gcd_within n a b)
IsGcd-gcd_within zero a b h = IsGcd-from_zero a b (omega arith)
IsGcd-gcd_within (suc n) a zero h = IsGcd-from_zero a zero refl
IsGcd-gcd_within (suc n) a (suc b) h =
    IsGcd-from_mod a (suc b) (gcd_within n (suc b) (a % suc b))
    (IsGcd-gcd_within n (suc b) (a % suc b) (omega (arith, mod_below a (suc b))))

pub IsGcd-gcd : (a b : ℕ) → IsGcd a b (gcd a b)
unfolding gcd
IsGcd-gcd a b = IsGcd-gcd_within b a b (omega arith)

pub gcd-unique : (a b g : ℕ) → IsGcd a b g → gcd a b ≡ g
gcd-unique a b g h = same_from_IsGcd a b _ _ (IsGcd-gcd a b) h

pub gcd-zero : (a : ℕ) → gcd a 0 ≡ a
gcd-zero a = gcd-unique a 0 a (IsGcd-from_zero a 0 refl)

pub gcd-mod : (a b : ℕ) → gcd a b ≡ gcd b (a % b)
gcd-mod a b = gcd-unique a b _ (IsGcd-from_mod a b _ (IsGcd-gcd b (a % b)))

pub gcd_comm : (a b : ℕ) → gcd a b ≡ gcd b a
gcd_comm a b = gcd-unique a b _ (IsGcd-swap b a _ (IsGcd-gcd b a))

pub gcd_dvd_left : (a b : ℕ) → gcd a b ∣ a
gcd_dvd_left a b = (IsGcd-gcd a b).0

pub gcd_dvd_right : (a b : ℕ) → gcd a b ∣ b
gcd_dvd_right a b = (IsGcd-gcd a b).1

pub dvd_gcd : (a b d : ℕ) → d ∣ a → d ∣ b → d ∣ gcd a b
dvd_gcd a b d p q = (IsGcd-gcd a b).2 d p q

pub gcd_positive : (a b : ℕ) → 0 < b → 0 < gcd a b
gcd_positive a b h = pos_of_dvd_of_pos (gcd_dvd_right a b) h

pub gcd_one : (a : ℕ) → gcd a 1 ≡ 1
gcd_one a = eq-one_of_dvd-one (gcd_dvd_right a 1)

pub coprime_from : (a b : ℕ) → ((d : ℕ) → d ∣ a → d ∣ b → d ∣ 1) → gcd a b ≡ 1
coprime_from a b h = eq-one_of_dvd-one (h _ (gcd_dvd_left a b) (gcd_dvd_right a b))

pub common_of_coprime : (a b d : ℕ) → gcd a b ≡ 1 → d ∣ a → d ∣ b → d ∣ 1
common_of_coprime a b d e p q = subst (λ g. d ∣ g) e (dvd_gcd a b d p q)

-- a factor of both comes out
pub gcd-mul_left : (k a b : ℕ) → 0 < k → gcd (k * a) (k * b) ≡ k * gcd a b
gcd-mul_left k a b h =
    let g = gcd (k * a) (k * b) in
    let m = g / k in
    let whole : k * m ≡ g = mul-div_cancel' k (dvd_gcd (k * a) (k * b) k (dvd-mul_right k a) (dvd-mul_right k b)) in
    let left : k * m ∣ k * a = subst (λ x. x ∣ k * a) (sym whole) (gcd_dvd_left (k * a) (k * b)) in
    let right : k * m ∣ k * b = subst (λ x. x ∣ k * b) (sym whole) (gcd_dvd_right (k * a) (k * b)) in
    let inner : m ∣ gcd a b = dvd_gcd a b m (dvd_of_mul-dvd-mul_left m h left) (dvd_of_mul-dvd-mul_left m h right) in
    dvd_antisymm (subst (λ x. x ∣ k * gcd a b) whole (mul-dvd-mul_left m k inner))
    (dvd_gcd (k * a) (k * b) (k * gcd a b) (mul-dvd-mul_left _ k (gcd_dvd_left a b))
    (mul-dvd-mul_left _ k (gcd_dvd_right a b)))

-- what divides a product and is coprime to one factor divides the other
pub dvd_of_coprime : (a b c : ℕ) → gcd a c ≡ 1 → a ∣ b * c → a ∣ b
dvd_of_coprime a zero c e h = dvd-zero a
dvd_of_coprime a (suc b) c e h =
    let out : gcd (suc b * a) (suc b * c) ≡ suc b * gcd a c = gcd-mul_left (suc b) a c (omega arith) in
    let one : suc b * gcd a c ≡ suc b = ap (λ x. suc b * x) e ∙ omega arith in
    subst (λ x. a ∣ x) (out ∙ one) (dvd_gcd (suc b * a) (suc b * c) a (dvd-mul_left a (suc b)) h)

-- a divisor of a coprime number is coprime
pub coprime_of_dvd : (a c d : ℕ) → gcd a c ≡ 1 → d ∣ a → gcd d c ≡ 1
coprime_of_dvd a c d e h = coprime_from d c (λ k p q. common_of_coprime a c k e (dvd_trans k p h) q)

pub coprime_swap : (a b : ℕ) → gcd a b ≡ 1 → gcd b a ≡ 1
coprime_swap a b e = gcd_comm b a ∙ e

-- a product of coprime numbers is coprime
pub coprime-mul : (a b c : ℕ) → gcd a c ≡ 1 → gcd b c ≡ 1 → gcd (a * b) c ≡ 1
coprime-mul a b c ea eb =
    coprime_from (a * b) c
    (λ d p q.
    let apart : gcd d a ≡ 1 = coprime_of_dvd c a d (coprime_swap a c ea) q in
    let turned : d ∣ b * a = subst (λ x. d ∣ x) (mul_comm a b) p in
    common_of_coprime b c d eb (dvd_of_coprime d b a apart turned) q)

-- a coprime factor changes nothing
pub gcd-mul_coprime : (t p m : ℕ) → gcd t p ≡ 1 → gcd t (p * m) ≡ gcd t m
gcd-mul_coprime t p m e =
    gcd-unique t (p * m) (gcd t m) (
      gcd_dvd_left t m,
      dvd-mul_left_of_dvd (gcd t m) (gcd_dvd_right t m) p,
      λ d h k.
          let apart : gcd d p ≡ 1 = coprime_of_dvd t p d e h in
          let turned : d ∣ m * p = subst (λ x. d ∣ x) (mul_comm p m) k in
          dvd_gcd t m d h (dvd_of_coprime d m p apart turned),
    )

-- divided by their greatest common divisor, two numbers are coprime
pub coprime_shares : (a b : ℕ) → 0 < b → gcd (a / gcd a b) (b / gcd a b) ≡ 1
coprime_shares a b h =
    let g = gcd a b in
    let some : 0 < g = gcd_positive a b h in
    let out : gcd (g * (a / g)) (g * (b / g)) ≡ g * gcd (a / g) (b / g) = gcd-mul_left g (a / g) (b / g) some in
    let left : g * (a / g) ≡ a = mul-div_cancel' g (gcd_dvd_left a b) in
    let right : g * (b / g) ≡ b = mul-div_cancel' g (gcd_dvd_right a b) in
    let same : gcd (g * (a / g)) (g * (b / g)) ≡ g = ap (λ x. gcd x (g * (b / g))) left ∙ ap (λ x. gcd a x) right in
    eq_of_mul-eq-mul_left g some (gcd (a / g) (b / g)) 1 (sym out ∙ same ∙ omega arith)

-- a share divides what it is a share of
pub share_dvd : (n g : ℕ) → g ∣ n → n / g ∣ n
share_dvd n g h = subst (λ x. n / g ∣ x) (div-mul_cancel g h) (dvd-mul_right (n / g) g)

pub share_positive : (n g : ℕ) → 0 < n → g ∣ n → 0 < n / g
share_positive n g some h = pos_of_dvd_of_pos (share_dvd n g h) some

pub gcd-le : (a b : ℕ) → 0 < b → gcd a b ≤ b
gcd-le a b h = le_of_dvd h (gcd_dvd_right a b)
