-- Least common multiples.
use Rattle.std.proofs.Common.{◌≡◌, ℕ, zero, suc, ◌*◌, ◌/◌, ◌<◌, sym, ap, ◌∙◌, subst, arith}
use Rattle.std.proofs.Math.Nat.{dvd-zero, dvd-mul_left, dvd-mul_right, mul_comm, div-mul_cancel, mul-div_cancel'}
use Rattle.std.proofs.Math.Nat.{mul-dvd-mul_left, dvd_of_mul-dvd-mul_left, pos_of_dvd_of_pos, eq-zero_of_zero-dvd}
use Rattle.std.specs.Int.{◌∣◌}
use Rattle.bl_simplex.specs.Gcd.{gcd, lcm}
use Rattle.bl_frac.specs.Laws.{DivisorLaw, MultipleLaw}
use Rattle.bl_frac.proofs.Ratios.{product_positive}
use Rattle.bl_frac.proofs.GcdLaws.{gcd_dvd_left, gcd_dvd_right, dvd_gcd, gcd_positive, dvd_of_coprime, coprime_shares}

pub dvd_lcm_right : (a b : ℕ) → b ∣ lcm a b
unfolding lcm
dvd_lcm_right a b = dvd-mul_left b (a / gcd a b)

-- the multiple is also a times the other number's share
lcm_turned : (a b : ℕ) → lcm a b ≡ a * (b / gcd a b)
unfolding lcm
lcm_turned a b =
    let g = gcd a b in
    let left : (a / g) * g ≡ a = div-mul_cancel g (gcd_dvd_left a b) in
    let right : g * (b / g) ≡ b = mul-div_cancel' g (gcd_dvd_right a b) in
    sym (ap (λ x. (a / g) * x) right) ∙ (let e : (a / g) * (g * (b / g)) ≡ ((a / g) * g) * (b / g) = omega arith in e)
    ∙ ap (λ x. x * (b / g)) left

pub dvd_lcm_left : (a b : ℕ) → a ∣ lcm a b
dvd_lcm_left a b = subst (λ x. a ∣ x) (sym (lcm_turned a b)) (dvd-mul_right a (b / gcd a b))

-- a share divides the cofactor of every common multiple
share_divides : (a b k : ℕ) → 0 < b → a ∣ b * k → a / gcd a b ∣ k
share_divides a b k some h =
    let g = gcd a b in
    let left : g * (a / g) ≡ a = mul-div_cancel' g (gcd_dvd_left a b) in
    let right : g * (b / g) ≡ b = mul-div_cancel' g (gcd_dvd_right a b) in
    let product : g * ((b / g) * k) ≡ b * k =
    (let e : g * ((b / g) * k) ≡ (g * (b / g)) * k = omega arith in e) ∙ ap (λ x. x * k) right in
    let inner : g * (a / g) ∣ g * ((b / g) * k) =
    subst (λ x. x ∣ g * ((b / g) * k)) (sym left) (subst (λ x. a ∣ x) (sym product) h) in
    let shares : a / g ∣ (b / g) * k = dvd_of_mul-dvd-mul_left (a / g) (gcd_positive a b some) inner in
    dvd_of_coprime (a / g) k (b / g) (coprime_shares a b some) (subst (λ x. a / g ∣ x) (mul_comm (b / g) k) shares)

pub lcm_dvd : (a b m : ℕ) → 0 < b → a ∣ m → b ∣ m → lcm a b ∣ m
unfolding lcm
lcm_dvd a b m some h l =
    let g = gcd a b in
    let k = m / b in
    let whole : b * k ≡ m = mul-div_cancel' b l in
    let share : a / g ∣ k = share_divides a b k some (subst (λ x. a ∣ x) (sym whole) h) in
    let scaled : b * (a / g) ∣ b * k = mul-dvd-mul_left (a / g) b share in
    subst (λ x. x ∣ m) (mul_comm b (a / g)) (subst (λ x. b * (a / g) ∣ x) whole scaled)

pub lcm_positive : (a b : ℕ) → 0 < a → 0 < b → 0 < lcm a b
lcm_positive a b ha hb =
    pos_of_dvd_of_pos (lcm_dvd a b (a * b) hb (dvd-mul_right a b) (dvd-mul_left b a)) (product_positive a b ha hb)

pub divisors : DivisorLaw
divisors a b = record { left = gcd_dvd_left a b; right = gcd_dvd_right a b; greatest = dvd_gcd a b }

least : (a b m : ℕ) → a ∣ m → b ∣ m → lcm a b ∣ m
least a zero m h l = subst (λ x. lcm a zero ∣ x) (sym (eq-zero_of_zero-dvd l)) (dvd-zero (lcm a zero))
least a (suc b) m h l = lcm_dvd a (suc b) m (omega arith) h l

pub multiples : MultipleLaw
multiples a b = record { left = dvd_lcm_left a b; right = dvd_lcm_right a b; least = least a b }
