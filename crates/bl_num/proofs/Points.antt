-- The value of a number whose point moves.
use Rattle.std.proofs.Common.{◌≡◌, ℕ, ◌+◌, ◌-◌, ◌*◌, ◌^◌, ◌<◌, ◌≤◌, cond, eqb, List, ◌++◌, length, Some, None, sym, ap}
use Rattle.std.proofs.Common.{◌∙◌, arith, append_assoc, length-append}
use Rattle.std.specs.Str.Parse.{AllDigits, digits_value}
use Rattle.std.proofs.Math.Nat.{one-le-pow, pow-le-pow_right}
use Rattle.std.proofs.lemmas.Nat.{pow-add, mul-le}
use Rattle.std.proofs.lemmas.Int.Digits.{digits_value-lt}
use Rattle.bl_num.specs.Capped.{raised_magnitude, lowered_magnitude}
use Rattle.bl_num.proofs.Decimals.{AllDigits-append, value-append}
use Rattle.bl_num.proofs.Quotients.{exact_quotient-split}

-- the point moves past digits at the end of the whole part
pub lowered-within : (front back fraction : List ℕ) (power : ℕ) → AllDigits 10 back → AllDigits 10 fraction
    → length back ≡ power
    → lowered_magnitude (front ++ back) fraction power
    ≡ cond (eqb (digits_value 10 (back ++ fraction)) 0) (Some (digits_value 10 front)) None
unfolding lowered_magnitude
lowered-within front back fraction power b f e =
    let tail = back ++ fraction in
    let size : 10 ^ length tail ≡ 10 ^ (length fraction + power) =
    ap (λ (k : ℕ). 10 ^ k) (omega (arith, length-append back fraction)) in
    let below : digits_value 10 tail < 10 ^ (length fraction + power) =
    omega (arith, digits_value-lt 10 tail (AllDigits-append back fraction b f), size) in
    let parts : digits_value 10 ((front ++ back) ++ fraction) ≡ digits_value 10 front * 10 ^ (length fraction + power)
    + digits_value 10 tail =
    ap (digits_value 10) (append_assoc front back fraction) ∙ value-append front tail
    ∙ ap (λ (p : ℕ). digits_value 10 front * p + digits_value 10 tail) size in
    exact_quotient-split _ _ _ _ parts below

-- the point moves past the whole part
pub lowered-past : (whole fraction : List ℕ) (power : ℕ) → AllDigits 10 whole → AllDigits 10 fraction
    → length whole ≤ power
    → lowered_magnitude whole fraction power ≡ cond (eqb (digits_value 10 (whole ++ fraction)) 0) (Some 0) None
unfolding lowered_magnitude
lowered-past whole fraction power w f le =
    let all = whole ++ fraction in
    let size : 10 ^ length all ≤ 10 ^ (length fraction + power) =
    pow-le-pow_right (omega arith) (omega (arith, length-append whole fraction)) in
    let below : digits_value 10 all < 10 ^ (length fraction + power) =
    omega (arith, digits_value-lt 10 all (AllDigits-append whole fraction w f), size) in
    exact_quotient-split _ _ 0 (digits_value 10 all) (omega arith) below

regroup : (front back under power : ℕ) → (front * under + back) * power ≡ front * (power * under) + back * power
regroup front back under power = omega arith

rest_none : (number power under : ℕ) → number * (power * under) ≡ number * power * under + 0
rest_none number power under = omega arith

mul-lt-power : (rest under power : ℕ) → rest < under → 1 ≤ power → rest * power < power * under
mul-lt-power rest under power below one =
    let more = mul-le (rest + 1) power under power (omega arith) (omega arith) in
    omega (arith, more)

-- the point moves past digits at the front of the fraction
pub raised-within : (whole front back : List ℕ) (power : ℕ) → AllDigits 10 back → length front ≡ power
    → raised_magnitude whole (front ++ back) power
    ≡ cond (eqb (digits_value 10 back * 10 ^ power) 0) (Some (digits_value 10 (whole ++ front))) None
unfolding raised_magnitude
raised-within whole front back power b e =
    let number = digits_value 10 (whole ++ front) in
    let rest = digits_value 10 back in
    let size : 10 ^ length (front ++ back) ≡ 10 ^ power * 10 ^ length back =
    ap (λ (k : ℕ). 10 ^ k) (omega (arith, length-append front back)) ∙ pow-add 10 power (length back) in
    let all : digits_value 10 (whole ++ (front ++ back)) ≡ number * 10 ^ length back + rest =
    ap (digits_value 10) (sym (append_assoc whole front back)) ∙ value-append (whole ++ front) back in
    let one : 1 ≤ 10 ^ power = one-le-pow power 10 (omega arith) in
    let below : rest * 10 ^ power < 10 ^ length (front ++ back) =
    rw size (omega (arith, mul-lt-power rest (10 ^ length back) (10 ^ power) (digits_value-lt 10 back b) one)) in
    let parts : digits_value 10 (whole ++ (front ++ back)) * 10 ^ power ≡ number * 10 ^ length (front ++ back)
    + rest * 10 ^ power =
    ap (λ (n : ℕ). n * 10 ^ power) all ∙ regroup number rest (10 ^ length back) (10 ^ power)
    ∙ ap (λ (u : ℕ). number * u + rest * 10 ^ power) (sym size) in
    exact_quotient-split _ _ _ _ parts below

-- the point moves past the fraction
pub raised-past : (whole fraction : List ℕ) (power : ℕ) → length fraction ≤ power
    → raised_magnitude whole fraction power
    ≡ Some (digits_value 10 (whole ++ fraction) * 10 ^ (power - length fraction))
unfolding raised_magnitude
raised-past whole fraction power le =
    let number = digits_value 10 (whole ++ fraction) in
    let more = power - length fraction in
    let size : 10 ^ power ≡ 10 ^ more * 10 ^ length fraction =
    ap (λ (k : ℕ). 10 ^ k) (omega arith) ∙ pow-add 10 more (length fraction) in
    let one : 1 ≤ 10 ^ length fraction = one-le-pow (length fraction) 10 (omega arith) in
    let parts : number * 10 ^ power ≡ number * 10 ^ more * 10 ^ length fraction + 0 =
    ap (λ (p : ℕ). number * p) size ∙ rest_none number (10 ^ more) (10 ^ length fraction) in
    exact_quotient-split _ _ _ 0 parts (omega arith)
