-- Numbers above the limit as one.
use Rattle.std.proofs.Common.{◌≡◌, ℕ, ◌+◌, ◌*◌, ◌^◌, ◌<◌, ◌≤◌, min, List, [], ◌∷◌, refl, sym, ap, ◌∙◌, arith, inl, inr}
use Rattle.std.proofs.Common.{add-one}
use Rattle.std.specs.Char.{digit_value}
use Rattle.std.specs.Str.Parse.{digits_value_after}
use Rattle.std.proofs.Math.Nat.{pow-le-pow_right, pow-suc, one-le-pow}
use Rattle.std.proofs.lemmas.Nat.{mul-le}
use Rattle.std.proofs.lemmas.Bool.{cases_lt}
use Rattle.bl_limits.specs.declared.TheConstants.{MAX_WHOLE}
use Rattle.bl_num.specs.Capped.{capped}

pub capped-digit : (number digit : ℕ) → min (capped number * 10 + digit) (MAX_WHOLE + 1) ≡ capped (number * 10 + digit)
capped-digit number digit = omega arith

above : (number power : ℕ) → 0 < number → 37 ≤ power → capped (number * 10 ^ power) ≡ MAX_WHOLE + 1
above number power some large =
    let bound = mul-le 1 (10 ^ 37) number (10 ^ power) some (pow-le-pow_right (omega arith) large) in
    omega (arith, bound)

-- beyond the thirty-seventh, powers of ten make no difference
pub capped-power : (number a b : ℕ) → 37 ≤ a → 37 ≤ b → capped (number * 10 ^ a) ≡ capped (number * 10 ^ b)
capped-power number a b ha hb =
    elim (cases_lt 0 number) [
      | inl some ↦ above number a some ha ∙ sym (above number b some hb)
      | inr none ↦
          let zero : number ≡ 0 = omega arith in
          rw zero (omega arith)
    ]

pub capped-power-more : (number power : ℕ)
    → min (capped (number * 10 ^ power) * 10) (MAX_WHOLE + 1) ≡ capped (number * 10 ^ (power + 1))
capped-power-more number power =
    let more : 10 ^ (power + 1) ≡ 10 ^ power * 10 = rw add-one (pow-suc 10 power) in
    omega (arith, ap (λ (p : ℕ). number * p) more)

pub capped-times : (number power : ℕ) → capped (capped number * 10 ^ power) ≡ capped (number * 10 ^ power)
capped-times number power =
    elim (cases_lt (MAX_WHOLE + 1) number) [
      | inl large ↦
          let one = one-le-pow power 10 (omega arith) in
          let cap = mul-le (MAX_WHOLE + 1) 1 (capped number) (10 ^ power) (omega arith) one in
          let all = mul-le (MAX_WHOLE + 1) 1 number (10 ^ power) (omega arith) one in
          omega (arith, cap, all)
      | inr small ↦
          let same : capped number ≡ number = omega arith in
          rw same refl
    ]

pub capped-after : (digits : List ℕ) (number : ℕ)
    → capped (digits_value_after 10 (capped number) digits) ≡ capped (digits_value_after 10 number digits)
capped-after [] number = omega arith
capped-after (d ∷ ds) number =
    let v = digit_value d in
    sym (capped-after ds (capped number * 10 + v))
    ∙ ap (λ (n : ℕ). capped (digits_value_after 10 n ds)) (capped-digit number v)
    ∙ capped-after ds (number * 10 + v)

pub capped-power-end : (number power steps : ℕ) → steps ≡ min power 37
    → capped (number * 10 ^ steps) ≡ capped (number * 10 ^ power)
capped-power-end number power steps e =
    elim (cases_lt 37 power) [
      | inl past ↦ capped-power number steps power (omega arith) (omega arith)
      | inr within ↦ ap (λ (k : ℕ). capped (number * 10 ^ k)) (omega arith)
    ]
