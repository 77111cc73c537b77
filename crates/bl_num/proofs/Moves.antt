-- What the reader finds where it moves the point as far as the digits go.
use Rattle.std.proofs.Common.{◌≡◌, ◌⊎◌, ℕ, ◌-◌, ◌*◌, ◌^◌, ◌<◌, ◌≤◌, min, Bool, true, false, cond, eqb, List, [], ◌++◌}
use Rattle.std.proofs.Common.{length, take, drop, Option, Some, None, refl, sym, ap, ◌∙◌, arith, inl, inr}
use Rattle.std.specs.Option.{option_map}
use Rattle.std.specs.Str.Parse.{AllDigits, digits_value}
use Rattle.std.proofs.Math.Nat.{one-le-pow}
use Rattle.std.proofs.lemmas.Nat.{mul-le}
use Rattle.std.proofs.lemmas.Bool.{cases_lt, eqb-true, eqb-false}
use Rattle.std.proofs.lemmas.Bool.Decides.{nat_tests}
use Rattle.std.proofs.lemmas.List.{take-append-drop, length-take, length-drop, take_all, drop_all}
use Rattle.bl_num.specs.Capped.{capped, are_zeros, raised_magnitude, lowered_magnitude}
use Rattle.bl_num.proofs.Capping.{capped-power}
use Rattle.bl_num.proofs.Decimals.{AllDigits-drop, value-append, zeros-value, nonzeros-value}
use Rattle.bl_num.proofs.Points.{lowered-within, lowered-past, raised-within, raised-past}

-- the digits in front of the point's new place and those behind it, where it moves by a power that is cut off at the
-- limit
pub record AreCut (digits front back : List ℕ) (place : ℕ) : Type 0 where
  pub front_is : front ≡ take place digits
  pub back_is : back ≡ drop place digits

joined : (digits front back : List ℕ) (place : ℕ) → AreCut digits front back place → front ++ back ≡ digits
joined digits front back place cut = rw (cut.front_is, cut.back_is) (take-append-drop place digits)

pub lowered-cut : (whole fraction front back : List ℕ) (power most moved : ℕ) → AllDigits 10 whole
    → AllDigits 10 fraction → length whole < 2 ^ 64 → most ≡ capped power → moved ≡ min most (length whole)
    → AreCut whole front back (length whole - moved)
    → lowered_magnitude whole fraction power
    ≡ cond (eqb (digits_value 10 (back ++ fraction)) 0) (Some (digits_value 10 front)) None
lowered-cut whole fraction front back power most moved w f few m v cut =
    elim (cases_lt (length whole) power) [
      | inl past ↦
          let none : length whole - moved ≡ 0 = omega arith in
          let front_none : front ≡ [] = cut.front_is ∙ ap (λ (k : ℕ). take k whole) none in
          let back_all : back ≡ whole = cut.back_is ∙ ap (λ (k : ℕ). drop k whole) none in
          rw (front_none, back_all) (lowered-past whole fraction power w f (omega arith))
      | inr within ↦
          let digits : AllDigits 10 back = rw (cut.back_is) (AllDigits-drop (length whole - moved) whole w) in
          let size : length back ≡ power =
          ap length cut.back_is ∙ omega (arith, length-drop (length whole - moved) whole) in
          ap (λ (ds : List ℕ). lowered_magnitude ds fraction power) (sym (joined whole front back _ cut))
          ∙ lowered-within front back fraction power digits f size
    ]

positive-eqb : (n : ℕ) → 0 < n → eqb n 0 ≡ false
positive-eqb n some = grind (arith, nat_tests)

-- a power of ten is not 0
eqb-times : (n power : ℕ) → 1 ≤ power → (test : Bool) → eqb n 0 ≡ test → eqb (n * power) 0 ≡ test
eqb-times n power one true e =
    let zero : n ≡ 0 = eqb-true n 0 e in
    let none : n * power ≡ 0 = omega (arith, ap (λ (k : ℕ). k * power) zero) in
    rw none refl
eqb-times n power one false e =
    let some = eqb-false n 0 e in
    let product = mul-le 1 1 n power (omega arith) one in
    positive-eqb (n * power) (omega arith)

-- what is read, by whether the digits behind the point are zeros
abbrev pub read_if : Bool → ℕ → Option ℕ
read_if zeros number = cond zeros (Some (capped number)) None

capped-read : (zeros : Bool) (number same : ℕ) → capped number ≡ capped same
    → option_map capped (cond zeros (Some number) None) ≡ read_if zeros same
capped-read true number same e = ap (λ (n : ℕ). Some n) e
capped-read false number same e = refl

-- past the fraction the cut power gives the same
past-power : (number power most places : ℕ) → places < 2 ^ 64 → places < power → most ≡ capped power
    → capped (number * 10 ^ (power - places)) ≡ capped (number * 10 ^ (most - places))
past-power number power most places few past m =
    elim (cases_lt most power) [
      | inl cut ↦ capped-power number (power - places) (most - places) (omega arith) (omega arith)
      | inr whole ↦ ap (λ (k : ℕ). capped (number * 10 ^ (k - places))) (omega arith)
    ]

pub raised-cut : (whole fraction front back : List ℕ) (power most moved : ℕ) → AllDigits 10 fraction
    → length fraction < 2 ^ 64 → most ≡ capped power → moved ≡ min most (length fraction)
    → AreCut fraction front back moved
    → option_map capped (raised_magnitude whole fraction power)
    ≡ read_if (eqb (digits_value 10 back) 0) (digits_value 10 (whole ++ front) * 10 ^ (most - moved))
raised-cut whole fraction front back power most moved f few m v cut =
    elim (cases_lt (length fraction) power) [
      | inl past ↦
          let all : moved ≡ length fraction = omega arith in
          let front_all : front ≡ fraction = cut.front_is ∙ take_all moved fraction (omega arith) in
          let back_none : back ≡ [] = cut.back_is ∙ drop_all moved fraction (omega arith) in
          ap (option_map capped) (raised-past whole fraction power (omega arith))
          ∙ ap (λ (n : ℕ). Some n)
          (past-power (digits_value 10 (whole ++ fraction)) power most (length fraction) few (omega arith) m)
          ∙ rw (front_all, back_none, all) refl
      | inr within ↦
          let digits : AllDigits 10 back = rw (cut.back_is) (AllDigits-drop moved fraction f) in
          let size : length front ≡ power = ap length cut.front_is ∙ omega (arith, length-take moved fraction) in
          let one = one-le-pow power 10 (omega arith) in
          let none : most - moved ≡ 0 = omega arith in
          ap (λ (ds : List ℕ). option_map capped (raised_magnitude whole ds power))
          (sym (joined fraction front back _ cut))
          ∙ ap (option_map capped) (raised-within whole front back power digits size)
          ∙ ap (λ (b : Bool). option_map capped (cond b (Some (digits_value 10 (whole ++ front))) None))
          (eqb-times (digits_value 10 back) (10 ^ power) one (eqb (digits_value 10 back) 0) refl)
          ∙ capped-read (eqb (digits_value 10 back) 0) (digits_value 10 (whole ++ front)) _ (rw none (omega arith))
    ]

zeros-both : (back fraction : List ℕ) → are_zeros back ≡ true → are_zeros fraction ≡ true
    → digits_value 10 (back ++ fraction) ≡ 0
zeros-both back fraction b f =
    omega (
      arith,
      value-append back fraction,
      ap (λ (n : ℕ). n * 10 ^ length fraction) (zeros-value back b),
      zeros-value fraction f,
    )

nonzeros-either : (back fraction : List ℕ) → AllDigits 10 back → AllDigits 10 fraction
    → (are_zeros back ≡ false) ⊎ (are_zeros fraction ≡ false) → 0 < digits_value 10 (back ++ fraction)
nonzeros-either back fraction b f (inl e) =
    let some = nonzeros-value back b e in
    let one = one-le-pow (length fraction) 10 (omega arith) in
    let product = mul-le 1 1 (digits_value 10 back) (10 ^ length fraction) (omega arith) one in
    omega (arith, value-append back fraction, product)
nonzeros-either back fraction b f (inr e) = omega (arith, value-append back fraction, nonzeros-value fraction f e)

pub lowered-zeros : (whole fraction front back : List ℕ) (power most moved : ℕ) → AllDigits 10 whole
    → AllDigits 10 fraction → length whole < 2 ^ 64 → most ≡ capped power → moved ≡ min most (length whole)
    → AreCut whole front back (length whole - moved) → are_zeros back ≡ true → are_zeros fraction ≡ true
    → Some (capped (digits_value 10 front)) ≡ option_map capped (lowered_magnitude whole fraction power)
lowered-zeros whole fraction front back power most moved w f few m v cut b z =
    sym (ap (option_map capped) (lowered-cut whole fraction front back power most moved w f few m v cut
    ∙ ap (λ (n : ℕ). cond (eqb n 0) (Some (digits_value 10 front)) None) (zeros-both back fraction b z)))

pub lowered-rest : (whole fraction front back : List ℕ) (power most moved : ℕ) → AllDigits 10 whole
    → AllDigits 10 fraction → length whole < 2 ^ 64 → most ≡ capped power → moved ≡ min most (length whole)
    → AreCut whole front back (length whole - moved) → (are_zeros back ≡ false) ⊎ (are_zeros fraction ≡ false)
    → None ≡ option_map capped (lowered_magnitude whole fraction power)
lowered-rest whole fraction front back power most moved w f few m v cut rest =
    let digits : AllDigits 10 back = rw (cut.back_is) (AllDigits-drop (length whole - moved) whole w) in
    sym (ap (option_map capped) (lowered-cut whole fraction front back power most moved w f few m v cut
    ∙ ap (λ (b : Bool). cond b (Some (digits_value 10 front)) None)
    (positive-eqb _ (nonzeros-either back fraction digits f rest))))

pub raised-zeros : (whole fraction front back : List ℕ) (power most moved : ℕ) → AllDigits 10 fraction
    → length fraction < 2 ^ 64 → most ≡ capped power → moved ≡ min most (length fraction)
    → AreCut fraction front back moved → are_zeros back ≡ true
    → Some (capped (digits_value 10 (whole ++ front) * 10 ^ (most - moved)))
    ≡ option_map capped (raised_magnitude whole fraction power)
raised-zeros whole fraction front back power most moved f few m v cut z =
    sym (raised-cut whole fraction front back power most moved f few m v cut
    ∙ ap (λ (n : ℕ). read_if (eqb n 0) (digits_value 10 (whole ++ front) * 10 ^ (most - moved))) (zeros-value back z))

pub raised-rest : (whole fraction front back : List ℕ) (power most moved : ℕ) → AllDigits 10 fraction
    → length fraction < 2 ^ 64 → most ≡ capped power → moved ≡ min most (length fraction)
    → AreCut fraction front back moved → are_zeros back ≡ false
    → None ≡ option_map capped (raised_magnitude whole fraction power)
raised-rest whole fraction front back power most moved f few m v cut z =
    let digits : AllDigits 10 back = rw (cut.back_is) (AllDigits-drop moved fraction f) in
    sym (raised-cut whole fraction front back power most moved f few m v cut
    ∙ ap (λ (b : Bool). read_if b (digits_value 10 (whole ++ front) * 10 ^ (most - moved)))
    (positive-eqb _ (nonzeros-value back digits z)))
