-- The plain spelling of a number, and what isn't one.
use Rattle.std.proofs.Common.{◌≡◌, ◌≢◌, ℕ, suc, ◌-◌, ◌^◌, ◌<◌, ◌≤◌, Bool, true, false, cond, eqb, ltb, leb, List, ◌∷◌}
use Rattle.std.proofs.Common.{length, get_or, Option, Some, None, refl, sym, ap, ◌∙◌, arith, ◌&&◌, ℤ, pos, negsuc, inl}
use Rattle.std.proofs.Common.{inr, eq-eqb}
use Rattle.std.specs.Prelude.{FitsSigned, IfSome, IfNone}
use Rattle.std.specs.Int.{w64}
use Rattle.std.specs.Fmt.{decimal, signed_decimal}
use Rattle.std.specs.Char.{is_ascii_digit}
use Rattle.std.specs.List.{list_all}
use Rattle.std.specs.Str.Parse.{AllDigits, digits_value}
use Rattle.std.proofs.lemmas.Fmt.{decimal-digits_value, decimal_is_IsNumeral, length-decimal-le, first_decimal}
use Rattle.std.proofs.lemmas.Fmt.{decimal_digit, decimal_injective}
use Rattle.std.proofs.lemmas.Str.Parse.{digit_at}
use Rattle.std.proofs.lemmas.Bool.{cases_lt, lt-ltb, ltb-true, le-leb, leb-true, eqb-true, false≢true}
use Rattle.bl_text.specs.Numbers.{numeral_up_to}
use Rattle.bl_text.proofs.Digits.{numerals, AllDigits-from_test, test-from_AllDigits, digits_value-lt_19, and_true}

-- a `0` before further digits
abbrev pub leading_zero : List ℕ → Bool
leading_zero digits = ltb 1 (length digits) && eqb (get_or digits 0 0) 48

wide : (n : ℕ) → n < 10 ^ 19 → n < 2 ^ 64
wide n h = omega arith

-- what is known where a numeral was read
record IsRead (most : ℕ) (digits : List ℕ) (n : ℕ) : Type 0 where
  each : AllDigits 10 digits
  some : 0 < length digits
  few : length digits ≤ most
  value : digits_value 10 digits ≡ n

cond-some : (test : Bool) (v n : ℕ) → cond test (Some v) None ≡ Some n → (test ≡ true) × (v ≡ n)
cond-some true v n e = (refl, cc)
cond-some false v n e = absurd cc

numeral-some : (most : ℕ) (digits : List ℕ) (n : ℕ) → numeral_up_to most digits ≡ Some n → IsRead most digits n
numeral-some most digits n e =
    let test = cond-some (list_all is_ascii_digit digits && (ltb 0 (length digits) && leb (length digits) most))
    (digits_value 10 digits) n e in
    let all = and_true (list_all is_ascii_digit digits) (ltb 0 (length digits) && leb (length digits) most) test.0 in
    let size = and_true (ltb 0 (length digits)) (leb (length digits) most) all.1 in
    record {
      each = AllDigits-from_test digits all.0;
      some = ltb-true _ _ size.0;
      few = leb-true _ _ size.1;
      value =
          test.1;
    }

numeral-none : (most : ℕ) (digits : List ℕ) → numeral_up_to most digits ≡ None → AllDigits 10 digits
    → 0 < length digits → length digits ≤ most → ⊥
numeral-none most digits e each some few =
    let test : (list_all is_ascii_digit digits && (ltb 0 (length digits) && leb (length digits) most)) ≡ true =
    rw (test-from_AllDigits digits each, lt-ltb _ _ some, le-leb _ _ few) refl in
    let read : numeral_up_to most digits ≡ Some (digits_value 10 digits) =
    ap (λ (t : Bool). cond t (Some (digits_value 10 digits)) None) test in
    cc

one-zero : (digits : List ℕ) → leading_zero digits ≡ false → get_or digits 0 0 ≡ 48 → 0 < length digits
    → length digits ≡ 1
one-zero digits plain z some =
    elim (cases_lt 1 (length digits)) [
      | inl lt ↦
          let t : leading_zero digits ≡ true = rw (lt-ltb _ _ lt) (eq-eqb _ _ z) in
          absurd (false≢true (sym plain ∙ t))
      | inr le ↦ omega arith
    ]

pub plain-some : (digits : List ℕ) (n : ℕ) → leading_zero digits ≡ false → numeral_up_to 19 digits ≡ Some n
    → (n < 10 ^ 19) × (digits ≡ decimal n)
plain-some digits n plain e =
    let r = numeral-some 19 digits n e in
    let small : digits_value 10 digits < 10 ^ 19 = digits_value-lt_19 digits r.each r.few in
    let spelled = decimal-digits_value numerals digits r.each r.some (λ z. one-zero digits plain z r.some)
    (wide _ small) in
    (omega (arith, r.value, small), sym spelled ∙ ap decimal r.value)

pub plain-none : (digits : List ℕ) → numeral_up_to 19 digits ≡ None → (n : ℕ) → n < 10 ^ 19 → digits ≡ decimal n → ⊥
plain-none digits e n lt d =
    let numeral = decimal_is_IsNumeral n (wide n lt) in
    numeral-none 19 (decimal n) (ap (numeral_up_to 19) (sym d) ∙ e) numeral.0.1 numeral.0.0
    (length-decimal-le 19 n (omega arith) lt (wide n lt))

zero-alone : (n : ℕ) → n < 10 ^ 19 → get_or (decimal n) 0 0 ≡ 48 → 1 < length (decimal n) → ⊥
zero-alone n lt z long =
    elim (cases_lt 0 n) [
      | inl some ↦ omega (arith, first_decimal n some (wide n lt))
      | inr le ↦
          let one : length (decimal n) ≡ 1 = ap length (decimal_digit n (omega arith)) in
          omega arith
    ]

pub plain-zero : (digits : List ℕ) → leading_zero digits ≡ true → (n : ℕ) → n < 10 ^ 19 → digits ≡ decimal n → ⊥
plain-zero digits e n lt d =
    let both = and_true (ltb 1 (length digits)) (eqb (get_or digits 0 0) 48) e in
    zero-alone n lt (ap (λ (ds : List ℕ). get_or ds 0 0) (sym d) ∙ eqb-true _ _ both.1)
    (omega (arith, ltb-true _ _ both.0, ap length d))

pub negative-some : (digits : List ℕ) (m : ℕ) → 0 < m → digits ≡ decimal m
    → 45 ∷ digits ≡ signed_decimal (negsuc (m - 1))
negative-some digits m some d =
    let whole : m ≡ suc (m - 1) = omega arith in
    ap (λ (ds : List ℕ). 45 ∷ ds) (d ∙ ap decimal whole)

-- a `-` doesn't begin a number from 0 on
minus-first : (digits : List ℕ) (k : ℕ) → k < 2 ^ 64 → 45 ∷ digits ≡ decimal k → ⊥
minus-first digits k lt e =
    let numeral = decimal_is_IsNumeral k lt in
    let digit = digit_at (decimal k) 0 numeral.0.1 numeral.0.0 in
    omega (arith, digit.0, ap (λ (ds : List ℕ). get_or ds 0 0) e)

pub negative-none : (digits : List ℕ) → ((n : ℕ) → n < 10 ^ 19 → digits ≡ decimal n → ⊥) → (n : ℤ) → FitsSigned w64 n
    → 45 ∷ digits ≡ signed_decimal n → ⊥
negative-none digits h (pos k) fits e = minus-first digits k (omega (arith, fits.sfits)) e
negative-none digits h (negsuc k) fits e = h (suc k) (omega (arith, fits.sfits)) cc

pub negative-zero : (digits : List ℕ) (m : ℕ) → m ≡ 0 → digits ≡ decimal m → (n : ℤ) → FitsSigned w64 n
    → 45 ∷ digits ≡ signed_decimal n → ⊥
negative-zero digits m z d (pos k) fits e = minus-first digits k (omega (arith, fits.sfits)) e
negative-zero digits m z d (negsuc k) fits e =
    let same : digits ≡ decimal (suc k) = cc in
    omega (arith, decimal_injective m (suc k) (omega arith) (omega (arith, fits.sfits)) (sym d ∙ same))

pub negative-wide : (digits : List ℕ) (m : ℕ) → m < 10 ^ 19 → 2 ^ 63 < m → digits ≡ decimal m → (n : ℤ)
    → FitsSigned w64 n → 45 ∷ digits ≡ signed_decimal n → ⊥
negative-wide digits m lt gt d (pos k) fits e = minus-first digits k (omega (arith, fits.sfits)) e
negative-wide digits m lt gt d (negsuc k) fits e =
    let same : digits ≡ decimal (suc k) = cc in
    omega (arith, fits.sfits, decimal_injective m (suc k) (omega arith) (omega (arith, fits.sfits)) (sym d ∙ same))

pub unsigned-wide : (digits : List ℕ) (m : ℕ) → m < 10 ^ 19 → 2 ^ 63 ≤ m → digits ≡ decimal m → (n : ℤ)
    → FitsSigned w64 n → digits ≡ signed_decimal n → ⊥
unsigned-wide digits m lt ge d (pos k) fits e =
    omega (arith, fits.sfits, decimal_injective m k (omega arith) (omega (arith, fits.sfits)) (sym d ∙ e))
unsigned-wide digits m lt ge d (negsuc k) fits e = minus-first (decimal (suc k)) m (wide m lt) (sym e ∙ d)

pub unsigned-none : (digits : List ℕ) → ((n : ℕ) → n < 10 ^ 19 → digits ≡ decimal n → ⊥) → get_or digits 0 0 ≢ 45
    → (n : ℤ) → FitsSigned w64 n → digits ≡ signed_decimal n → ⊥
unsigned-none digits h first (pos k) fits e = h k (omega (arith, fits.sfits)) e
unsigned-none digits h first (negsuc k) fits e = first (ap (λ (ds : List ℕ). get_or ds 0 0) e)

pub plain-if_some : (digits : List ℕ) (read : Option ℕ) → false ≡ leading_zero digits → read ≡ numeral_up_to 19 digits
    → IfSome read (λ n. (n < 10 ^ 19) × (digits ≡ decimal n))
plain-if_some digits None plain e = tt
plain-if_some digits (Some n) plain e = plain-some digits n (sym plain) (sym e)

pub plain-if_none : (digits : List ℕ) (read : Option ℕ) → read ≡ numeral_up_to 19 digits
    → IfNone read ((n : ℕ) → n < 10 ^ 19 → digits ≡ decimal n → ⊥)
plain-if_none digits None e = plain-none digits (sym e)
plain-if_none digits (Some n) e = tt
