-- Trusted. The grammar of numbers, what a number is worth, and what a text is read as.
use Rattle.std.specs.Prelude.{◌≡◌, ℕ, ◌+◌, ◌*◌, ◌^◌, ◌<◌, ◌≤◌, ℤ, pos, ◌*ℤ◌, int_lt, unsigned_abs, Bool, true, false}
use Rattle.std.specs.Prelude.{List, [], ◌∷◌, ◌++◌, length, Option, Some, None, Result, Ok, Err, if◌then◌else◌}
use Rattle.std.specs.Fmt.{signed_decimal}
use Rattle.std.specs.Str.Parse.{IsNumeral, digits_value}
use Rattle.bl_limits.specs.declared.TheConstants.{MAX_WHOLE}
use Rattle.bl_num.specs.declared.fault.NumFault.{NumFault}
use Rattle.bl_num.specs.declared.fault.NumFault.TheVariants.{NotNumber, NotWhole, TooLarge}
use Rattle.bl_num.specs.Numbers.{is_mark, signed, read_of}

-- an optional sign
pub data Sign : Type 0 where
  Bare : Sign
  Plus : Sign
  Minus : Sign

abbrev pub sign_text : Sign → List ℕ
sign_text Bare = []
sign_text Plus = 43 ∷ []
sign_text Minus = 45 ∷ []

abbrev pub is_minus : Sign → Bool
is_minus Bare = false
is_minus Plus = false
is_minus Minus = true

-- `e` or `E`, an optional sign and digits
pub record Exponent : Type 0 where
  pub mark : ℕ
  pub sign : Sign
  pub digits : List ℕ

-- an optional sign, digits, and optionally a point with digits and an exponent
pub record Number : Type 0 where
  pub sign : Sign
  pub whole : List ℕ
  pub fraction : Option (List ℕ)
  pub exponent : Option Exponent

abbrev pub fraction_digits : Option (List ℕ) → List ℕ
fraction_digits None = []
fraction_digits (Some digits) = digits

abbrev pub fraction_text : Option (List ℕ) → List ℕ
fraction_text None = []
fraction_text (Some digits) = 46 ∷ digits

abbrev pub exponent_text : Option Exponent → List ℕ
exponent_text None = []
exponent_text (Some e) = e.mark ∷ (sign_text e.sign ++ e.digits)

abbrev pub text_of : Number → List ℕ
text_of n = sign_text n.sign ++ (n.whole ++ (fraction_text n.fraction ++ exponent_text n.exponent))

abbrev pub IsExponent : Option Exponent → Type 0
IsExponent None = Unit {0}
IsExponent (Some e) = (is_mark e.mark ≡ true) × IsNumeral 10 e.digits

-- digits stand where digits should, and one at least before the exponent and in it
pub record IsNumber (n : Number) : Type 0 where
  pub digits : IsNumeral 10 (n.whole ++ fraction_digits n.fraction)
  pub exponent : IsExponent n.exponent

-- the exponent's magnitude, and whether it is negative
abbrev pub power : Option Exponent → ℕ
power None = 0
power (Some e) = digits_value 10 e.digits

abbrev pub is_lowered : Option Exponent → Bool
is_lowered None = false
is_lowered (Some e) = is_minus e.sign

-- The number is worth z: z times ten to the places behind the point is the digits' number times ten to the exponent.
abbrev pub IsWorth : Number → ℤ → Type 0
IsWorth n z =
    z *ℤ pos (10 ^ (length (fraction_digits n.fraction) + (if is_lowered n.exponent then power n.exponent else 0)))
    ≡ signed (is_minus n.sign)
    (digits_value 10 (n.whole ++ fraction_digits n.fraction)
    * 10 ^ (if is_lowered n.exponent then 0 else power n.exponent))

-- the text is this number
pub record IsText (text : List ℕ) (n : Number) : Type 0 where
  pub is_number : IsNumber n
  pub spelled : text ≡ text_of n

-- What a text is read as: a whole number within the limit, or why it isn't one.
abbrev pub Reads : List ℕ → Result ℤ NumFault → Type 0
Reads text (Ok z) = (n : Number) × IsText text n × IsWorth n z × (unsigned_abs z ≤ MAX_WHOLE)
Reads text (Err NotNumber) = (n : Number) → IsText text n → ⊥
Reads text (Err NotWhole) = (n : Number) × IsText text n × ((z : ℤ) → IsWorth n z → ⊥)
Reads text (Err (TooLarge negative)) =
    (n : Number) × IsText text n
    × ((z : ℤ) × IsWorth n z × (MAX_WHOLE < unsigned_abs z) × (negative ≡ int_lt z (pos 0)))

-- `read_of` gives what a text is read as, and nothing else is.
pub record ReadsNumbers : Type 0 where
  pub given : (text : List ℕ) → Reads text (read_of text)
  pub only : (text : List ℕ) (read : Result ℤ NumFault) → Reads text read → read ≡ read_of text

-- The decimal text of a number within the limit is read as that number.
abbrev pub ReadsDecimals : Type 0
ReadsDecimals = (z : ℤ) → unsigned_abs z ≤ MAX_WHOLE → read_of (signed_decimal z) ≡ Ok z
