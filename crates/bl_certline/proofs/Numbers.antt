-- The number that a field spells.
use Rattle.std.proofs.Common.{◌≡◌, ℕ, suc, ◌^◌, ◌<◌, Bool, true, false, [], ◌∷◌}
use Rattle.std.proofs.Common.{length, Option, Some, None, refl, sym, ap, subst, ◌∙◌, arith, ◌&&◌, ℤ, pos, negsuc, neg_ℤ}
use Rattle.std.specs.Fmt.{decimal, signed_decimal}
use Rattle.std.specs.Prelude.{FitsSigned, IfSome, IfNone}
use Rattle.std.specs.Int.{w64}
use Rattle.std.specs.List.{AllByRecursion}
use Rattle.std.specs.Str.Parse.{AllDigits, starts_with_minus}
use Rattle.std.proofs.lemmas.Bool.{lt-ltb, ltb-true, ne_eqb}
use Rattle.std.proofs.lemmas.Fmt.{decimal_is_IsNumeral, decimal_nonempty}
use Rattle.std.proofs.lemmas.Option.{cond_some}
use Rattle.std.proofs.lemmas.Slice.Eq.{bytes_eq-Decides}
use Rattle.std.proofs.lemmas.Str.Parse.{digit_at}
use Rattle.bl_certline.specs.Fields.{Bytes, Finds, IsWhole, IsWholeField}
use Rattle.bl_certline.specs.FieldValues.{size_of, worth_of, number_of}

pub and_true : (a b : Bool) → (a && b) ≡ true → (a ≡ true) × (b ≡ true)
and_true true b h = (refl, h)
and_true false b h = absurd cc

whole-size : (z : ℤ) → IsWhole z → size_of z < 2 ^ 63
whole-size (pos n) whole = omega (arith, whole.sfits)
whole-size (negsuc n) whole = omega (arith, whole.sfits)

whole-from_size : (z : ℤ) → size_of z < 2 ^ 63 → IsWhole z
whole-from_size (pos n) small = record { sfits = omega (arith, small) }
whole-from_size (negsuc n) small = record { sfits = omega (arith, small) }

number_of-at : (field : Bytes) (z : ℤ) → worth_of field ≡ z → IsWhole z → signed_decimal z ≡ field
    → number_of field ≡ Some z
unfolding number_of
number_of-at field z worth whole spelled =
    let same = (bytes_eq-Decides (signed_decimal z) field).1 spelled in
    rw (worth, lt-ltb (size_of z) (2 ^ 63) (whole-size z whole), same) refl

worth_of-decimal : (n : ℕ) → n < 2 ^ 64 → worth_of (decimal n) ≡ pos n
worth_of-decimal n small =
    let numeral = decimal_is_IsNumeral n small in
    let digit = digit_at (decimal n) 0 numeral.0.1 numeral.0.0 in
    let unsigned : starts_with_minus (decimal n) ≡ false = ne_eqb _ _ (λ e. omega (arith, digit.0, e)) in
    rw unsigned (ap pos numeral.1)

worth_of-signed : (z : ℤ) → IsWhole z → worth_of (signed_decimal z) ≡ z
worth_of-signed (pos n) whole = worth_of-decimal n (omega (arith, whole.sfits))
worth_of-signed (negsuc n) whole =
    ap (λ (k : ℕ). neg_ℤ (pos k)) (decimal_is_IsNumeral (suc n) (omega (arith, whole.sfits))).1

-- the spelling of a number is read as that number
pub number_of-spelled : (z : ℤ) → IsWhole z → number_of (signed_decimal z) ≡ Some z
number_of-spelled z whole = number_of-at (signed_decimal z) z (worth_of-signed z whole) whole refl

-- what is read as a number is its spelling
pub number_of-some : (field : Bytes) (z : ℤ) → number_of field ≡ Some z → IsWholeField field z
unfolding number_of
number_of-some field z e =
    let read = cond_some _ _ _ e in
    let both = and_true _ _ read.0 in
    let small = ltb-true (size_of (worth_of field)) (2 ^ 63) both.0 in
    let spelled = (bytes_eq-Decides (signed_decimal (worth_of field)) field).0 both.1 in
    subst (λ (v : ℤ). IsWholeField field v) read.1
    (record { whole = whole-from_size (worth_of field) small; spelled = sym spelled })

pub number_of-none : (field : Bytes) → number_of field ≡ None → (z : ℤ) → IsWholeField field z → ⊥
number_of-none field e z h =
    let read : number_of field ≡ Some z = ap number_of h.spelled ∙ number_of-spelled z h.whole in
    cc

pub finds_number : (field : Bytes) (read : Option ℤ) → read ≡ number_of field → Finds (IsWholeField field) read
finds_number field None e = number_of-none field (sym e)
finds_number field (Some z) e = number_of-some field z (sym e)

number_of-missing : (field : Bytes) (read : Option ℤ) → number_of field ≡ read → ((z : ℤ) → IsWholeField field z → ⊥)
    → None ≡ read
number_of-missing field None e h = refl
number_of-missing field (Some z) e h = absurd (h z (number_of-some field z e))

-- what finds the number is what is read
pub number_of-found : (field : Bytes) (read : Option ℤ) → Finds (IsWholeField field) read → read ≡ number_of field
number_of-found field None h = number_of-missing field (number_of field) refl h
number_of-found field (Some z) h = sym (ap number_of h.spelled ∙ number_of-spelled z h.whole)

-- what finds plain numbers finds the number
pub number_of-plain : (field : Bytes) (read : Option ℤ) → IfSome read (λ z. FitsSigned w64 z)
    → IfSome read (λ z. field ≡ signed_decimal z)
    → IfNone read ((z : ℤ) → FitsSigned w64 z → field ≡ signed_decimal z → ⊥) → read ≡ number_of field
number_of-plain field None whole some none = number_of-found field None (λ z h. none z h.whole h.spelled)
number_of-plain field (Some z) whole some none =
    number_of-found field (Some z) (record { whole = whole; spelled = some })

-- ---- bytes of numbers

-- `-` or a digit, and so neither a blank nor a colon
abbrev pub IsPlainByte : ℕ → Type 0
IsPlainByte b = (44 < b) × (b < 58)

digits-plain : (ds : Bytes) → AllDigits 10 ds → AllByRecursion IsPlainByte ds
digits-plain [] h = tt
digits-plain (d ∷ ds) h =
    let range = digit_at (d ∷ ds) 0 h (omega arith) in
    ((omega (arith, range.0), omega (arith, range.1)), digits-plain ds h.1)

pub number-plain : (z : ℤ) → IsWhole z → AllByRecursion IsPlainByte (signed_decimal z)
number-plain (pos n) whole = digits-plain (decimal n) (decimal_is_IsNumeral n (omega (arith, whole.sfits))).0.1
number-plain (negsuc n) whole = (
  (omega arith, omega arith),
  digits-plain (decimal (suc n)) (decimal_is_IsNumeral (suc n) (omega (arith, whole.sfits))).0.1,
)

pub number-nonempty : (z : ℤ) → IsWhole z → [] ≡ signed_decimal z → ⊥
number-nonempty (pos n) whole e = omega (arith, decimal_nonempty n (omega (arith, whole.sfits)), ap length e)
number-nonempty (negsuc n) whole e = cc
