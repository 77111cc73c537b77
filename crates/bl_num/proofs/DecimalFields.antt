-- The decimal text of a number has no blank and no line feed.
use Rattle.std.proofs.Common.{◌≡◌, ℕ, suc, ◌<◌, ◌≤◌, false, eqb, List, [], ◌∷◌, length, refl, arith, ℤ, pos}
use Rattle.std.proofs.Common.{negsuc, unsigned_abs}
use Rattle.std.specs.Fmt.{decimal, signed_decimal}
use Rattle.std.specs.Int.{IsInRange}
use Rattle.std.specs.List.{AllByRecursion}
use Rattle.std.specs.Str.Parse.{AllDigits}
use Rattle.std.proofs.lemmas.Bool.Decides.{nat_tests}
use Rattle.std.proofs.lemmas.Fmt.{decimal_is_IsNumeral_wide}
use Rattle.std.proofs.lemmas.Str.Parse.{digit_at}
use Rattle.bl_limits.specs.declared.TheConstants.{MAX_WHOLE}
use Rattle.bl_text.specs.Fields.{is_blank, IsField}
use Rattle.bl_text.specs.Lines.{IsLine}

other_byte : (a b : ℕ) → (a ≡ b → ⊥) → eqb a b ≡ false
other_byte a b h = grind (arith, nat_tests)

digit_no_blank : (d : ℕ) → IsInRange 48 57 d → is_blank d ≡ false
digit_no_blank d h =
    rw (
      other_byte d 32 (omega (arith, h.0)),
      other_byte d 9 (omega (arith, h.0)),
      other_byte d 13 (omega (arith, h.0)),
    ) refl

digits_no_blank : (ds : List ℕ) → AllDigits 10 ds → AllByRecursion (λ b. is_blank b ≡ false) ds
digits_no_blank [] h = tt
digits_no_blank (d ∷ ds) h = (digit_no_blank d (digit_at (d ∷ ds) 0 h (omega arith)), digits_no_blank ds h.1)

digits_line : (ds : List ℕ) → AllDigits 10 ds → IsLine ds
digits_line [] h = tt
digits_line (d ∷ ds) h =
    let range = digit_at (d ∷ ds) 0 h (omega arith) in
    (other_byte d 10 (omega (arith, range.0)), digits_line ds h.1)

digits_field : (ds : List ℕ) → 0 < length ds → AllDigits 10 ds → IsField ds
digits_field [] some h = absurd (omega arith)
digits_field (d ∷ ds) some h = digits_no_blank (d ∷ ds) h

pub decimal_field : (z : ℤ) → unsigned_abs z ≤ MAX_WHOLE → IsField (signed_decimal z)
decimal_field (pos m) le =
    let n = decimal_is_IsNumeral_wide m (omega (arith, le)) in
    digits_field (decimal m) n.0.0 n.0.1
decimal_field (negsuc m) le =
    let n = decimal_is_IsNumeral_wide (suc m) (omega (arith, le)) in
    (refl, digits_no_blank (decimal (suc m)) n.0.1)

pub decimal_line : (z : ℤ) → unsigned_abs z ≤ MAX_WHOLE → IsLine (signed_decimal z)
decimal_line (pos m) le =
    let n = decimal_is_IsNumeral_wide m (omega (arith, le)) in
    digits_line (decimal m) n.0.1
decimal_line (negsuc m) le =
    let n = decimal_is_IsNumeral_wide (suc m) (omega (arith, le)) in
    (refl, digits_line (decimal (suc m)) n.0.1)
