-- What is read of a text is what the grammar says.
use Rattle.std.proofs.Common.{◌≡◌, ℕ, zero, suc, ◌+◌, ◌*◌, ◌^◌, ◌<◌, ◌≤◌, Bool, true, false, cond, List, [], ◌∷◌, ◌++◌}
use Rattle.std.proofs.Common.{Option, Some, None, Ok, Err, Result, refl, sym, ap, subst, ◌∙◌, arith, inl, inr, ℤ, pos}
use Rattle.std.proofs.Common.{negsuc, neg_ℤ, ◌*ℤ◌, unsigned_abs}
use Rattle.std.specs.Fmt.{decimal}
use Rattle.std.specs.Str.Parse.{digits_value, starts_with_minus}
use Rattle.std.proofs.lemmas.Bool.{cases_lt, le-leb, false≢true}
use Rattle.std.proofs.lemmas.Fmt.{decimal_is_IsNumeral_wide}
use Rattle.std.proofs.lemmas.List.{append-nil}
use Rattle.bl_limits.specs.declared.TheConstants.{MAX_WHOLE}
use Rattle.bl_num.specs.declared.fault.NumFault.{NumFault}
use Rattle.bl_num.specs.declared.fault.NumFault.TheVariants.{NotNumber, NotWhole, TooLarge}
use Rattle.bl_num.specs.Numbers.{Parts, parts_of, is_number, magnitude_of, exact_quotient, signed, limited, read_of}
use Rattle.bl_num.specs.Grammar.{Sign, Bare, Minus, is_minus, Number, IsNumber, IsText, IsWorth, Reads, ReadsNumbers}
use Rattle.bl_num.specs.Grammar.{ReadsDecimals}
use Rattle.bl_num.proofs.Magnitudes.{nat_le_false}
use Rattle.bl_num.proofs.Partings.{parts_in, parts_of-text, is_number-parts}
use Rattle.bl_num.proofs.Parsings.{number-in}
use Rattle.bl_num.proofs.Worths.{over, under, under-positive, magnitude_of-parts, worth-quotient, worth-sign}
use Rattle.bl_num.proofs.Worths.{quotient-worth, sign-of}

-- what is read of a number's text
read_of-number : (text : List ℕ) (n : Number) → IsText text n
    → read_of text ≡ limited (is_minus n.sign) (exact_quotient (over n) (under n))
unfolding read_of parts_of
read_of-number text n t =
    let parts : parts_of text ≡ parts_in n = ap parts_of t.spelled ∙ parts_of-text n t.is_number in
    let number : is_number (parts_of text) ≡ true = ap is_number parts ∙ is_number-parts n t.is_number in
    let sign : starts_with_minus text ≡ is_minus n.sign = ap (λ (p : Parts). p.negative) parts in
    ap (λ (b : Bool). cond b (limited (starts_with_minus text) (magnitude_of (parts_of text))) (Err NotNumber)) number
    ∙ ap (λ (b : Bool). limited b (magnitude_of (parts_of text))) sign
    ∙ ap (λ (p : Parts). limited (is_minus n.sign) (magnitude_of p)) parts
    ∙ ap (limited (is_minus n.sign)) (magnitude_of-parts n t.is_number)

read_of-nothing : (text : List ℕ) → is_number (parts_of text) ≡ false → read_of text ≡ Err NotNumber
unfolding read_of
read_of-nothing text h =
    ap (λ (b : Bool). cond b (limited (starts_with_minus text) (magnitude_of (parts_of text))) (Err NotNumber)) h

limited-within : (negative : Bool) (m : ℕ) → m ≤ MAX_WHOLE → limited negative (Some m) ≡ Ok (signed negative m)
limited-within negative m le =
    ap (λ (b : Bool). cond b (Ok (signed negative m)) (Err (TooLarge negative))) (le-leb m MAX_WHOLE le)

limited-above : (negative : Bool) (m : ℕ) → MAX_WHOLE < m → limited negative (Some m) ≡ Err (TooLarge negative)
limited-above negative m lt =
    ap (λ (b : Bool). cond b (Ok (signed negative m)) (Err (TooLarge negative))) (nat_le_false m lt)

read-worth : (text : List ℕ) (n : Number) (z : ℤ) → IsText text n → IsWorth n z
    → read_of text ≡ limited (is_minus n.sign) (Some (unsigned_abs z))
read-worth text n z t w =
    read_of-number text n t
    ∙ ap (limited (is_minus n.sign)) (worth-quotient z (under n) (is_minus n.sign) (over n) (under-positive n) w)

-- ---- nothing else is read

worthless : (n : Number) (quotient : Option ℕ) → exact_quotient (over n) (under n) ≡ quotient
    → ((z : ℤ) → IsWorth n z → ⊥) → quotient ≡ None
worthless n None e h = refl
worthless n (Some m) e h =
    absurd (h (signed (is_minus n.sign) m) (quotient-worth (is_minus n.sign) (over n) (under n) m e))

nothing-read : (text : List ℕ) (test : Bool) → is_number (parts_of text) ≡ test → ((n : Number) → IsText text n → ⊥)
    → test ≡ false
nothing-read text true e h = let found = number-in text e in absurd (h found.0 found.1)
nothing-read text false e h = refl

only : (text : List ℕ) (read : Result ℤ NumFault) → Reads text read → read ≡ read_of text
only text (Ok z) (n, t, w, small) =
    sym (read-worth text n z t w ∙ limited-within (is_minus n.sign) (unsigned_abs z) small
    ∙ ap (λ (x : ℤ). Ok x) (worth-sign z (under n) (is_minus n.sign) (over n) (under-positive n) w))
only text (Err NotNumber) h = sym (read_of-nothing text (nothing-read text (is_number (parts_of text)) refl h))
only text (Err NotWhole) (n, t, h) =
    sym (read_of-number text n t
    ∙ ap (limited (is_minus n.sign)) (worthless n (exact_quotient (over n) (under n)) refl h))
only text (Err (TooLarge negative)) (n, t, large) =
    let z = large.0 in
    let sign = worth-sign z (under n) (is_minus n.sign) (over n) (under-positive n) large.1 in
    let same : negative ≡ is_minus n.sign = large.3 ∙ sign-of z (is_minus n.sign) (omega (arith, large.2)) sign in
    ap (λ (b : Bool). Err (TooLarge b)) same
    ∙ sym (read-worth text n z t large.1 ∙ limited-above (is_minus n.sign) (unsigned_abs z) large.2)

-- ---- what is read is what the grammar says

abs-signed : (negative : Bool) (m : ℕ) → unsigned_abs (signed negative m) ≡ m
abs-signed true zero = refl
abs-signed true (suc m) = refl
abs-signed false m = refl

given-some : (text : List ℕ) (n : Number) (m : ℕ) → IsText text n → exact_quotient (over n) (under n) ≡ Some m
    → Reads text (read_of text)
given-some text n m t e =
    let minus = is_minus n.sign in
    let z = signed minus m in
    let worth : IsWorth n z = quotient-worth minus (over n) (under n) m e in
    let size : unsigned_abs z ≡ m = abs-signed minus m in
    let read = read_of-number text n t ∙ ap (limited minus) e in
    elim (cases_lt MAX_WHOLE m) [
      | inl above ↦
          let large : MAX_WHOLE < unsigned_abs z = omega (arith, size, above) in
          let negative = sign-of z minus (omega (arith, large)) (ap (signed minus) size) in
          subst (Reads text) (sym (read ∙ limited-above minus m above)) (n, t, (z, worth, large, sym negative))
      | inr within ↦
          subst (Reads text) (sym (read ∙ limited-within minus m within)) (n, t, worth, omega (arith, size, within))
    ]

some-none : (m : ℕ) → Some m ≡ None → ⊥
some-none m e = cc

given-by : (text : List ℕ) (n : Number) (quotient : Option ℕ) → IsText text n
    → exact_quotient (over n) (under n) ≡ quotient → Reads text (read_of text)
given-by text n (Some m) t e = given-some text n m t e
given-by text n None t e =
    subst (Reads text) (sym (read_of-number text n t ∙ ap (limited (is_minus n.sign)) e)) (
      n,
      t,
      λ z w. some-none (unsigned_abs z)
          (sym (worth-quotient z (under n) (is_minus n.sign) (over n) (under-positive n) w) ∙ e),
    )

given-test : (text : List ℕ) (test : Bool) → is_number (parts_of text) ≡ test → Reads text (read_of text)
given-test text true e = let found = number-in text e in
    given-by text found.0 (exact_quotient (over found.0) (under found.0)) found.1 refl
given-test text false e =
    subst (Reads text) (sym (read_of-nothing text e))
    (λ n t. false≢true (sym e ∙ ap is_number (ap parts_of t.spelled ∙ parts_of-text n t.is_number)
    ∙ is_number-parts n t.is_number))

pub reads_numbers : ReadsNumbers
reads_numbers = record { given = λ text. given-test text (is_number (parts_of text)) refl; only = only }

-- ---- decimal texts

plain : Sign → ℕ → Number
plain sign m = record { sign = sign; whole = decimal m; fraction = None; exponent = None }

plain-number : (sign : Sign) (m : ℕ) → m ≤ MAX_WHOLE → IsNumber (plain sign m)
unfolding plain
plain-number sign m le =
    let numeral = decimal_is_IsNumeral_wide m (omega (arith, le)) in
    record { digits = rw (append-nil (decimal m)) numeral.0; exponent = tt }

plain-value : (m : ℕ) → m ≤ MAX_WHOLE → digits_value 10 (decimal m ++ []) * 10 ^ 0 ≡ m
plain-value m le =
    let numeral = decimal_is_IsNumeral_wide m (omega (arith, le)) in
    omega (arith, ap (digits_value 10) (append-nil (decimal m)), numeral.1)

one-times : (m : ℕ) → m * 1 ≡ m
one-times m = omega arith

times-one : (z : ℤ) → z *ℤ pos (10 ^ (0 + 0)) ≡ z
times-one (pos m) = ap (λ (n : ℕ). pos n) (one-times m)
times-one (negsuc m) = ap (λ (n : ℕ). neg_ℤ (pos n)) (one-times (suc m))

plain-worth : (sign : Sign) (m : ℕ) → m ≤ MAX_WHOLE → IsWorth (plain sign m) (signed (is_minus sign) m)
unfolding plain
plain-worth sign m le = times-one (signed (is_minus sign) m) ∙ ap (signed (is_minus sign)) (sym (plain-value m le))

pub reads_decimals : ReadsDecimals
unfolding plain
reads_decimals (pos m) le =
    let text : IsText (decimal m) (plain Bare m) =
    record { is_number = plain-number Bare m le; spelled = sym (append-nil (decimal m)) } in
    sym (only (decimal m) (Ok (pos m)) (plain Bare m, text, plain-worth Bare m le, le))
reads_decimals (negsuc m) le =
    let text : IsText (45 ∷ decimal (suc m)) (plain Minus (suc m)) =
    record {
      is_number = plain-number Minus (suc m) le;
      spelled =
          ap (λ (ds : List ℕ). 45 ∷ ds) (sym (append-nil (decimal (suc m))));
    } in
    sym (only (45 ∷ decimal (suc m)) (Ok (negsuc m)) (plain Minus (suc m), text, plain-worth Minus (suc m) le, le))
