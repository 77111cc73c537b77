-- The number that a text is, where its parts are those of one.
use Rattle.std.proofs.Common.{◌≡◌, ℕ, ◌+◌, ◌<◌, Bool, true, false, cond, eqb, ltb, List, [], ◌∷◌, ◌++◌, length, get_or}
use Rattle.std.proofs.Common.{drop, Option, Some, None, refl, sym, ap, ◌∙◌, arith, position, append_assoc, inl, inr}
use Rattle.std.specs.List.{position_or_len, before_first, after_first}
use Rattle.std.specs.Option.{option_map_or}
use Rattle.std.specs.Str.Parse.{IsNumeral, starts_with_minus, without_leading_sign}
use Rattle.std.proofs.lemmas.Bool.{cases_lt, lt-ltb, ltb-true, eqb-true}
use Rattle.std.proofs.lemmas.List.{append-nil, take_all, drop_all}
use Rattle.std.proofs.lemmas.List.Sums.{split_at_first, passes_at_first}
use Rattle.bl_text.proofs.Digits.{AllDigits-from_test, and_true}
use Rattle.bl_num.specs.Numbers.{is_mark, is_point, mantissa_of, exponent_of, parts_of, is_numeral, is_number}
use Rattle.bl_num.specs.Numbers.{are_digits}
use Rattle.bl_num.specs.Grammar.{Sign, Bare, Plus, Minus, sign_text, is_minus, Exponent, Number, fraction_digits}
use Rattle.bl_num.specs.Grammar.{fraction_text, exponent_text, IsExponent, IsText}

numeral-from : (ds : List ℕ) → is_numeral ds ≡ true → IsNumeral 10 ds
numeral-from ds h =
    let both = and_true (are_digits ds) (ltb 0 (length ds)) h in
    (ltb-true 0 (length ds) both.1, AllDigits-from_test ds both.0)

-- the sign that a text begins with
record HasSign (text : List ℕ) : Type 0 where
  sign : Sign
  signed_so : text ≡ sign_text sign ++ without_leading_sign text
  negative_so : starts_with_minus text ≡ is_minus sign

sign-by : (c : ℕ) (cs : List ℕ) (minus plus : Bool) → eqb c 45 ≡ minus → eqb c 43 ≡ plus → HasSign (c ∷ cs)
sign-by c cs true plus m p =
    record { sign = Minus; signed_so = rw m (ap (λ (x : ℕ). x ∷ cs) (eqb-true c 45 m)); negative_so = m }
sign-by c cs false true m p =
    record { sign = Plus; signed_so = rw (m, p) (ap (λ (x : ℕ). x ∷ cs) (eqb-true c 43 p)); negative_so = m }
sign-by c cs false false m p = record { sign = Bare; signed_so = rw (m, p) refl; negative_so = m }

sign-in : (text : List ℕ) → HasSign text
sign-in [] = record { sign = Bare; signed_so = refl; negative_so = refl }
sign-in (c ∷ cs) = sign-by c cs (eqb c 45) (eqb c 43) refl refl

record HasPoint (mantissa : List ℕ) : Type 0 where
  fraction : Option (List ℕ)
  pointed_so : mantissa ≡ before_first is_point mantissa ++ fraction_text fraction
  digits_so : fraction_digits fraction ≡ after_first is_point mantissa

point-in : (mantissa : List ℕ) → HasPoint mantissa
point-in mantissa =
    elim (cases_lt (position_or_len is_point mantissa) (length mantissa)) [
      | inl within ↦
          let point : get_or mantissa (position_or_len is_point mantissa) 0 ≡ 46 =
          eqb-true _ 46 (passes_at_first is_point mantissa 0 within) in
          record {
            fraction = Some (after_first is_point mantissa);
            pointed_so = split_at_first is_point mantissa 0 within
                ∙ ap (λ (b : ℕ). before_first is_point mantissa ++ b ∷ after_first is_point mantissa) point;
            digits_so = refl;
          }
      | inr past ↦ record {
        fraction = None;
        pointed_so = sym (append-nil (before_first is_point mantissa)
            ∙ take_all (position_or_len is_point mantissa) mantissa past);
        digits_so = sym (drop_all (position_or_len is_point mantissa + 1) mantissa (omega arith));
      }
    ]

record HasMark (body : List ℕ) : Type 0 where
  exponent : Option Exponent
  marked_so : body ≡ mantissa_of body ++ exponent_text exponent
  digits_so : IsExponent exponent

marked : (body : List ℕ) → is_numeral (without_leading_sign (exponent_of body)) ≡ true
    → position_or_len is_mark body < length body → HasMark body
marked body h within =
    let at : position is_mark body ≡ Some (position_or_len is_mark body) =
    ap (λ (b : Bool). cond b (Some (position_or_len is_mark body)) None)
    (lt-ltb (position_or_len is_mark body) (length body) within) in
    let part : exponent_of body ≡ after_first is_mark body =
    ap (λ (o : Option ℕ). option_map_or (λ place. drop (place + 1) body) o (48 ∷ [])) at in
    let sign = sign-in (after_first is_mark body) in
    let mark = get_or body (position_or_len is_mark body) 0 in
    record {
      exponent = Some (record {
        mark = mark;
        sign = sign.sign;
        digits =
            without_leading_sign (after_first is_mark body);
      });
      marked_so = split_at_first is_mark body 0 within
          ∙ ap (λ (text : List ℕ). mantissa_of body ++ mark ∷ text) sign.signed_so;
      digits_so = (
        passes_at_first is_mark body 0 within,
        numeral-from (without_leading_sign (after_first is_mark body))
            (ap (λ (x : List ℕ). is_numeral (without_leading_sign x)) (sym part) ∙ h),
      );
    }

mark-in : (body : List ℕ) → is_numeral (without_leading_sign (exponent_of body)) ≡ true → HasMark body
mark-in body h =
    elim (cases_lt (position_or_len is_mark body) (length body)) [
      | inl within ↦ marked body h within
      | inr past ↦ record {
        exponent = None;
        marked_so = sym (append-nil (mantissa_of body) ∙ take_all (position_or_len is_mark body) body past);
        digits_so = tt;
      }
    ]

-- a text whose parts are those of a number is a number
pub number-in : (text : List ℕ) → is_number (parts_of text) ≡ true → (n : Number) × IsText text n
unfolding is_number parts_of
number-in text h =
    let body = without_leading_sign text in
    let mantissa = mantissa_of body in
    let both = and_true (is_numeral (before_first is_point mantissa ++ after_first is_point mantissa))
    (is_numeral (without_leading_sign (exponent_of body))) h in
    let sign = sign-in text in
    let point = point-in mantissa in
    let mark = mark-in body both.1 in
    let whole = before_first is_point mantissa in
    let n : Number
    = record { sign = sign.sign; whole = whole; fraction = point.fraction; exponent = mark.exponent } in (
      n,
      record {
        is_number = record {
          digits = numeral-from (whole ++ fraction_digits point.fraction)
              (ap (λ (ds : List ℕ). is_numeral (whole ++ ds)) point.digits_so ∙ both.0);
          exponent = mark.digits_so;
        };
        spelled = sign.signed_so ∙ ap (λ (rest : List ℕ). sign_text sign.sign ++ rest)
            (mark.marked_so ∙ ap (λ (front : List ℕ). front ++ exponent_text mark.exponent) point.pointed_so
            ∙ append_assoc whole (fraction_text point.fraction) (exponent_text mark.exponent));
      },
    )
