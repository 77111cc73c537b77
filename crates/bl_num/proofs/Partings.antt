-- A number's text, taken apart where its sign, its point and its mark stand.
use Rattle.std.proofs.Common.{◌≡◌, ◌≢◌, ℕ, ◌+◌, ◌<◌, Bool, true, false, cond, eqb, ltb, List, [], ◌∷◌, ◌++◌, length}
use Rattle.std.proofs.Common.{get_or, take, drop, Option, Some, None, refl, sym, ap, subst, ◌∙◌, arith, position}
use Rattle.std.proofs.Common.{append_assoc, length-append}
use Rattle.std.specs.List.{position_or_len, before_first, after_first, AllByRecursion}
use Rattle.std.specs.Option.{option_map_or}
use Rattle.std.specs.Int.{IsInRange}
use Rattle.std.specs.Str.Parse.{AllDigits, IsNumeral, digits_value, starts_with_minus, without_leading_sign}
use Rattle.std.proofs.lemmas.Bool.{lt-ltb}
use Rattle.std.proofs.lemmas.Bool.Decides.{nat_tests}
use Rattle.std.proofs.lemmas.List.{append-nil, take_all, drop_all}
use Rattle.std.proofs.Math.Seq.{take-append_seam, drop-append-add}
use Rattle.std.proofs.lemmas.Str.Parse.{digit_at}
use Rattle.bl_text.proofs.Digits.{test-from_AllDigits}
use Rattle.bl_num.specs.Numbers.{Parts, is_mark, is_point, mantissa_of, exponent_of, parts_of, is_numeral, is_number}
use Rattle.bl_num.specs.Grammar.{Sign, Bare, Plus, Minus, sign_text, is_minus, Exponent, Number, fraction_digits}
use Rattle.bl_num.specs.Grammar.{fraction_text, exponent_text, text_of, IsExponent, IsNumber, power, is_lowered}

ltb-same : (n : ℕ) → ltb n n ≡ false
ltb-same n = grind (arith, nat_tests)

eqb-other : (a b : ℕ) → a ≢ b → eqb a b ≡ false
eqb-other a b h = grind (arith, nat_tests)

-- the text begins with neither sign
abbrev pub NoSign : List ℕ → Type 0
NoSign text = (get_or text 0 0 ≢ 43) × (get_or text 0 0 ≢ 45)

abbrev made : Bool → List ℕ → List ℕ → List ℕ → Parts
made negative whole fraction exponent =
    record { negative = negative; whole = whole; fraction = fraction; exponent = exponent }

no-nil : (ds : List ℕ) → NoSign (ds ++ []) → NoSign ds
no-nil ds bare = subst NoSign (append-nil ds) bare

parts-are : (negative : Bool) (whole fraction exponent : List ℕ) (p : Parts) → negative ≡ p.negative → whole ≡ p.whole
    → fraction ≡ p.fraction → exponent ≡ p.exponent → made negative whole fraction exponent ≡ p
parts-are negative whole fraction exponent p n w f e = rw (n, w, f, e) refl

abbrev pub AllFail : (ℕ → Bool) → List ℕ → Type 0
AllFail p xs = AllByRecursion (λ b. p b ≡ false) xs

first-place : (p : ℕ → Bool) (xs : List ℕ) (y : ℕ) (ys : List ℕ) → AllFail p xs → p y ≡ true
    → position_or_len p (xs ++ y ∷ ys) ≡ length xs
first-place p [] y ys h e = rw e refl
first-place p (x ∷ xs) y ys h e = rw (h.0) (omega (arith, first-place p xs y ys h.1 e))

no-place : (p : ℕ → Bool) (xs : List ℕ) → AllFail p xs → position_or_len p xs ≡ length xs
no-place p [] h = refl
no-place p (x ∷ xs) h = rw (h.0) (omega (arith, no-place p xs h.1))

drop-seam : (xs : List ℕ) (y : ℕ) (ys : List ℕ) → drop (length xs + 1) (xs ++ y ∷ ys) ≡ ys
drop-seam xs y ys = drop-append-add xs (y ∷ ys) 1

before-seam : (p : ℕ → Bool) (xs : List ℕ) (y : ℕ) (ys : List ℕ) → AllFail p xs → p y ≡ true
    → before_first p (xs ++ y ∷ ys) ≡ xs
before-seam p xs y ys h e =
    ap (λ (k : ℕ). take k (xs ++ y ∷ ys)) (first-place p xs y ys h e) ∙ take-append_seam xs (y ∷ ys)

after-seam : (p : ℕ → Bool) (xs : List ℕ) (y : ℕ) (ys : List ℕ) → AllFail p xs → p y ≡ true
    → after_first p (xs ++ y ∷ ys) ≡ ys
after-seam p xs y ys h e = ap (λ (k : ℕ). drop (k + 1) (xs ++ y ∷ ys)) (first-place p xs y ys h e) ∙ drop-seam xs y ys

position-seam : (p : ℕ → Bool) (xs : List ℕ) (y : ℕ) (ys : List ℕ) → AllFail p xs → p y ≡ true
    → position p (xs ++ y ∷ ys) ≡ Some (length xs)
position-seam p xs y ys h e =
    let place = first-place p xs y ys h e in
    let within : length xs < length (xs ++ y ∷ ys) = omega (arith, length-append xs (y ∷ ys)) in
    ap (λ (k : ℕ). cond (ltb k (length (xs ++ y ∷ ys))) (Some k) None) place
    ∙ ap (λ (b : Bool). cond b (Some (length xs)) None) (lt-ltb _ _ within)

before-none : (p : ℕ → Bool) (xs : List ℕ) → AllFail p xs → before_first p xs ≡ xs
before-none p xs h = ap (λ (k : ℕ). take k xs) (no-place p xs h) ∙ take_all (length xs) xs (omega arith)

after-none : (p : ℕ → Bool) (xs : List ℕ) → AllFail p xs → after_first p xs ≡ []
after-none p xs h = ap (λ (k : ℕ). drop (k + 1) xs) (no-place p xs h) ∙ drop_all (length xs + 1) xs (omega arith)

position-none : (p : ℕ → Bool) (xs : List ℕ) → AllFail p xs → position p xs ≡ None
position-none p xs h =
    ap (λ (k : ℕ). cond (ltb k (length xs)) (Some k) None) (no-place p xs h)
    ∙ ap (λ (b : Bool). cond b (Some (length xs)) None) (ltb-same (length xs))

AllFail-append : (p : ℕ → Bool) (xs ys : List ℕ) → AllFail p xs → AllFail p ys → AllFail p (xs ++ ys)
AllFail-append p [] ys h k = k
AllFail-append p (x ∷ xs) ys h k = (h.0, AllFail-append p xs ys h.1 k)

digit-no_mark : (d : ℕ) → IsInRange 48 57 d → is_mark d ≡ false
digit-no_mark d h = rw (eqb-other d 101 (omega (arith, h.0, h.1)), eqb-other d 69 (omega (arith, h.0, h.1))) refl

digit-no_point : (d : ℕ) → IsInRange 48 57 d → is_point d ≡ false
digit-no_point d h = eqb-other d 46 (omega (arith, h.0))

digits-fail : (p : ℕ → Bool) → ((d : ℕ) → IsInRange 48 57 d → p d ≡ false) → (ds : List ℕ) → AllDigits 10 ds
    → AllFail p ds
digits-fail p bare [] h = tt
digits-fail p bare (d ∷ ds) h = (bare d (digit_at (d ∷ ds) 0 h (omega arith)), digits-fail p bare ds h.1)

-- ---- a sign

pub minus-of : (s : Sign) (text : List ℕ) → NoSign text → starts_with_minus (sign_text s ++ text) ≡ is_minus s
minus-of Bare text bare = eqb-other (get_or text 0 0) 45 bare.1
minus-of Plus text bare = refl
minus-of Minus text bare = refl

pub unsigned-of : (s : Sign) (text : List ℕ) → NoSign text → without_leading_sign (sign_text s ++ text) ≡ text
unsigned-of Bare text bare = rw (eqb-other (get_or text 0 0) 45 bare.1, eqb-other (get_or text 0 0) 43 bare.0) refl
unsigned-of Plus text bare = refl
unsigned-of Minus text bare = refl

digits-no_sign : (ds more : List ℕ) → 0 < length ds → AllDigits 10 ds → NoSign (ds ++ more)
digits-no_sign [] more some h = absurd (omega arith)
digits-no_sign (d ∷ ds) more some h = let range = digit_at (d ∷ ds) 0 h (omega arith) in
    ((λ e. omega (arith, range.0)), (λ e. omega (arith, range.0)))

-- ---- a number

AllDigits-front : (front back : List ℕ) → AllDigits 10 (front ++ back) → AllDigits 10 front × AllDigits 10 back
AllDigits-front [] back h = (tt, h)
AllDigits-front (d ∷ ds) back h = let rest = AllDigits-front ds back h.1 in ((h.0, rest.0), rest.1)

body-no_sign : (whole : List ℕ) (fraction : Option (List ℕ)) (more : List ℕ)
    → IsNumeral 10 (whole ++ fraction_digits fraction) → NoSign (whole ++ (fraction_text fraction ++ more))
body-no_sign [] None more h = absurd (omega (arith, h.0))
body-no_sign [] (Some digits) more h = ((λ e. omega arith), (λ e. omega arith))
body-no_sign (d ∷ ds) fraction more h =
    digits-no_sign (d ∷ ds) (fraction_text fraction ++ more) (omega arith)
    (AllDigits-front (d ∷ ds) (fraction_digits fraction) h.1).0

point-no_mark : (fraction : Option (List ℕ)) → AllDigits 10 (fraction_digits fraction)
    → AllFail is_mark (fraction_text fraction)
point-no_mark None h = tt
point-no_mark (Some digits) h = (refl, digits-fail is_mark digit-no_mark digits h)

whole-of : (whole : List ℕ) (fraction : Option (List ℕ)) → AllDigits 10 whole
    → before_first is_point (whole ++ fraction_text fraction) ≡ whole
whole-of whole None h =
    ap (before_first is_point) (append-nil whole)
    ∙ before-none is_point whole (digits-fail is_point digit-no_point whole h)
whole-of whole (Some digits) h = before-seam is_point whole 46 digits (digits-fail is_point digit-no_point whole h) refl

fraction-of : (whole : List ℕ) (fraction : Option (List ℕ)) → AllDigits 10 whole
    → after_first is_point (whole ++ fraction_text fraction) ≡ fraction_digits fraction
fraction-of whole None h =
    ap (after_first is_point) (append-nil whole)
    ∙ after-none is_point whole (digits-fail is_point digit-no_point whole h)
fraction-of whole (Some digits) h =
    after-seam is_point whole 46 digits (digits-fail is_point digit-no_point whole h) refl

mantissa-of : (front : List ℕ) (exponent : Option Exponent) → AllFail is_mark front → IsExponent exponent
    → mantissa_of (front ++ exponent_text exponent) ≡ front
mantissa-of front None h e = ap (before_first is_mark) (append-nil front) ∙ before-none is_mark front h
mantissa-of front (Some x) h e = before-seam is_mark front x.mark (sign_text x.sign ++ x.digits) h e.0

-- an exponent's text behind its mark, and `0` where there is none
abbrev pub exponent_part : Option Exponent → List ℕ
exponent_part None = 48 ∷ []
exponent_part (Some x) = sign_text x.sign ++ x.digits

exponent-of : (front : List ℕ) (exponent : Option Exponent) → AllFail is_mark front → IsExponent exponent
    → exponent_of (front ++ exponent_text exponent) ≡ exponent_part exponent
exponent-of front None h e =
    ap exponent_of (append-nil front)
    ∙ ap (λ (o : Option ℕ). option_map_or (λ at. drop (at + 1) front) o (48 ∷ [])) (position-none is_mark front h)
exponent-of front (Some x) h e =
    let text = front ++ x.mark ∷ (sign_text x.sign ++ x.digits) in
    ap (λ (o : Option ℕ). option_map_or (λ at. drop (at + 1) text) o (48 ∷ []))
    (position-seam is_mark front x.mark (sign_text x.sign ++ x.digits) h e.0)
    ∙ drop-seam front x.mark (sign_text x.sign ++ x.digits)

-- the parts of a number's text
abbrev pub parts_in : Number → Parts
parts_in n = record {
  negative = is_minus n.sign;
  whole = n.whole;
  fraction = fraction_digits n.fraction;
  exponent = exponent_part n.exponent;
}

pub parts_of-text : (n : Number) → IsNumber n → parts_of (text_of n) ≡ parts_in n
unfolding parts_of
parts_of-text n h =
    let bare = body-no_sign n.whole n.fraction (exponent_text n.exponent) h.digits in
    let digits = AllDigits-front n.whole (fraction_digits n.fraction) h.digits.1 in
    let front = n.whole ++ fraction_text n.fraction in
    let fails = AllFail-append is_mark n.whole (fraction_text n.fraction)
    (digits-fail is_mark digit-no_mark n.whole digits.0) (point-no_mark n.fraction digits.1) in
    let body : without_leading_sign (text_of n) ≡ front ++ exponent_text n.exponent =
    unsigned-of n.sign (n.whole ++ (fraction_text n.fraction ++ exponent_text n.exponent)) bare
    ∙ sym (append_assoc n.whole (fraction_text n.fraction) (exponent_text n.exponent)) in
    let mantissa : mantissa_of (without_leading_sign (text_of n)) ≡ front =
    ap mantissa_of body ∙ mantissa-of front n.exponent fails h.exponent in
    parts-are _ _ _ _ (parts_in n)
    (minus-of n.sign (n.whole ++ (fraction_text n.fraction ++ exponent_text n.exponent)) bare)
    (ap (before_first is_point) mantissa ∙ whole-of n.whole n.fraction digits.0)
    (ap (after_first is_point) mantissa ∙ fraction-of n.whole n.fraction digits.0)
    (ap exponent_of body ∙ exponent-of front n.exponent fails h.exponent)

power-no_sign : (x : Exponent) → IsNumeral 10 x.digits → NoSign x.digits
power-no_sign x h = let bare = digits-no_sign x.digits [] h.0 h.1 in no-nil x.digits bare

pub part-power : (exponent : Option Exponent) → IsExponent exponent
    → digits_value 10 (without_leading_sign (exponent_part exponent)) ≡ power exponent
part-power None e = refl
part-power (Some x) e = ap (digits_value 10) (unsigned-of x.sign x.digits (power-no_sign x e.1))

pub part-lowered : (exponent : Option Exponent) → IsExponent exponent
    → starts_with_minus (exponent_part exponent) ≡ is_lowered exponent
part-lowered None e = refl
part-lowered (Some x) e = minus-of x.sign x.digits (power-no_sign x e.1)

numeral-test : (ds : List ℕ) → IsNumeral 10 ds → is_numeral ds ≡ true
numeral-test ds h = rw (test-from_AllDigits ds h.1, lt-ltb 0 (length ds) h.0) refl

part-numeral : (exponent : Option Exponent) → IsExponent exponent
    → is_numeral (without_leading_sign (exponent_part exponent)) ≡ true
part-numeral None e = refl
part-numeral (Some x) e = ap is_numeral (unsigned-of x.sign x.digits (power-no_sign x e.1)) ∙ numeral-test x.digits e.1

pub is_number-parts : (n : Number) → IsNumber n → is_number (parts_in n) ≡ true
unfolding is_number
is_number-parts n h =
    rw (numeral-test (n.whole ++ fraction_digits n.fraction) h.digits, part-numeral n.exponent h.exponent) refl
