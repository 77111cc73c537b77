-- The number that digits write, taken apart.
use Rattle.std.proofs.Common.{◌≡◌, ℕ, zero, suc, ◌+◌, ◌-◌, ◌*◌, ◌^◌, ◌<◌, Bool, true, false, eqb, List, [], ◌∷◌, ◌++◌}
use Rattle.std.proofs.Common.{length, get_or, take, drop, refl, sym, ap, ◌∙◌, arith, ◌&&◌}
use Rattle.std.specs.Char.{digit_value}
use Rattle.std.specs.List.{list_all}
use Rattle.std.specs.Str.Parse.{AllDigits, digits_value, digits_value_after}
use Rattle.std.proofs.Math.Nat.{pow-suc, one-le-pow}
use Rattle.std.proofs.lemmas.Nat.{mul-le}
use Rattle.bl_text.proofs.Digits.{and_true}
use Rattle.std.proofs.lemmas.Str.Parse.{digit_at}
use Rattle.std.proofs.lemmas.Bool.{eqb-true, eqb-false}
use Rattle.std.proofs.lemmas.List.{take_more}
use Rattle.std.specs.Int.{IsInRange}
use Rattle.std.proofs.lemmas.Bool.{lt-ltb, le-ltb}

pub digit_value-digit : (d : ℕ) → IsInRange 48 57 d → digit_value d ≡ d - 48
digit_value-digit d h = rw (le-ltb d 48 h.0, lt-ltb d 58 (omega arith)) refl

pub AllDigits-drop : (n : ℕ) (digits : List ℕ) → AllDigits 10 digits → AllDigits 10 (drop n digits)
AllDigits-drop zero digits h = h
AllDigits-drop (suc n) [] h = tt
AllDigits-drop (suc n) (d ∷ ds) h = AllDigits-drop n ds h.1

pub AllDigits-append : (front back : List ℕ) → AllDigits 10 front → AllDigits 10 back → AllDigits 10 (front ++ back)
AllDigits-append [] back f b = b
AllDigits-append (d ∷ ds) back f b = (f.0, AllDigits-append ds back f.1 b)

pub after-append : (n : ℕ) (front back : List ℕ)
    → digits_value_after 10 n (front ++ back) ≡ digits_value_after 10 (digits_value_after 10 n front) back
after-append n [] back = refl
after-append n (d ∷ ds) back = after-append (n * 10 + digit_value d) ds back

-- one more digit
pub after-more : (n : ℕ) (digits : List ℕ) (i : ℕ) → i < length digits
    → digits_value_after 10 n (take (i + 1) digits) ≡ digits_value_after 10 n (take i digits) * 10
    + digit_value (get_or digits i 0)
after-more n digits i h =
    ap (digits_value_after 10 n) (take_more digits i 0 h) ∙ after-append n (take i digits) (get_or digits i 0 ∷ [])

regroup : (n digit power rest : ℕ)
    → (n * 10 + digit) * power + rest ≡ n * (power * 10) + ((0 * 10 + digit) * power + rest)
regroup n digit power rest = omega arith

pub after-value : (digits : List ℕ) (n : ℕ)
    → digits_value_after 10 n digits ≡ n * 10 ^ length digits + digits_value 10 digits
after-value [] n = omega arith
after-value (d ∷ ds) n =
    after-value ds (n * 10 + digit_value d)
    ∙ regroup n (digit_value d) (10 ^ length ds) (digits_value 10 ds)
    ∙ ap (λ (big : ℕ). n * big + ((0 * 10 + digit_value d) * 10 ^ length ds + digits_value 10 ds))
    (sym (pow-suc 10 (length ds)))
    ∙ ap (λ (rest : ℕ). n * 10 ^ suc (length ds) + rest) (sym (after-value ds (0 * 10 + digit_value d)))

pub value-append : (front back : List ℕ)
    → digits_value 10 (front ++ back) ≡ digits_value 10 front * 10 ^ length back + digits_value 10 back
value-append front back = after-append 0 front back ∙ after-value back (digits_value 10 front)

abbrev pub is_zero : ℕ → Bool
is_zero digit = eqb digit 48

value-cons : (d : ℕ) (ds : List ℕ) → digits_value 10 (d ∷ ds) ≡ digit_value d * 10 ^ length ds + digits_value 10 ds
value-cons d ds = after-value ds (0 * 10 + digit_value d) ∙ omega arith

and_true_false : (a b : Bool) → a ≡ true → (a && b) ≡ false → b ≡ false
and_true_false true b e h = h
and_true_false false b e h = absurd cc

nonzeros-first : (d : ℕ) (ds : List ℕ) → AllDigits 10 (d ∷ ds) → is_zero d ≡ false → 0 < digits_value 10 (d ∷ ds)
nonzeros-first d ds all h =
    let range = digit_at (d ∷ ds) 0 all (omega arith) in
    let digit = digit_value-digit d range in
    let power = one-le-pow (length ds) 10 (omega arith) in
    let product = mul-le 1 1 (digit_value d) (10 ^ length ds) (omega (arith, digit, range.0, eqb-false d 48 h)) power in
    omega (arith, value-cons d ds, product)

pub zeros-value : (ds : List ℕ) → list_all is_zero ds ≡ true → digits_value 10 ds ≡ 0
zeros-value [] h = refl
zeros-value (d ∷ ds) h =
    let both = and_true (is_zero d) (list_all is_zero ds) h in
    let digit : digit_value d ≡ 0 = ap digit_value (eqb-true d 48 both.0) in
    omega (arith, value-cons d ds, ap (λ (v : ℕ). v * 10 ^ length ds) digit, zeros-value ds both.1)

nonzeros-step : (d : ℕ) (ds : List ℕ) → AllDigits 10 (d ∷ ds) → list_all is_zero (d ∷ ds) ≡ false → (zero_first : Bool)
    → is_zero d ≡ zero_first → (list_all is_zero ds ≡ false → 0 < digits_value 10 ds) → 0 < digits_value 10 (d ∷ ds)
nonzeros-step d ds all h false e more = nonzeros-first d ds all e
nonzeros-step d ds all h true e more =
    let rest : list_all is_zero ds ≡ false = and_true_false (is_zero d) (list_all is_zero ds) e h in
    omega (arith, value-cons d ds, more rest)

-- digits that aren't all zeros write a number above 0
pub nonzeros-value : (ds : List ℕ) → AllDigits 10 ds → list_all is_zero ds ≡ false → 0 < digits_value 10 ds
nonzeros-value [] all h = absurd cc
nonzeros-value (d ∷ ds) all h = nonzeros-step d ds all h (is_zero d) refl (nonzeros-value ds all.1)
