-- Numbers beside names, as pairs of a text, and back.
use Rattle.std.proofs.Common.{◌≡◌, zero, suc, ◌≤◌, false, cond, List, [], ◌∷◌, map}
use Rattle.std.proofs.Common.{length, Option, Some, None, Result, ℤ, pos, negsuc, unsigned_abs, is_some}
use Rattle.std.proofs.Common.{refl, sym, ap, ◌∙◌, arith}
use Rattle.std.specs.Prelude.{unwrap_or}
use Rattle.std.specs.Fmt.{signed_decimal}
use Rattle.std.specs.List.{AllByRecursion}
use Rattle.std.specs.Result.{result_unwrap_or}
use Rattle.std.specs.Str.{bytes_eq}
use Rattle.bl_limits.specs.declared.TheConstants.{MAX_WHOLE}
use Rattle.bl_num.specs.declared.fault.NumFault.{NumFault}
use Rattle.bl_num.proofs.Meanings.{reads_decimals}
use Rattle.bl_mps_terms.specs.Words.{Bytes}
use Rattle.bl_mps_terms.specs.Rules.{is_named, is_zero, number}
use Rattle.bl_mps_terms.specs.Lines.{names_in}
use Rattle.bl_mps_terms.specs.Meaning.{number_after, coefficient}
use Rattle.bl_mps.proofs.Names.{IsFresh, or_false, same_true}
use Rattle.bl_mps.proofs.Pairs.{number_named}
use Rattle.bl_mps_laws.proofs.Fresh.{differ_sym, or_both}

-- the numbers that are given, beside their names
abbrev pub given : List Bytes → List (Option ℤ) → List (Bytes × ℤ)
given [] numbers = []
given (name ∷ names) [] = []
given (name ∷ names) (None ∷ numbers) = given names numbers
given (name ∷ names) (Some z ∷ numbers) = (name, z) ∷ given names numbers

-- the pairs as a text has them
abbrev pub texts : List (Bytes × ℤ) → List (Bytes × Bytes)
texts pairs = map (λ pair. (pair.0, signed_decimal pair.1)) pairs

abbrev pub IsReadable : Option ℤ → Type 0
IsReadable None = Unit {0}
IsReadable (Some z) = unsigned_abs z ≤ MAX_WHOLE

pub number_decimal : (z : ℤ) → unsigned_abs z ≤ MAX_WHOLE → number (signed_decimal z) ≡ z
unfolding number
number_decimal z le = ap (λ (r : Result ℤ NumFault). result_unwrap_or r (pos 0)) (reads_decimals z le)

pub unnamed_given : (names : List Bytes) (numbers : List (Option ℤ)) (name : Bytes) → is_named names name ≡ false
    → is_named (names_in (texts (given names numbers))) name ≡ false
unnamed_given [] numbers name f = refl
unnamed_given (x ∷ names) [] name f = refl
unnamed_given (x ∷ names) (None ∷ numbers) name f =
    unnamed_given names numbers name (or_false (bytes_eq name x) (is_named names name) f).1
unnamed_given (x ∷ names) (Some z ∷ numbers) name f =
    let parts = or_false (bytes_eq name x) (is_named names name) f in
    or_both (bytes_eq name x) (is_named (names_in (texts (given names numbers))) name) parts.0
    (unnamed_given names numbers name parts.1)

pub fresh_given : (names : List Bytes) (numbers : List (Option ℤ)) → IsFresh names
    → IsFresh (names_in (texts (given names numbers)))
fresh_given [] numbers h = tt
fresh_given (x ∷ names) [] h = tt
fresh_given (x ∷ names) (None ∷ numbers) h = fresh_given names numbers h.1
fresh_given (x ∷ names) (Some z ∷ numbers) h = (unnamed_given names numbers x h.0, fresh_given names numbers h.1)

none_from : (o : Option ℤ) → is_some o ≡ false → o ≡ None
none_from None e = refl
none_from (Some z) e = absurd cc

number_after-none : (name : Bytes) (pairs : List (Bytes × Bytes)) → is_named (names_in pairs) name ≡ false
    → number_after name pairs ≡ None
number_after-none name pairs f = none_from (number_after name pairs) (number_named name pairs ∙ f)

number_after-first : (name text : Bytes) (pairs : List (Bytes × Bytes))
    → number_after name ((name, text) ∷ pairs) ≡ Some (number text)
unfolding number_after
number_after-first name text pairs = rw (same_true name name refl) refl

number_after-other : (names : List Bytes) (name text : Bytes) (pairs : List (Bytes × Bytes))
    → is_named names name ≡ false
    → map (λ n. number_after n ((name, text) ∷ pairs)) names ≡ map (λ n. number_after n pairs) names
unfolding number_after
number_after-other [] name text pairs f = refl
number_after-other (x ∷ names) name text pairs f =
    let parts = or_false (bytes_eq name x) (is_named names name) f in
    rw (differ_sym name x parts.0, number_after-other names name text pairs parts.1) refl

-- The numbers are found by the names.
pub looked_up : (names : List Bytes) (numbers : List (Option ℤ)) → length names ≡ length numbers → IsFresh names
    → AllByRecursion IsReadable numbers
    → map (λ n. number_after n (texts (given names numbers))) names ≡ numbers
looked_up [] [] size h r = refl
looked_up [] (o ∷ numbers) size h r = absurd (omega arith)
looked_up (x ∷ names) [] size h r = absurd (omega arith)
looked_up (x ∷ names) (None ∷ numbers) size h r =
    rw (
      number_after-none x (texts (given names numbers)) (unnamed_given names numbers x h.0),
      looked_up names numbers (omega arith) h.1 r.1,
    ) refl
looked_up (x ∷ names) (Some z ∷ numbers) size h r =
    rw (
      number_after-first x (signed_decimal z) (texts (given names numbers)),
      number_after-other names x (signed_decimal z) (texts (given names numbers)) h.0,
      looked_up names numbers (omega arith) h.1 r.1,
      number_decimal z r.0,
    ) refl

-- ---- numbers other than 0

-- the number, where it isn't 0
abbrev pub unless_zero : ℤ → Option ℤ
unless_zero z = cond (is_zero z) None (Some z)

pub zero_or : (z : ℤ) → unwrap_or (unless_zero z) (pos 0) ≡ z
zero_or (pos zero) = refl
zero_or (pos (suc n)) = refl
zero_or (negsuc n) = refl

pub zero_readable : (z : ℤ) → unsigned_abs z ≤ MAX_WHOLE → IsReadable (unless_zero z)
zero_readable (pos zero) le = tt
zero_readable (pos (suc n)) le = le
zero_readable (negsuc n) le = le

zeros_or : (numbers : List ℤ) → map (λ o. unwrap_or o (pos 0)) (map unless_zero numbers) ≡ numbers
zeros_or [] = refl
zeros_or (z ∷ numbers) = rw (zero_or z, zeros_or numbers) refl

map_twice : {X Y Z : Type 0} (f : X → Y) (g : Y → Z) (xs : List X) → map g (map f xs) ≡ map (λ x. g (f x)) xs
map_twice f g [] = refl
map_twice f g (x ∷ xs) = rw (map_twice f g xs) refl

-- the coefficients are the numbers, where they are found by the names
pub coefficients_found : (pairs : List (Bytes × Bytes)) (names : List Bytes) (numbers : List ℤ)
    → map (λ n. number_after n pairs) names ≡ map unless_zero numbers → map (coefficient pairs) names ≡ numbers
coefficients_found pairs names numbers e =
    sym (map_twice (λ n. number_after n pairs) (λ o. unwrap_or o (pos 0)) names)
    ∙ ap (map (λ o. unwrap_or o (pos 0))) e ∙ zeros_or numbers
