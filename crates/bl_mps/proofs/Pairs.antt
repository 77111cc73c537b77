-- Pairs of a row and a number that are read, one after the other.
use Rattle.std.proofs.Common.{◌≡◌, ◌≢◌, ℕ, ◌<◌, Bool, true, false, cond, not, ◌||◌, ◌&&◌, leb, List, [], ◌∷◌, ◌++◌}
use Rattle.std.proofs.Common.{length, get_or, set, map, position, Option, Some, None, is_some, Result, Ok, Err, ℤ, pos}
use Rattle.std.proofs.Common.{refl, sym, ap, subst, ◌∙◌, append_assoc, arith}
use Rattle.std.specs.Prelude.{unsigned_abs}
use Rattle.std.specs.Option.{ok_or, option_map_or}
use Rattle.std.specs.Result.{result_unwrap_or}
use Rattle.std.specs.Str.{bytes_eq}
use Rattle.std.proofs.lemmas.Bool.{false≢true}
use Rattle.std.proofs.lemmas.List.{append-nil, map_push}
use Rattle.bl_num.specs.declared.fault.NumFault.{NumFault}
use Rattle.bl_num.specs.Numbers.{read_of}
use Rattle.bl_mps_terms.specs.declared.fault.MpsRule.{MpsRule}
use Rattle.bl_mps_terms.specs.declared.fault.MpsRule.TheVariants as rules
use Rattle.bl_mps_terms.specs.Words.{Bytes}
use Rattle.bl_mps_terms.specs.Rules.{first_of, when, unless, is_named, within, number_within, fault_in, number_fault}
use Rattle.bl_mps_terms.specs.Rules.{number, has_constant, pair_fault, pairs_fault}
use Rattle.bl_mps_terms.specs.Lines.{names_in}
use Rattle.bl_mps_terms.specs.Meaning.{number_after}
use Rattle.bl_mps_read.specs.Numbers.{pair_read, entered}
use Rattle.bl_mps_read.specs.Stops.{◌>>=◌, taken_up}
use Rattle.bl_mps.proofs.Agrees.{Read, Agrees, agrees_ok, agrees_then, agrees_then_two, agrees_last, agrees_fault}
use Rattle.bl_mps.proofs.Agrees.{agrees_more}
use Rattle.bl_mps.proofs.Names.{AreDistinct, StandsAt, stands_at, same_true, differ_false, or_false, named-append}
use Rattle.bl_mps.proofs.Names.{named-position, table_at, table_set}

-- ---- the pairs one after the other

-- Where each pair agrees with its faults, so do all.
pub pairs_agree : {S : Type 0} (rows : List Bytes) (most : ℕ) (objective : Option Bytes)
    (give : S → Bytes × Bytes → Result S MpsRule) (R : List (Bytes × Bytes) → S → Type 0)
    → ((pairs : List (Bytes × Bytes)) (s : S) (pair : Bytes × Bytes) → R pairs s
    → Agrees (pair_fault rows most objective (names_in pairs) pair) (give s pair) (R (pairs ++ pair ∷ [])))
    → (before : List (Bytes × Bytes)) (s : S) (more : List (Bytes × Bytes)) → R before s
    → Agrees (pairs_fault rows most objective (names_in before) more) (taken_up give s more) (R (before ++ more))
unfolding pairs_fault taken_up
pairs_agree rows most objective give R each before s [] r =
    record { value = s; is = refl; holds = subst (λ (ps : List (Bytes × Bytes)). R ps s) (sym (append-nil before)) r }
pairs_agree rows most objective give R each before s (pair ∷ more) r =
    agrees_then (pair_fault rows most objective (names_in before) pair)
    (pairs_fault rows most objective (names_in before ++ pair.0 ∷ []) more ∷ []) (give s pair)
    (R (before ++ pair ∷ []))
    (λ t. taken_up give t more) (R (before ++ pair ∷ more)) (each before s pair r)
    (λ t q. agrees_last (pairs_fault rows most objective (names_in before ++ pair.0 ∷ []) more) (taken_up give t more)
    (R (before ++ pair ∷ more))
    (subst (λ (given : List Bytes). Agrees (pairs_fault rows most objective given more) (taken_up give t more)
    (R (before ++ pair ∷ more))) (map_push (λ p. p.0) before pair)
    (subst (λ (ps : List (Bytes × Bytes)). Agrees
    (pairs_fault rows most objective (names_in (before ++ pair ∷ [])) more) (taken_up give t more) (R ps))
    (append_assoc before (pair ∷ []) more)
    (pairs_agree rows most objective give R each (before ++ pair ∷ []) t more q))))

-- ---- the name and the number of a pair

-- what is known of a pair that was read
pub record IsPairRead (names : List Bytes) (most : ℕ) (pair : Bytes × Bytes) (read : ℕ × ℤ) : Type 0 where
  pub stands : StandsAt names pair.0 read.0
  pub number : number pair.1 ≡ read.1
  pub place : position (bytes_eq pair.0) names ≡ Some read.0

within_cond : (test : Bool) (y z : ℤ) → cond test (Ok y) (Err rules.TooLarge) ≡ Ok z → y ≡ z
within_cond true y z e = cc
within_cond false y z e = absurd cc

within_value : (most : ℕ) (read : Result ℤ NumFault) (z : ℤ) → within most read ≡ Ok z
    → result_unwrap_or read (pos 0) ≡ z
within_value most (Ok y) z e = within_cond (leb (unsigned_abs y) most) y z e
within_value most (Err fault) z e = absurd cc

pub number_value : (most : ℕ) (text : Bytes) (z : ℤ) → number_within most text ≡ Ok z → number text ≡ z
unfolding number
number_value most text z e = within_value most (read_of text) z e

place_read : (names : List Bytes) (name : Bytes) (place : Option ℕ) → position (bytes_eq name) names ≡ place
    → Agrees (unless (is_named names name) rules.UnknownRow) (ok_or place rules.UnknownRow)
    (λ p. position (bytes_eq name) names ≡ Some p)
place_read names name None e = rw (named-position names name None e) refl
place_read names name (Some p) e =
    rw (named-position names name (Some p) e) (record { value = p; is = refl; holds = e })

pub pair_agrees : (names : List Bytes) (most : ℕ) (pair : Bytes × Bytes)
    → Agrees (first_of (unless (is_named names pair.0) rules.UnknownRow ∷ number_fault most pair.1 ∷ []))
    (pair_read names most pair) (IsPairRead names most pair)
pair_agrees names most pair =
    agrees_then (unless (is_named names pair.0) rules.UnknownRow) (number_fault most pair.1 ∷ [])
    (ok_or (position (bytes_eq pair.0) names) rules.UnknownRow) (λ p. position (bytes_eq pair.0) names ≡ Some p)
    (λ place. number_within most pair.1 >>= λ n. Ok (place, n)) (IsPairRead names most pair)
    (place_read names pair.0 (position (bytes_eq pair.0) names) refl)
    (λ place at. agrees_then (number_fault most pair.1) [] (number_within most pair.1)
    (λ n. number_within most pair.1 ≡ Ok n) (λ n. Ok (place, n)) (IsPairRead names most pair)
    (agrees_fault (number_within most pair.1))
    (λ n e. agrees_ok _ (place, n) (IsPairRead names most pair) refl
    (record { stands = stands_at names pair.0 place at; number = number_value most pair.1 n e; place = at })))

-- ---- one number for each name

abbrev pub numbers_of : List Bytes → List (Bytes × Bytes) → List (Option ℤ)
numbers_of names pairs = map (λ name. number_after name pairs) names

find_step : (name : Bytes) (pair : Bytes × Bytes) (pairs : List (Bytes × Bytes)) (test : Bool)
    → is_some (number_after name pairs) ≡ is_named (names_in pairs) name
    → is_some (cond test (Some (number pair.1)) (number_after name pairs)) ≡ (test || is_named (names_in pairs) name)
find_step name pair pairs true h = refl
find_step name pair pairs false h = h

pub number_named : (name : Bytes) (pairs : List (Bytes × Bytes))
    → is_some (number_after name pairs) ≡ is_named (names_in pairs) name
unfolding number_after
number_named name [] = refl
number_named name (pair ∷ pairs) = find_step name pair pairs (bytes_eq name pair.0) (number_named name pairs)

pub number_fresh : (name : Bytes) (pairs : List (Bytes × Bytes)) (last : Bytes × Bytes)
    → is_named (names_in pairs) name ≡ false → name ≡ last.0
    → number_after name (pairs ++ last ∷ []) ≡ Some (number last.1)
unfolding number_after
number_fresh name [] last fresh same = rw (same_true name last.0 same) refl
number_fresh name (pair ∷ pairs) last fresh same =
    let parts = or_false (bytes_eq name pair.0) (is_named (names_in pairs) name) fresh in
    rw (parts.0) (number_fresh name pairs last parts.1 same)

cond_same : {A : Type 0} (test : Bool) (x y z : A) → y ≡ z → cond test x y ≡ cond test x z
cond_same test x y z e = ap (cond test x) e

pub number_other : (name : Bytes) (pairs : List (Bytes × Bytes)) (last : Bytes × Bytes) → name ≢ last.0
    → number_after name pairs ≡ number_after name (pairs ++ last ∷ [])
unfolding number_after
number_other name [] last other = rw (differ_false name last.0 other) refl
number_other name (pair ∷ pairs) last other =
    cond_same (bytes_eq name pair.0) (Some (number pair.1)) _ _ (number_other name pairs last other)

enter_step : (there : Bool) (numbers : List (Option ℤ)) (P : List (Option ℤ) → Type 0) → (there ≡ false → P numbers)
    → Agrees (when there rules.DuplicateEntry) (cond there (Err rules.DuplicateEntry) (Ok numbers)) P
enter_step true numbers P f = refl
enter_step false numbers P f = record { value = numbers; is = refl; holds = f refl }

-- One number is entered beside its name.
pub entered_agrees : (names : List Bytes) (pairs : List (Bytes × Bytes)) (pair : Bytes × Bytes)
    (numbers : List (Option ℤ)) (place : ℕ) (z : ℤ) → AreDistinct names → numbers ≡ numbers_of names pairs
    → StandsAt names pair.0 place → number pair.1 ≡ z
    → Agrees (when (is_named (names_in pairs) pair.0) rules.DuplicateEntry) (entered numbers place z)
    (λ ns. ns ≡ numbers_of names (pairs ++ pair ∷ []))
entered_agrees names pairs pair numbers place z distinct are at value =
    let there : is_some (get_or numbers place None) ≡ is_named (names_in pairs) pair.0 =
    ap (λ (ns : List (Option ℤ)). is_some (get_or ns place None)) are
    ∙ ap is_some (table_at (λ name. number_after name pairs) names place pair.0 None at)
    ∙ number_named pair.0 pairs in
    rw there (enter_step (is_named (names_in pairs) pair.0) (set numbers place (Some z))
    (λ ns. ns ≡ numbers_of names (pairs ++ pair ∷ []))
    (λ fresh.
    let last : number_after pair.0 (pairs ++ pair ∷ []) ≡ Some z =
    number_fresh pair.0 pairs pair fresh refl ∙ ap (λ (y : ℤ). Some y) value in
    ap (λ (ns : List (Option ℤ)). set ns place (Some z)) are ∙ ap (set (numbers_of names pairs) place) (sym last)
    ∙ table_set (λ name. number_after name pairs)
    (λ name. number_after name (pairs ++ pair ∷ [])) names place pair.0 distinct at
    (λ n other. number_other n pairs pair other)))
