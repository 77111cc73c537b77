-- A line is read from its words, and what is read has these words.
use Rattle.std.proofs.Common.{◌≡◌, ℕ, zero, suc, true, false, cond, List, [], ◌∷◌, ◌++◌, length, map}
use Rattle.std.proofs.Common.{Option, Some, None, refl, sym, ap, subst, ◌∙◌, arith, ℤ, pos, negsuc, ◌≤ℤ◌}
use Rattle.std.proofs.Common.{unsigned_abs, eqb}
use Rattle.std.specs.Prelude.{int_le}
use Rattle.std.specs.Fmt.{signed_decimal}
use Rattle.std.specs.Option.{option_map}
use Rattle.std.specs.List.{AllByRecursion}
use Rattle.std.proofs.lemmas.Bool.{eqb-true, leb-true, le-leb}
use Rattle.std.proofs.lemmas.Int.{ints}
use Rattle.std.proofs.lemmas.Option.{cond_some, option_and_then_some}
use Rattle.bl_limits.specs.declared.TheConstants.{MAX_PROOF_NUMBER}
use Rattle.bl_certline.specs.declared.line.TightItem.{TightItem}
use Rattle.bl_certline.specs.declared.line.TightItem.TheVariants as items
use Rattle.bl_certline.specs.Fields.{Bytes, IsWhole, pair_word}
use Rattle.bl_certline.specs.FieldValues.{number_of, pair_of}
use Rattle.bl_certline.specs.Lines.{AreMultipliers, AreWhole, IsMultiplier, IsProofNumber, item_word, number_words}
use Rattle.bl_certline.specs.Lines.{pair_words, place_of, side_words}
use Rattle.bl_certline.specs.LineValues.{cuts_at, den_at, each_of, item_at, item_of}
use Rattle.bl_certline.specs.LineValues.{multiplier_of, number_at, numbers_at, only_count, only_den, only_number}
use Rattle.bl_certline.specs.LineValues.{side_of, sides_of}
use Rattle.bl_certline.specs.SplitWords.{is_empty}
use Rattle.bl_certline.proofs.LineWords.{whole_from_proof_number}
use Rattle.bl_certline.proofs.Numbers.{number_of-some, number_of-spelled}
use Rattle.bl_certline.proofs.Pairs.{pair_of-some, pair_of-spelled}

-- ---- options

pub option_map_some : {A B P : Type 0} (f : A → B) (o : Option A) (y : B) → option_map f o ≡ Some y
    → ((x : A) → o ≡ Some x → f x ≡ y → P) → P
option_map_some f None y e then = absurd cc
option_map_some f (Some x) y e then = then x refl cc

pub none_left : (words : List Bytes) → is_empty words ≡ true → words ≡ []
none_left [] e = refl
none_left (word ∷ words) e = absurd cc

-- ---- numbers

pub number_at-spelled : (z : ℤ) (words : List Bytes) → IsWhole z
    → number_at (signed_decimal z ∷ words) ≡ Some (z, words)
unfolding number_at
number_at-spelled z words whole = rw (number_of-spelled z whole) refl

pub record StartsWithNumber (words : List Bytes) (z : ℤ) (rest : List Bytes) : Type 0 where
  pub whole : IsWhole z
  pub spelled : words ≡ signed_decimal z ∷ rest

pub number_at-some : (words : List Bytes) (x : ℤ × List Bytes) → number_at words ≡ Some x
    → StartsWithNumber words x.0 x.1
unfolding number_at
number_at-some [] x e = absurd cc
number_at-some (word ∷ words) x e =
    option_and_then_some _ (number_of word) x e (λ z read last.
    let found = number_of-some word z read in
    let pair : ℤ × List Bytes = (z, words) in
    let same : pair ≡ x = cc in
    subst (λ (y : ℤ × List Bytes). StartsWithNumber (word ∷ words) y.0 y.1) same
    (record { whole = found.whole; spelled = ap (λ (w : Bytes). w ∷ words) found.spelled }))

pub only_number-spelled : (z : ℤ) → IsWhole z → only_number (signed_decimal z ∷ []) ≡ Some z
unfolding only_number
only_number-spelled z whole = rw (number_at-spelled z [] whole) refl

pub only_number-some : (words : List Bytes) (z : ℤ) → only_number words ≡ Some z → StartsWithNumber words z []
unfolding only_number
only_number-some words z e =
    option_and_then_some _ (number_at words) z e (λ x read last.
    let found = number_at-some words x read in
    let alone = cond_some _ _ _ last in
    let spelled : words ≡ signed_decimal x.0 ∷ [] =
    found.spelled ∙ ap (λ (rest : List Bytes). signed_decimal x.0 ∷ rest) (none_left x.1 alone.0) in
    subst (λ (y : ℤ). StartsWithNumber words y []) alone.1 (record { whole = found.whole; spelled = spelled }))

-- ---- counts and denominators

from_zero-test : (z : ℤ) → pos 0 ≤ℤ z → int_le (pos 0) z ≡ true
from_zero-test (pos n) h = le-leb 0 n (omega arith)
from_zero-test (negsuc n) h = absurd h.le

test-from_zero : (z : ℤ) → int_le (pos 0) z ≡ true → pos 0 ≤ℤ z
test-from_zero (pos n) e = omega (arith, ints)
test-from_zero (negsuc n) e = absurd cc

pub only_count-spelled : (z : ℤ) → IsWhole z → pos 0 ≤ℤ z → only_count (signed_decimal z ∷ []) ≡ Some z
unfolding only_count
only_count-spelled z whole from =
    rw (only_number-spelled z whole, from_zero-test z from) refl

pub record IsOnlyCount (words : List Bytes) (z : ℤ) : Type 0 where
  pub number : StartsWithNumber words z []
  pub from : pos 0 ≤ℤ z

pub only_count-some : (words : List Bytes) (z : ℤ) → only_count words ≡ Some z → IsOnlyCount words z
unfolding only_count
only_count-some words z e =
    option_and_then_some _ (only_number words) z e (λ x read last.
    let tested = cond_some _ _ _ last in
    subst (IsOnlyCount words) tested.1
    (record { number = only_number-some words x read; from = test-from_zero x tested.0 }))

pub den_at-spelled : (z : ℤ) (words : List Bytes) → IsProofNumber z
    → den_at (signed_decimal z ∷ words) ≡ Some (z, words)
unfolding den_at
den_at-spelled z words h =
    rw (
      number_at-spelled z words (whole_from_proof_number z h),
      le-leb (unsigned_abs z) (unsigned_abs MAX_PROOF_NUMBER) h,
    ) refl

pub record StartsWithDen (words : List Bytes) (z : ℤ) (rest : List Bytes) : Type 0 where
  pub small : IsProofNumber z
  pub spelled : words ≡ signed_decimal z ∷ rest

pub den_at-some : (words : List Bytes) (x : ℤ × List Bytes) → den_at words ≡ Some x → StartsWithDen words x.0 x.1
unfolding den_at
den_at-some words x e =
    option_and_then_some _ (number_at words) x e (λ y read last.
    let found = number_at-some words y read in
    let tested = cond_some _ _ _ last in
    subst (λ (z : ℤ × List Bytes). StartsWithDen words z.0 z.1) tested.1
    (record { small = leb-true _ _ tested.0; spelled = found.spelled }))

pub only_den-spelled : (z : ℤ) → IsProofNumber z → only_den (signed_decimal z ∷ []) ≡ Some z
unfolding only_den
only_den-spelled z h = rw (den_at-spelled z [] h) refl

pub only_den-some : (words : List Bytes) (z : ℤ) → only_den words ≡ Some z → StartsWithDen words z []
unfolding only_den
only_den-some words z e =
    option_and_then_some _ (den_at words) z e (λ x read last.
    let found = den_at-some words x read in
    let alone = cond_some _ _ _ last in
    let spelled : words ≡ signed_decimal x.0 ∷ [] =
    found.spelled ∙ ap (λ (rest : List Bytes). signed_decimal x.0 ∷ rest) (none_left x.1 alone.0) in
    subst (λ (y : ℤ). StartsWithDen words y []) alone.1 (record { small = found.small; spelled = spelled }))

-- ---- lists

-- a word is the value's
pub record IsWordOf {X : Type 0} (Is : X → Type 0) (text : X → Bytes) (word : Bytes) (x : X) : Type 0 where
  pub is : Is x
  pub spelled : word ≡ text x

-- the words are the values'
pub record AreWordsOf {X : Type 0} (Is : X → Type 0) (text : X → Bytes) (words : List Bytes) (xs : List X)
    : Type 0 where
  pub are : AllByRecursion Is xs
  pub spelled : words ≡ map text xs

pub each_of-spelled : {X : Type 0} (Is : X → Type 0) (text : X → Bytes) (read : Bytes → Option X)
    → ((x : X) → Is x → read (text x) ≡ Some x) → (xs : List X) → AllByRecursion Is xs
    → each_of read (map text xs) ≡ Some xs
each_of-spelled Is text read each [] h = refl
each_of-spelled Is text read each (x ∷ xs) h = rw (each x h.0, each_of-spelled Is text read each xs h.1) refl

pub each_of-some : {X : Type 0} (Is : X → Type 0) (text : X → Bytes) (read : Bytes → Option X)
    → ((word : Bytes) (x : X) → read word ≡ Some x → IsWordOf Is text word x)
    → (words : List Bytes) (xs : List X) → each_of read words ≡ Some xs → AreWordsOf Is text words xs
each_of-some Is text read each [] xs e =
    let none : [] ≡ xs = cc in
    subst (AreWordsOf Is text []) none (record { are = tt; spelled = refl })
each_of-some {X} Is text read each (word ∷ words) xs e =
    option_and_then_some _ (read word) xs e (λ x first rest.
    option_and_then_some _ (each_of read words) xs rest (λ ys more last.
    let one = each word x first in
    let others = each_of-some Is text read each words ys more in
    let all : x ∷ ys ≡ xs = cc in
    subst (AreWordsOf Is text (word ∷ words)) all (record {
      are = (one.is, others.are);
      spelled = ap (λ (w : Bytes). w ∷ words) one.spelled
          ∙ ap (λ (ws : List Bytes). text x ∷ ws) others.spelled;
    })))

pub numbers-spelled : (zs : List ℤ) → AreWhole zs → each_of number_of (number_words zs) ≡ Some zs
numbers-spelled zs h = each_of-spelled IsWhole signed_decimal number_of number_of-spelled zs h

pub numbers-some : (words : List Bytes) (zs : List ℤ) → each_of number_of words ≡ Some zs
    → AreWordsOf IsWhole signed_decimal words zs
numbers-some words zs e =
    each_of-some IsWhole signed_decimal number_of
    (λ word z read. let found = number_of-some word z read in record { is = found.whole; spelled = found.spelled })
    words zs e

multiplier_of-spelled : (p : ℤ × ℤ) → IsMultiplier p → multiplier_of (pair_word p) ≡ Some p
unfolding multiplier_of
multiplier_of-spelled p h =
    rw (pair_of-spelled p h.0, le-leb (unsigned_abs p.1) (unsigned_abs MAX_PROOF_NUMBER) h.1) refl

multiplier_of-some : (word : Bytes) (p : ℤ × ℤ) → multiplier_of word ≡ Some p → IsWordOf IsMultiplier pair_word word p
unfolding multiplier_of
multiplier_of-some word p e =
    option_and_then_some _ (pair_of word) p e (λ q read last.
    let found = pair_of-some word q read in
    let tested = cond_some _ _ _ last in
    subst (IsWordOf IsMultiplier pair_word word) tested.1
    (record { is = (found.pair, leb-true _ _ tested.0); spelled = found.spelled }))

pub multipliers-spelled : (ps : List (ℤ × ℤ)) → AreMultipliers ps → each_of multiplier_of (pair_words ps) ≡ Some ps
multipliers-spelled ps h = each_of-spelled IsMultiplier pair_word multiplier_of multiplier_of-spelled ps h

pub multipliers-some : (words : List Bytes) (ps : List (ℤ × ℤ)) → each_of multiplier_of words ≡ Some ps
    → AreWordsOf IsMultiplier pair_word words ps
multipliers-some words ps e = each_of-some IsMultiplier pair_word multiplier_of multiplier_of-some words ps e

-- ---- tight items

item_of-spelled : (t : TightItem) → IsWhole (place_of t) → item_of (item_word t) ≡ Some t
unfolding item_of
item_of-spelled (items.Row place) h = rw (number_of-spelled place h) refl
item_of-spelled (items.Upper place) h = rw (number_of-spelled place h) refl
item_of-spelled (items.Lower place) h = rw (number_of-spelled place h) refl
item_of-spelled (items.Cut place) h = rw (number_of-spelled place h) refl

record IsItem (letter : ℕ) (place : ℤ) (t : TightItem) : Type 0 where
  same : place_of t ≡ place
  spelled : letter ∷ signed_decimal place ≡ item_word t

-- the letter is this one, or another item is found
other_letter : (letter code : ℕ) (place : ℤ) (item t : TightItem) (rest : Option TightItem)
    → (letter ≡ code → IsItem letter place item) → (rest ≡ Some t → IsItem letter place t)
    → cond (eqb letter code) (Some item) rest ≡ Some t → IsItem letter place t
other_letter letter code place item t rest this other e =
    elim (eqb letter code) as (λ test. eqb letter code ≡ test → cond test (Some item) rest ≡ Some t
    → IsItem letter place t) [
      | true ↦ λ test f. let same : item ≡ t = cc in subst (IsItem letter place) same (this (eqb-true letter code test))
      | false ↦ λ test f. other f
    ] refl e

letter_word : (letter code : ℕ) (place : ℤ) → letter ≡ code
    → letter ∷ signed_decimal place ≡ code ∷ signed_decimal place
letter_word letter code place e = ap (λ (b : ℕ). b ∷ signed_decimal place) e

item_at-some : (letter : ℕ) (place : ℤ) (t : TightItem) → item_at letter place ≡ Some t → IsItem letter place t
item_at-some letter place t e =
    other_letter letter 114 place (items.Row place) t _
    (λ same. record { same = refl; spelled = letter_word letter 114 place same })
    (other_letter letter 117 place (items.Upper place) t _
    (λ same. record { same = refl; spelled = letter_word letter 117 place same })
    (other_letter letter 108 place (items.Lower place) t _
    (λ same. record { same = refl; spelled = letter_word letter 108 place same })
    (other_letter letter 99 place (items.Cut place) t None
    (λ same. record { same = refl; spelled = letter_word letter 99 place same }) (λ none. absurd cc)))) e

item_of-some : (word : Bytes) (t : TightItem) → item_of word ≡ Some t
    → IsWordOf (λ t. IsWhole (place_of t)) item_word word t
unfolding item_of
item_of-some [] t e = absurd cc
item_of-some (letter ∷ digits) t e =
    option_and_then_some _ (number_of digits) t e (λ place read last.
    let found = number_of-some digits place read in
    let item = item_at-some letter place t last in
    record {
      is = subst IsWhole (sym item.same) found.whole;
      spelled = ap (λ (ds : Bytes). letter ∷ ds) found.spelled ∙ item.spelled;
    })

pub items-spelled : (ts : List TightItem) → AllByRecursion (λ t. IsWhole (place_of t)) ts
    → each_of item_of (map item_word ts) ≡ Some ts
items-spelled ts h = each_of-spelled (λ t. IsWhole (place_of t)) item_word item_of item_of-spelled ts h

pub items-some : (words : List Bytes) (ts : List TightItem) → each_of item_of words ≡ Some ts
    → AreWordsOf (λ t. IsWhole (place_of t)) item_word words ts
items-some words ts e = each_of-some (λ t. IsWhole (place_of t)) item_word item_of item_of-some words ts e

-- ---- sides

abbrev pub AreSides : ℤ × ℤ → Type 0
AreSides s = IsWhole s.0 × IsWhole s.1

pub record IsWordsOfSides (words : List Bytes) (ss : List (ℤ × ℤ)) : Type 0 where
  pub are : AllByRecursion AreSides ss
  pub spelled : words ≡ side_words ss

side_of-spelled : (s : ℤ × ℤ) → AreSides s → side_of (signed_decimal s.0) (Some (signed_decimal s.1)) ≡ Some s
side_of-spelled s h = rw (number_of-spelled s.0 h.0, number_of-spelled s.1 h.1) refl

pub sides-spelled : (ss : List (ℤ × ℤ)) → AllByRecursion AreSides ss → sides_of (side_words ss) ≡ Some ss
sides-spelled [] h = refl
sides-spelled (s ∷ ss) h = rw (side_of-spelled s h.0, sides-spelled ss h.1) refl

record IsSideOf (lo hi : Bytes) (s : ℤ × ℤ) : Type 0 where
  are : AreSides s
  low : lo ≡ signed_decimal s.0
  high : hi ≡ signed_decimal s.1

side_of-some : (lo hi : Bytes) (s : ℤ × ℤ) → side_of lo (Some hi) ≡ Some s → IsSideOf lo hi s
side_of-some lo hi s e =
    option_and_then_some _ (number_of lo) s e (λ l first rest.
    option_and_then_some _ (number_of hi) s rest (λ h second last.
    let low = number_of-some lo l first in
    let high = number_of-some hi h second in
    let pair : ℤ × ℤ = (l, h) in
    let same : pair ≡ s = cc in
    subst (IsSideOf lo hi) same
    (record { are = (low.whole, high.whole); low = low.spelled; high = high.spelled })))

pub sides-some : (words : List Bytes) (ss : List (ℤ × ℤ)) → sides_of words ≡ Some ss → IsWordsOfSides words ss
sides-some [] ss e = let none : [] ≡ ss = cc in subst (IsWordsOfSides []) none (record { are = tt; spelled = refl })
sides-some (lo ∷ []) ss e = absurd cc
sides-some (lo ∷ hi ∷ words) ss e =
    option_and_then_some _ (side_of lo (Some hi)) ss e (λ s first rest.
    option_and_then_some _ (sides_of words) ss rest (λ others more last.
    let one = side_of-some lo hi s first in
    let back = sides-some words others more in
    let all : s ∷ others ≡ ss = cc in
    subst (IsWordsOfSides (lo ∷ hi ∷ words)) all (record {
      are = (one.are, back.are);
      spelled = ap (λ (w : Bytes). w ∷ hi ∷ words) one.low
          ∙ ap (λ (w : Bytes). signed_decimal s.0 ∷ w ∷ words) one.high
          ∙ ap (λ (ws : List Bytes). signed_decimal s.0 ∷ signed_decimal s.1 ∷ ws) back.spelled;
    })))

-- ---- cuts

pub record StartsWithNumbers (words : List Bytes) (zs : List ℤ) (rest : List Bytes) (count : ℕ) : Type 0 where
  pub are : AreWhole zs
  pub spelled : words ≡ number_words zs ++ rest
  pub counted : count ≡ length zs

pub numbers_at-spelled : (zs : List ℤ) (rest : List Bytes) → AreWhole zs
    → numbers_at (length zs) (number_words zs ++ rest) ≡ Some (zs, rest)
numbers_at-spelled [] rest h = refl
numbers_at-spelled (z ∷ zs) rest h =
    rw (number_at-spelled z (number_words zs ++ rest) h.0, numbers_at-spelled zs rest h.1) refl

numbers_at-some : (count : ℕ) (words : List Bytes) (x : List ℤ × List Bytes) → numbers_at count words ≡ Some x
    → StartsWithNumbers words x.0 x.1 count
numbers_at-some zero words x e =
    let none : List ℤ × List Bytes = ([], words) in
    let same : none ≡ x = cc in
    subst (λ (y : List ℤ × List Bytes). StartsWithNumbers words y.0 y.1 0) same
    (record { are = tt; spelled = refl; counted = refl })
numbers_at-some (suc count) words x e =
    option_and_then_some _ (number_at words) x e (λ y first rest.
    option_and_then_some _ (numbers_at count y.1) x rest (λ more others last.
    let one = number_at-some words y first in
    let back = numbers_at-some count y.1 more others in
    let all : List ℤ × List Bytes = (y.0 ∷ more.0, more.1) in
    let same : all ≡ x = cc in
    subst (λ (z : List ℤ × List Bytes). StartsWithNumbers words z.0 z.1 (suc count)) same (record {
      are = (one.whole, back.are);
      spelled = one.spelled ∙ ap (λ (ws : List Bytes). signed_decimal y.0 ∷ ws) back.spelled;
      counted = ap (λ (n : ℕ). suc n) back.counted;
    })))

pub record StartsWithCuts (count : ℤ) (words : List Bytes) (cuts : List ℤ) (rest : List Bytes) : Type 0 where
  pub are : AreWhole cuts
  pub spelled : words ≡ number_words cuts ++ rest
  pub counted : count ≡ pos (length cuts)

pub cuts_at-spelled : (count : ℤ) (cuts : List ℤ) (rest : List Bytes) → count ≡ pos (length cuts) → AreWhole cuts
    → cuts_at count (number_words cuts ++ rest) ≡ Some (cuts, rest)
cuts_at-spelled count cuts rest counted h = rw counted (numbers_at-spelled cuts rest h)

pub cuts_at-some : (count : ℤ) (words : List Bytes) (x : List ℤ × List Bytes) → cuts_at count words ≡ Some x
    → StartsWithCuts count words x.0 x.1
cuts_at-some (pos count) words x e =
    let found = numbers_at-some count words x e in
    record { are = found.are; spelled = found.spelled; counted = ap pos found.counted }
cuts_at-some (negsuc count) words x e = absurd cc
