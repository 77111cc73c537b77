-- What the texts of items are read as.
use Rattle.std.proofs.Common.{◌≡◌, ◌⊎◌, ℕ, zero, suc, ◌-◌, ◌≤◌, Bool, true, false, not, List, [], ◌∷◌, length}
use Rattle.std.proofs.Common.{map, take}
use Rattle.std.proofs.Common.{◌<◌, ◌^◌}
use Rattle.std.proofs.Common.{drop, get_or, Option, Some, None, option_to_list, refl, sym, ap, ◌∙◌, arith, ℤ, pos}
use Rattle.std.proofs.Common.{negsuc, inl, inr}
use Rattle.std.proofs.Common.{is_some}
use Rattle.std.specs.Prelude.{slice_get, ◌<ℤ◌, FitsSigned, IfSome, IfNone}
use Rattle.std.specs.Fmt.{decimal, signed_decimal}
use Rattle.std.specs.Int.{w64}
use Rattle.std.specs.Option.{option_map}
use Rattle.std.specs.Str.{bytes_eq}
use Rattle.std.proofs.lemmas.Fmt.{decimal_injective, decimal_is_IsNumeral}
use Rattle.std.proofs.lemmas.Int.{ints}
use Rattle.std.proofs.lemmas.List.{take_rest}
use Rattle.std.proofs.lemmas.Slice.Eq.{bytes_eq-Decides}
use Rattle.std.proofs.lemmas.Str.Parse.{digit_at}
use Rattle.bl_words.specs.declared.commands.Command.{Command}
use Rattle.bl_words.specs.Commands.{name_of}
use Rattle.bl_words.specs.declared.commands.Limits.{Limits}
use Rattle.bl_words.specs.Items.{Item, IsNumber, Said}
use Rattle.bl_words.specs.Items.{AreModelItems, AreModelWords}
use Rattle.bl_words.specs.Steps.{walk}
use Rattle.bl_words.proofs.Spellings.{read_spelled, spelled_read}

none-mapped : {X Y : Type 0} (o : Option X) (f : X → Y) → is_some o ≡ false → None ≡ option_map f o
none-mapped None f e = refl
none-mapped (Some x) f e = absurd cc

pub none-third : {X : Type 0} (o : Option X) (f : X → List ℕ) (test : Bool) (got : Option (List ℕ))
    → option_map f o ≡ got → test ≡ is_some o → test ≡ false → None ≡ got
none-third o f test got e t h = none-mapped o f (sym t ∙ h) ∙ e

-- a text is the spelling of one number
pub same-number : (text : List ℕ) (number : ℤ) (value : ℕ) → text ≡ signed_decimal number → FitsSigned w64 number
    → value < 2 ^ 32 → text ≡ decimal value → number ≡ pos value
same-number text (pos k) value e fits few is =
    ap pos (decimal_injective k value (omega (arith, ints, fits.sfits)) (omega (arith, few)) (sym e ∙ is))
same-number text (negsuc k) value e fits few is =
    let first : 45 ∷ decimal (suc k) ≡ decimal value = sym e ∙ is in
    let numeral = decimal_is_IsNumeral value (omega (arith, few)) in
    let digit = digit_at (decimal value) 0 numeral.0.1 numeral.0.0 in
    absurd (omega (arith, digit.0, ap (λ (ds : List ℕ). get_or ds 0 0) first))

-- a number of 32 bits has 64
pub small-fits : (value : ℕ) → value < 2 ^ 32 → FitsSigned w64 (pos value)
small-fits value few = record { sfits = omega (arith, few) }

-- a number out of the limits is no number of the option
pub no-number : (limits : Limits) (text : List ℕ) (number : ℤ) → text ≡ signed_decimal number → FitsSigned w64 number
    → limits.greatest < 2 ^ 32 → (number <ℤ pos limits.least) ⊎ (pos limits.greatest <ℤ number)
    → (value : ℕ) → IsNumber limits (text ∷ []) value → ⊥
no-number limits text number e fits few (inl low) value h =
    let same = same-number text number value e fits (omega (arith, few, h.1)) h.2 in
    omega (arith, ints, same, low, h.0)
no-number limits text number e fits few (inr high) value h =
    let same = same-number text number value e fits (omega (arith, few, h.1)) h.2 in
    omega (arith, ints, same, high, h.1)

-- where none stands behind a place, what is left there is its text, if there is one
only-then : (texts : List (List ℕ)) (place : ℕ) (text : Option (List ℕ)) → text ≡ slice_get texts place
    → None ≡ slice_get texts (suc place) → drop place texts ≡ option_to_list text
only-then [] zero text e f = rw e refl
only-then [] (suc n) text e f = rw e refl
only-then (x ∷ []) zero text e f = rw e refl
only-then (x ∷ y ∷ xs) zero text e f = absurd cc
only-then (x ∷ xs) (suc n) text e f = only-then xs n text e f

pub only-text : (texts : List (List ℕ)) (place next : ℕ) (text : Option (List ℕ)) → text ≡ slice_get texts place
    → next ≡ suc place → None ≡ slice_get texts next → drop place texts ≡ option_to_list text
only-text texts place next text e is f =
    only-then texts place text e (f ∙ ap (λ (n : ℕ). slice_get texts n) is)

pub if_none-refuses : {X : Type 0} (o : Option X) (P Q : Type 0) → (P → Q) → IfNone o P → IfNone o Q
if_none-refuses None P Q f h = f h
if_none-refuses (Some x) P Q f h = tt

pub if_some-says : {X : Type 0} (o : Option X) (P Q : X → Type 0) → ((x : X) → P x → Q x) → IfSome o P → IfSome o Q
if_some-says None P Q f h = tt
if_some-says (Some x) P Q f h = f x h

-- the words of a command are its word and those of its items
pub model-words : (command : Command) (words rest : List (List ℕ)) (items : List Item) (said : Said)
    → words ≡ name_of command ∷ rest → Some items ≡ walk command [] None rest → AreModelItems command items said
    → AreModelWords command words said
model-words command words rest items said begins read says = record {
  rest = rest;
  items = items;
  begins = begins;
  spelled = spelled_read command items rest (sym read);
  says = says;
}

tails : (a b : List ℕ) (xs ys : List (List ℕ)) → a ∷ xs ≡ b ∷ ys → xs ≡ ys
tails a b xs ys e = cc

-- the items that such words say are those that are read
pub said-by : (command : Command) (words rest : List (List ℕ)) (first : List ℕ) (read : Option (List Item))
    (said : Said) → words ≡ first ∷ rest
    → read ≡ walk command [] None rest → AreModelWords command words said
    → (items : List Item) × (read ≡ Some items) × AreModelItems command items said
said-by command words rest first read said split r w =
    let same : rest ≡ w.rest = tails first (name_of command) rest w.rest (sym split ∙ w.begins) in
    (w.items, r ∙ ap (walk command [] None) same ∙ read_spelled command w.items w.rest w.spelled, w.says)

not-false : (b : Bool) → not b ≡ false → b ≡ true
not-false true e = refl
not-false false e = absurd cc

split-first : {X : Type 0} (words : List X) (first : X) → 1 ≤ length words → first ≡ get_or words 0 first
    → words ≡ first ∷ drop 1 words
split-first [] first some is = absurd (omega arith)
split-first {X} (word ∷ words) first some is = ap (λ (w : X). w ∷ words) (sym is)

-- the first word is the command's
pub words-begin : {X : Type 0} (f : X → List ℕ) (words : List X) (first : X) (text name : List ℕ) (test : Bool)
    → 1 ≤ length words → first ≡ get_or words 0 first → text ≡ f first → test ≡ not (bytes_eq text name) → test ≡ false
    → map f words ≡ name ∷ map f (take (length words - 1) (drop 1 words))
words-begin {X} f words first text name test some is t e h =
    let same : text ≡ name = (bytes_eq-Decides text name).0 (not-false (bytes_eq text name) (sym e ∙ h)) in
    ap (map f) (split-first words first some is)
    ∙ ap (λ (n : List ℕ). n ∷ map f (drop 1 words)) (sym t ∙ same)
    ∙ ap (λ (ws : List X). name ∷ map f ws) (sym (take_rest words 1))

pub none-read : (read : Option (List Item)) (items : List Item) → read ≡ None → read ≡ Some items → ⊥
none-read read items e f = cc

pub some-read : (items others : List Item) → Some items ≡ Some others → others ≡ items
some-read items others e = cc
