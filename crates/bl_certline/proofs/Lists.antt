-- Lists that are read word by word.
use Rattle.std.proofs.Common.{◌≡◌, ℕ, suc, List, [], ◌∷◌, ◌++◌, Option, Some, None, refl, sym, ap}
use Rattle.std.proofs.Common.{append_assoc, Bor, ℤ}
use Rattle.std.specs.Iterator.{YieldsFirstRef}
use Rattle.std.specs.Option.{option_copied, option_map}
use Rattle.std.proofs.lemmas.List.{append-nil}
use Rattle.bl_certline.specs.Fields.{Bytes}
use Rattle.bl_certline.specs.FieldValues.{◌>>=◌, number_of}
use Rattle.bl_certline.specs.LineValues.{each_of, number_at, numbers_at, side_of, sides_of}

-- what is read behind what was read before
abbrev pub with_front : {X : Type 0} → List X → Option (List X) → Option (List X)
with_front front read = option_map (λ back. front ++ back) read

pub with_front-none : {X : Type 0} (read : Option (List X)) → with_front [] read ≡ read
with_front-none None = refl
with_front-none (Some xs) = refl

with_front-cons : {X : Type 0} (front : List X) (x : X) (read : Option (List X))
    → with_front front (read >>= λ xs. Some (x ∷ xs)) ≡ with_front (front ++ x ∷ []) read
with_front-cons front x None = refl
with_front-cons front x (Some xs) = ap Some (sym (append_assoc front (x ∷ []) xs))

-- a word more is read
pub each_of-more : {X : Type 0} (read : Bytes → Option X) (front : List X) (word : Bytes) (words : List Bytes) (x : X)
    → Some x ≡ read word
    → with_front front (each_of read (word ∷ words)) ≡ with_front (front ++ x ∷ []) (each_of read words)
each_of-more read front word words x e = rw (sym e) (with_front-cons front x (each_of read words))

-- a word isn't read
pub each_of-fails : {X : Type 0} (read : Bytes → Option X) (front : List X) (word : Bytes) (words : List Bytes)
    → None ≡ read word → with_front front (each_of read (word ∷ words)) ≡ None
each_of-fails read front word words e = rw (sym e) refl

-- ---- two words for each

pub sides_of-more : (front : List (ℤ × ℤ)) (lo hi : Bytes) (words : List Bytes) (side : ℤ × ℤ)
    → Some side ≡ side_of lo (Some hi)
    → with_front front (sides_of (lo ∷ hi ∷ words)) ≡ with_front (front ++ side ∷ []) (sides_of words)
sides_of-more front lo hi words side e = rw (sym e) (with_front-cons front side (sides_of words))

side_of-none : (lo : Bytes) (side : ℤ × ℤ) → Some side ≡ side_of lo None → ⊥
side_of-none lo side e =
    elim (number_of lo) as (λ l. Some side ≡ (l >>= λ z. None) → ⊥) [ None ↦ λ f. cc | Some z ↦ λ f. cc ] e

-- where the two words come one after another
pub sides_of-step : (front : List (ℤ × ℤ)) (lo : Bytes) (hi : Option (Bor Bytes)) (behind rest : List Bytes)
    (side : ℤ × ℤ) → YieldsFirstRef (λ (s : List Bytes). s) behind hi rest → Some side ≡ side_of lo (option_copied hi)
    → with_front front (sides_of (lo ∷ behind)) ≡ with_front (front ++ side ∷ []) (sides_of rest)
sides_of-step front lo None behind rest side y e = absurd (side_of-none lo side e)
sides_of-step front lo (Some hi) behind rest side y e = rw y (sides_of-more front lo hi.now rest side e)

-- ---- so many words

abbrev pub with_numbers : List ℤ → Option (List ℤ × List Bytes) → Option (List ℤ × List Bytes)
with_numbers front read = option_map (λ x. (front ++ x.0, x.1)) read

pub with_numbers-none : (read : Option (List ℤ × List Bytes)) → with_numbers [] read ≡ read
with_numbers-none None = refl
with_numbers-none (Some x) = refl

with_numbers-cons : (front : List ℤ) (z : ℤ) (read : Option (List ℤ × List Bytes))
    → with_numbers front (read >>= λ more. Some (z ∷ more.0, more.1)) ≡ with_numbers (front ++ z ∷ []) read
with_numbers-cons front z None = refl
with_numbers-cons front z (Some x) = ap (λ (zs : List ℤ). Some (zs, x.1)) (sym (append_assoc front (z ∷ []) x.0))

pub numbers_at-more : (front : List ℤ) (left less : ℕ) (words rest : List Bytes) (z : ℤ) → left ≡ suc less
    → Some (z, rest) ≡ number_at words
    → with_numbers front (numbers_at left words) ≡ with_numbers (front ++ z ∷ []) (numbers_at less rest)
numbers_at-more front left less words rest z count e =
    rw (count, sym e) (with_numbers-cons front z (numbers_at less rest))

pub numbers_at-fails : (front : List ℤ) (left less : ℕ) (words : List Bytes) → left ≡ suc less → None ≡ number_at words
    → with_numbers front (numbers_at left words) ≡ None
numbers_at-fails front left less words count e = rw (count, sym e) refl

pub numbers_at-done : (front : List ℤ) (left : ℕ) (words : List Bytes) → left ≡ 0
    → with_numbers front (numbers_at left words) ≡ Some (front, words)
numbers_at-done front left words none = rw none (ap (λ (zs : List ℤ). Some (zs, words)) (append-nil front))
