-- How the text of a file grows as its blocks are read.
use Rattle.std.proofs.Common.{◌≡◌, ℕ, ◌+◌, ◌-◌, ◌<◌, ◌≤◌, List, [], ◌++◌, length, take, drop, min, refl, sym, ap, subst}
use Rattle.std.proofs.Common.{◌∙◌, arith, length-take, length-drop, length-append}
use Rattle.std.specs.Prelude.{None, Some, IsSome, unwrap_or, IsErrAnd}
use Rattle.std.specs.declared.option.Option.{Option}
use Rattle.std.specs.declared.result.Result.{Result}
use Rattle.std.specs.FinMap.{get}
use Rattle.std.proofs.Math.Seq.{take-add}
use Rattle.std.proofs.lemmas.List.{take-append-drop, append-nil, take-take}
use Rattle.std.proofs.lemmas.Result.{err_from_is_err_and}
use Rattle.bl_outer.specs.declared.text.Got.{Got}
use Rattle.bl_outer.specs.declared.text.ReadFail.{ReadFail}
use Rattle.bl_outer.specs.Files.{Files, IfTold, Holds, IsPresent, bytes_of}
use Rattle.bl_outer.specs.Shelf.{Mode, Reading, GivesNext, chosen_name, chosen_place}
use Rattle.bl_outer.specs.Text.{IsPrefix, IsTruncated, IsRead}

-- the text is the first bytes of the file of this name
pub record HasRead (name text : List ℕ) (files : Files) : Type 0 where
  pub front : take (length text) (bytes_of files name) ≡ text

held : (file : Option (List ℕ)) (bytes : List ℕ) → IsSome file → unwrap_or file [] ≡ bytes → file ≡ Some bytes
held None bytes there e = cc
held (Some xs) bytes there e = ap Some e

-- the lists alone: the file's bytes, the text so far and a block that was given
module _ (bytes text given : List ℕ) (n : ℕ) where
  pub length_more : n ≤ length given → length (text ++ take n given) ≡ length text + n
  length_more fits = simp (length-append, length-take) (omega arith)

  more_bytes : n ≤ length given → take (length text) bytes ≡ text → take n given ≡ take n (drop (length text) bytes)
      → take (length (text ++ take n given)) bytes ≡ text ++ take n given
  more_bytes fits front next =
      ap (λ k. take k bytes) (length_more fits) ∙ take-add (length text) n bytes ∙ rw (front, next) refl

  whole_bytes : take (length text) bytes ≡ text → drop (length text) bytes ≡ [] → bytes ≡ text
  whole_bytes front none = sym (take-append-drop (length text) bytes) ∙ rw (front, none) (append-nil text)

  length_next : n ≤ length given → take n given ≡ take n (drop (length text) bytes) → n ≤ length bytes - length text
  length_next fits next =
      let e : min n (length given) ≡ min n (length bytes - length text) =
      simp (length-take, length-drop) at (ap length next) in
      omega arith

  cut_bytes : (limit : ℕ) → length text ≤ limit → limit - length text < n → n ≤ length given
      → take (length text) bytes ≡ text → take n given ≡ take n (drop (length text) bytes)
      → (limit < length bytes) × (text ++ take (limit - length text) given ≡ take limit bytes)
  cut_bytes limit within past fits front next =
      let left : ℕ = limit - length text in
      let few : left ≤ n = omega arith in
      let far = length_next fits next in
      let same : take left given ≡ take left (drop (length text) bytes) =
      sym (take-take left n given few) ∙ ap (take left) next ∙ take-take left n _ few in
      let sum : limit ≡ length text + left = omega arith in
      (omega arith, sym (ap (λ k. take k bytes) sum ∙ take-add (length text) left bytes ∙ rw (front, same) refl))

-- the place has moved by what was given
pub mode_more : (new mode : Mode) (name : List ℕ) (place n after : ℕ)
    → new ≡ Reading (chosen_name mode) (chosen_place mode + n) → mode ≡ Reading name place → after ≡ place + n
    → new ≡ Reading name after
mode_more new mode name place n after moved at sum =
    moved ∙ ap (λ m. Reading (chosen_name m) (chosen_place m + n)) at ∙ ap (Reading name) (sym sum)

-- the same of a file, where the files are told
pub none_read : (told : Option Files) (name text : List ℕ) → text ≡ [] → IfTold told (HasRead name text)
none_read None name text e = tt
none_read (Some files) name text e = record { front = rw e refl }

pub front_read : (told : Option Files) (name text : List ℕ) → IfTold told (HasRead name text)
    → IfTold told (λ files. IsPrefix text (bytes_of files name))
front_read None name text h = tt
front_read (Some files) name text h = (
  drop (length text) (bytes_of files name),
  sym (take-append-drop (length text) (bytes_of files name))
      ∙ ap (λ front. front ++ drop (length text) (bytes_of files name)) h.front,
)

-- what a failure answers
pub failed_read : (told : Option Files) (name text : List ℕ) (limit : ℕ) (result : Result Got ReadFail)
    (Q : ReadFail → Type 0)
    → IsErrAnd result Q → IfTold told (HasRead name text) → IfTold told (IsRead result name limit text)
failed_read told name text limit result Q is h =
    let p = err_from_is_err_and result is in
    subst (λ r. IfTold told (IsRead r name limit text)) (sym p.1) (front_read told name text h)

module _ (name text given : List ℕ) (n : ℕ) (mode : Mode) (at : mode ≡ Reading name (length text))
    (fits : n ≤ length given) where
  pub more_read : (told : Option Files) → IfTold told (HasRead name text) → IfTold told (GivesNext mode n given)
      → IfTold told (HasRead name (text ++ take n given))
  more_read None h next = tt
  more_read (Some files) h next =
      let gives = subst (λ m. GivesNext m n given files) at next in
      record { front = more_bytes (bytes_of files name) text given n fits h.front gives.0 }

  pub whole_read : (told : Option Files) → n ≡ 0 → IfTold told (λ files. IsPresent files name)
      → IfTold told (HasRead name text) → IfTold told (GivesNext mode n given)
      → IfTold told (λ files. Holds files name text)
  whole_read None none there h next = tt
  whole_read (Some files) none there h next =
      let gives = subst (λ m. GivesNext m n given files) at next in
      held (get files name) text there (whole_bytes (bytes_of files name) text given n h.front (gives.1 none))

  pub cut_read : (told : Option Files) (limit : ℕ) → length text ≤ limit → limit - length text < n
      → IfTold told (λ files. IsPresent files name) → IfTold told (HasRead name text)
      → IfTold told (GivesNext mode n given)
      → IfTold told (IsTruncated name limit (text ++ take (limit - length text) given))
  cut_read None limit within past there h next = tt
  cut_read (Some files) limit within past there h next =
      let gives = subst (λ m. GivesNext m n given files) at next in
      let cut = cut_bytes (bytes_of files name) text given n limit within past fits h.front gives.0 in
      record {
        bytes = bytes_of files name;
        held = held (get files name) (bytes_of files name) there refl;
        longer =
            cut.0;
        front = cut.1;
      }
