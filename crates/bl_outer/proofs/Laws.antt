-- What crates above need of counts, pieces and what is told.
use Rattle.std.proofs.Common.{◌≡◌, ℕ, ◌+◌, ◌≤◌, min, List, [], ◌++◌, length, take, refl, sym, ap, ◌∙◌, arith}
use Rattle.std.proofs.Common.{append_assoc}
use Rattle.std.specs.Prelude.{None, Some}
use Rattle.std.specs.declared.option.Option.{Option}
use Rattle.std.specs.Option.{option_map}
use Rattle.std.specs.FinMap.{get}
use Rattle.std.proofs.Math.Seq.{take-append-add}
use Rattle.std.proofs.lemmas.List.{append-nil, take_min, take-append-le}
use Rattle.bl_outer.specs.Count.{Rose}
use Rattle.bl_outer.specs.Files.{Files, IfTold, Told, Appends, AppendsPrefix}
use Rattle.bl_outer.specs.Sink.{Adds, AddsPrefix}

-- a count that rose in a part of a call rose in the call
pub Rose_from : (before middle now : ℕ) → before ≤ middle → Rose middle now → Rose before now
Rose_from before middle now earlier rose = omega arith

pub Rose_to : (before middle now : ℕ) → Rose before middle → middle ≤ now → Rose before now
Rose_to before middle now rose later = omega arith

-- what holds of what is told, by another fact, at no change and after two steps
pub IfTold-weaker : {T : Type 0} (P Q : T → Type 0) → ((t : T) → P t → Q t) → (told : Option T) → IfTold told P
    → IfTold told Q
IfTold-weaker P Q so None h = tt
IfTold-weaker P Q so (Some t) h = so t h

pub Told_same : {T : Type 0} (P : T → T → Type 0) → ((t : T) → P t t) → (told : Option T) → Told P told told
Told_same P so None = tt
Told_same P so (Some t) = so t

pub Told-weaker : {T : Type 0} (P Q : T → T → Type 0) → ((s t : T) → P s t → Q s t) → (old new : Option T)
    → Told P old new → Told Q old new
Told-weaker P Q so None None h = tt
Told-weaker P Q so None (Some t) h = absurd h
Told-weaker P Q so (Some s) None h = absurd h
Told-weaker P Q so (Some s) (Some t) h = so s t h

pub Told_then : {T : Type 0} (P Q R : T → T → Type 0) → ((s t u : T) → P s t → Q t u → R s u)
    → (old middle new : Option T) → Told P old middle → Told Q middle new → Told R old new
Told_then P Q R so None None None g h = tt
Told_then P Q R so None None (Some u) g h = absurd h
Told_then P Q R so None (Some t) new g h = absurd g
Told_then P Q R so (Some s) None new g h = absurd g
Told_then P Q R so (Some s) (Some t) None g h = absurd h
Told_then P Q R so (Some s) (Some t) (Some u) g h = so s t u g h

-- some first bytes of a piece are some of a longer one
first_part : (piece more : List ℕ) (n : ℕ) → take (min n (length piece)) (piece ++ more) ≡ take n piece
first_part piece more n = take-append-le (min n (length piece)) piece more (omega arith) ∙ take_min n piece

-- the bytes of a sink, piece by piece
pub Adds_none : (bytes : List ℕ) → Adds [] bytes bytes
Adds_none bytes = sym (append-nil bytes)

pub Adds_then : (piece more s t u : List ℕ) → Adds piece s t → Adds more t u → Adds (piece ++ more) s u
Adds_then piece more s t u g h = h ∙ ap (λ bytes. bytes ++ more) g ∙ append_assoc s piece more

pub Adds_then_prefix : (piece more s t u : List ℕ) → Adds piece s t → AddsPrefix more t u
    → AddsPrefix (piece ++ more) s u
Adds_then_prefix piece more s t u g h = (
  length piece + h.0,
  Adds_then piece (take h.0 more) s t u g h.1 ∙ ap (λ bytes. s ++ bytes) (sym (take-append-add piece more h.0)),
)

pub AddsPrefix-append : (piece more s t : List ℕ) → AddsPrefix piece s t → AddsPrefix (piece ++ more) s t
AddsPrefix-append piece more s t h =
    (min h.0 (length piece), h.1 ∙ ap (λ bytes. s ++ bytes) (sym (first_part piece more h.0)))

-- the bytes of a file, piece by piece
same_file : (file : Option (List ℕ)) → file ≡ option_map (λ bytes. bytes ++ []) file
same_file None = refl
same_file (Some bytes) = ap Some (sym (append-nil bytes))

joined : (piece more : List ℕ) (file : Option (List ℕ))
    → option_map (λ bytes. bytes ++ more) (option_map (λ bytes. bytes ++ piece) file)
    ≡ option_map (λ bytes. bytes ++ (piece ++ more)) file
joined piece more None = refl
joined piece more (Some bytes) = ap Some (append_assoc bytes piece more)

module _ (name : List ℕ) where
  pub Appends_none : (files : Files) → Appends name [] files files
  Appends_none files = record { file = same_file (get files name); others = λ q differ. refl }

  pub Appends_then : (piece more : List ℕ) (s t u : Files) → Appends name piece s t → Appends name more t u
      → Appends name (piece ++ more) s u
  Appends_then piece more s t u g h = record {
    file = h.file ∙ ap (option_map (λ bytes. bytes ++ more)) g.file ∙ joined piece more (get s name);
    others = λ q differ. h.others q differ ∙ g.others q differ;
  }

  pub Appends_then_prefix : (piece more : List ℕ) (s t u : Files) → Appends name piece s t
      → AppendsPrefix name more t u → AppendsPrefix name (piece ++ more) s u
  Appends_then_prefix piece more s t u g h =
      (length piece + h.0, rw take-append-add (Appends_then piece (take h.0 more) s t u g h.1))

  pub AppendsPrefix-append : (piece more : List ℕ) (s t : Files) → AppendsPrefix name piece s t
      → AppendsPrefix name (piece ++ more) s t
  AppendsPrefix-append piece more s t h = (min h.0 (length piece), rw first_part h.1)
