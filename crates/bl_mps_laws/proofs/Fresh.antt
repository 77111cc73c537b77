-- Names of which each stands once.
use Rattle.std.proofs.Common.{◌≡◌, ℕ, zero, suc, Bool, true, false, ◌||◌, List, [], ◌∷◌, ◌++◌, take, refl, sym}
use Rattle.std.proofs.Common.{◌∙◌}
use Rattle.std.specs.Str.{bytes_eq}
use Rattle.bl_mps_terms.specs.Words.{Bytes}
use Rattle.bl_mps_terms.specs.Rules.{is_named}
use Rattle.bl_mps.proofs.Names.{IsFresh, differ_false, differ_from, same_true, or_false, named-append}

pub differ_sym : (x y : Bytes) → bytes_eq x y ≡ false → bytes_eq y x ≡ false
differ_sym x y f = differ_false y x (λ e. differ_from x y f (sym e))

pub or_both : (a b : Bool) → a ≡ false → b ≡ false → (a || b) ≡ false
or_both a b e f = rw (e, f) refl

pub or_second : (a b : Bool) → b ≡ true → (a || b) ≡ true
or_second true b e = refl
or_second false b e = e

-- neither among the first nor among the others
pub unnamed_append : (xs ys : List Bytes) (name : Bytes) → is_named (xs ++ ys) name ≡ false
    → (is_named xs name ≡ false) × (is_named ys name ≡ false)
unnamed_append xs ys name f = or_false (is_named xs name) (is_named ys name) (sym (named-append xs ys name) ∙ f)

-- a name stands not among those before it
pub fresh_before : (xs : List Bytes) (y : Bytes) (ys : List Bytes) → IsFresh (xs ++ y ∷ ys) → is_named xs y ≡ false
fresh_before [] y ys h = refl
fresh_before (x ∷ xs) y ys h =
    let later = unnamed_append xs (y ∷ ys) x h.0 in
    let first = or_false (bytes_eq x y) (is_named ys x) later.1 in
    or_both (bytes_eq y x) (is_named xs y) (differ_sym x y first.0) (fresh_before xs y ys h.1)

pub fresh_push : (xs : List Bytes) (y : Bytes) → IsFresh xs → is_named xs y ≡ false → IsFresh (xs ++ y ∷ [])
fresh_push [] y h f = (refl, tt)
fresh_push (x ∷ xs) y h f =
    let parts = or_false (bytes_eq y x) (is_named xs y) f in (
      named-append xs (y ∷ []) x
          ∙ or_both (is_named xs x) (bytes_eq x y || false) h.0
          (or_both (bytes_eq x y) false (differ_sym y x parts.0) refl),
      fresh_push xs y h.1 parts.1,
    )

-- a name that stands nowhere stands not among the first
pub unnamed_take : (n : ℕ) (xs : List Bytes) (name : Bytes) → is_named xs name ≡ false
    → is_named (take n xs) name ≡ false
unnamed_take zero xs name f = refl
unnamed_take (suc n) [] name f = refl
unnamed_take (suc n) (x ∷ xs) name f =
    let parts = or_false (bytes_eq name x) (is_named xs name) f in
    or_both (bytes_eq name x) (is_named (take n xs) name) parts.0 (unnamed_take n xs name parts.1)

pub named_last : (xs : List Bytes) (name : Bytes) → is_named (xs ++ name ∷ []) name ≡ true
named_last xs name =
    named-append xs (name ∷ []) name
    ∙ or_second (is_named xs name) (bytes_eq name name || false) (rw (same_true name name refl) refl)
