-- What a map by links has at a link, after something is said of one.
use Rattle.std.proofs.Common.{◌≡◌, Bool, true, false, List, [], ◌∷◌, Option, Some, refl, sym, ap, ◌∙◌}
use Rattle.std.proofs.Common.{true≢false}
use Rattle.std.specs.Prelude.{ℤ, if◌then◌else◌}
use Rattle.std.specs.Cmp.Lexicographic.{pointwise}
use Rattle.std.specs.Cmp.Rules.{signed_items}
use Rattle.std.specs.Map.{lookup}
use Rattle.std.specs.Ordering.{int_eq}
use Rattle.std.specs.declared.vec.Vec.{Vec}
use Rattle.indexmap.specs.IndexMap.{insert_entry}

-- of two links that are the same a third one is the same as both, or as none
same-as : (l m k : List ℤ) → pointwise int_eq m k ≡ true → pointwise int_eq l k ≡ pointwise int_eq l m
same-as l m k e = ap (λ (x : List ℤ). pointwise int_eq l x) (sym ((signed_items m k).0 e))

swapped : {X : Type 0} (a b : Bool) (x y : X) (rest : Option X) → (a ≡ true → b ≡ true → ⊥)
    → (if a then Some x else (if b then Some y else rest)) ≡ (if b then Some y else (if a then Some x else rest))
swapped true true x y rest apart = absurd (apart refl refl)
swapped true false x y rest apart = refl
swapped false b x y rest apart = refl

over : {X : Type 0} (a : Bool) (x y : X) (rest : Option X)
    → (if a then Some x else rest) ≡ (if a then Some x else (if a then Some y else rest))
over true x y rest = refl
over false x y rest = refl

pub said-of : {Z X : Type 0} (l : List ℤ) (es : List (Vec ℤ Z × X)) (k : Vec ℤ Z) (x : X)
    → lookup (λ (q : Vec ℤ Z). pointwise int_eq l q.items)
    (insert_entry (λ (a b : Vec ℤ Z). pointwise int_eq a.items b.items) es k x)
    ≡ (if pointwise int_eq l k.items then Some x else lookup (λ (q : Vec ℤ Z). pointwise int_eq l q.items) es)
said-of {Z = Z} {X = X} l [] k x = refl
said-of {Z = Z} {X = X} l (e ∷ es) k x = by (pointwise int_eq k.items e.0.items) refl (said-of l es k x)
  where
    by : (b : Bool) → pointwise int_eq k.items e.0.items ≡ b
        → lookup (λ (q : Vec ℤ Z). pointwise int_eq l q.items)
        (insert_entry (λ (a b : Vec ℤ Z). pointwise int_eq a.items b.items) es k x)
        ≡ (if pointwise int_eq l k.items then Some x
        else lookup (λ (q : Vec ℤ Z). pointwise int_eq l q.items) es)
        → lookup (λ (q : Vec ℤ Z). pointwise int_eq l q.items)
        (if b then (e.0, x) ∷ es
        else e ∷ insert_entry (λ (a b : Vec ℤ Z). pointwise int_eq a.items b.items) es k x)
        ≡ (if pointwise int_eq l k.items then Some x
        else (if pointwise int_eq l e.0.items then Some e.1
        else lookup (λ (q : Vec ℤ Z). pointwise int_eq l q.items) es))
    by true same more =
        let at = same-as l k.items e.0.items same in
        rw at (over (pointwise int_eq l k.items) x e.1 (lookup (λ (q : Vec ℤ Z). pointwise int_eq l q.items) es))
    by false other more =
        ap (λ (r : Option X). if pointwise int_eq l e.0.items then Some e.1 else r) more
        ∙ swapped (pointwise int_eq l e.0.items) (pointwise int_eq l k.items) e.1 x
        (lookup (λ (q : Vec ℤ Z). pointwise int_eq l q.items) es)
        (λ a b.
        let here = (signed_items k.items e.0.items).1
        (sym ((signed_items l k.items).0 b) ∙ (signed_items l e.0.items).0 a) in
        true≢false (sym here ∙ other))
