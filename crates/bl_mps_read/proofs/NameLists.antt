-- A table of names as a list.
use Rattle.std.proofs.Common.{◌≡◌, ℕ, ◌+◌, ◌≤◌, Bool, true, false, cond, not, ltb, List, [], ◌∷◌, ◌++◌, length, map}
use Rattle.std.proofs.Common.{position, Some, None, refl, sym, ap, ◌∙◌, arith}
use Rattle.std.specs.List.{prefix_len, position_or_len, list_any}
use Rattle.std.specs.Str.{bytes_eq}
use Rattle.std.proofs.lemmas.List.{length-map, map_push}
use Rattle.std.proofs.lemmas.Bool.{ltb-false}

prefix_len-map : {A B : Type 0} (p : B → Bool) (f : A → B) (xs : List A)
    → prefix_len p (map f xs) ≡ prefix_len (λ x. p (f x)) xs
prefix_len-map p f [] = refl
prefix_len-map p f (x ∷ xs) = ap (λ (n : ℕ). cond (p (f x)) (1 + n) 0) (prefix_len-map p f xs)

pub position-map : {A B : Type 0} (p : B → Bool) (f : A → B) (xs : List A)
    → position p (map f xs) ≡ position (λ x. p (f x)) xs
position-map p f xs = rw (prefix_len-map (λ y. not (p y)) f xs, length-map xs f) refl

cond-none : (b : Bool) (i : ℕ) → cond b (Some i) None ≡ None → b ≡ false
cond-none true i e = absurd cc
cond-none false i e = refl

none-long : {A : Type 0} (p : A → Bool) (xs : List A) → position p xs ≡ None
    → length xs ≤ prefix_len (λ x. not (p x)) xs
none-long p xs e = ltb-false _ _ (cond-none (ltb (position_or_len p xs) (length xs)) (position_or_len p xs) e)

list_any-step : {A : Type 0} (p : A → Bool) (x : A) (xs : List A) (b : Bool) → p x ≡ b
    → length (x ∷ xs) ≤ cond (not b) (1 + prefix_len (λ y. not (p y)) xs) 0
    → (length xs ≤ prefix_len (λ y. not (p y)) xs → list_any p xs ≡ false) → list_any p (x ∷ xs) ≡ false
list_any-step p x xs true e long more = absurd (omega (arith, long))
list_any-step p x xs false e long more = rw e (more (omega (arith, long)))

list_any-long : {A : Type 0} (p : A → Bool) (xs : List A) → length xs ≤ prefix_len (λ x. not (p x)) xs
    → list_any p xs ≡ false
list_any-long p [] long = refl
list_any-long p (x ∷ xs) long = list_any-step p x xs (p x) refl long (list_any-long p xs)

pub list_any-none : {A : Type 0} (p : A → Bool) (xs : List A) → position p xs ≡ None → list_any p xs ≡ false
list_any-none p xs e = list_any-long p xs (none-long p xs e)

-- A key whose name is absent goes to the end.
pub names-pushed : {A : Type 0} (f : A → List ℕ) (name : List ℕ) (x : A) (keys pushed : List A) (names : List (List ℕ))
    → f x ≡ name → map f keys ≡ names → position (bytes_eq name) names ≡ None
    → pushed ≡ cond (list_any (λ y. bytes_eq (f x) (f y)) keys) keys (keys ++ x ∷ [])
    → map f pushed ≡ names ++ name ∷ []
names-pushed f name x keys pushed names at old none put =
    let absent : position (λ y. bytes_eq (f x) (f y)) keys ≡ None =
    rw at (sym (position-map (bytes_eq name) f keys) ∙ ap (position (bytes_eq name)) old ∙ none) in
    let end : pushed ≡ keys ++ x ∷ [] =
    put ∙ ap (λ (b : Bool). cond b keys (keys ++ x ∷ [])) (list_any-none (λ y. bytes_eq (f x) (f y)) keys absent) in
    ap (map f) end ∙ map_push f keys x ∙ rw (old, at) refl
