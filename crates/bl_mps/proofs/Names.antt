-- Names in lists: which are there, where, and tables beside them.
use Rattle.std.proofs.Common.{◌≡◌, ◌≢◌, ℕ, zero, suc, ◌+◌, ◌<◌, ◌≤◌, Bool, true, false, cond, ◌||◌, List, [], ◌∷◌, ◌++◌}
use Rattle.std.proofs.Common.{length, get_or, set, map, position, Option, Some, None, is_some, refl, sym, ap, ◌∙◌}
use Rattle.std.proofs.Common.{arith, inl, inr, ◌⊎◌}
use Rattle.std.specs.Prelude.{AllPairs}
use Rattle.std.specs.Str.{bytes_eq}
use Rattle.std.specs.Cmp.Lexicographic.{bytes_decides}
use Rattle.std.proofs.lemmas.List.{get_or_append_left, get_or_at, length-append, length-map, get_or-map}
use Rattle.std.proofs.lemmas.List.{get_or-set_same, get_or-set_other, length-set, ext_get_or, map_push, get_or_push}
use Rattle.std.proofs.lemmas.List.Quantifiers.{position-Some, all_pairs_push}
use Rattle.std.proofs.lemmas.Bool.{false≢true, cases_lt, cases_eq}
use Rattle.bl_mps_terms.specs.Words.{Bytes}
use Rattle.bl_mps_terms.specs.Rules.{is_named}
use Rattle.bl_mps_read.proofs.NameLists.{list_any-none}

-- no two are the same
abbrev pub AreDistinct : List Bytes → Type 0
AreDistinct names = AllPairs (λ a b. a ≢ b) names

pub same_from : (x y : Bytes) → bytes_eq x y ≡ true → x ≡ y
same_from x y e = (bytes_decides x y).0 e

pub same_true : (x y : Bytes) → x ≡ y → bytes_eq x y ≡ true
same_true x y e = (bytes_decides x y).1 e

pub bool_false : (b : Bool) → (b ≡ true → ⊥) → b ≡ false
bool_false true h = absurd (h refl)
bool_false false h = refl

pub differ_false : (x y : Bytes) → (x ≡ y → ⊥) → bytes_eq x y ≡ false
differ_false x y h = bool_false (bytes_eq x y) (λ e. h (same_from x y e))

pub differ_from : (x y : Bytes) → bytes_eq x y ≡ false → x ≡ y → ⊥
differ_from x y f e = false≢true (sym f ∙ same_true x y e)

pub or_false : (a b : Bool) → (a || b) ≡ false → (a ≡ false) × (b ≡ false)
or_false true b e = absurd (false≢true (sym e))
or_false false b e = (refl, e)

pub named_false_at : (names : List Bytes) (name : Bytes) → is_named names name ≡ false → (k : ℕ) (d : Bytes)
    → k < length names → get_or names k d ≡ name → ⊥
named_false_at [] name f k d lt e = omega arith
named_false_at (x ∷ xs) name f zero d lt e =
    differ_from name x (or_false (bytes_eq name x) (is_named xs name) f).0 (sym e)
named_false_at (x ∷ xs) name f (suc k) d lt e =
    named_false_at xs name (or_false (bytes_eq name x) (is_named xs name) f).1 k d (omega arith) e

named_true_step : (test : Bool) (x name : Bytes) (xs : List Bytes) → is_named xs name ≡ true
    → (test || is_named xs name) ≡ true
named_true_step true x name xs h = refl
named_true_step false x name xs h = h

pub named_true_at : (names : List Bytes) (name : Bytes) (k : ℕ) (d : Bytes) → k < length names
    → get_or names k d ≡ name → is_named names name ≡ true
named_true_at [] name k d lt e = absurd (omega arith)
named_true_at (x ∷ xs) name zero d lt e = rw (same_true name x (sym e)) refl
named_true_at (x ∷ xs) name (suc k) d lt e =
    named_true_step (bytes_eq name x) x name xs (named_true_at xs name k d (omega arith) e)

pub named-append : (xs ys : List Bytes) (name : Bytes)
    → is_named (xs ++ ys) name ≡ (is_named xs name || is_named ys name)
named-append [] ys name = refl
named-append (x ∷ xs) ys name =
    or_assoc (bytes_eq name x) (is_named xs name) (is_named ys name) (is_named (xs ++ ys) name)
    (named-append xs ys name)
  where
    or_assoc : (a b c d : Bool) → d ≡ (b || c) → (a || d) ≡ ((a || b) || c)
    or_assoc true b c d e = refl
    or_assoc false b c d e = e

pub named-position : (names : List Bytes) (name : Bytes) (place : Option ℕ) → position (bytes_eq name) names ≡ place
    → is_named names name ≡ is_some place
named-position names name None e = list_any-none (bytes_eq name) names e
named-position names name (Some i) e =
    let at = position-Some (bytes_eq name) names i [] e in
    named_true_at names name i [] at.0 (sym (same_from name (get_or names i []) at.1))

-- where a name stands
pub record StandsAt (names : List Bytes) (name : Bytes) (place : ℕ) : Type 0 where
  pub within : place < length names
  pub is : get_or names place [] ≡ name

pub stands_at : (names : List Bytes) (name : Bytes) (place : ℕ) → position (bytes_eq name) names ≡ Some place
    → StandsAt names name place
stands_at names name place e =
    let at = position-Some (bytes_eq name) names place [] e in
    record { within = at.0; is = sym (same_from name (get_or names place []) at.1) }

pub distinct_push : (names : List Bytes) (name : Bytes) → AreDistinct names → is_named names name ≡ false
    → AreDistinct (names ++ name ∷ [])
distinct_push names name h f =
    all_pairs_push (λ a b. a ≢ b) names name h (λ k d lt e. named_false_at names name f k d lt e)

pub distinct_nil : AreDistinct []
distinct_nil i j d lt within e = omega arith

pub distinct_places : (names : List Bytes) → AreDistinct names → (i j : ℕ) → i < length names → j < length names
    → i ≢ j → get_or names i [] ≡ get_or names j [] → ⊥
distinct_places names distinct i j lt_i lt_j other e =
    elim (cases_lt i j) [
      | inl lt ↦ distinct i j [] lt lt_j e
      | inr le ↦ distinct j i [] (omega arith) lt_i (sym e)
    ]

-- ---- a table beside names: what a function says of each

-- the item of a name
pub table_at : {X : Type 0} (f : Bytes → X) (names : List Bytes) (place : ℕ) (name : Bytes) (d : X)
    → StandsAt names name place → get_or (map f names) place d ≡ f name
table_at f names place name d at = get_or-map f names place [] d at.within ∙ ap f at.is

-- Two tables that say the same of each name.
pub table_same : {X : Type 0} (f g : Bytes → X) (names : List Bytes)
    → ((k : ℕ) → k < length names → f (get_or names k []) ≡ g (get_or names k [])) → map f names ≡ map g names
table_same f g [] h = refl
table_same f g (x ∷ xs) h = rw (h 0 (omega arith), table_same f g xs (λ k lt. h (suc k) (omega arith))) refl

set_at : {X : Type 0} (f g : Bytes → X) (names : List Bytes) (place : ℕ) (name : Bytes) → AreDistinct names
    → StandsAt names name place → ((n : Bytes) → n ≢ name → f n ≡ g n)
    → (i : ℕ) → i < length names → (i ≡ place) ⊎ (i ≢ place) → (d : X)
    → get_or (set (map f names) place (g name)) i d ≡ get_or (map g names) i d
set_at f g names place name distinct at same i lt (inl e) d =
    ap (λ (k : ℕ). get_or (set (map f names) place (g name)) k d) e
    ∙ get_or-set_same (map f names) place (g name) d (omega (arith, length-map names f, at.within))
    ∙ sym (ap (λ (k : ℕ). get_or (map g names) k d) e ∙ table_at g names place name d at)
set_at f g names place name distinct at same i lt (inr other) d =
    get_or-set_other (map f names) place i (g name) d other
    ∙ get_or-map f names i [] d lt
    ∙ same (get_or names i []) (λ e. distinct_places names distinct i place lt at.within other (e ∙ sym at.is))
    ∙ sym (get_or-map g names i [] d lt)

-- The table with another item at a name, where nothing else changes.
pub table_set : {X : Type 0} (f g : Bytes → X) (names : List Bytes) (place : ℕ) (name : Bytes) → AreDistinct names
    → StandsAt names name place → ((n : Bytes) → n ≢ name → f n ≡ g n)
    → set (map f names) place (g name) ≡ map g names
table_set f g names place name distinct at same =
    ext_get_or (g name) (set (map f names) place (g name)) (map g names)
    (length-set (map f names) place (g name) ∙ length-map names f ∙ sym (length-map names g))
    (λ i lt. set_at f g names place name distinct at same i
    (omega (arith, length-set (map f names) place (g name), length-map names f)) (cases_eq i place) (g name))

-- the table with one more name, where nothing else changes
pub table_push : {X : Type 0} (f g : Bytes → X) (names : List Bytes) (name : Bytes) (x : X)
    → is_named names name ≡ false → ((n : Bytes) → n ≢ name → f n ≡ g n) → x ≡ g name
    → map f names ++ x ∷ [] ≡ map g (names ++ name ∷ [])
table_push f g names name x fresh same e =
    ap (λ (ys : List _). ys ++ x ∷ [])
    (table_same f g names (λ k lt. same (get_or names k []) (λ q. named_false_at names name fresh k [] lt q)))
    ∙ ap (λ (y : _). map g names ++ y ∷ []) e ∙ sym (map_push g names name)

-- ---- names of which each stands once

abbrev pub IsFresh : List Bytes → Type 0
IsFresh [] = Unit {0}
IsFresh (x ∷ xs) = (is_named xs x ≡ false) × IsFresh xs

pub named_false_from : (names : List Bytes) (name : Bytes)
    → ((k : ℕ) (d : Bytes) → k < length names → get_or names k d ≡ name → ⊥) → is_named names name ≡ false
named_false_from [] name h = refl
named_false_from (x ∷ xs) name h =
    let first : bytes_eq name x ≡ false = differ_false name x (λ e. h 0 [] (omega arith) (sym e)) in
    rw first (named_false_from xs name (λ k d lt e. h (suc k) d (omega arith) e))

pub fresh_distinct : (names : List Bytes) → AreDistinct names → IsFresh names
fresh_distinct [] h = tt
fresh_distinct (x ∷ xs) h = (
  named_false_from xs x (λ k d lt e. h 0 (suc k) d (omega arith) (omega arith) (sym e)),
  fresh_distinct xs (λ i j d lt within e. h (suc i) (suc j) d (omega arith) (omega arith) e),
)

pub named_true_from : (names : List Bytes) (name : Bytes) (k : ℕ) (d : Bytes) → k < length names
    → get_or names k d ≡ name → is_named names name ≡ true
named_true_from names name k d lt e = named_true_at names name k d lt e
