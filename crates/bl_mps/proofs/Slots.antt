-- The numbers of a column by the slots of the rows.
use Rattle.std.proofs.Common.{◌≡◌, ◌≢◌, ℕ, zero, suc, ◌+◌, ◌<◌, Bool, true, false, cond, not, ◌||◌, List, [], ◌∷◌, ◌++◌}
use Rattle.std.proofs.Common.{length, get_or, set, map, Option, Some, None, ℤ, pos, refl, sym, ap, ◌∙◌, arith, add-one}
use Rattle.std.proofs.Common.{◌⊎◌, inl, inr}
use Rattle.std.specs.Prelude.{unwrap_or}
use Rattle.std.specs.Option.{option_map, option_map_or}
use Rattle.std.specs.Str.{bytes_eq}
use Rattle.std.proofs.lemmas.Bool.{false≢true}
use Rattle.bl_mps_terms.specs.Words.{Bytes}
use Rattle.bl_mps_terms.specs.Parts.{field}
use Rattle.bl_mps_terms.specs.Rules.{is_named, number}
use Rattle.bl_mps_terms.specs.Lines.{is_free_row, row_names, objective_of, bounded_rows, names_in}
use Rattle.bl_mps_terms.specs.Meaning.{number_after, coefficient}
use Rattle.bl_mps.proofs.Names.{same_from, same_true, differ_false, differ_from, or_false, named_false_at, IsFresh}
use Rattle.bl_mps.proofs.Names.{table_same}
use Rattle.bl_mps.proofs.Pairs.{number_fresh, number_other}
use Rattle.bl_mps.proofs.Rows.{place_in, slot_in, slot_of, unnamed_bounded}

-- the cost and the coefficients of a column with these pairs
abbrev pub numbers_by : Option Bytes → List Bytes → List (Bytes × Bytes) → List ℤ
numbers_by objective bounded pairs =
    option_map_or (coefficient pairs) objective (pos 0) ∷ map (coefficient pairs) bounded

abbrev pub numbers_for : List (List Bytes) → List (Bytes × Bytes) → List ℤ
numbers_for lines pairs = numbers_by (objective_of lines) (row_names (bounded_rows lines)) pairs

-- the numbers with one at a slot
abbrev pub put_slot : Option ℕ → ℤ → List ℤ → List ℤ
put_slot None z numbers = numbers
put_slot (Some slot) z numbers = set numbers slot z

-- ---- which rows have a number

fresh_step : (free : Bool) (line : List Bytes) (lines : List (List Bytes))
    → is_named (row_names (bounded_rows lines)) (field 1 line) ≡ false → IsFresh (row_names (bounded_rows lines))
    → IsFresh (row_names (cond (not free) (line ∷ bounded_rows lines) (bounded_rows lines)))
fresh_step true line lines f h = h
fresh_step false line lines f h = (f, h)

pub fresh_bounded : (lines : List (List Bytes)) → IsFresh (row_names lines) → IsFresh (row_names (bounded_rows lines))
fresh_bounded [] h = tt
fresh_bounded (x ∷ lines) h =
    fresh_step (is_free_row x) x lines (unnamed_bounded lines (field 1 x) h.0) (fresh_bounded lines h.1)

named_step : (free : Bool) (x o : Bytes) (rest : Option Bytes) (names : List Bytes) → cond free (Some x) rest ≡ Some o
    → (rest ≡ Some o → is_named names o ≡ true) → is_named (x ∷ names) o ≡ true
named_step true x o rest names e f = let same : x ≡ o = cc in rw (same_true o x (sym same)) refl
named_step false x o rest names e f = by (bytes_eq o x) (f e)
  where
    by : (t : Bool) → is_named names o ≡ true → (t || is_named names o) ≡ true
    by true h = refl
    by false h = h

objective_named : (lines : List (List Bytes)) (o : Bytes) → objective_of lines ≡ Some o
    → is_named (row_names lines) o ≡ true
objective_named [] o e = absurd cc
objective_named (x ∷ lines) o e =
    named_step (is_free_row x) (field 1 x) o (objective_of lines) (row_names lines) e (objective_named lines o)

apart_step : (free : Bool) (line : List Bytes) (lines : List (List Bytes)) (o : Bytes)
    → cond free (Some (field 1 line)) (objective_of lines) ≡ Some o → is_named (row_names lines) (field 1 line) ≡ false
    → (objective_of lines ≡ Some o → is_named (row_names (bounded_rows lines)) o ≡ false)
    → is_named (row_names (cond (not free) (line ∷ bounded_rows lines) (bounded_rows lines))) o ≡ false
apart_step true line lines o e f h = let same : field 1 line ≡ o = cc in
    rw (← same) (unnamed_bounded lines (field 1 line) f)
apart_step false line lines o e f h =
    let other : bytes_eq o (field 1 line) ≡ false =
    differ_false o (field 1 line)
    (λ same. false≢true (sym f ∙ ap (is_named (row_names lines)) (sym same) ∙ objective_named lines o e)) in
    rw other (h e)

-- the objective is no row with a slot of its own
pub objective_apart : (lines : List (List Bytes)) (o : Bytes) → IsFresh (row_names lines) → objective_of lines ≡ Some o
    → is_named (row_names (bounded_rows lines)) o ≡ false
objective_apart [] o h e = refl
objective_apart (x ∷ lines) o h e = apart_step (is_free_row x) x lines o e h.0 (objective_apart lines o h.1)

-- ---- one number more

none_place : (test : Bool) (o : Option ℕ) → cond test (Some 0) (option_map (λ (k : ℕ). k + 1) o) ≡ None
    → (test ≡ false) × (o ≡ None)
none_place true o e = absurd cc
none_place false None e = (refl, refl)
none_place false (Some k) e = absurd cc

unplaced : (names : List Bytes) (name : Bytes) → place_in names name ≡ None → is_named names name ≡ false
unfolding place_in
unplaced [] name e = refl
unplaced (x ∷ xs) name e = let parts = none_place (bytes_eq name x) (place_in xs name) e in
    rw (parts.0) (unplaced xs name parts.1)

others_same : {X : Type 0} (f g : Bytes → X) (names : List Bytes) (name : Bytes) → is_named names name ≡ false
    → ((n : Bytes) → n ≢ name → f n ≡ g n) → map f names ≡ map g names
others_same f g names name fresh same =
    table_same f g names (λ k lt. same (get_or names k []) (λ e. named_false_at names name fresh k [] lt e))

place_some : (test : Bool) (o : Option ℕ) (k : ℕ) → cond test (Some 0) (option_map (λ (n : ℕ). n + 1) o) ≡ Some k
    → ((test ≡ true) × (k ≡ 0)) ⊎ ((n : ℕ) × (test ≡ false) × (o ≡ Some n) × (k ≡ suc n))
place_some true o k e = inl (refl, cc)
place_some false None k e = absurd cc
place_some false (Some n) k e = let same : n + 1 ≡ k = cc in inr (n, refl, refl, omega arith)

-- the table with another item where the name stands
place_set : {X : Type 0} (f g : Bytes → X) (names : List Bytes) (name : Bytes) (k : ℕ) → IsFresh names
    → place_in names name ≡ Some k → ((n : Bytes) → n ≢ name → f n ≡ g n) → set (map f names) k (g name) ≡ map g names
unfolding place_in
place_set f g [] name k fresh e same = absurd cc
place_set f g (x ∷ xs) name k fresh e same =
    elim (place_some (bytes_eq name x) (place_in xs name) k e) [
      | inl h ↦
          let is : name ≡ x = same_from name x h.0 in
          rw (h.1, is) (ap (λ (ys : List _). g x ∷ ys)
          (others_same f g xs x fresh.0 (λ n other. same n (λ q. other (q ∙ is)))))
      | inr h ↦
          rw (h.3, same x (λ q. differ_from name x h.1 (sym q)))
          (ap (λ (ys : List _). g x ∷ ys) (place_set f g xs name h.0 fresh.1 h.2 same))
    ]

module _ (pairs : List (Bytes × Bytes)) (pair : Bytes × Bytes) (z : ℤ)
    (fresh : is_named (names_in pairs) pair.0 ≡ false) (value : number pair.1 ≡ z) where
  coefficient_new : coefficient (pairs ++ pair ∷ []) pair.0 ≡ z
  coefficient_new = ap (λ (o : Option ℤ). unwrap_or o (pos 0)) (number_fresh pair.0 pairs pair fresh refl) ∙ value

  coefficient_other : (n : Bytes) → n ≢ pair.0 → coefficient pairs n ≡ coefficient (pairs ++ pair ∷ []) n
  coefficient_other n other = ap (λ (o : Option ℤ). unwrap_or o (pos 0)) (number_other n pairs pair other)

  -- the other rows with a number
  put_bounded : (head : ℤ) (bounded : List Bytes) (place : Option ℕ) → IsFresh bounded → place_in bounded pair.0 ≡ place
      → put_slot (option_map (λ k. k + 1) place) z (head ∷ map (coefficient pairs) bounded) ≡ head
      ∷ map (coefficient (pairs ++ pair ∷ [])) bounded
  put_bounded head bounded None f e =
      ap (λ (ys : List ℤ). head ∷ ys)
      (others_same (coefficient pairs) (coefficient (pairs ++ pair ∷ [])) bounded pair.0
      (unplaced bounded pair.0 e) coefficient_other)
  put_bounded head bounded (Some k) f e =
      ap (λ (i : ℕ). set (head ∷ map (coefficient pairs) bounded) i z) (add-one k)
      ∙ ap (λ (ys : List ℤ). head ∷ ys)
      (ap (set (map (coefficient pairs) bounded) k) (sym coefficient_new)
      ∙ place_set (coefficient pairs) (coefficient (pairs ++ pair ∷ [])) bounded pair.0 k f e coefficient_other)

  put_by : (objective : Option Bytes) (bounded : List Bytes) → IsFresh bounded
      → ((o : Bytes) → objective ≡ Some o → is_named bounded o ≡ false)
      → put_slot (slot_in objective bounded pair.0) z (numbers_by objective bounded pairs)
      ≡ numbers_by objective bounded (pairs ++ pair ∷ [])
  put_by None bounded f apart = put_bounded (pos 0) bounded (place_in bounded pair.0) f refl
  put_by (Some o) bounded f apart = by (bytes_eq pair.0 o) refl
    where
      by : (test : Bool) → bytes_eq pair.0 o ≡ test
          → put_slot (cond test (Some 0) (option_map (λ k. k + 1) (place_in bounded pair.0))) z
          (coefficient pairs o ∷ map (coefficient pairs) bounded) ≡ coefficient (pairs ++ pair ∷ []) o
          ∷ map (coefficient (pairs ++ pair ∷ [])) bounded
      by true t =
          let is : pair.0 ≡ o = same_from pair.0 o t in
          ap (λ (y : ℤ). y ∷ map (coefficient pairs) bounded)
          (sym coefficient_new ∙ ap (coefficient (pairs ++ pair ∷ [])) is)
          ∙ ap (λ (ys : List ℤ). coefficient (pairs ++ pair ∷ []) o ∷ ys)
          (others_same (coefficient pairs) (coefficient (pairs ++ pair ∷ [])) bounded pair.0
          (ap (is_named bounded) is ∙ apart o refl) coefficient_other)
      by false t =
          put_bounded (coefficient pairs o) bounded (place_in bounded pair.0) f refl
          ∙ ap (λ (y : ℤ). y ∷ map (coefficient (pairs ++ pair ∷ [])) bounded)
          (coefficient_other o (λ e. differ_from pair.0 o t (sym e)))

-- The numbers with that of a pair at its slot.
pub put_number : (lines : List (List Bytes)) → IsFresh (row_names lines)
    → (pairs : List (Bytes × Bytes)) (pair : Bytes × Bytes) (z : ℤ) → is_named (names_in pairs) pair.0 ≡ false
    → number pair.1 ≡ z
    → put_slot (slot_of lines pair.0) z (numbers_for lines pairs) ≡ numbers_for lines (pairs ++ pair ∷ [])
put_number lines h pairs pair z fresh value =
    put_by pairs pair z fresh value (objective_of lines) (row_names (bounded_rows lines)) (fresh_bounded lines h)
    (λ o e. objective_apart lines o h e)
