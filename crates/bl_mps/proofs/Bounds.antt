-- The bounds that are read are those of the lines under BOUNDS.
use Rattle.std.proofs.Common.{◌≡◌, ◌≢◌, ℕ, Bool, true, false, cond, ◌||◌, List, [], ◌∷◌, ◌++◌, get_or, set, map}
use Rattle.std.proofs.Common.{position, Option, Some, None, Result, Ok, Err, ℤ, pos, refl, sym, ap, subst, ◌∙◌}
use Rattle.std.specs.Prelude.{unwrap_or}
use Rattle.std.specs.Option.{ok_or}
use Rattle.std.specs.Result.{result_unwrap_or}
use Rattle.std.specs.List.{filter, filter_map, list_any, cons_option}
use Rattle.std.specs.Str.{bytes_eq}
use Rattle.std.proofs.lemmas.List.{append-nil, map_push}
use Rattle.std.proofs.lemmas.List.Elements.{filter-append}
use Rattle.std.proofs.lemmas.List.Folds.{list_any-append}
use Rattle.bl_mps_terms.specs.declared.fault.MpsRule.{MpsRule}
use Rattle.bl_mps_terms.specs.declared.fault.MpsRule.TheVariants as rules
use Rattle.bl_mps_terms.specs.declared.words.BoundKind.{BoundKind}
use Rattle.bl_mps_terms.specs.Words.{Bytes}
use Rattle.bl_mps_terms.specs.Rules.{first_of, unless, is_named, fault_in}
use Rattle.bl_mps_terms.specs.Lines.{BoundLine, bound_line, bound_read, parts_fault, bounds_on, number_given}
use Rattle.bl_mps_terms.specs.Lines.{makes_integer, sets_lower, lower_set, upper_set, last_set, lower_of}
use Rattle.bl_mps_read.specs.declared.bounds.Bounds.{Bounds}
use Rattle.bl_mps_read.specs.Bounds.{no_bounds, with_bound, bound_added}
use Rattle.bl_mps_read.specs.Stops.{◌>>=◌}
use Rattle.bl_mps.proofs.Agrees.{Read, Agrees, agrees_ok, agrees_then, agrees_fault}
use Rattle.bl_mps.proofs.Names.{AreDistinct, StandsAt, stands_at, same_true, differ_false, named-position, table_at}
use Rattle.bl_mps.proofs.Names.{table_set}

-- ---- what some lines make of a column

abbrev pub is_some_line : List BoundLine → Bool
is_some_line [] = false
is_some_line (bound ∷ lines) = true

abbrev pub last_upper : List BoundLine → Option ℤ
last_upper lines = last_set None (map (λ bound. upper_set bound.kind (number_given bound)) lines)

abbrev pub bounds_for : Bool → List BoundLine → Bounds
bounds_for marked lines = record {
  integer = marked || list_any (λ bound. makes_integer bound.kind) lines;
  named = is_some_line lines;
  sets_lower = list_any (λ bound. sets_lower bound.kind) lines;
  lower = lower_of lines;
  upper = last_upper lines;
}

last_set-push : {A : Type 0} (first : A) (sets : List (Option A)) (set : Option A)
    → last_set first (sets ++ set ∷ []) ≡ unwrap_or set (last_set first sets)
last_set-push first [] set = refl
last_set-push first (x ∷ sets) set = last_set-push (unwrap_or x first) sets set

some_push : (lines : List BoundLine) (bound : BoundLine) → is_some_line (lines ++ bound ∷ []) ≡ true
some_push [] bound = refl
some_push (x ∷ lines) bound = refl

or_right : (a b : Bool) → (a || (b || false)) ≡ (a || b)
or_right true b = refl
or_right false true = refl
or_right false false = refl

or_three : (m a b : Bool) → (m || (a || (b || false))) ≡ ((m || a) || b)
or_three true a b = refl
or_three false a b = or_right a b

bounds_for-push : (marked : Bool) (lines : List BoundLine) (bound : BoundLine) (number : Option ℤ)
    → number_given bound ≡ number
    → bounds_for marked (lines ++ bound ∷ []) ≡ with_bound (bounds_for marked lines) bound.kind number
bounds_for-push marked lines bound number e =
    rw (
      list_any-append (λ (b : BoundLine). makes_integer b.kind) lines (bound ∷ []),
      list_any-append (λ (b : BoundLine). sets_lower b.kind) lines (bound ∷ []),
      some_push lines bound,
      map_push (λ (b : BoundLine). lower_set b.kind (number_given b)) lines bound,
      map_push (λ (b : BoundLine). upper_set b.kind (number_given b)) lines bound,
      last_set-push (Some (pos 0)) (map (λ (b : BoundLine). lower_set b.kind (number_given b)) lines)
          (lower_set bound.kind (number_given bound)),
      last_set-push None (map (λ (b : BoundLine). upper_set b.kind (number_given b)) lines)
          (upper_set bound.kind (number_given bound)),
      or_three marked (list_any (λ (b : BoundLine). makes_integer b.kind) lines) (makes_integer bound.kind),
      or_right (list_any (λ (b : BoundLine). sets_lower b.kind) lines) (sets_lower bound.kind),
      e,
    ) refl

-- ---- the lines on a column

cons_append : {X : Type 0} (o : Option X) (xs ys : List X) → cons_option o (xs ++ ys) ≡ cons_option o xs ++ ys
cons_append None xs ys = refl
cons_append (Some x) xs ys = refl

filter_map-append : {X Y : Type 0} (f : X → Option Y) (xs ys : List X)
    → filter_map f (xs ++ ys) ≡ filter_map f xs ++ filter_map f ys
filter_map-append f [] ys = refl
filter_map-append f (x ∷ xs) ys =
    ap (cons_option (f x)) (filter_map-append f xs ys) ∙ cons_append (f x) (filter_map f xs) (filter_map f ys)

bounds_on-push : (column : Bytes) (lines : List (List Bytes)) (line : List Bytes) (bound : BoundLine)
    → bound_line line ≡ Some bound
    → bounds_on column (lines ++ line ∷ []) ≡ bounds_on column lines
    ++ filter (λ b. bytes_eq column b.column) (bound ∷ [])
bounds_on-push column lines line bound e =
    ap (filter (λ (b : BoundLine). bytes_eq column b.column))
    (filter_map-append bound_line lines (line ∷ [])
    ∙ ap (λ (o : Option BoundLine). filter_map bound_line lines ++ cons_option o []) e)
    ∙ filter-append (λ (b : BoundLine). bytes_eq column b.column) (filter_map bound_line lines) (bound ∷ [])

pub on_other : (column : Bytes) (lines : List (List Bytes)) (line : List Bytes) (bound : BoundLine)
    → bound_line line ≡ Some bound → column ≢ bound.column
    → bounds_on column lines ≡ bounds_on column (lines ++ line ∷ [])
on_other column lines line bound e other =
    sym (bounds_on-push column lines line bound e
    ∙ rw (differ_false column bound.column other) (append-nil (bounds_on column lines)))

on_same : (lines : List (List Bytes)) (line : List Bytes) (bound : BoundLine) → bound_line line ≡ Some bound
    → bounds_on bound.column (lines ++ line ∷ []) ≡ bounds_on bound.column lines ++ bound ∷ []
on_same lines line bound e =
    bounds_on-push bound.column lines line bound e ∙ rw (same_true bound.column bound.column refl) refl

-- ---- one line

place_read : (names : List Bytes) (name : Bytes) (place : Option ℕ) → position (bytes_eq name) names ≡ place
    → Agrees (unless (is_named names name) rules.UnknownColumn) (ok_or place rules.UnknownColumn)
    (λ p. position (bytes_eq name) names ≡ Some p)
place_read names name None e = rw (named-position names name None e) refl
place_read names name (Some p) e =
    rw (named-position names name (Some p) e) (record { value = p; is = refl; holds = e })

-- the bounds of each column, by whether it is marked as integer
abbrev pub bounds_of : (Bytes → Bool) → List (List Bytes) → List Bytes → List Bounds
bounds_of marked lines names = map (λ column. bounds_for (marked column) (bounds_on column lines)) names

module _ (names : List Bytes) (distinct : AreDistinct names) (marked : Bytes → Bool) (before : List (List Bytes))
    (bounds : List Bounds) (are : bounds ≡ bounds_of marked before names) (line : List Bytes) where
  set_bound : (bound : BoundLine) → bound_line line ≡ Some bound → (place : ℕ) → StandsAt names bound.column place
      → (number : Option ℤ) → bound_read bound.number ≡ Ok number
      → set bounds place (with_bound (get_or bounds place (no_bounds false)) bound.kind number)
      ≡ bounds_of marked (before ++ line ∷ []) names
  set_bound bound e place at number n =
      let old : get_or bounds place (no_bounds false)
      ≡ bounds_for (marked bound.column) (bounds_on bound.column before) =
      ap (λ (bs : List Bounds). get_or bs place (no_bounds false)) are
      ∙ table_at (λ column. bounds_for (marked column) (bounds_on column before)) names place bound.column
      (no_bounds false) at in
      let given : number_given bound ≡ number = ap (λ (r : Result (Option ℤ) MpsRule). result_unwrap_or r None) n in
      let last : with_bound (get_or bounds place (no_bounds false)) bound.kind number
      ≡ bounds_for (marked bound.column) (bounds_on bound.column (before ++ line ∷ [])) =
      ap (λ (b : Bounds). with_bound b bound.kind number) old
      ∙ sym (bounds_for-push (marked bound.column) (bounds_on bound.column before) bound number given)
      ∙ ap (bounds_for (marked bound.column)) (sym (on_same before line bound e)) in
      ap (λ (b : Bounds). set bounds place b) last
      ∙ ap (λ (bs : List Bounds). set bs place
      (bounds_for (marked bound.column) (bounds_on bound.column (before ++ line ∷ [])))) are
      ∙ table_set (λ column. bounds_for (marked column) (bounds_on column before))
      (λ column. bounds_for (marked column) (bounds_on column (before ++ line ∷ []))) names place bound.column
      distinct at
      (λ n other. ap (bounds_for (marked n)) (on_other n before line bound e other))

  bound_agrees : (o : Option BoundLine) → bound_line line ≡ o
      → Agrees (parts_fault names o)
      (ok_or o rules.BadFields >>= λ bound. ok_or
      (position (bytes_eq bound.column) names) rules.UnknownColumn >>= λ place. bound_read bound.number >>=
      λ number.
      Ok (set bounds place (with_bound (get_or bounds place (no_bounds false)) bound.kind number)))
      (λ bs. bs ≡ bounds_of marked (before ++ line ∷ []) names)
  bound_agrees None e = refl
  bound_agrees (Some bound) e =
      agrees_then (unless (is_named names bound.column) rules.UnknownColumn) (fault_in (bound_read bound.number) ∷ [])
      (ok_or (position (bytes_eq bound.column) names) rules.UnknownColumn)
      (λ p. position (bytes_eq bound.column) names ≡ Some p)
      (λ place. bound_read bound.number >>= λ number. Ok
      (set bounds place (with_bound (get_or bounds place (no_bounds false)) bound.kind number)))
      (λ bs. bs ≡ bounds_of marked (before ++ line ∷ []) names)
      (place_read names bound.column (position (bytes_eq bound.column) names) refl)
      (λ place at. agrees_then (fault_in (bound_read bound.number)) [] (bound_read bound.number)
      (λ n. bound_read bound.number ≡ Ok n)
      (λ number. Ok (set bounds place (with_bound (get_or bounds place (no_bounds false)) bound.kind number)))
      (λ bs. bs ≡ bounds_of marked (before ++ line ∷ []) names)
      (agrees_fault (bound_read bound.number))
      (λ number n. agrees_ok _ _ (λ bs. bs ≡ bounds_of marked (before ++ line ∷ []) names) refl
      (set_bound bound e place (stands_at names bound.column place at) number n)))

  -- One line under BOUNDS.
  pub bound_step : Agrees (parts_fault names (bound_line line)) (bound_added names bounds line)
      (λ bs. bs ≡ bounds_of marked (before ++ line ∷ []) names)
  unfolding bound_added
  bound_step = bound_agrees (bound_line line) refl
