-- The right-hand sides and ranges that are read are those of the lines under RHS and RANGES.
use Rattle.std.proofs.Common.{◌≡◌, ◌≢◌, ℕ, suc, ◌<◌, Bool, true, false, cond, not, ◌||◌, ◌&&◌, eqb, List, [], ◌∷◌, ◌++◌}
use Rattle.std.proofs.Common.{length, get_or, map, Option, Some, None, is_some, Result, Ok, Err, ℤ, refl, sym, ap}
use Rattle.std.proofs.Common.{subst, ◌∙◌, arith, ◌⊎◌, inl, inr, eq-eqb}
use Rattle.std.specs.Prelude.{IfSome}
use Rattle.std.specs.Option.{option_map, option_map_or, ok_or}
use Rattle.std.specs.List.{flat_map}
use Rattle.std.specs.Str.{bytes_eq}
use Rattle.std.proofs.lemmas.Bool.{eqb-true, cases_eq}
use Rattle.std.proofs.lemmas.List.{append-nil}
use Rattle.std.proofs.lemmas.Grind.{flat_map-append}
use Rattle.bl_limits.specs.declared.TheConstants.{MAX_TEXT_RHS}
use Rattle.bl_mps_terms.specs.declared.fault.MpsRule.{MpsRule}
use Rattle.bl_mps_terms.specs.declared.fault.MpsRule.TheVariants as rules
use Rattle.bl_mps_terms.specs.Words.{Bytes}
use Rattle.bl_mps_terms.specs.Rules.{first_of, when, unless, is_named, number_fault, number, is_zero, has_constant}
use Rattle.bl_mps_terms.specs.Rules.{pair_fault, pairs_fault}
use Rattle.bl_mps_terms.specs.Lines.{row_names, objective_of, names_in, is_even, pairs_of_set, set_fault}
use Rattle.bl_mps_terms.specs.Lines.{right_side_fault, range_fault}
use Rattle.bl_mps_read.specs.Fields.{set_pairs_in}
use Rattle.bl_mps_read.specs.Numbers.{pair_read, entered}
use Rattle.bl_mps_read.specs.Rows.{RowList}
use Rattle.bl_mps_read.specs.Sides.{range_given, right_side_given, is_constant, ranges_added, right_sides_added}
use Rattle.bl_mps_read.specs.Stops.{◌>>=◌, taken_up}
use Rattle.bl_mps.proofs.Agrees.{Read, Agrees, agrees_ok, agrees_then, agrees_then_two, agrees_last, agrees_more}
use Rattle.bl_mps.proofs.Names.{AreDistinct, StandsAt, bool_false, differ_false, same_true, distinct_places}
use Rattle.bl_mps.proofs.Pairs.{pairs_agree, IsPairRead, pair_agrees, numbers_of, entered_agrees}
use Rattle.bl_mps.proofs.Rows.{RowsHold}

-- ---- one pair

last_none : {X : Type 0} (fault : Option MpsRule) (read : Result X MpsRule) (P : X → Type 0) → Agrees fault read P
    → Agrees (first_of (fault ∷ None ∷ [])) read P
last_none (Some rule) read P h = h
last_none None read P h = h

range_agrees : (rows : RowList) (pairs : List (Bytes × Bytes)) (ranges : List (Option ℤ)) (pair : Bytes × Bytes)
    → AreDistinct rows.names → ranges ≡ numbers_of rows.names pairs
    → Agrees (pair_fault rows.names MAX_TEXT_RHS None (names_in pairs) pair) (range_given rows ranges pair)
    (λ ns. ns ≡ numbers_of rows.names (pairs ++ pair ∷ []))
unfolding range_given
range_agrees rows pairs ranges pair distinct are =
    agrees_then_two (unless (is_named rows.names pair.0) rules.UnknownRow) (number_fault MAX_TEXT_RHS pair.1)
    (when (is_named (names_in pairs) pair.0) rules.DuplicateEntry ∷ None ∷ [])
    (pair_read rows.names MAX_TEXT_RHS pair) (IsPairRead rows.names MAX_TEXT_RHS pair)
    (λ read. entered ranges read.0 read.1) (λ ns. ns ≡ numbers_of rows.names (pairs ++ pair ∷ []))
    (pair_agrees rows.names MAX_TEXT_RHS pair)
    (λ read p. last_none (when (is_named (names_in pairs) pair.0) rules.DuplicateEntry) (entered ranges read.0 read.1)
    (λ ns. ns ≡ numbers_of rows.names (pairs ++ pair ∷ []))
    (entered_agrees rows.names pairs pair ranges read.0 read.1 distinct are p.stands p.number))

and_comm : (a b : Bool) → (a && b) ≡ (b && a)
and_comm true true = refl
and_comm true false = refl
and_comm false true = refl
and_comm false false = refl

eqb_apart : (m n : ℕ) → m ≢ n → eqb m n ≡ false
eqb_apart m n other = bool_false (eqb m n) (λ e. other (eqb-true m n e))

place_same : (names : List Bytes) (name : Bytes) (place p : ℕ) → AreDistinct names → StandsAt names name place
    → p < length names → (p ≡ place) ⊎ (p ≢ place) → bytes_eq name (get_or names p []) ≡ eqb p place
place_same names name place p distinct at lt (inl same) =
    same_true name (get_or names p []) (sym at.is ∙ ap (λ (k : ℕ). get_or names k []) (sym same))
    ∙ sym (eq-eqb p place same)
place_same names name place p distinct at lt (inr other) =
    differ_false name (get_or names p [])
    (λ e. distinct_places names distinct p place lt at.within other (sym e ∙ sym at.is))
    ∙ sym (eqb_apart p place other)

objective_same : (names : List Bytes) (name : Bytes) (place : ℕ) (objective : Option ℕ) → AreDistinct names
    → StandsAt names name place → IfSome objective (λ p. p < length names)
    → option_map_or (bytes_eq name) (option_map (λ p. get_or names p []) objective) false
    ≡ option_map_or (λ p. eqb p place) objective false
objective_same names name place None distinct at within = refl
objective_same names name place (Some p) distinct at within =
    place_same names name place p distinct at within (cases_eq p place)

constant_step : (test : Bool) (sides : List (Option ℤ)) (P : List (Option ℤ) → Type 0) → P sides
    → Agrees (first_of (when test rules.ObjectiveConstant ∷ [])) (cond test (Err rules.ObjectiveConstant) (Ok sides)) P
constant_step true sides P p = refl
constant_step false sides P p = record { value = sides; is = refl; holds = p }

module _ (lines : List (List Bytes)) (rows : RowList) (h : RowsHold lines rows) where
  constant_same : (pair : Bytes × Bytes) (place : ℕ) (z : ℤ) → StandsAt rows.names pair.0 place → number pair.1 ≡ z
      → has_constant (objective_of lines) pair ≡ is_constant rows.objective place z
  constant_same pair place z at value =
      ap (λ (o : Option Bytes). option_map_or (bytes_eq pair.0) o false && not (is_zero (number pair.1))) h.objective
      ∙ ap (λ (t : Bool). t && not (is_zero (number pair.1)))
      (objective_same rows.names pair.0 place rows.objective h.distinct at h.within)
      ∙ ap (λ (y : ℤ). option_map_or (λ p. eqb p place) rows.objective false && not (is_zero y)) value
      ∙ and_comm (option_map_or (λ p. eqb p place) rows.objective false) (not (is_zero z))

  right_side_agrees : (pairs : List (Bytes × Bytes)) (sides : List (Option ℤ)) (pair : Bytes × Bytes)
      → sides ≡ numbers_of rows.names pairs
      → Agrees (pair_fault rows.names MAX_TEXT_RHS (objective_of lines) (names_in pairs) pair)
      (right_side_given rows sides pair) (λ ns. ns ≡ numbers_of rows.names (pairs ++ pair ∷ []))
  unfolding right_side_given
  right_side_agrees pairs sides pair are =
      agrees_then_two (unless (is_named rows.names pair.0) rules.UnknownRow) (number_fault MAX_TEXT_RHS pair.1)
      (when (is_named (names_in pairs) pair.0) rules.DuplicateEntry
      ∷ when (has_constant (objective_of lines) pair) rules.ObjectiveConstant ∷ [])
      (pair_read rows.names MAX_TEXT_RHS pair) (IsPairRead rows.names MAX_TEXT_RHS pair)
      (λ read. entered sides read.0 read.1 >>= λ more. cond (is_constant rows.objective read.0 read.1)
      (Err rules.ObjectiveConstant) (Ok more)) (λ ns. ns ≡ numbers_of rows.names (pairs ++ pair ∷ []))
      (pair_agrees rows.names MAX_TEXT_RHS pair)
      (λ read p. agrees_then (when (is_named (names_in pairs) pair.0) rules.DuplicateEntry)
      (when (has_constant (objective_of lines) pair) rules.ObjectiveConstant ∷ []) (entered sides read.0 read.1)
      (λ ns. ns ≡ numbers_of rows.names (pairs ++ pair ∷ []))
      (λ more. cond (is_constant rows.objective read.0 read.1) (Err rules.ObjectiveConstant) (Ok more))
      (λ ns. ns ≡ numbers_of rows.names (pairs ++ pair ∷ []))
      (entered_agrees rows.names pairs pair sides read.0 read.1 h.distinct are p.stands p.number)
      (λ more q. subst (λ (t : Bool). Agrees (first_of (when t rules.ObjectiveConstant ∷ []))
      (cond (is_constant rows.objective read.0 read.1) (Err rules.ObjectiveConstant) (Ok more))
      (λ ns. ns ≡ numbers_of rows.names (pairs ++ pair ∷ [])))
      (sym (constant_same pair read.0 read.1 p.stands p.number))
      (constant_step (is_constant rows.objective read.0 read.1) more
      (λ ns. ns ≡ numbers_of rows.names (pairs ++ pair ∷ [])) q)))

-- ---- one line

apart_six : (n k : ℕ) → k < 6 → eqb (suc (suc (suc (suc (suc (suc n)))))) k ≡ false
apart_six n k lt = eqb_apart _ k (λ e. omega arith)

set_read : (line : List Bytes)
    → Agrees (unless (is_even (length line) || (eqb (length line) 3 || eqb (length line) 5)) rules.BadFields)
    (ok_or (set_pairs_in line) rules.BadFields) (λ pairs. pairs ≡ pairs_of_set line)
set_read [] = refl
set_read (a ∷ []) = refl
set_read (a ∷ b ∷ []) = record { value = (a, b) ∷ []; is = refl; holds = refl }
set_read (a ∷ b ∷ c ∷ []) = record { value = (b, c) ∷ []; is = refl; holds = refl }
set_read (a ∷ b ∷ c ∷ d ∷ []) = record { value = (a, b) ∷ (c, d) ∷ []; is = refl; holds = refl }
set_read (a ∷ b ∷ c ∷ d ∷ e ∷ []) = record { value = (b, c) ∷ (d, e) ∷ []; is = refl; holds = refl }
set_read (a ∷ b ∷ c ∷ d ∷ e ∷ f ∷ more) =
    rw (
      apart_six (length more) 2 (omega arith),
      apart_six (length more) 4 (omega arith),
      apart_six (length more) 3 (omega arith),
      apart_six (length more) 5 (omega arith),
    ) refl

abbrev pub all_pairs : List (List Bytes) → List (Bytes × Bytes)
all_pairs lines = flat_map pairs_of_set lines

all_pairs-push : (lines : List (List Bytes)) (line : List Bytes)
    → all_pairs (lines ++ line ∷ []) ≡ all_pairs lines ++ pairs_of_set line
all_pairs-push lines line =
    flat_map-append pairs_of_set lines (line ∷ [])
    ∙ ap (λ (ps : List (Bytes × Bytes)). all_pairs lines ++ ps) (append-nil (pairs_of_set line))

-- a line of pairs, each given in turn
set_agrees : (lines : List (List Bytes)) (rows : RowList) (objective : Option Bytes)
    (give : List (Option ℤ) → Bytes × Bytes → Result (List (Option ℤ)) MpsRule) → rows.names ≡ row_names lines
    → ((pairs : List (Bytes × Bytes)) (s : List (Option ℤ)) (pair : Bytes × Bytes) → s ≡ numbers_of rows.names pairs
    → Agrees (pair_fault rows.names MAX_TEXT_RHS objective (names_in pairs) pair) (give s pair)
    (λ ns. ns ≡ numbers_of rows.names (pairs ++ pair ∷ [])))
    → (before : List (List Bytes)) (s : List (Option ℤ)) (line : List Bytes)
    → s ≡ numbers_of rows.names (all_pairs before)
    → Agrees (set_fault MAX_TEXT_RHS objective lines before line)
    (ok_or (set_pairs_in line) rules.BadFields >>= λ pairs. taken_up give s pairs)
    (λ ns. ns ≡ numbers_of rows.names (all_pairs (before ++ line ∷ [])))
set_agrees lines rows objective give same each before s line are =
    agrees_then (unless (is_even (length line) || (eqb (length line) 3 || eqb (length line) 5)) rules.BadFields)
    (pairs_fault (row_names lines) MAX_TEXT_RHS objective (names_in (all_pairs before)) (pairs_of_set line) ∷ [])
    (ok_or (set_pairs_in line) rules.BadFields) (λ pairs. pairs ≡ pairs_of_set line)
    (λ pairs. taken_up give s pairs) (λ ns. ns ≡ numbers_of rows.names (all_pairs (before ++ line ∷ [])))
    (set_read line)
    (λ pairs e. agrees_last
    (pairs_fault (row_names lines) MAX_TEXT_RHS objective (names_in (all_pairs before)) (pairs_of_set line))
    (taken_up give s pairs) (λ ns. ns ≡ numbers_of rows.names (all_pairs (before ++ line ∷ [])))
    (rw (e, ← same, all_pairs-push before line)
    (pairs_agree rows.names MAX_TEXT_RHS objective give (λ ps ns. ns ≡ numbers_of rows.names ps) each
    (all_pairs before) s (pairs_of_set line) are)))

-- One line under RANGES.
pub range_step : (lines : List (List Bytes)) (rows : RowList) → RowsHold lines rows
    → (before : List (List Bytes)) (ranges : List (Option ℤ)) (line : List Bytes)
    → ranges ≡ numbers_of rows.names (all_pairs before)
    → Agrees (range_fault lines before line) (ranges_added rows ranges line)
    (λ ns. ns ≡ numbers_of rows.names (all_pairs (before ++ line ∷ [])))
unfolding ranges_added
range_step lines rows h before ranges line are =
    set_agrees lines rows None (range_given rows) h.names
    (λ pairs s pair e. range_agrees rows pairs s pair h.distinct e) before ranges line are

-- One line under RHS.
pub right_side_step : (lines : List (List Bytes)) (rows : RowList) → RowsHold lines rows
    → (before : List (List Bytes)) (sides : List (Option ℤ)) (line : List Bytes)
    → sides ≡ numbers_of rows.names (all_pairs before)
    → Agrees (right_side_fault lines before line) (right_sides_added rows sides line)
    (λ ns. ns ≡ numbers_of rows.names (all_pairs (before ++ line ∷ [])))
unfolding right_sides_added
right_side_step lines rows h before sides line are =
    set_agrees lines rows (objective_of lines) (right_side_given rows) h.names
    (λ pairs s pair e. right_side_agrees lines rows h pairs s pair e) before sides line are
