-- A pair of a row and a number breaks no rule; the lines under RHS and RANGES of a canonical text.
use Rattle.std.proofs.Common.{◌≡◌, ℕ, ◌≤◌, true, false, List, [], ◌∷◌, ◌++◌, map, ℤ}
use Rattle.std.proofs.Common.{Option, None, Result, refl, sym, ap, subst, ◌∙◌, arith}
use Rattle.std.proofs.Common.{append_assoc, unsigned_abs}
use Rattle.std.specs.Fmt.{signed_decimal}
use Rattle.std.specs.List.{flat_map, AllByRecursion}
use Rattle.std.specs.Option.{option_map_or}
use Rattle.std.specs.Str.{bytes_eq}
use Rattle.std.proofs.lemmas.Bool.{le-leb}
use Rattle.std.proofs.lemmas.Grind.{flat_map-append}
use Rattle.std.proofs.lemmas.List.{map_push}
use Rattle.bl_limits.specs.declared.TheConstants.{MAX_WHOLE}
use Rattle.bl_num.specs.declared.fault.NumFault.{NumFault}
use Rattle.bl_num.proofs.Meanings.{reads_decimals}
use Rattle.bl_mps_terms.specs.Words.{Bytes}
use Rattle.bl_mps_terms.specs.Rules.{is_named, within, fault_in, number_fault, pairs_fault}
use Rattle.bl_mps_terms.specs.Lines.{row_names, names_in, pairs_of_set, set_fault}
use Rattle.bl_mps.proofs.Names.{IsFresh}
use Rattle.bl_mps_laws.proofs.Decimals.{number_word}
use Rattle.bl_mps_laws.proofs.Fresh.{fresh_before}
use Rattle.bl_mps_laws.proofs.Tables.{texts}
use Rattle.bl_mps_laws.proofs.Tokens.{IsWord}
use Rattle.bl_mps_laws.proofs.Walks.{EachFine}

-- ---- one pair

pub number_fine : (most : ℕ) (z : ℤ) → unsigned_abs z ≤ most → most ≤ MAX_WHOLE
    → number_fault most (signed_decimal z) ≡ None
number_fine most z small whole =
    ap (λ (r : Result ℤ NumFault). fault_in (within most r)) (reads_decimals z (omega (arith, small, whole)))
    ∙ rw (le-leb (unsigned_abs z) most small) refl

-- the pair is of a row that may have the number
pub record IsGoodPair (rows : List Bytes) (most : ℕ) (objective : Option Bytes) (pair : Bytes × ℤ) : Type 0 where
  pub word : IsWord pair.0
  pub named : is_named rows pair.0 ≡ true
  pub small : unsigned_abs pair.1 ≤ most
  pub apart : option_map_or (bytes_eq pair.0) objective false ≡ false

pub pair_fine : (rows : List Bytes) (most : ℕ) (objective : Option Bytes) (before : List Bytes) (pair : Bytes × ℤ)
    → most ≤ MAX_WHOLE → IsGoodPair rows most objective pair → is_named before pair.0 ≡ false
    → pairs_fault rows most objective before ((pair.0, signed_decimal pair.1) ∷ []) ≡ None
unfolding pairs_fault
pair_fine rows most objective before pair whole h fresh =
    rw (h.named, number_fine most pair.1 h.small whole, fresh, h.apart) refl

pub number_text : (rows : List Bytes) (most : ℕ) (objective : Option Bytes) (pair : Bytes × ℤ) → most ≤ MAX_WHOLE
    → IsGoodPair rows most objective pair → IsWord (signed_decimal pair.1)
number_text rows most objective pair whole h =
    let small : unsigned_abs pair.1 ≤ most = h.small in number_word pair.1 (omega (arith, small, whole))

-- ---- the lines of a set

abbrev pub set_fields : Bytes → Bytes × ℤ → List Bytes
set_fields word pair = word ∷ pair.0 ∷ signed_decimal pair.1 ∷ []

-- a line for each pair, behind a set name
abbrev pub set_data : Bytes → List (Bytes × ℤ) → List (List Bytes)
set_data word pairs = map (set_fields word) pairs

pub set_pairs : (word : Bytes) (pairs : List (Bytes × ℤ)) → flat_map pairs_of_set (set_data word pairs) ≡ texts pairs
set_pairs word [] = refl
set_pairs word (pair ∷ pairs) =
    ap (λ (ps : List (Bytes × Bytes)). (pair.0, signed_decimal pair.1) ∷ ps) (set_pairs word pairs)

abbrev pub used : List (List Bytes) → List Bytes
used lines = names_in (flat_map pairs_of_set lines)

used-push : (before : List (List Bytes)) (word : Bytes) (pair : Bytes × ℤ)
    → used (before ++ set_fields word pair ∷ []) ≡ used before ++ pair.0 ∷ []
used-push before word pair =
    ap names_in (flat_map-append pairs_of_set before (set_fields word pair ∷ []))
    ∙ map_push (λ (p : Bytes × Bytes). p.0) (flat_map pairs_of_set before) (pair.0, signed_decimal pair.1)

module _ (word : Bytes) (is_word : IsWord word) (rows : List (List Bytes)) (most : ℕ) (whole : most ≤ MAX_WHOLE)
    (objective : Option Bytes) where
  -- The lines break no rule.
  pub set_fine : (before : List (List Bytes)) (pairs : List (Bytes × ℤ))
      → AllByRecursion (IsGoodPair (row_names rows) most objective) pairs
      → IsFresh (used before ++ names_in (texts pairs))
      → EachFine (set_fault most objective rows) before (set_data word pairs)
  set_fine before [] h fresh = tt
  set_fine before (pair ∷ pairs) h fresh = (
    (is_word, (h.0.word, (number_text (row_names rows) most objective pair whole h.0, tt))),
    rw (pair_fine (row_names rows) most objective (used before) pair whole h.0
        (fresh_before (used before) pair.0 (names_in (texts pairs)) fresh)) refl,
    set_fine (before ++ set_fields word pair ∷ []) pairs h.1
        (subst IsFresh (sym (ap (λ (ns : List Bytes). ns ++ names_in (texts pairs)) (used-push before word pair)
        ∙ append_assoc (used before) (pair.0 ∷ []) (names_in (texts pairs)))) fresh),
  )
