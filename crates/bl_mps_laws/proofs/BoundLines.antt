-- The lines under BOUNDS of a canonical text break no rule, and say both bounds of each column.
use Rattle.std.proofs.Common.{◌≡◌, ℕ, true, false, List, [], ◌∷◌, ℤ, pos}
use Rattle.std.proofs.Common.{Option, Some, None, Result, Ok, unsigned_abs, refl, ap, ◌∙◌, arith, codes, rules}
use Rattle.std.specs.Prelude.{◌≤ℤ◌, int_lt}
use Rattle.std.specs.Fmt.{signed_decimal}
use Rattle.std.specs.List.{flat_map, AllByRecursion}
use Rattle.std.specs.Result.{result_unwrap_or}
use Rattle.std.specs.Str.{bytes_eq}
use Rattle.std.proofs.Math.Bool.{and-false}
use Rattle.std.proofs.lemmas.Bool.{le-leb, lt-leb}
use Rattle.std.proofs.lemmas.Int.{ints}
use Rattle.bl_limits.specs.declared.TheConstants.{MAX_NUMBER, NO_BOUND}
use Rattle.bl_num.proofs.Meanings.{reads_decimals}
use Rattle.bl_raw.specs.Raw.{IsSmall}
use Rattle.bl_raw.specs.declared.raw.RawColumn.{RawColumn}
use Rattle.bl_mps_terms.specs.declared.fault.MpsRule.{MpsRule}
use Rattle.bl_mps_terms.specs.declared.words.BoundKind.{BoundKind}
use Rattle.bl_mps_terms.specs.declared.words.BoundKind.TheVariants.{Lo, Up}
use Rattle.bl_mps_terms.specs.Words.{Bytes}
use Rattle.bl_mps_terms.specs.Rules.{is_named}
use Rattle.bl_mps_terms.specs.Lines.{BoundLine, bound_within, bound_read, bound_fault, columns_of, bounds_on}
use Rattle.bl_mps_terms.specs.Lines.{lower_of, upper_of, whole_fault, number_given}
use Rattle.bl_mps.proofs.Names.{IsFresh, or_false, same_true}
use Rattle.bl_mps_laws.proofs.Decimals.{number_word}
use Rattle.bl_mps_laws.proofs.Fresh.{differ_sym}
use Rattle.bl_mps_laws.proofs.Sayable.{IsSayableColumn, column_names}
use Rattle.bl_mps_laws.proofs.Tokens.{IsWord}
use Rattle.bl_mps_laws.proofs.Walks.{EachFine}

abbrev pub bound_fields : Bytes → Bytes → ℤ → List Bytes
bound_fields word name z = word ∷ codes "BND" ∷ name ∷ signed_decimal z ∷ []

-- the two lines of a column
abbrev pub both_fields : RawColumn → List (List Bytes)
both_fields column =
    bound_fields (codes "LO") column.name column.lo ∷ bound_fields (codes "UP") column.name column.hi ∷ []

-- the lines under BOUNDS
abbrev pub bound_data : List RawColumn → List (List Bytes)
bound_data columns = flat_map both_fields columns

-- ---- no rule is broken

bound_small : (z : ℤ) → IsSmall z → bound_read (Some (signed_decimal z)) ≡ Ok (Some z)
bound_small z small =
    ap bound_within (reads_decimals z (omega (arith, small)))
    ∙ rw (
      lt-leb NO_BOUND (unsigned_abs z) (omega (arith, small)),
      le-leb (unsigned_abs z) MAX_NUMBER small,
    ) refl

word_lo : IsWord (codes "LO")
word_lo = record { field = search rules; line = search rules }

word_up : IsWord (codes "UP")
word_up = record { field = search rules; line = search rules }

word_set : IsWord (codes "BND")
word_set = record { field = search rules; line = search rules }

fields_words : (word name : Bytes) (z : ℤ) → IsWord word → IsWord name → IsSmall z
    → AllByRecursion IsWord (bound_fields word name z)
fields_words word name z w n small = (w, (word_set, (n, (number_word z (omega (arith, small)), tt))))

module _ (columns : List (List Bytes)) where
  lo_fine : (name : Bytes) (z : ℤ) → is_named (columns_of columns) name ≡ true → IsSmall z
      → bound_fault columns (bound_fields (codes "LO") name z) ≡ None
  lo_fine name z named small = rw (named, bound_small z small) refl

  up_fine : (name : Bytes) (z : ℤ) → is_named (columns_of columns) name ≡ true → IsSmall z
      → bound_fault columns (bound_fields (codes "UP") name z) ≡ None
  up_fine name z named small = rw (named, bound_small z small) refl

  -- The lines break no rule.
  pub bound_data_fine : (rows : ℕ) (all : List RawColumn) → AllByRecursion (IsSayableColumn rows) all
      → AllByRecursion (λ column. is_named (columns_of columns) column.name ≡ true) all → (before : List (List Bytes))
      → EachFine (λ lines line. bound_fault columns line) before (bound_data all)
  bound_data_fine rows [] h named before = tt
  bound_data_fine rows (column ∷ all) h named before = (
    fields_words (codes "LO") column.name column.lo word_lo h.0.name h.0.lo,
    lo_fine column.name column.lo named.0 h.0.lo,
    (
      fields_words (codes "UP") column.name column.hi word_up h.0.name h.0.hi,
      up_fine column.name column.hi named.0 h.0.hi,
      bound_data_fine rows all h.1 named.1 _,
    ),
  )

-- ---- what the lines say

abbrev bound_of : BoundKind → Bytes → ℤ → BoundLine
bound_of kind name z = record { kind = kind; column = name; number = Some (signed_decimal z) }

abbrev pub both_of : RawColumn → List BoundLine
both_of column = bound_of Lo column.name column.lo ∷ bound_of Up column.name column.hi ∷ []

on-none : (name : Bytes) (columns : List RawColumn) → is_named (column_names columns) name ≡ false
    → bounds_on name (bound_data columns) ≡ []
on-none name [] f = refl
on-none name (column ∷ columns) f =
    let parts = or_false (bytes_eq name column.name) (is_named (column_names columns) name) f in
    rw (parts.0) (on-none name columns parts.1)

-- each column has both its bounds
abbrev pub BothFound : List RawColumn → List RawColumn → Type 0
BothFound all columns = AllByRecursion (λ column. bounds_on column.name (bound_data all) ≡ both_of column) columns

found_more : (first : RawColumn) (all columns : List RawColumn) → is_named (column_names columns) first.name ≡ false
    → BothFound all columns → BothFound (first ∷ all) columns
found_more first all [] f h = tt
found_more first all (column ∷ columns) f h =
    let parts = or_false (bytes_eq first.name column.name) (is_named (column_names columns) first.name) f in
    (rw (differ_sym first.name column.name parts.0) h.0, found_more first all columns parts.1 h.1)

pub both_found : (columns : List RawColumn) → IsFresh (column_names columns) → BothFound columns columns
both_found [] h = tt
both_found (column ∷ columns) h = (
  rw (same_true column.name column.name refl) (ap (λ (bs : List BoundLine). bound_of Lo column.name column.lo
      ∷ bound_of Up column.name column.hi ∷ bs) (on-none column.name columns h.0)),
  found_more column columns columns h.0 (both_found columns h.1),
)

given_small : (kind : BoundKind) (name : Bytes) (z : ℤ) → IsSmall z → number_given (bound_of kind name z) ≡ Some z
given_small kind name z small = ap (λ (r : Result (Option ℤ) MpsRule). result_unwrap_or r None) (bound_small z small)

not_above : (lo hi : ℤ) → lo ≤ℤ hi → int_lt hi lo ≡ false
not_above lo hi le = grind (arith, ints)

-- What both lines of a column say.
module _ (rows : ℕ) (column : RawColumn) (h : IsSayableColumn rows column) where
  pub lower_said : lower_of (both_of column) ≡ Some column.lo
  lower_said = given_small Lo column.name column.lo h.lo

  pub upper_said : (default : ℤ) → upper_of default (both_of column) ≡ Some column.hi
  upper_said default = given_small Up column.name column.hi h.hi

  pub whole_fine : (default : ℤ) → whole_fault default true (both_of column) ≡ None
  whole_fine default =
      rw (given_small Lo column.name column.lo h.lo, given_small Up column.name column.hi h.hi)
      (rw (not_above column.lo column.hi h.ordered, and-false (int_lt column.hi (pos 0))) refl)
