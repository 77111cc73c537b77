-- Columns without a fault have bounds.
use Rattle.std.proofs.Common.{◌≡◌, ℕ, ◌<◌, Bool, true, false, cond, List, [], ◌∷◌, length, get_or, zero, suc, ◌+◌}
use Rattle.std.proofs.Common.{Option, Some, None, ℤ, pos, refl, arith, not, ◌&&◌}
use Rattle.std.specs.Prelude.{unwrap_or, is_some, int_lt, ◌≤ℤ◌}
use Rattle.std.specs.Option.{option_map}
use Rattle.std.proofs.lemmas.Int.{by_lt_z, ints}
use Rattle.bl_raw.specs.Raw.{IsSmall, IsColumn}
use Rattle.bl_raw.specs.declared.raw.RawColumn.{RawColumn}
use Rattle.bl_mps_terms.specs.declared.fault.MpsRule.{MpsRule}
use Rattle.bl_mps_terms.specs.declared.fault.MpsRule.TheVariants as rules
use Rattle.bl_mps_terms.specs.declared.fault.MpsFault.{MpsFault}
use Rattle.bl_mps_terms.specs.Faults.{or_else, in_column}
use Rattle.bl_mps_terms.specs.Lines.{is_above}
use Rattle.bl_mps_terms.specs.Rules.{first_of, when, unless}
use Rattle.bl_mps_read.specs.declared.bounds.Bounds.{Bounds}
use Rattle.bl_mps_read.specs.Bounds.{AreSmall, IsSmallBound, no_bounds}
use Rattle.bl_mps_model.specs.Whole.{upper_in, bounds_fault, bounds_faults}
use Rattle.bl_mps_model.specs.Model.{AreEntries}

-- ---- one column

not_above : (lo hi : ℤ) → int_lt hi lo ≡ false → lo ≤ℤ hi
not_above lo hi e = by_lt_z hi lo (λ lt. absurd (grind (arith, ints))) (λ le. le)

-- the rules of a column, by the parts of its bounds
abbrev rules_of : Bool → Option ℤ → Option ℤ → Bool → Option MpsRule
rules_of integer lower upper sets = first_of (
    unless integer rules.Continuous ∷ unless (is_some lower && is_some upper) rules.Unbounded
    ∷ when (is_above (Some (pos 0)) upper && not sets) rules.NegativeUpper
    ∷ when (is_above lower upper) rules.EmptyBounds ∷ [])

-- two bounds in order
pub record AreOrdered (lower upper : Option ℤ) : Type 0 where
  pub lo : ℤ
  pub hi : ℤ
  pub lower_is : lower ≡ Some lo
  pub upper_is : upper ≡ Some hi
  pub ordered : lo ≤ℤ hi

last_rule : (a b : Bool) → first_of (when a rules.NegativeUpper ∷ when b rules.EmptyBounds ∷ []) ≡ None → b ≡ false
last_rule true b e = absurd cc
last_rule false true e = absurd cc
last_rule false false e = refl

ordered : (integer : Bool) (lower upper : Option ℤ) (sets : Bool) → rules_of integer lower upper sets ≡ None
    → AreOrdered lower upper
ordered false lower upper sets e = absurd cc
ordered true None upper sets e = absurd cc
ordered true (Some lo) None sets e = absurd cc
ordered true (Some lo) (Some hi) sets e =
    record {
      lo = lo;
      hi = hi;
      lower_is = refl;
      upper_is = refl;
      ordered =
          not_above lo hi (last_rule (int_lt hi (pos 0) && not sets) (int_lt hi lo) e);
    }

pub faultless_ordered : (default : ℤ) (bounds : Bounds) → bounds_fault default bounds ≡ None
    → AreOrdered bounds.lower (upper_in default bounds)
faultless_ordered default bounds e = ordered bounds.integer bounds.lower (upper_in default bounds) bounds.sets_lower e

small_cond : (named : Bool) (upper : Option ℤ) (default : ℤ) → IsSmallBound upper → IsSmall default
    → IsSmallBound (cond named upper (Some default))
small_cond true upper default h d = h
small_cond false upper default h d = d

small_unwrapped : (bound : Option ℤ) → IsSmallBound bound → IsSmall (unwrap_or bound (pos 0))
small_unwrapped None h = omega arith
small_unwrapped (Some z) h = h

pub is_column : (rows : ℕ) (column : RawColumn) (default : ℤ) (bounds : Bounds)
    → column.lo ≡ unwrap_or bounds.lower (pos 0) → column.hi ≡ unwrap_or (upper_in default bounds) (pos 0)
    → IsSmall column.cost → AreEntries rows column.entries → AreSmall bounds → IsSmall default
    → bounds_fault default bounds ≡ None → IsColumn rows column
is_column rows column default bounds lo hi cost entries small d e =
    let two = faultless_ordered default bounds e in
    record {
      lo = rw lo (small_unwrapped bounds.lower small.lower);
      hi = rw hi (small_unwrapped (upper_in default bounds)
          (small_cond bounds.named bounds.upper default small.upper d));
      ordered = rw (lo, hi, two.lower_is, two.upper_is) two.ordered;
      cost = cost;
      rising = entries.rising;
      within = entries.within;
      small = entries.small;
    }

-- ---- all columns

none_else : (fault : Option MpsRule) (column : ℕ) (next : Option MpsFault)
    → or_else (option_map (in_column column) fault) next ≡ None → (fault ≡ None) × (next ≡ None)
none_else None column next e = (refl, e)
none_else (Some rule) column next e = absurd cc

-- where no column has a fault, none has one
pub faultless_at : (default : ℤ) (from : ℕ) (bounds : List Bounds) (k : ℕ) → bounds_faults default from bounds ≡ None
    → k < length bounds → bounds_fault default (get_or bounds k (no_bounds false)) ≡ None
unfolding bounds_faults
faultless_at default from [] k e lt = absurd (omega arith)
faultless_at default from (b ∷ bounds) zero e lt =
    (none_else (bounds_fault default b) from (bounds_faults default (from + 1) bounds) e).0
faultless_at default from (b ∷ bounds) (suc k) e lt =
    faultless_at default (from + 1) bounds k
    (none_else (bounds_fault default b) from (bounds_faults default (from + 1) bounds) e).1 (omega arith)
