-- The laws for multipliers that stand in lists, as a dictionary's are read from a tableau.
use Rattle.std.proofs.Common.{◌≡◌, ℕ, Option, ℤ, pos, List, length, sym, ap, ◌∙◌, subst, arith}
use Rattle.bl_terms.specs.Bounds.{Problem, IsProblem, Proves}
use Rattle.bl_simplex.specs.Fractions.{Fraction}
use Rattle.bl_simplex.specs.Rationals.{common_denominator, times_multiple}
use Rattle.bl_simplex.specs.Dictionaries.{opening}
use Rattle.bl_simplex.specs.Pivots.{replay}
use Rattle.bl_simplex.specs.Closing.{ClosesByRow, ClosesByCost, PassLimit, row_multiplier, cost_multiplier}
use Rattle.bl_simplex.specs.Licences.{AreSteps}
use Rattle.bl_licence.specs.Steps.{IsListOf, AreWhole}
use Rattle.bl_licence.proofs.Limits.{list_common, passes_list, whole_passes_not}
use Rattle.bl_duality.specs.Laws.{AreMadeWhole}
use Rattle.bl_duality.proofs.ClosingRows.{closing_row_proves}
use Rattle.bl_duality.proofs.ClosingCosts.{closing_cost_proves}

-- the list has the multipliers f in fractions, and they are made whole
pub record AreListed (q : Problem) (f : ℕ → Fraction) (fs : List Fraction) (common : ℕ) (mult : List ℤ) : Type 0 where
  pub listed : IsListOf (length q.rows) f fs
  pub whole : AreWhole fs common mult

listed_common : (q : Problem) (f : ℕ → Fraction) (fs : List Fraction) (common : ℕ) (mult : List ℤ)
    → AreListed q f fs common mult → common ≡ common_denominator (length q.rows) f
listed_common q f fs common mult h = h.whole.multiple ∙ list_common (length q.rows) f fs h.listed

pub listed_within : (q : Problem) (f : ℕ → Fraction) (fs : List Fraction) (common : ℕ) (mult : List ℤ)
    → AreListed q f fs common mult → ¬ PassLimit q f
listed_within q f fs common mult h past =
    whole_passes_not fs common mult h.whole ((passes_list (length q.rows) f fs h.listed).1 past)

pub listed_whole : (q : Problem) (f : ℕ → Fraction) (fs : List Fraction) (common : ℕ) (mult : List ℤ)
    → AreListed q f fs common mult → AreMadeWhole q f mult
listed_whole q f fs common mult h = record {
  size = h.whole.size ∙ h.listed.size;
  each = λ i b.
      h.whole.each i (omega (arith, h.listed.size))
      ∙ ap (times_multiple common) (h.listed.each i b)
      ∙ ap (λ c. times_multiple c (f i)) (listed_common q f fs common mult h);
}

pub listed_row_proves : (q : Problem) (u : Option ℤ) (pivots : List (ℕ × ℕ)) (r : ℕ) (fs : List Fraction) (common : ℕ)
    (mult : List ℤ) → IsProblem q → AreSteps q u (opening q) pivots → ClosesByRow q (replay (opening q) pivots) r
    → AreListed q (row_multiplier q (replay (opening q) pivots) r) fs common mult
    → Proves q u (record { den = pos 0; mult = mult })
listed_row_proves q u pivots r fs common mult shape steps closes h =
    let f = row_multiplier q (replay (opening q) pivots) r in
    closing_row_proves q u pivots r mult shape steps closes (listed_within q f fs common mult h)
    (listed_whole q f fs common mult h)

pub listed_cost_proves : (q : Problem) (u : Option ℤ) (pivots : List (ℕ × ℕ)) (fs : List Fraction) (common : ℕ)
    (mult : List ℤ) → IsProblem q → AreSteps q u (opening q) pivots → ClosesByCost q u (replay (opening q) pivots)
    → AreListed q (cost_multiplier q (replay (opening q) pivots)) fs common mult
    → Proves q u (record { den = pos common; mult = mult })
listed_cost_proves q u pivots fs common mult shape steps closes h =
    let f = cost_multiplier q (replay (opening q) pivots) in
    subst (λ c. Proves q u (record { den = pos c; mult = mult })) (sym (listed_common q f fs common mult h))
    (closing_cost_proves q u pivots mult shape steps closes (listed_within q f fs common mult h)
    (listed_whole q f fs common mult h))
