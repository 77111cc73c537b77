-- Internal. Rows of so many columns, with numbers within the limits of a problem; and what holds of an item that may be
-- used.
use Rattle.std.specs.Prelude.{◌≡◌, ℕ, ◌<◌, ◌^◌, pos, ◌≤ℤ◌, List, []}
use Rattle.std.specs.Prelude.{◌∷◌, ◌++◌, length, IsTrue, All, Option, Some, if◌then◌else◌}
use Rattle.bl_limits.specs.declared.TheConstants.{MAX_PROBLEM_COEFFICIENT, MAX_PROBLEM_RHS, MAX_PROOF_NUMBER}
use Rattle.bl_whole.specs.Within.{IsWithin, AreWithin}
use Rattle.bl_terms.specs.Points.{Area, Linear}
use Rattle.bl_terms.specs.Programs.{Program, columns}
use Rattle.bl_terms.specs.Bounds.{linear_at}
use Rattle.bl_cut_terms.specs.declared.parts.Tight.{Tight}
use Rattle.bl_cut_terms.specs.NoGoods.{IsThere, NoGoodCut, IsUnit, unit_at, HasSize, tight_rows, cut_row}
use Rattle.bl_cut_terms.specs.declared.parts.CutParts.{CutParts}
use Rattle.bl_model.specs.View.{IsModel}
use Rattle.bl_model.specs.Boxes.{IsBox}
use Rattle.bl_cut.specs.Cuts.{AreProvedCuts}
use Rattle.bl_cut_terms.specs.Adopting.{item_at, are_in_order, is_used, adopt_cut, Adopted}
use Rattle.bl_cut_proof.specs.Proving.{local_rows, IsOfProgram}
use Rattle.bl_cut_proof.specs.Faults.{AreShown}

pub record AreRows (n : ℕ) (rows : List Linear) : Type 0 where
  pub columns : (i : ℕ) → i < length rows → length (linear_at rows i).coef ≡ n
  pub coefs : (i : ℕ) → i < length rows → AreWithin MAX_PROBLEM_COEFFICIENT (linear_at rows i).coef
  pub rhs : (i : ℕ) → i < length rows → IsWithin MAX_PROBLEM_RHS (linear_at rows i).rhs

-- the item's row is there, and is one of the program
pub record IsUsable (p : Program) (a : Area) (earlier : List NoGoodCut) (item : Tight) : Type 0 where
  pub there : IsThere p a (local_rows earlier) item
  pub model : IsOfProgram p earlier item

-- the parts are as they should be, all but the numbers of the cut's row
pub record HasShape (p : Program) (a : Area) (earlier : List NoGoodCut) (parts : CutParts) : Type 0 where
  pub items : (k : ℕ) → k < length parts.tight → IsUsable p a earlier (item_at parts.tight k)
  pub order : IsTrue (are_in_order parts.tight)
  pub units_count : length parts.units ≡ columns p
  pub units : (k : ℕ) → k < length parts.units → IsUnit (length parts.tight) (unit_at parts.units k)
  pub den_least : pos 1 ≤ℤ parts.den
  pub den_most : parts.den ≤ℤ MAX_PROOF_NUMBER

-- all of it is shown but the numbers of the cut's row
pub record IsShown (p : Program) (a : Area) (earlier : List NoGoodCut) (parts : CutParts) : Type 0 where
  pub shape : HasShape p a earlier parts
  pub shown : AreShown p (tight_rows p a (local_rows earlier) parts.tight) parts

-- one earlier cut: taken over where it is used
abbrev pub over_cut : List Tight → ℕ → NoGoodCut → Adopted → Option Adopted
over_cut tight k c a =
    if is_used k tight then adopt_cut a c else Some (record { steps = a.steps; places = a.places ++ 0 ∷ [] })

-- the parts have their size; the rows are those of the items, and the row is the cut's
pub record IsSized (p : Program) (a : Area) (earlier : List NoGoodCut) (parts : CutParts) (rows : List Linear)
    (row : Linear) : Type 0 where
  pub model : IsModel p
  pub box : IsBox a
  pub cuts : AreProvedCuts earlier
  pub size : HasSize p a (local_rows earlier) parts
  pub models : All (IsOfProgram p earlier) parts.tight
  pub rows_are : rows ≡ tight_rows p a (local_rows earlier) parts.tight
  pub row_is : row ≡ cut_row p a (local_rows earlier) parts.tight
  pub fit : AreRows (columns p) rows
  pub few : length rows < 2 ^ 32
