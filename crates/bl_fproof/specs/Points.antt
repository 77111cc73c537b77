-- Internal. A response as a point of the follower's problem.
use Rattle.std.specs.Prelude.{◌≡◌, ◌⊎◌, ℕ, ℤ, List, Some}
use Rattle.bl_whole.specs.Sums.{component, dot}
use Rattle.bl_limits.specs.declared.TheConstants.{MAX_NUMBER, MAX_RHS}
use Rattle.bl_whole.specs.Within.{IsWithin, AreWithin}
use Rattle.std.specs.Prelude.{length}
use Rattle.bl_terms.specs.Bounds.{Problem, IsPoint, Multipliers}
use Rattle.bl_terms.specs.Programs.{Program, Row, columns}
use Rattle.bl_terms.specs.Trees.{BareNode}
use Rattle.bl_fproof.specs.Entries.{IsPointOfCost, FailsToClose}

-- step k fails first: the point fails, or the tree for its cost
abbrev pub FailsAsPoint : Problem → List ℤ → ℤ → List (BareNode Multipliers) → ℕ → Type 0
FailsAsPoint q y v nodes k =
    ((¬ IsPointOfCost q y v) × (k ≡ 0)) ⊎ (IsPointOfCost q y v × FailsToClose q (Some v) nodes k)

-- a row of the model: a small number for each column, and a right side that isn't too great
pub record IsShort (p : Program) (r : Row) : Type 0 where
  pub count : length r.coef ≡ columns p
  pub coef : AreWithin MAX_NUMBER r.coef
  pub rhs : IsWithin MAX_RHS r.rhs
