-- Trusted. Trees over a problem's box whose splits and open leaves have licences.
use Rattle.std.specs.Prelude.{◌≡◌, ℕ, ℤ, Contains, List, [], ◌∷◌, Option, Some, None}
use Rattle.bl_terms.specs.Points.{Area, IsOnePoint}
use Rattle.bl_terms.specs.Bounds.{Problem, over}
use Rattle.bl_terms.specs.Trees.{CanSplit, low_half, high_half}
use Rattle.bl_licence.specs.declared.why.Why.{Why}
use Rattle.bl_licence.specs.Why.{IsLicence}
use Rattle.bl_fproof.specs.Entries.{IsPointOfCost}
use Rattle.bl_follower_tree.specs.declared.licensed.LicensedNode.{LicensedNode}
use Rattle.bl_follower_tree.specs.declared.licensed.LicensedNode.TheVariants.{Split, Shut, Left}

-- without a cutoff nothing is asked; a cutoff is the cost of a point of the problem
abbrev pub IsReached : Problem → Option ℤ → Type 0
IsReached q None = Unit {0}
IsReached q (Some u) = (y : List ℤ) × IsPointOfCost q y u

-- a licence to split the box a of the problem, for such a cutoff
pub record IsLicensed (q : Problem) (a : Area) (u : Option ℤ) (why : Why) : Type 0 where
  pub reached : IsReached q u
  pub licence : IsLicence (over q a) u why

-- the nodes are trees over the first boxes of the stack, one after the other, and the boxes of rest are what they
-- leave of it: the halves of their last splits that have no node yet, and the boxes below. Each split and each open
-- leaf is licensed for its own cutoff; an open leaf without a licence has one point, and one with a licence has more
abbrev pub Licenses : Problem → List LicensedNode → List (Option ℤ) → List Area → List Area → Type 0
Licenses q [] [] stack rest = stack ≡ rest
Licenses q [] (u ∷ us) stack rest = ⊥
Licenses q (n ∷ ns) us [] rest = ⊥
Licenses q (Shut ∷ ns) us (a ∷ stack) rest = Licenses q ns us stack rest
Licenses q (Left None ∷ ns) us (a ∷ stack) rest = IsOnePoint a × Licenses q ns us stack rest
Licenses q (Left (Some why) ∷ ns) [] (a ∷ stack) rest = ⊥
Licenses q (Left (Some why) ∷ ns) (u ∷ us) (a ∷ stack) rest =
    ((¬ IsOnePoint a) × IsLicensed q a u why) × Licenses q ns us stack rest
Licenses q (Split j v why ∷ ns) [] (a ∷ stack) rest = ⊥
Licenses q (Split j v why ∷ ns) (u ∷ us) (a ∷ stack) rest =
    (CanSplit a j v × IsLicensed q a u why) × Licenses q ns us (low_half a j v ∷ high_half a j v ∷ stack) rest

-- the nodes are a tree over the problem's whole box, with these cutoffs for its licences
abbrev pub IsLicensedTree : Problem → List LicensedNode → List (Option ℤ) → Type 0
IsLicensedTree q nodes cutoffs = Licenses q nodes cutoffs (q.area ∷ []) []

-- the column and the place of a split
abbrev pub split_of : LicensedNode → Option (ℕ × ℤ)
split_of (Split column at why) = Some (column, at)
split_of Shut = None
split_of (Left why) = None

-- the node isn't an open leaf
abbrev pub IsFinished : LicensedNode → Type 0
IsFinished (Split column at why) = Unit {0}
IsFinished Shut = Unit {0}
IsFinished (Left why) = ⊥

-- some leaf of more than one point is left open
abbrev pub HasLeft : List LicensedNode → Type 0
HasLeft nodes = (why : Why) × Contains nodes (Left (Some why))
