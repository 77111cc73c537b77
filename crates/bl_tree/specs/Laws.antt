-- Trusted. Proofs of a plain problem as proofs of a leaf.
use Rattle.std.specs.Prelude.{◌≡◌, ◌++◌, ℤ, pos, [], ◌∷◌, Option, Some, None}
use Rattle.bl_terms.specs.Points.{Area}
use Rattle.bl_terms.specs.Programs.{Program}
use Rattle.bl_terms.specs.Bounds.{Multipliers, Proves}
use Rattle.bl_leaf_terms.specs.Nodes.{plain_problem}
use Rattle.bl_leaf_terms.specs.Leaves.{leaf_problem}

-- the multipliers with a further 0
abbrev pub with_zero : Multipliers → Multipliers
with_zero w = record { den = w.den; mult = w.mult ++ pos 0 ∷ [] }

-- THE LAW: without a value, a proof of the plain problem is with a further 0 a proof of the leaf's problem without
-- cuts; with a value the two problems are the same
pub record PlainProofCloses : Type 0 where
  pub without : (p : Program) (a : Area) (u : Option ℤ) (w : Multipliers) → Proves (plain_problem p a None) u w
      → Proves (leaf_problem p a None []) u (with_zero w)
  pub with : (p : Program) (a : Area) (v : ℤ) → leaf_problem p a (Some v) [] ≡ plain_problem p a (Some v)
