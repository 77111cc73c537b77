-- Trusted. What is kept of a link where the nodes that the follower's solver may take are spent.
use Rattle.std.specs.Prelude.{◌+◌, ◌≤◌, ℕ, ℤ, List, length, Option}
use Rattle.bl_terms.specs.Programs.{Program}
use Rattle.bl_terms.specs.Responses.{IsLink}
use Rattle.bl_model.specs.View.{IsModel}
use Rattle.bl_fproof.specs.Entries.{whole_problem}
use Rattle.bl_follower_tree.specs.declared.licensed.LicensedNode.{LicensedNode}
use Rattle.bl_follower_tree.specs.Licences.{IsLicensedTree, HasLeft}

-- a link of a program, a number of nodes, and a tree over the box of the follower's columns with its cutoffs
pub record Exhausted : Type 0 where
  pub program : Program
  pub link : List ℤ
  pub budget : ℕ
  pub nodes : List LicensedNode
  pub cutoffs : List (Option ℤ)

-- the tree has as many nodes or one less, each of its licences holds, and a leaf of more than one point is left open
pub record IsExhausted (s : Exhausted) : Type 0 where
  pub model : IsModel s.program
  pub link : IsLink s.program s.link
  pub tree : IsLicensedTree (whole_problem s.program s.link) s.nodes s.cutoffs
  pub left : HasLeft s.nodes
  pub most : length s.nodes ≤ s.budget
  pub least : s.budget ≤ length s.nodes + 1
