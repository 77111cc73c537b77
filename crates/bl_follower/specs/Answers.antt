-- Trusted. What an answer and a failure of the follower's solver mean.
use Rattle.std.specs.Prelude.{◌≡◌, ◌+◌, ◌*◌, ◌<◌, ◌≤◌, ℕ, ℤ, List, length, All}
use Rattle.bl_terms.specs.Trees.{point_count}
use Rattle.bl_terms.specs.Programs.{Program}
use Rattle.bl_terms.specs.FollowerProofs.{follower_box}
use Rattle.bl_fproof.specs.declared.answered.Step.{Step}
use Rattle.bl_fproof.specs.declared.answered.Answered.{Answered}
use Rattle.bl_fproof.specs.declared.answered.Answered.TheVariants.{Best, NoResponse}
use Rattle.bl_fproof.specs.Entries.{whole_problem, IsShown}
use Rattle.bl_follower_tree.specs.Licences.{IsLicensedTree, IsFinished}
use Rattle.bl_follower_tree.specs.Shapes.{HaveSameSplits}
use Rattle.bl_follower.specs.declared.solve.Solved.{Solved}
use Rattle.bl_follower.specs.declared.solve.FollowerFail.{FollowerFail}
use Rattle.bl_follower.specs.declared.solve.FollowerFail.TheVariants.{Spent, Memory}
use Rattle.bl_follower.specs.Exhausted.{Exhausted}

abbrev pub steps_of : Answered → List Step
steps_of (Best y v proof) = proof.steps
steps_of (NoResponse proof) = proof.steps

-- the answer's proof shows it; the tree has at most as many nodes as may be taken, each of its splits is licensed and
-- stands at the same place in the proof, and no leaf is left open
pub record IsSolved (p : Program) (l : List ℤ) (budget : ℕ) (s : Solved) : Type 0 where
  pub shown : IsShown p l s.answered
  pub tree : IsLicensedTree (whole_problem p l) s.tree.nodes s.cutoffs
  pub same : HaveSameSplits s.tree.nodes (steps_of s.answered)
  pub finished : All IsFinished s.tree.nodes
  pub few : length s.tree.nodes ≤ budget

-- what is told is of this link and this number of nodes, which is below twice the points of the follower's box less one
pub record IsSpentOn (p : Program) (l : List ℤ) (budget : ℕ) (s : Exhausted) : Type 0 where
  pub program : s.program ≡ p
  pub link : s.link ≡ l
  pub nodes : s.budget ≡ budget
  pub small : budget + 1 < 2 * point_count (follower_box p)

abbrev pub IsFailure : Program → List ℤ → ℕ → FollowerFail → Type 0
IsFailure p l budget (Spent s) = IsSpentOn p l budget s
IsFailure p l budget Memory = Unit {0}
