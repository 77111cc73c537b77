-- Trusted. The follower's whole problem of a link, when an answer is shown, and which step of its proof fails first.
use Rattle.std.specs.Prelude.{◌≡◌, ◌⊎◌, ℕ, ℤ, List, [], ◌∷◌, Option, Some, None}
use Rattle.bl_whole.specs.Sums.{dot}
use Rattle.bl_terms.specs.Bounds.{Problem, IsPoint, Multipliers, Proves, over}
use Rattle.bl_terms.specs.Programs.{Program}
use Rattle.bl_terms.specs.Responses.{IsResponse, IsLink, IsTrueEntry, response_cost}
use Rattle.bl_terms.specs.Trees.{BareNode, Anything, Covers, FailsFirst}
use Rattle.bl_terms.specs.FollowerProofs.{IsFollowerProof, follower_box, follower_problem}
use Rattle.bl_model.specs.View.{IsModel}
use Rattle.bl_fproof.specs.declared.answered.Answered.{Answered}
use Rattle.bl_fproof.specs.declared.answered.Answered.TheVariants.{Best, NoResponse}
use Rattle.bl_fproof.specs.Steps.{entry_of, tree_of, nodes_of}

-- the follower's problem at the link l, over the whole box of its columns
abbrev pub whole_problem : Program → List ℤ → Problem
whole_problem p l = follower_problem p l (follower_box p)

-- the nodes are a tree over the problem's box, each leaf of which has a proof over its box with the cutoff u
abbrev pub Closes : Problem → Option ℤ → List (BareNode Multipliers) → Type 0
Closes q u nodes = Covers Anything (λ a w. Proves (over q a) u w) nodes (q.area ∷ [])

-- node k is the first in preorder at which they fail to be so
abbrev pub FailsToClose : Problem → Option ℤ → List (BareNode Multipliers) → ℕ → Type 0
FailsToClose q u nodes k = FailsFirst Anything (λ a w. Proves (over q a) u w) nodes (q.area ∷ []) k

-- y is a point of the problem of cost v
abbrev pub IsPointOfCost : Problem → List ℤ → ℤ → Type 0
IsPointOfCost q y v = IsPoint q y × (dot q.cost y ≡ v)

-- y is a response to l of cost v
pub record IsResponseOfCost (p : Program) (l y : List ℤ) (v : ℤ) : Type 0 where
  pub response : IsResponse p l y
  pub cost : response_cost p y ≡ v

-- the answer's proof shows it
abbrev pub IsShown : Program → List ℤ → Answered → Type 0
IsShown p l answered = IsFollowerProof p l (entry_of answered) (tree_of answered)

-- step k of the answer's proof fails first; where its response fails, that counts as step 0
abbrev pub FailsAt : Program → List ℤ → Answered → ℕ → Type 0
FailsAt p l (Best y v proof) k =
    ((¬ IsResponseOfCost p l y v) × (k ≡ 0))
    ⊎ (IsResponseOfCost p l y v × FailsToClose (whole_problem p l) (Some v) (nodes_of proof.steps) k)
FailsAt p l (NoResponse proof) k = FailsToClose (whole_problem p l) None (nodes_of proof.steps) k

-- an admitted answer: a program, a link of it and what is shown of the link
pub record Admitted : Type 0 where
  pub program : Program
  pub link : List ℤ
  pub answered : Answered

pub record IsAdmitted (e : Admitted) : Type 0 where
  pub model : IsModel e.program
  pub link : IsLink e.program e.link
  pub shown : IsShown e.program e.link e.answered

-- what the answer says of the link is true
abbrev pub IsTrueAnswer : Admitted → Type 0
IsTrueAnswer e = IsTrueEntry e.program e.link (entry_of e.answered)
