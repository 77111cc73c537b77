-- Trusted. What the steps of a follower proof and an answer of the follower stand for.
use Rattle.std.specs.Prelude.{List, map}
use Rattle.bl_terms.specs.Bounds.{Multipliers}
use Rattle.bl_terms.specs.Responses as responses
use Rattle.bl_terms.specs.Trees as trees
use Rattle.bl_fproof.specs.declared.answered.Step.{Step}
use Rattle.bl_fproof.specs.declared.answered.Step.TheVariants.{Split, Shut}
use Rattle.bl_fproof.specs.declared.answered.Answered.{Answered}
use Rattle.bl_fproof.specs.declared.answered.Answered.TheVariants.{Best, NoResponse}

-- a step as a node of a tree: a split that hands in nothing, or a leaf that hands in a bound proof
abbrev pub node_of : Step → trees.BareNode Multipliers
node_of (Split column at) = trees.Split column at tt
node_of (Shut proof) = trees.Leaf proof

abbrev pub nodes_of : List Step → List (trees.BareNode Multipliers)
nodes_of steps = map node_of steps

-- what an answer says of its link, and the tree that shows it
abbrev pub entry_of : Answered → responses.Entry
entry_of (Best response value proof) = responses.Best response value
entry_of (NoResponse proof) = responses.NoResponse

abbrev pub tree_of : Answered → List (trees.BareNode Multipliers)
tree_of (Best response value proof) = nodes_of proof.steps
tree_of (NoResponse proof) = nodes_of proof.steps
