use Rattle.std.proofs.Common.{subst}
use Rattle.bl_leaf_terms.specs.Leaves.{ClosedLeaf, IsClosedLeaf}
use Rattle.bl_leaf_terms.proofs.LeafLemmas.{leaf_law}
use Rattle.bl_tree.proofs.leaf.ProvedLeaf.model.Goals as goal

pub returns-clause-closed : goal.returns-clause-closed
returns-clause-closed c =
    leaf_law c.args.self.now (subst (λ (x : ClosedLeaf). IsClosedLeaf x) c.self.view_is c.self.invariant)
