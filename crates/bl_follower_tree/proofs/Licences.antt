-- First nodes of licensed trees, and more nodes after them.
use Rattle.std.proofs.Common.{List, [], ◌∷◌, ◌++◌, sym, subst}
use Rattle.std.specs.Prelude.{ℤ, Option, Some, None}
use Rattle.bl_terms.specs.Points.{Area}
use Rattle.bl_terms.specs.Bounds.{Problem}
use Rattle.bl_terms.specs.Trees.{low_half, high_half}
use Rattle.bl_follower_tree.specs.declared.licensed.LicensedNode.{LicensedNode}
use Rattle.bl_follower_tree.specs.declared.licensed.LicensedNode.TheVariants.{Split, Shut, Left}
use Rattle.bl_follower_tree.specs.Licences.{Licenses}

pub licenses_more : (q : Problem) (nodes more : List LicensedNode) (us vs : List (Option ℤ))
    (stack rest end : List Area) → Licenses q nodes us stack rest → Licenses q more vs rest end
    → Licenses q (nodes ++ more) (us ++ vs) stack end
licenses_more q [] more [] vs stack rest end h m = subst (λ s. Licenses q more vs s end) (sym h) m
licenses_more q [] more (u ∷ us) vs stack rest end h m = absurd h
licenses_more q (n ∷ ns) more us vs [] rest end h m = absurd h
licenses_more q (Shut ∷ ns) more us vs (a ∷ stack) rest end h m = licenses_more q ns more us vs stack rest end h m
licenses_more q (Left None ∷ ns) more us vs (a ∷ stack) rest end h m =
    (h.0, licenses_more q ns more us vs stack rest end h.1 m)
licenses_more q (Left (Some why) ∷ ns) more [] vs (a ∷ stack) rest end h m = absurd h
licenses_more q (Left (Some why) ∷ ns) more (u ∷ us) vs (a ∷ stack) rest end h m =
    (h.0, licenses_more q ns more us vs stack rest end h.1 m)
licenses_more q (Split j v why ∷ ns) more [] vs (a ∷ stack) rest end h m = absurd h
licenses_more q (Split j v why ∷ ns) more (u ∷ us) vs (a ∷ stack) rest end h m =
    (h.0, licenses_more q ns more us vs (low_half a j v ∷ high_half a j v ∷ stack) rest end h.1 m)
