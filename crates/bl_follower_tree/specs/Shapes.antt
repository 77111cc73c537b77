-- Trusted. The splits of a follower proof, to be compared with those of a tree.
use Rattle.std.specs.Prelude.{◌≡◌, ℕ, ℤ, List, map, Option, Some, None}
use Rattle.bl_fproof.specs.declared.answered.Step.{Step}
use Rattle.bl_fproof.specs.declared.answered.Step.TheVariants.{Split, Shut}
use Rattle.bl_follower_tree.specs.declared.licensed.LicensedNode.{LicensedNode}
use Rattle.bl_follower_tree.specs.Licences.{split_of}

-- the column and the place of a split
abbrev pub split_of_step : Step → Option (ℕ × ℤ)
split_of_step (Split column at) = Some (column, at)
split_of_step (Shut proof) = None

-- a split at the same column and place for each split, and a closed leaf for each leaf
abbrev pub HaveSameSplits : List LicensedNode → List Step → Type 0
HaveSameSplits nodes steps = map split_of nodes ≡ map split_of_step steps
