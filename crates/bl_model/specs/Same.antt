-- Internal. Programs that are the same in some parts.
use Rattle.std.specs.Prelude.{◌≡◌}
use Rattle.bl_terms.specs.Programs.{Program}

-- the same costs, and the same senses of them
pub record HaveSameCosts (p q : Program) : Type 0 where
  pub cost : p.cost ≡ q.cost
  pub follower_cost : p.follower_cost ≡ q.follower_cost
  pub sense : p.sense ≡ q.sense
  pub leader_sense : p.leader_sense ≡ q.leader_sense
