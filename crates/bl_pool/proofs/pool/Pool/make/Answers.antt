use Rattle.bl_pool.proofs.Maps.{pool-none}
use Rattle.bl_pool.proofs.pool.Pool.make.Goals as goal

pub invariant_of-result : goal.invariant_of-result
invariant_of-result c = rw (c.new.ensures.empty) (tt, pool-none _ c.args.most)
