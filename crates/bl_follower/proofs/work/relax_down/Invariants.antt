use Rattle.bl_follower.specs.Search.{cutoff_of, IsLowerBest, height}
use Rattle.bl_follower.proofs.work.relax_down.Given as goal

abbrev pub invariant-relaxations : goal.invariant-relaxations
invariant-relaxations l = IsLowerBest l.rows l.initial.best l.best

abbrev pub decreases-relaxations : goal.decreases-relaxations
decreases-relaxations l = height (cutoff_of l.best)
