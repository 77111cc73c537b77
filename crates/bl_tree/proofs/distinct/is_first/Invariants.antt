use Rattle.std.proofs.Common.{◌≢◌, ℕ, ◌<◌}
use Rattle.bl_cut_terms.specs.NoGoods.{cut_of}
use Rattle.bl_cut.specs.Cuts.{cut_at}
use Rattle.bl_tree.proofs.distinct.is_first.Given as goal

abbrev pub invariant-loop-k : goal.invariant-loop-k
invariant-loop-k l = (i : ℕ) → i < l.k → cut_of (cut_at l.cuts i) ≢ cut_of (cut_at l.cuts l.place)
