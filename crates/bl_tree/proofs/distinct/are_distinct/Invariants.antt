use Rattle.std.proofs.Common.{◌≢◌, ℕ, ◌<◌}
use Rattle.bl_cut_terms.specs.NoGoods.{cut_of}
use Rattle.bl_cut.specs.Cuts.{cut_at}
use Rattle.bl_tree.proofs.distinct.are_distinct.Given as goal

abbrev pub invariant-loop-place : goal.invariant-loop-place
invariant-loop-place l =
    (j : ℕ) → j < l.place → (i : ℕ) → i < j → cut_of (cut_at l.cuts i) ≢ cut_of (cut_at l.cuts j)
