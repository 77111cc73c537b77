use Rattle.std.proofs.Common.{◌+◌}
use Rattle.bl_frac.proofs.order.+compare_ratios.Given as goal

abbrev pub decreases-compare_ratios : goal.decreases-compare_ratios
decreases-compare_ratios l = l.q + l.s
