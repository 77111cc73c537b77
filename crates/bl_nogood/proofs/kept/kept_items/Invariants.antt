use Rattle.std.proofs.Common.{◌≡◌, take, map}
use Rattle.bl_cut_terms.specs.Adopting.{item_at}
use Rattle.bl_nogood.proofs.kept.kept_items.Given as goal

abbrev pub invariant-loop-number : goal.invariant-loop-number
invariant-loop-number l = l.items.items ≡ take l.number-index (map (λ i. item_at l.candidates i) l.kept)
