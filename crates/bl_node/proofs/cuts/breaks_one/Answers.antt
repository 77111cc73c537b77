use Rattle.std.proofs.Common.{arith}
use Rattle.std.proofs.lemmas.Bool.{false≢true}
use Rattle.bl_node.proofs.cuts.breaks_one.Goals as goal

pub returns : goal.returns
returns c = (
  λ t. absurd (false≢true t),
  λ b. absurd (c.loop-place.invariant b.0
      (let there = b.1.there in omega (arith, c.count-place-end.ensures.value)) b.1),
)
