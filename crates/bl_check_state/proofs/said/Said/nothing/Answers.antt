use Rattle.std.proofs.Common.{refl, arith}
use Rattle.bl_check_state.proofs.said.Said.nothing.Goals as goal

-- src/said.rt:21:5
pub returns : goal.returns
returns c p = record {
  statement = refl;
  rising = λ i j d lt b. absurd (omega arith);
  answers = c.new.ensures;
  cuts = c.new-2.ensures p;
}
