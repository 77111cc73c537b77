use Rattle.bl_whole.proofs.SumLemmas.{sum_below_more, sum_below-agree, sum_below-add, sum_below-scale, sum_below-split}
use Rattle.bl_whole.proofs.SumLemmas.{sum_below-exchange, sum_below_monotone, sum_below_picked}
use Rattle.bl_whole.proofs.laws.sum_laws.Goals as goal

pub returns : goal.returns
returns c = record {
  more = sum_below_more;
  agree = sum_below-agree;
  added = sum_below-add;
  scaled = sum_below-scale;
  parts = sum_below-split;
  exchange = sum_below-exchange;
  monotone = sum_below_monotone;
  picked = sum_below_picked;
}
