use Rattle.bl_pool.proofs.Puts.{first, stays, others, answer}
use Rattle.bl_pool.proofs.laws.keeps_the_first.Goals as goal

pub returns : goal.returns
returns c = record { first = first; stays = stays; others = others; answer = answer }
