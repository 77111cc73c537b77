use Rattle.std.proofs.Common.{arith, rules}
use Rattle.bl_tree.proofs.Links.{link_by_numbers}
use Rattle.bl_tree.proofs.problem.is_link_at.Goals as goal

pub returns : goal.returns
returns c = (
  λ _. link_by_numbers c.args.link.now c.args.lo.now c.args.links.now (omega arith)
      (λ k b. c.loop-j.invariant k (omega arith)),
  λ _. search rules,
)
