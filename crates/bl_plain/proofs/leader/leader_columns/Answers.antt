use Rattle.std.proofs.Common.{ap, arith, length, get_or, ◌<◌}
use Rattle.std.proofs.lemmas.Bool.Decides.{Decides-eqb}
use Rattle.bl_terms.specs.Programs.{columns}
use Rattle.bl_plain.proofs.LeaderLemmas.{IsSplit-found, IsSplit-kept}
use Rattle.bl_plain.proofs.leader.leader_columns.Goals as goal
use Rattle.bl_plain.proofs.leader.leader_columns.Goals.{then-not-contains+in_ok-push, else-not-contains}

pub loop-column-preserved : goal.loop-column-preserved
loop-column-preserved c =
    let n = c.loop-column.column-counter in
    let below : n < columns c.args.model.now = omega (arith, c.loop-column-test.true, ap length c.lo.ensures.lo) in
    elim c.if-not-contains.branch [
      | then-not-contains+in_ok-push w ↦
          rw (w.columns-is, w.in_ok-push.ensures.items)
          (IsSplit-found (columns c.args.model.now) n c.loop-column.columns.items c.follower-follower.result.now below
          c.loop-column.invariant)
      | else-not-contains w ↦
          rw w.columns-is (IsSplit-kept
          (columns c.args.model.now) n c.loop-column.columns.items c.follower-follower.result.now
          (let at = w.if-not-contains.ensures.cases in
          (at.0, at.1, (Decides-eqb (get_or c.follower-follower.result.now at.0 n) n).0 (at.2 n)))
          c.loop-column.invariant)
    ]

pub returns-clause-all : goal.returns-clause-all
returns-clause-all c =
    λ k below. rw c.follower-follower.ensures.follower at
    (c.loop-column.invariant.all k (omega (arith, below, c.loop-column-test.false, ap length c.lo.ensures.lo)))
