use Rattle.std.proofs.Common.{arith}
use Rattle.bl_core.proofs.ReadLemmas.{divided_told}
use Rattle.bl_core.proofs.tables.split_at.Goals as goal

pub returns-in-Some : goal.returns-in-Some
returns-in-Some c =
    rw c.in-Split.is (
      divided_told c.args.journal.now c.in-Split.event c.in-Split.low c.in-Some.halves.now c.in-Some.ensures,
      omega arith,
    )
