use Rattle.std.proofs.Common.{arith}
use Rattle.std.proofs.Math.Facts.{to_z-of_z}
use Rattle.bl_mps_model.proofs.Tables.{faults_found, faults_more, faults_none}
use Rattle.bl_mps_model.proofs.whole.bounds_faults.Goals as goal

pub returns-in-Some : goal.returns-in-Some
returns-in-Some c = faults_found c.args.default c.loop-column.column c.args.bounds.now _ c.in-Some.rule (omega arith)
    (rw (to_z-of_z c.ranges.default) at c.in-Some.ensures) (rw (to_z-of_z c.ranges.default) at c.loop-column.invariant)

pub loop-column-preserved : goal.loop-column-preserved
loop-column-preserved c =
    rw (to_z-of_z c.ranges.default)
    (faults_more c.args.default c.loop-column.column c.args.bounds.now _ (omega arith)
    (rw (to_z-of_z c.ranges.default) at c.in_default.ensures)
    (rw (to_z-of_z c.ranges.default) at c.loop-column.invariant))

pub returns : goal.returns
returns c = faults_none c.args.default c.loop-column.column c.args.bounds.now (omega arith)
    (rw (to_z-of_z c.ranges.default) at c.loop-column.invariant)
