use Rattle.std.proofs.Common.{length, pos}
use Rattle.bl_simplex.specs.Rationals.{common_denominator}
use Rattle.bl_simplex.specs.Closing.{cost_multiplier}
use Rattle.bl_tableau.specs.Runs.{current}
use Rattle.bl_licence.specs.Steps.{AreWhole}
use Rattle.bl_relax.proofs.Multipliers.{no_proof, proof_of, weight_read}
use Rattle.bl_relax.proofs.finish.cost_proof.Goals as goal

pub returns-in-Some : goal.returns-in-Some
returns-in-Some c =
    let q = c.args.tableau.now.problem in
    let f = cost_multiplier q (current c.args.tableau.now) in
    let fs = c.in_ok-multipliers.multipliers.items in
    let whole : AreWhole c.deref.result.now c.in-Some.common c.in-Some.mult.items =
    rw c.in-Some.is at c.in_ok-common.ensures in
    proof_of q f fs c.deref.result.now c.in-Some.common c.in-Some.mult.items
    (pos (common_denominator (length q.rows) f)) _ c.in_ok-multipliers.ensures c.deref.ensures.value whole
    (weight_read q f fs c.deref.result.now c.in-Some.common c.in-Some.mult.items c.in_ok-multipliers.ensures
    c.deref.ensures.value whole) c.new.ensures

pub returns : goal.returns
returns c =
    let q = c.args.tableau.now.problem in
    let f = cost_multiplier q (current c.args.tableau.now) in
    no_proof q f c.in_ok-multipliers.multipliers.items c.deref.result.now c.in_ok-multipliers.ensures
    c.deref.ensures.value (rw c.in-None.is at c.in_ok-common.ensures)
