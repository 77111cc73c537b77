use Rattle.std.proofs.Common.{pos, refl}
use Rattle.bl_simplex.specs.Closing.{row_multiplier}
use Rattle.bl_tableau.specs.Runs.{current}
use Rattle.bl_relax.proofs.Multipliers.{no_proof, proof_of}
use Rattle.bl_relax.proofs.finish.row_proof.Goals as goal

pub returns-in-Some : goal.returns-in-Some
returns-in-Some c =
    let q = c.args.tableau.now.problem in
    let f = row_multiplier q (current c.args.tableau.now) c.args.row in
    proof_of q f c.in_ok-multipliers.multipliers.items c.deref.result.now c.in-Some.field-0-0 c.in-Some.mult.items
    (pos 0) _ c.in_ok-multipliers.ensures c.deref.ensures.value (rw c.in-Some.is at c.in_ok-mult.ensures) refl
    c.new.ensures

pub returns : goal.returns
returns c =
    let q = c.args.tableau.now.problem in
    let f = row_multiplier q (current c.args.tableau.now) c.args.row in
    no_proof q f c.in_ok-multipliers.multipliers.items c.deref.result.now c.in_ok-multipliers.ensures
    c.deref.ensures.value (rw c.in-None.is at c.in_ok-mult.ensures)
