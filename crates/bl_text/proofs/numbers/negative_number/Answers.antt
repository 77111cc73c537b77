use Rattle.std.proofs.Common.{arith}
use Rattle.bl_text.proofs.Plain.{negative-none, negative-zero, negative-wide}
use Rattle.bl_text.proofs.numbers.negative_number.Goals as goal
use Rattle.bl_text.proofs.numbers.negative_number.Goals.{then-magnitude-eq0-via-then-magnitude-eq0}
use Rattle.bl_text.proofs.numbers.negative_number.Goals.{then-magnitude-eq0-via-else-magnitude-eq0+then-magnitude}

pub returns-in_err-magnitude-clause-none : goal.returns-in_err-magnitude-clause-none
returns-in_err-magnitude-clause-none c =
    rw c.from_residual.ensures (negative-none c.args.digits.now c.in_err-magnitude.ensures.none)

pub returns-then-magnitude-eq0-clause-none : goal.returns-then-magnitude-eq0-clause-none
returns-then-magnitude-eq0-clause-none c =
    let spelled = c.in_ok-magnitude.ensures.some in
    elim c.then-magnitude-eq0.branch [
      | then-magnitude-eq0-via-then-magnitude-eq0 w ↦
          negative-zero c.args.digits.now c.in_ok-magnitude.magnitude (omega arith) spelled.1
      | then-magnitude-eq0-via-else-magnitude-eq0+then-magnitude w ↦
          negative-wide c.args.digits.now c.in_ok-magnitude.magnitude spelled.0 (omega arith) spelled.1
    ]
