use Rattle.std.proofs.Common.{arith}
use Rattle.bl_text.proofs.Plain.{unsigned-wide}
use Rattle.bl_text.proofs.numbers.unsigned_number.Goals as goal

pub returns-then-value-clause-none : goal.returns-then-value-clause-none
returns-then-value-clause-none c =
    let spelled = c.in_ok-value.ensures.some in
    unsigned-wide c.args.digits.now c.in_ok-value.value spelled.0 (omega arith) spelled.1
