use Rattle.std.proofs.Common.{sym}
use Rattle.bl_text.proofs.Plain.{plain-if_some, plain-if_none, plain-zero}
use Rattle.bl_text.proofs.numbers.plain_numeral.Goals as goal

pub returns-then-has_leading_zero-clause-none : goal.returns-then-has_leading_zero-clause-none
returns-then-has_leading_zero-clause-none c = plain-zero c.args.digits.now (sym c.if-has_leading_zero.ensures)

pub returns-clause-some : goal.returns-clause-some
returns-clause-some c = plain-if_some c.args.digits.now _ c.if-has_leading_zero.ensures c.numeral_up_to.ensures.value

pub returns-clause-none : goal.returns-clause-none
returns-clause-none c = plain-if_none c.args.digits.now _ c.numeral_up_to.ensures.value
