use Rattle.std.proofs.Common.{sym, arith}
use Rattle.bl_text.proofs.Digits.{AllDigits-from_test, digits_value-lt_16}
use Rattle.bl_text.proofs.numbers.numeral_up_to.Goals as goal

pub digits_value-requires-clause-digits : goal.digits_value-requires-clause-digits
digits_value-requires-clause-digits c = AllDigits-from_test c.args.digits.now (sym c.if-not-are_digits.ensures)

pub returns-clause-small : goal.returns-clause-small
returns-clause-small c = λ few.
    rw c.digits_value.ensures
    (digits_value-lt_16 c.args.digits.now (AllDigits-from_test c.args.digits.now (sym c.if-not-are_digits.ensures))
    (omega arith))
