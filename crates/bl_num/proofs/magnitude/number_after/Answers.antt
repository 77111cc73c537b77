use Rattle.std.proofs.Common.{arith}
use Rattle.std.proofs.lemmas.Str.Parse.{digit_at}
use Rattle.bl_num.proofs.Decimals.{digit_value-digit, after-more}
use Rattle.bl_num.proofs.magnitude.number_after.Goals as goal

pub overflow_mul-number : goal.overflow_mul-number
overflow_mul-number c = omega arith

pub overflow_sub-digit : goal.overflow_sub-digit
overflow_sub-digit c =
    let range = digit_at c.args.digits.now c.loop-digit.digit-index c.requires.digits c.loop-digit-test.true in
    omega (arith, range.0)

pub loop-digit-preserved : goal.loop-digit-preserved
loop-digit-preserved c =
    let range = digit_at c.args.digits.now c.loop-digit.digit-index c.requires.digits c.loop-digit-test.true in
    let digit = digit_value-digit _ range in
    let more = after-more c.args.front c.args.digits.now c.loop-digit.digit-index c.loop-digit-test.true in
    omega (arith, c.min-number.ensures, more, digit, c.loop-digit.invariant)
