use Rattle.std.proofs.Common.{arith}
use Rattle.bl_text.proofs.Digits.{digits_step}
use Rattle.bl_text.proofs.numbers.digits_value.Goals as goal

pub overflow_mul-value : goal.overflow_mul-value
overflow_mul-value c = let s =
    digits_step c.args.digits.now c.loop-digit.digit-index c.requires.digits (omega arith) c.requires.fits in
    omega (arith, s.value, s.small)

pub overflow_sub-digit : goal.overflow_sub-digit
overflow_sub-digit c = let s =
    digits_step c.args.digits.now c.loop-digit.digit-index c.requires.digits (omega arith) c.requires.fits in
    omega (arith, s.is_digit)

pub overflow_add-value : goal.overflow_add-value
overflow_add-value c = let s =
    digits_step c.args.digits.now c.loop-digit.digit-index c.requires.digits (omega arith) c.requires.fits in
    omega (arith, s.value, s.small)

pub loop-digit-preserved : goal.loop-digit-preserved
loop-digit-preserved c = let s =
    digits_step c.args.digits.now c.loop-digit.digit-index c.requires.digits (omega arith) c.requires.fits in
    omega (arith, s.value, s.small)
