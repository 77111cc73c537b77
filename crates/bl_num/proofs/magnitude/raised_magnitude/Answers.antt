use Rattle.std.proofs.Common.{ℕ, sym, ap, ◌∙◌, ◌-◌, ◌*◌, ◌^◌, ◌++◌, arith, Some}
use Rattle.std.specs.Str.Parse.{digits_value, digits_value_after}
use Rattle.bl_text.proofs.Digits.{AllDigits-take}
use Rattle.bl_num.specs.Capped.{capped}
use Rattle.bl_num.proofs.Capping.{capped-after, capped-times}
use Rattle.bl_num.proofs.Decimals.{after-append}
use Rattle.bl_num.proofs.Moves.{AreCut, raised-zeros, raised-rest}
use Rattle.bl_num.proofs.magnitude.raised_magnitude.Goals as goal

pub returns-then-not-are_zeros : goal.returns-then-not-are_zeros
returns-then-not-are_zeros c =
    let cut : AreCut c.args.fraction.now c.split_at.result.0.now c.split_at.result.1.now c.min-moved.result =
    record { front_is = c.split_at.ensures.front; back_is = c.split_at.ensures.back } in
    raised-rest c.args.whole.now c.args.fraction.now _ _ _ _ _ c.requires.fraction
    (omega arith) c.number_after-power.ensures c.min-moved.ensures cut
    (sym c.are_zeros.ensures ∙ c.if-not-are_zeros.true)

pub number_after-number-requires-clause-digits : goal.number_after-number-requires-clause-digits
number_after-number-requires-clause-digits c =
    rw (c.split_at.ensures.front) (AllDigits-take _ c.args.fraction.now c.requires.fraction)

pub returns : goal.returns
returns c =
    let cut : AreCut c.args.fraction.now c.split_at.result.0.now c.split_at.result.1.now c.min-moved.result =
    record { front_is = c.split_at.ensures.front; back_is = c.split_at.ensures.back } in
    let front = c.split_at.result.0.now in
    let number = c.number_after-number.ensures
    ∙ ap (λ (n : ℕ). capped (digits_value_after 10 n front)) c.number_after.ensures
    ∙ capped-after front (digits_value 10 c.args.whole.now)
    ∙ ap capped (sym (after-append 0 c.args.whole.now front)) in
    let more = c.number_after-power.result - c.min-moved.result in
    ap (λ (n : ℕ). Some n)
    (c.raised.ensures ∙ ap (λ (n : ℕ). capped (n * 10 ^ more)) number
    ∙ capped-times (digits_value 10 (c.args.whole.now ++ front)) more)
    ∙ raised-zeros c.args.whole.now c.args.fraction.now _ _ _ _ _ c.requires.fraction
    (omega arith) c.number_after-power.ensures c.min-moved.ensures cut
    (sym c.are_zeros.ensures ∙ c.if-not-are_zeros.false)
