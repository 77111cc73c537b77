use Rattle.std.proofs.Common.{ℕ, sym, ap, ◌∙◌, ◌-◌, arith, length, inl, inr, Some}
use Rattle.bl_text.proofs.Digits.{AllDigits-take}
use Rattle.bl_num.proofs.Moves.{AreCut, lowered-zeros, lowered-rest}
use Rattle.bl_num.proofs.magnitude.lowered_magnitude.Goals as goal

pub returns-then-not-are_zeros : goal.returns-then-not-are_zeros
returns-then-not-are_zeros c =
    let cut : AreCut c.args.whole.now c.split_at.result.0.now c.split_at.result.1.now
    (length c.args.whole.now - c.min-moved.result) =
    record { front_is = c.split_at.ensures.front; back_is = c.split_at.ensures.back } in
    lowered-rest c.args.whole.now c.args.fraction.now _ _ _ _ _ c.requires.whole c.requires.fraction
    (omega arith) c.number_after-power.ensures c.min-moved.ensures cut
    (elim c.then-not-are_zeros.branch [
      | goal.then-not-are_zeros-via-then-not-are_zeros w ↦ inl (sym c.are_zeros.ensures ∙ w.if-not-are_zeros.true)
      | goal.then-not-are_zeros-via-else-not-are_zeros+then-not-are_zeros-2 w ↦
          inr (sym w.are_zeros-else-not-are_zeros.ensures ∙ w.if-not-are_zeros-2.true)
    ])

pub number_after-requires-clause-digits : goal.number_after-requires-clause-digits
number_after-requires-clause-digits c =
    rw (c.split_at.ensures.front) (AllDigits-take _ c.args.whole.now c.requires.whole)

pub returns : goal.returns
returns c =
    let cut : AreCut c.args.whole.now c.split_at.result.0.now c.split_at.result.1.now
    (length c.args.whole.now - c.min-moved.result) =
    record { front_is = c.split_at.ensures.front; back_is = c.split_at.ensures.back } in
    ap (λ (n : ℕ). Some n) c.number_after.ensures
    ∙ lowered-zeros c.args.whole.now c.args.fraction.now _ _ _ _ _ c.requires.whole c.requires.fraction
    (omega arith) c.number_after-power.ensures c.min-moved.ensures cut
    (sym c.are_zeros.ensures ∙ c.if-not-are_zeros.false)
    (sym c.are_zeros-else-not-are_zeros.ensures ∙ c.if-not-are_zeros-2.false)
