use Rattle.std.proofs.Common.{ℕ, List, sym, ap, subst, ◌∙◌}
use Rattle.std.specs.Option.{option_map}
use Rattle.std.specs.Str.Parse.{digits_value}
use Rattle.bl_num.specs.Numbers.{Parts, magnitude_of}
use Rattle.bl_num.specs.Capped.{capped, raised_magnitude, lowered_magnitude}
use Rattle.bl_num.proofs.Magnitudes.{HasDigits, has_digits, magnitude-lowered, magnitude-raised}
use Rattle.bl_num.proofs.magnitude.magnitude.Goals as goal

pub lowered_magnitude-requires-clause-whole : goal.lowered_magnitude-requires-clause-whole
lowered_magnitude-requires-clause-whole c =
    (subst HasDigits (sym c.parts.view_is) (has_digits c.args.parts.now c.requires)).whole_digits

pub lowered_magnitude-requires-clause-fraction : goal.lowered_magnitude-requires-clause-fraction
lowered_magnitude-requires-clause-fraction c =
    (subst HasDigits (sym c.parts.view_is) (has_digits c.args.parts.now c.requires)).fraction_digits

pub lowered_magnitude-requires-clause-power : goal.lowered_magnitude-requires-clause-power
lowered_magnitude-requires-clause-power c =
    rw (c.without_sign-power.ensures)
    (subst HasDigits (sym c.parts.view_is) (has_digits c.args.parts.now c.requires)).power_digits

pub raised_magnitude-requires-clause-whole : goal.raised_magnitude-requires-clause-whole
raised_magnitude-requires-clause-whole c =
    (subst HasDigits (sym c.parts.view_is) (has_digits c.args.parts.now c.requires)).whole_digits

pub raised_magnitude-requires-clause-fraction : goal.raised_magnitude-requires-clause-fraction
raised_magnitude-requires-clause-fraction c =
    (subst HasDigits (sym c.parts.view_is) (has_digits c.args.parts.now c.requires)).fraction_digits

pub raised_magnitude-requires-clause-power : goal.raised_magnitude-requires-clause-power
raised_magnitude-requires-clause-power c =
    rw (c.without_sign-power.ensures)
    (subst HasDigits (sym c.parts.view_is) (has_digits c.args.parts.now c.requires)).power_digits

pub returns-then-starts_with_minus : goal.returns-then-starts_with_minus
returns-then-starts_with_minus c =
    let parts : Parts = record {
      negative = c.parts.inside.negative;
      whole = c.parts.inside.whole.now;
      fraction =
          c.parts.inside.fraction.now;
      exponent = c.parts.inside.exponent.now;
    } in
    c.lowered_magnitude.ensures
    ∙ ap (λ (power : List ℕ). option_map capped (lowered_magnitude parts.whole parts.fraction (digits_value 10 power)))
    c.without_sign-power.ensures
    ∙ ap (option_map capped) (magnitude-lowered parts (sym c.starts_with_minus.ensures ∙ c.if-starts_with_minus.true))
    ∙ ap (λ (p : Parts). option_map capped (magnitude_of p)) c.parts.view_is

pub returns-else-starts_with_minus : goal.returns-else-starts_with_minus
returns-else-starts_with_minus c =
    let parts : Parts = record {
      negative = c.parts.inside.negative;
      whole = c.parts.inside.whole.now;
      fraction =
          c.parts.inside.fraction.now;
      exponent = c.parts.inside.exponent.now;
    } in
    c.raised_magnitude.ensures
    ∙ ap (λ (power : List ℕ). option_map capped (raised_magnitude parts.whole parts.fraction (digits_value 10 power)))
    c.without_sign-power.ensures
    ∙ ap (option_map capped) (magnitude-raised parts (sym c.starts_with_minus.ensures ∙ c.if-starts_with_minus.false))
    ∙ ap (λ (p : Parts). option_map capped (magnitude_of p)) c.parts.view_is
