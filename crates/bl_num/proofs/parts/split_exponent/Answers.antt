use Rattle.std.proofs.Common.{◌∙◌, ap, ◌∷◌, [], ◌+◌, drop, Option, ℕ}
use Rattle.std.specs.Option.{option_map_or}
use Rattle.std.proofs.lemmas.List.{take_rest}
use Rattle.bl_num.specs.Numbers.{is_mark}
use Rattle.bl_num.proofs.Splits.{before_first-at, before_first-none}
use Rattle.bl_num.proofs.parts.split_exponent.Goals as goal

pub returns-in-Some-clause-mantissa : goal.returns-in-Some-clause-mantissa
returns-in-Some-clause-mantissa c = before_first-at is_mark c.args.body.now c.in-Some.at c.in-Some.ensures

pub returns-in-Some-clause-exponent : goal.returns-in-Some-clause-exponent
returns-in-Some-clause-exponent c =
    take_rest c.args.body.now _
    ∙ ap (λ (o : Option ℕ). option_map_or (λ at. drop (at + 1) c.args.body.now) o (48 ∷ [])) c.in-Some.ensures

pub returns-in-None-clause-mantissa : goal.returns-in-None-clause-mantissa
returns-in-None-clause-mantissa c = before_first-none is_mark c.args.body.now c.in-None.ensures

pub returns-in-None-clause-exponent : goal.returns-in-None-clause-exponent
returns-in-None-clause-exponent c =
    ap (λ (o : Option ℕ). option_map_or (λ at. drop (at + 1) c.args.body.now) o (48 ∷ [])) c.in-None.ensures
