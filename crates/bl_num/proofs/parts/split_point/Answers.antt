use Rattle.std.proofs.Common.{◌∙◌}
use Rattle.std.proofs.lemmas.List.{take_rest}
use Rattle.bl_num.specs.Numbers.{is_point}
use Rattle.bl_num.proofs.Splits.{before_first-at, after_first-at, before_first-none, after_first-none}
use Rattle.bl_num.proofs.parts.split_point.Goals as goal

pub returns-in-Some-clause-whole : goal.returns-in-Some-clause-whole
returns-in-Some-clause-whole c = before_first-at is_point c.args.mantissa.now c.in-Some.at c.in-Some.ensures

pub returns-in-Some-clause-fraction : goal.returns-in-Some-clause-fraction
returns-in-Some-clause-fraction c =
    take_rest c.args.mantissa.now _ ∙ after_first-at is_point c.args.mantissa.now c.in-Some.at c.in-Some.ensures

pub returns-in-None-clause-whole : goal.returns-in-None-clause-whole
returns-in-None-clause-whole c = before_first-none is_point c.args.mantissa.now c.in-None.ensures

pub returns-in-None-clause-fraction : goal.returns-in-None-clause-fraction
returns-in-None-clause-fraction c = after_first-none is_point c.args.mantissa.now c.in-None.ensures
