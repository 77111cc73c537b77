use Rattle.std.proofs.Common.{◌≡◌, ◌*◌, ◌/◌, ◌≤◌, arith}
use Rattle.bl_licence.proofs.Multiples.{lcm_is, lcm_least_right}
use Rattle.bl_licence.proofs.common.lcm_within_limit.Goals as goal

pub returns-then-b-gt-LIMIT : goal.returns-then-b-gt-LIMIT
returns-then-b-gt-LIMIT c = λ h. let l = lcm_least_right c.args.a c.args.b c.requires.first c.requires.second in
    omega arith

pub returns-then-multiple-gt-LIMIT : goal.returns-then-multiple-gt-LIMIT
returns-then-multiple-gt-LIMIT c = λ h. let e =
    lcm_is c.args.a c.args.b c.gcd-divisor.result c.gcd-divisor.ensures.value in omega arith

pub returns : goal.returns
returns c = let e = lcm_is c.args.a c.args.b c.gcd-divisor.result c.gcd-divisor.ensures.value in (omega arith, e)
