use Rattle.std.proofs.Common.{◌≡◌, sym, ◌∙◌, arith}
use Rattle.bl_simplex.specs.Gcd.{gcd as gcd_of}
use Rattle.bl_frac.proofs.GcdLaws.{gcd-mod, gcd-zero, gcd_one, gcd_positive, gcd-le}
use Rattle.bl_frac.proofs.divisor.gcd.Goals as goal

pub returns-then-b-eq1-clause-value : goal.returns-then-b-eq1-clause-value
returns-then-b-eq1-clause-value c =
    let e = gcd_one c.args.a in
    cc

pub returns-in-Ok-Ok-clause-positive : goal.returns-in-Ok-Ok-clause-positive
returns-in-Ok-Ok-clause-positive c h =
    let p = c.in-Ok-Ok.ensures in
    let q = c.in-Ok-Ok.ensures' in
    let same : c.from.result ≡ gcd_of c.args.a c.args.b = cc in
    omega (arith, gcd_positive c.args.a c.args.b h)

pub returns-in-Ok-Ok-clause-bound : goal.returns-in-Ok-Ok-clause-bound
returns-in-Ok-Ok-clause-bound c h =
    let p = c.in-Ok-Ok.ensures in
    let q = c.in-Ok-Ok.ensures' in
    let same : c.from.result ≡ gcd_of c.args.a c.args.b = cc in
    omega (arith, gcd-le c.args.a c.args.b h)

pub loop-less-preserved : goal.loop-less-preserved
loop-less-preserved c = sym (gcd-mod c.loop-less.greater c.loop-less.less) ∙ c.loop-less.invariant

pub returns-clause-value : goal.returns-clause-value
returns-clause-value c =
    let e = gcd-zero c.loop-less.greater in
    cc

pub returns-clause-positive : goal.returns-clause-positive
returns-clause-positive c h =
    let e = gcd-zero c.loop-less.greater in
    let same : c.loop-less.greater ≡ gcd_of c.args.a c.args.b = cc in
    omega (arith, gcd_positive c.args.a c.args.b h)

pub returns-clause-bound : goal.returns-clause-bound
returns-clause-bound c h =
    let e = gcd-zero c.loop-less.greater in
    let same : c.loop-less.greater ≡ gcd_of c.args.a c.args.b = cc in
    omega (arith, gcd-le c.args.a c.args.b h)
