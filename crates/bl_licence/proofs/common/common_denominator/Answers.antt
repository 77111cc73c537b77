use Rattle.std.proofs.Common.{◌≡◌, ℕ, ◌+◌, ◌<◌, ◌≤◌, length, sym, ap, ◌∙◌, arith}
use Rattle.std.proofs.lemmas.List.{get_or_read}
use Rattle.bl_simplex.specs.Fractions.{Fraction, whole_fraction}
use Rattle.bl_simplex.specs.Rationals.{fraction_at}
use Rattle.bl_licence.proofs.Multiples.{common_passes, common_next, dens_positive, den_read, lcm_positive_at}
use Rattle.bl_licence.proofs.Multiples.{zero_fraction}
use Rattle.bl_licence.proofs.common.common_denominator.Goals as goal
use Rattle.bl_licence.proofs.common.common_denominator.Goals.{After-unsigned_abs}

den_is : (c : After-unsigned_abs) → c.unsigned_abs.result ≡ (fraction_at c.args.fractions.now c.loop-k.k).den
den_is c =
    den_read c.parts-den.result c.index-fractions-k.result.num c.index-fractions-k.result.den c.unsigned_abs.result
    c.parts-den.ensures.lowest_terms.den_narrow c.parts-den.ensures.value c.unsigned_abs.ensures.value
    ∙ ap (λ f. f.den) (get_or_read c.args.fractions.now c.loop-k.k c.index-fractions-k.result c.loop-k-test.true
    c.index-fractions-k.is zero_fraction)

pub returns-in_default : goal.returns-in_default
returns-in_default c =
    common_passes (length c.args.fractions.now) _ c.loop-k.common c.unsigned_abs.result
    (fraction_at c.args.fractions.now) c.loop-k.k c.loop-k-test.true
    (dens_positive c.args.fractions.now c.requires) c.loop-k.invariant.value
    (den_is c.before.before) c.in_default.ensures

pub loop-k-preserved : goal.loop-k-preserved
loop-k-preserved c =
    let den = den_is c.before.before in
    let value = c.in-Some.ensures.1
    ∙ common_next c.loop-k.common c.unsigned_abs.result
    (fraction_at c.args.fractions.now) c.loop-k.k c.loop-k.invariant.value den in
    record {
      value = value;
      positive = lcm_positive_at c.loop-k.common c.unsigned_abs.result c.in-Some.next c.in-Some.ensures.1
          c.loop-k.invariant.positive
          (let p = dens_positive c.args.fractions.now c.requires c.loop-k.k c.loop-k-test.true in omega arith);
      small = let h = c.in-Some.ensures.0 in let e = c.in-Some.ensures.1 in omega arith;
    }
