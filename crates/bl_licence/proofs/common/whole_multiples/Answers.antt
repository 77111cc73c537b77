use Rattle.std.proofs.Common.{rules, ◌≡◌, ◌+◌, ◌<◌, ◌≤◌, ◌^◌, length, to_z, of_z, FitsSigned, sym, ap, ◌∙◌, subst}
use Rattle.std.proofs.Common.{arith}
use Rattle.std.specs.Int.{w64, ◌∣◌}
use Rattle.std.specs.Prelude.{unsigned_abs}
use Rattle.std.proofs.lemmas.Int.{to_z-of_z}
use Rattle.std.proofs.lemmas.List.{get_or_read}
use Rattle.bl_simplex.specs.Rationals.{fraction_at, common_denominator, times_multiple}
use Rattle.bl_licence.proofs.Multiples.{common_positive, common_divides, dens_positive, whole_more, zero_fraction}
use Rattle.bl_licence.proofs.common.whole_multiples.Goals as goal
use Rattle.bl_licence.proofs.common.whole_multiples.Goals.{After-index-fractions-k}

read : (c : After-index-fractions-k) → c.index-fractions-k.result ≡ fraction_at c.args.fractions.now c.loop-k.k
read c = get_or_read c.args.fractions.now c.loop-k.k c.index-fractions-k.result c.loop-k-test.true
    c.index-fractions-k.is zero_fraction

pub whole_multiple-requires-clause-positive : goal.whole_multiple-requires-clause-positive
whole_multiple-requires-clause-positive c =
    let p = common_positive (length c.args.fractions.now) (fraction_at c.args.fractions.now)
    (dens_positive c.args.fractions.now c.requires) in
    subst (λ n. 0 < n) (sym c.in-Some.ensures.1) p

pub whole_multiple-requires-clause-multiple : goal.whole_multiple-requires-clause-multiple
whole_multiple-requires-clause-multiple c =
    let d = common_divides (length c.args.fractions.now)
    (fraction_at c.args.fractions.now) c.loop-k.k c.loop-k-test.true in
    subst (λ n. c.index-fractions-k.result.den ∣ n) (sym c.in-Some.ensures.1)
    (subst (λ f. f.den ∣ common_denominator (length c.args.fractions.now) (fraction_at c.args.fractions.now))
    (sym (read c)) d)

pub loop-k-preserved : goal.loop-k-preserved
loop-k-preserved c =
    let fits : FitsSigned w64 c.in-Some-whole_multiple.number = search rules in
    let e = ap (times_multiple c.in-Some.common)
    (get_or_read c.args.fractions.now c.loop-k.k c.index-fractions-k.result c.loop-k-test.true
    c.index-fractions-k.is zero_fraction) in
    whole_more c.args.fractions.now c.in-Some.common c.loop-k.numbers.items _ c.loop-k.k _ c.loop-k.invariant
    c.in_ok-push.ensures.items (to_z-of_z w64 _ fits ∙ c.in-Some-whole_multiple.ensures.1 ∙ e)
    (subst (λ z. unsigned_abs z ≤ 2 ^ 50) e c.in-Some-whole_multiple.ensures.0)
