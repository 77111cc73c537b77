use Rattle.std.proofs.Common.{◌≡◌, ◌*◌, ◌/◌, ◌^◌, ◌<◌, ◌≤◌, ◌*ℤ◌, to_z, of_z, FitsSigned, unsigned_abs, sym, ap, ◌∙◌}
use Rattle.std.proofs.Common.{subst, arith}
use Rattle.std.specs.Int.{w128}
use Rattle.bl_limits.specs.declared.TheConstants.{MAX_NUMBER}
use Rattle.bl_whole.specs.Within.{IsWithin}
use Rattle.bl_whole.proofs.WithinLemmas.{within_more, fits_from_within}
use Rattle.bl_simplex.specs.Rationals.{times_multiple}
use Rattle.bl_frac.proofs.Signed.{signed_back}
use Rattle.bl_licence.proofs.Distances.{distance_within, distance_read}
use Rattle.bl_licence.proofs.fractional.scaled_distance.Goals as goal
use Rattle.bl_licence.proofs.fractional.scaled_distance.Goals.{After-unsigned_abs}

within : (c : After-unsigned_abs) → IsWithin (2 * (MAX_NUMBER * 2 ^ 50)) (times_multiple c.args.common c.args.distance)
within c = within_more
    (distance_within c.args.distance
    (2 * MAX_NUMBER) c.args.common c.requires.multiple c.requires.small c.requires.least c.requires.most) (omega arith)

read : (c : After-unsigned_abs)
    → to_z w128 (of_z w128 c.parts-num.result.0) *ℤ to_z w128 (c.args.common / c.unsigned_abs.result)
    ≡ times_multiple c.args.common c.args.distance
read c = let r = c.parts-num.ensures.lowest_terms in
    distance_read c.parts-num.result c.args.distance c.unsigned_abs.result c.args.common r.num_narrow r.den_narrow
    c.parts-num.ensures.value c.unsigned_abs.ensures.value c.requires.small

value : (c : After-unsigned_abs)
    → to_z w128 (of_z w128
    (to_z w128 (of_z w128 c.parts-num.result.0) *ℤ to_z w128 (c.args.common / c.unsigned_abs.result)))
    ≡ times_multiple c.args.common c.args.distance
value c = ap (λ z. to_z w128 (of_z w128 z)) (read c)
    ∙ signed_back (times_multiple c.args.common c.args.distance) (let m = (within c).magnitude in omega arith)

pub overflow_mul-result : goal.overflow_mul-result
overflow_mul-result c = subst (FitsSigned w128) (sym (read c)) (fits_from_within w128 (within c) (omega arith))

pub returns-clause-value : goal.returns-clause-value
returns-clause-value c = value c

pub returns-clause-within : goal.returns-clause-within
returns-clause-within c = subst (IsWithin (2 * (MAX_NUMBER * 2 ^ 50))) (sym (value c)) (within c)
