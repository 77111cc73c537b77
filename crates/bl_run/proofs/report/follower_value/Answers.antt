use Rattle.std.proofs.Common.{rules}
use Rattle.std.specs.Prelude.{◌*ℤ◌, FitsSigned}
use Rattle.std.specs.Int.{w64}
use Rattle.std.proofs.lemmas.Int.{to_z-of_z}
use Rattle.bl_terms.specs.Programs.{follower_at}
use Rattle.bl_run.proofs.SolveLemmas.{follower_fits}
use Rattle.bl_run.proofs.report.follower_value.Goals as goal

pub overflow_mul-result : goal.overflow_mul-result
overflow_mul-result c =
    let value-fits : FitsSigned w64 c.follower_of.result = search rules in
    let sense-fits : FitsSigned w64 c.sense.result = search rules in
    rw (
      to_z-of_z w64 c.follower_of.result value-fits,
      to_z-of_z w64 c.sense.result sense-fits,
      c.follower_of.ensures,
      c.sense.ensures.sense,
    ) (follower_fits c.args.model.now c.args.point.now c.sense.ensures.model c.requires)

pub returns : goal.returns
returns c =
    let value-fits : FitsSigned w64 c.follower_of.result = search rules in
    let sense-fits : FitsSigned w64 c.sense.result = search rules in
    rw (
      to_z-of_z w64 c.follower_of.result value-fits,
      to_z-of_z w64 c.sense.result sense-fits,
      c.follower_of.ensures,
      c.sense.ensures.sense,
    )
    (to_z-of_z w64 (follower_at c.args.model.now c.args.point.now *ℤ c.args.model.now.sense)
    (follower_fits c.args.model.now c.args.point.now c.sense.ensures.model c.requires))
