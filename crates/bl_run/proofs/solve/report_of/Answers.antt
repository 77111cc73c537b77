use Rattle.std.proofs.Common.{◌≡◌, refl, rules}
use Rattle.std.specs.Prelude.{FitsSigned, Some}
use Rattle.std.specs.Int.{w64}
use Rattle.std.proofs.lemmas.Int.{to_z-of_z}
use Rattle.bl_run.proofs.solve.report_of.Goals as goal

pub returns : goal.returns
returns c =
    let best : Some c.in-Some.best.now ≡ c.args.book.now.ledger.book.best = cc in
    let value-fits : FitsSigned w64 c.value_of-value.result = search rules in
    let follower-fits : FitsSigned w64 c.follower_value-follower.result = search rules in
    let point = c.point-point.ensures.value in
    let value = c.value_of-value.ensures in
    let follower = c.follower_value-follower.ensures in
    rw (← best) (record {
      same = refl;
      spelled =
          rw (
            to_z-of_z w64 c.value_of-value.result value-fits,
            to_z-of_z w64 c.follower_value-follower.result follower-fits,
            value,
            follower,
            point,
            c.deref.ensures,
            c.deref-2.ensures,
            c.model-model.ensures.value,
          )
          at c.in_ok-text.ensures;
    })
