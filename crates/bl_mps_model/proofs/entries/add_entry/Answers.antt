use Rattle.std.proofs.Common.{FitsSigned}
use Rattle.std.specs.Int.{w64}
use Rattle.std.proofs.Math.Facts.{to_z-of_z}
use Rattle.bl_mps_model.proofs.Tables.{AreEntries_pushed}
use Rattle.bl_mps_model.proofs.entries.add_entry.Goals as goal

pub returns-in_ok-push-clause-new : goal.returns-in_ok-push-clause-new
returns-in_ok-push-clause-new c =
    let fits : FitsSigned w64 c.number_at-number.result = record { sfits = c.number_at-number.type_inv } in
    AreEntries_pushed c.args.row c.args.entries.now.items _ _ _ c.in_ok-push.ensures.items
    (to_z-of_z fits) c.requires.old (c.number_at-number.ensures.small c.requires.small)
