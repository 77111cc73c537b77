use Rattle.std.proofs.Common.{refl}
use Rattle.std.specs.Int.{w64}
use Rattle.std.proofs.lemmas.Int.{to_z-of_z}
use Rattle.bl_check_cuts.proofs.HeldLemmas.{den_kept}
use Rattle.bl_check_cuts.proofs.inverses.inverse.Goals as goal

pub returns : goal.returns
returns c p cuts h =
    den_kept p c.args.held.now _ cuts c.args.den h c.requires.some refl refl
    (to_z-of_z w64 c.args.den c.ranges.den) refl refl
