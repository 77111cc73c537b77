use Rattle.std.proofs.Common.{rules}
use Rattle.bl_elimination.specs.Elimination.{IsGiven, elimination}
use Rattle.bl_elimination.proofs.Law.{given_is_basis}
use Rattle.bl_elimination.proofs.elimination.eliminate.Goals as goal

pub returns-clause-inverse : goal.returns-clause-inverse
returns-clause-inverse c =
    let exact : IsGiven (elimination c.args.candidates.now) c.basis.result = search rules in
    given_is_basis c.args.candidates.now c.basis.result c.requires.shape exact
