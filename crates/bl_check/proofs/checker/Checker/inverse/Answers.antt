use Rattle.std.proofs.Common.{rules, subst}
use Rattle.std.specs.Prelude.{FitsSigned}
use Rattle.std.specs.Int.{w64}
use Rattle.std.proofs.lemmas.Int.{to_z-of_z}
use Rattle.bl_check.proofs.CutLines.{IsInverse, inverse_line, inverse_some}
use Rattle.bl_check.proofs.checker.Checker.inverse.Goals as goal

pub inverse-requires : goal.inverse-requires
inverse-requires c = record {
  some = inverse_some c.args.model.now c.args.self.now c.args.den c.lo-columns.ensures.model c.requires.asked;
}

pub returns : goal.returns
returns c =
    let fits : FitsSigned w64 c.args.den = search rules in
    inverse_line c.args.model.now c.args.self.now c.inverse.new.held c.args.den
    (subst (IsInverse c.args.self.now.said.cuts c.inverse.new.held) (to_z-of_z w64 c.args.den fits) c.inverse.ensures)
