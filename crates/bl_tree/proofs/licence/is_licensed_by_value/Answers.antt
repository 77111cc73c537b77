use Rattle.std.proofs.Common.{rules}
use Rattle.std.specs.Prelude.{FitsSigned}
use Rattle.std.specs.Int.{w64}
use Rattle.std.specs.Option.{option_copied}
use Rattle.std.proofs.lemmas.Int.{to_z-of_z}
use Rattle.bl_tree.proofs.Licences.{fixed_licences, not_fixed}
use Rattle.bl_tree.proofs.licence.is_licensed_by_value.Goals as goal

pub returns-in_default-clause-licence : goal.returns-in_default-clause-licence
returns-in_default-clause-licence c = (
  λ t. absurd (cc),
  λ h. absurd (not_fixed c.args.model.now c.args.area.now c.args.cutoff (option_copied c.args.kept) c.args.why.now
      c.in_default.ensures.value h),
)

pub returns-clause-licence : goal.returns-clause-licence
returns-clause-licence c =
    let fits : FitsSigned w64 c.in-Some.value = search rules in
    fixed_licences c.args.model.now c.args.area.now c.args.cutoff (option_copied c.args.kept) c.args.why.now
    c.in-Some.value c.in_ok-problem.problem c.why_holds.result
    (rw (to_z-of_z w64 _ fits) at c.in_ok-problem.ensures.value) c.in-Some.ensures.value c.why_holds.ensures
