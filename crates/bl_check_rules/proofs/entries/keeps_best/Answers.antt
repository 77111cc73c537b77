use Rattle.std.proofs.Common.{rules, subst}
use Rattle.std.specs.Prelude.{ℤ, ◌↔◌, FitsSigned, IsTrue}
use Rattle.std.specs.Int.{w64}
use Rattle.std.proofs.lemmas.Int.{to_z-of_z}
use Rattle.std.proofs.lemmas.Result.{IfOk-weaker}
use Rattle.bl_fproof.specs.Entries.{IsPointOfCost}
use Rattle.bl_check_rules.proofs.EntryRules.{best-is}
use Rattle.bl_check_rules.proofs.entries.keeps_best.Goals as goal

pub returns : goal.returns
returns c =
    let rows = c.args.rows.now in
    let y = c.args.response.now in
    let fits : FitsSigned w64 c.args.value = search rules in
    IfOk-weaker c.is_point_of_cost.result _ _
    (λ b h. λ link e.
    best-is c.args.model.now rows link y c.args.value b c.lo-columns.ensures.model.sound
    (subst (λ (v : ℤ). IsTrue b ↔ IsPointOfCost rows y v) (to_z-of_z w64 c.args.value fits) h) e)
    c.is_point_of_cost.ensures
