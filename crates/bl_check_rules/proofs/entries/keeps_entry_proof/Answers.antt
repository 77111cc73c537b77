use Rattle.std.proofs.Common.{◌∙◌, ap, ℕ, rules}
use Rattle.std.specs.Prelude.{ℤ, FitsSigned}
use Rattle.std.specs.Int.{w64}
use Rattle.std.proofs.lemmas.Int.{to_z-of_z}
use Rattle.std.proofs.lemmas.Result.{IfOk-weaker}
use Rattle.bl_certtext.specs.Places.{lower_count}
use Rattle.bl_check_terms.specs.Values.{multipliers}
use Rattle.bl_check_rules.proofs.EntryRules.{entry-is}
use Rattle.bl_check_rules.proofs.entries.keeps_entry_proof.Goals as goal

pub returns : goal.returns
returns c =
    let pairs = c.args.mult.now in
    let fits : FitsSigned w64 c.args.den = search rules in
    let same =
    c.in_ok-proof.ensures ∙ ap (λ (d : ℤ). multipliers c.args.lower d pairs) (to_z-of_z w64 c.args.den fits)
    ∙ ap (λ (n : ℕ). multipliers n c.args.den pairs) c.requires.lower in
    IfOk-weaker c.is_proof_over.result _ _
    (λ b h. λ e at says.
    entry-is c.args.model.now e c.args.rows.now c.args.value c.args.area.now c.in_ok-proof.proof
    (multipliers (lower_count c.args.model.now) c.args.den pairs) b h same at says)
    c.is_proof_over.ensures
