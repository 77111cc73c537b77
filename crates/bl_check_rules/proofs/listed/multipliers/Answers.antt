use Rattle.std.proofs.Common.{◌∙◌, ap, rules}
use Rattle.std.specs.Prelude.{ℤ, List, FitsSigned}
use Rattle.std.specs.Int.{w64}
use Rattle.std.proofs.lemmas.Int.{to_z-of_z}
use Rattle.bl_terms.specs.Bounds.{Multipliers}
use Rattle.bl_check_rules.proofs.ListedNumbers.{numbers-listed}
use Rattle.bl_check_rules.proofs.listed.multipliers.Goals as goal

abbrev with : ℤ → List ℤ → Multipliers
with den mult = record { den = den; mult = mult }

pub returns : goal.returns
returns c =
    let fits : FitsSigned w64 c.args.den = search rules in
    ap (λ (d : ℤ). with d c.new.result) (to_z-of_z w64 c.args.den fits)
    ∙ ap (λ (xs : List ℤ). with c.args.den xs)
    (c.new.ensures ∙ c.in_ok-mult.ensures ∙ numbers-listed c.args.count c.args.pairs.now)
