use Rattle.std.proofs.Common.{Less, sym, ap, ◌∙◌, refl, pos, to_z, of_z, ◌^◌, ◌<◌, FitsSigned}
use Rattle.std.specs.Prelude.{true, false, unsigned_abs}
use Rattle.std.specs.Int.{w128}
use Rattle.std.proofs.lemmas.Bool.{false≢true}
use Rattle.bl_frac.proofs.Signed.{signed_back}
use Rattle.bl_simplex.specs.Fractions.{whole_fraction, order_of}
use Rattle.bl_licence.proofs.Orders.{above_from_order, order_from_above}
use Rattle.bl_licence.proofs.closing.is_above.Goals as goal

pub returns-in-Less : goal.returns-in-Less
returns-in-Less c =
    let same = c.compare-order.ensures
    ∙ ap (λ f. order_of f c.args.x)
    (c.fraction_of.ensures ∙ ap whole_fraction (signed_back c.args.least c.requires)) in
    (λ _. above_from_order c.args.least c.args.x (sym same ∙ c.in-Less.is), λ _. refl)

pub returns-in_default : goal.returns-in_default
returns-in_default c =
    let same = c.compare-order.ensures
    ∙ ap (λ f. order_of f c.args.x)
    (c.fraction_of.ensures ∙ ap whole_fraction (signed_back c.args.least c.requires)) in
    (λ t. absurd (false≢true t), λ h. absurd (c.in_default.not-Less (same ∙ order_from_above c.args.least c.args.x h)))
