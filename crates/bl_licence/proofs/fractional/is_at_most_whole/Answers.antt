use Rattle.std.proofs.Common.{rules, Greater, sym, ap, ◌∙◌, refl, pos, to_z, of_z, FitsSigned}
use Rattle.std.specs.Int.{w64}
use Rattle.std.proofs.lemmas.Bool.{false≢true}
use Rattle.std.proofs.lemmas.Int.{to_z-of_z}
use Rattle.bl_simplex.specs.Fractions.{whole_fraction, order_of}
use Rattle.bl_licence.proofs.Orders.{at_most_from_order, order_from_at_most}
use Rattle.bl_licence.proofs.fractional.is_at_most_whole.Goals as goal

pub returns-in-Greater : goal.returns-in-Greater
returns-in-Greater c =
    let same = c.compare.ensures
    ∙ ap (order_of c.args.x) (c.whole.ensures ∙ ap whole_fraction (to_z-of_z w64 c.args.most c.ranges.most)) in
    (λ t. absurd (false≢true t), λ h. absurd (order_from_at_most c.args.x c.args.most h (sym same ∙ c.in-Greater.is)))

pub returns-in_default : goal.returns-in_default
returns-in_default c =
    let same = c.compare.ensures
    ∙ ap (order_of c.args.x) (c.whole.ensures ∙ ap whole_fraction (to_z-of_z w64 c.args.most c.ranges.most)) in
    (λ _. at_most_from_order c.args.x c.args.most (λ e. c.in_default.not-Greater (same ∙ e)), λ _. refl)
