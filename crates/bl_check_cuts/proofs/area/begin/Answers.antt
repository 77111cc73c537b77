use Rattle.std.proofs.Common.{refl, ◌∙◌, ap, List, [], ◌∷◌, ◌++◌}
use Rattle.std.specs.Prelude.{ℤ, pos}
use Rattle.bl_terms.specs.Points.{Area}
use Rattle.bl_cut_terms.specs.NoGoods.{LocalRow}
use Rattle.bl_check_terms.specs.Values.{area_of}
use Rattle.bl_check_cuts.proofs.HeldLemmas.{begun_kept}
use Rattle.bl_check_cuts.proofs.area.begin.Goals as goal

-- the box, and a row with right-hand side 0
abbrev with : Area → List ℤ → LocalRow
with a coef = record { area = a; row = record { coef = coef; rhs = pos 0 } }

pub returns : goal.returns
returns c = λ cuts h.
    let held = c.args.held.now in
    let a = area_of c.args.sides.now in
    begun_kept c.args.model.now held _ cuts a h
    (c.in_ok-push.ensures.items
    ∙ ap (λ (b : Area). held.cuts.items ++ with b c.new.result.items ∷ []) c.in_ok-area.ensures
    ∙ ap (λ (xs : List ℤ). held.cuts.items ++ with a xs ∷ []) c.new.ensures.items)
    c.clear.ensures.items refl refl c.clear-2.ensures.items
