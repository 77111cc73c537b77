use Rattle.std.proofs.Common.{sym, ◌∙◌, ap, subst, List}
use Rattle.std.specs.Prelude.{ℤ}
use Rattle.bl_terms.specs.Points.{Area}
use Rattle.bl_model.specs.Boxes.{IsBox}
use Rattle.bl_check_terms.specs.Values.{area_of}
use Rattle.bl_check_cuts.proofs.PartBoxes.{part_is_box}
use Rattle.bl_check_cuts.proofs.area.box_of.Goals as goal

-- the box of these sides
abbrev box : List ℤ → List ℤ → Area
box lo hi = record { lo = lo; hi = hi }

pub with_sides-requires : goal.with_sides-requires
with_sides-requires c =
    let sides = c.args.sides.now in
    subst IsBox
    (sym (ap (λ (xs : List ℤ). box xs c.in_ok-hi.hi.items) c.in_ok-lo.ensures
    ∙ ap (λ (xs : List ℤ). box (area_of sides).lo xs) c.in_ok-hi.ensures))
    (part_is_box c.args.model.now sides c.lo-columns.ensures.model c.requires)
