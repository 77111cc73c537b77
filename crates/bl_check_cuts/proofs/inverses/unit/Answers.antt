use Rattle.std.proofs.Common.{refl, ◌∙◌, ap, arith, rules, ◌^◌, length, to_z, of_z, true}
use Rattle.std.specs.Prelude.{FitsSigned}
use Rattle.std.specs.Int.{w64}
use Rattle.std.proofs.lemmas.Int.{to_z-of_z}
use Rattle.bl_terms.specs.Programs.{columns}
use Rattle.bl_check_terms.specs.Values.{unit_of}
use Rattle.bl_check_cuts.proofs.HeldLemmas.{unit_kept}
use Rattle.bl_check_cuts.proofs.UnitLemmas.{below_more, same_combination}
use Rattle.bl_check_cuts.proofs.inverses.unit.Goals as goal

pub unit_of-requires : goal.unit_of-requires
unit_of-requires c =
    let few = c.requires.summed.few in
    below_more (length c.args.held.now.tight.items) (2 ^ 32) c.args.pairs.now (omega arith) c.requires.places

pub returns : goal.returns
returns c = λ cuts h.
    let p = c.args.model.now in
    let held = c.args.held.now in
    let unit = unit_of c.args.pairs.now in
    let fits : FitsSigned w64 held.den = search rules in (
      same_combination (length c.lo-columns.result.now) (columns p) c.deref.result.now held.tight.items
          (to_z w64 (of_z w64 held.den)) held.den c.deref-2.result.now unit held.units c.is_unit_of.result true
          (ap length c.lo-columns.ensures.lo) c.deref.ensures.value (to_z-of_z w64 held.den fits)
          (c.deref-2.ensures.value ∙ c.in_ok-unit.ensures) c.if-not-is_unit_of.false c.is_unit_of.ensures,
      λ _. unit_kept p held _ cuts unit h c.requires.some refl refl refl refl refl,
    )
