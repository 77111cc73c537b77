use Rattle.std.proofs.Common.{refl, subst, true, List, ◌↔◌}
use Rattle.std.specs.Prelude.{IsTrue}
use Rattle.bl_terms.specs.Points.{Linear}
use Rattle.bl_check_terms.specs.Rules.{HoldEqual}
use Rattle.bl_check_cuts.proofs.HeldLemmas.{point_kept}
use Rattle.bl_check_cuts.proofs.points.point.Goals as goal

pub returns : goal.returns
returns c = λ cuts h. (
  subst (λ (rows : List Linear). IsTrue true ↔ HoldEqual rows c.args.values.now) c.deref.ensures.value
      c.if-not-hold_with_equality.ensures,
  λ _. point_kept c.args.model.now c.args.held.now _ cuts c.args.values.now h c.requires.some refl refl refl refl
      c.in_ok-held.ensures.items,
)
