use Rattle.std.proofs.Common.{◌≡◌, ◌∙◌, sym, subst, map, ap}
use Rattle.std.specs.Prelude.{◌↔◌, IsTrue, List}
use Rattle.std.specs.Arc.{arc_value}
use Rattle.bl_cut_terms.specs.NoGoods.{NoGoodCut}
use Rattle.bl_cut.specs.Cuts.{AreCutsOf, AreOfOne, IsProvedCut, with_cut}
use Rattle.bl_cut.proofs.CutLemmas.{with_cut-proved, one_with}
use Rattle.bl_cut.proofs.list.CutList.with.Goals as goal
use Rattle.bl_cut.proofs.list.CutList.with.Goals.{then-continues, else-continues}

pub invariant_of-result : goal.invariant_of-result
invariant_of-result c =
    let cut = arc_value c.args.cut in
    let cuts : List NoGoodCut = map arc_value c.self.inside.cuts.items in
    let program : c.deref-2.result.now ≡ cut.program =
    c.deref-2.ensures ∙ c.model.ensures.value ∙ ap (λ (x : NoGoodCut). x.program) c.deref.ensures in
    let one : IsTrue c.if-continues.of_one ↔ AreOfOne (with_cut cuts cut) =
    elim c.if-continues.branch [
      | then-continues w ↦ (
        λ _. one_with cuts cut c.deref-2.result.now program
            (subst (AreCutsOf c.deref-2.result.now) (sym c.self.view_is) (c.is_of-continues.ensures.0 w.if-continues.true)),
        λ _. w.of_one-is ∙ w.if-continues.true,
      )
      | else-continues w ↦
          rw (
            w.of_one-is,
            ← c.deref-3.ensures.value,
            ← c.in_ok-cuts.ensures,
            ← w.deref-else-continues.ensures.value,
          ) w.are_of_one-of_one.ensures
    ] in
    rw (c.in_ok-cuts.ensures, c.deref-3.ensures.value) (record {
      proved = with_cut-proved cuts cut c.self.invariant.proved
          (subst IsProvedCut c.deref.ensures c.model.ensures.proved);
      one = one;
    })

pub returns-clause-proved : goal.returns-clause-proved
returns-clause-proved c = (invariant_of-result c).proved
