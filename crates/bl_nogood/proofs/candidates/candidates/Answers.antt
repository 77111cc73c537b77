use Rattle.std.proofs.Common.{sym, ◌∙◌, refl}
use Rattle.std.proofs.lemmas.Bool.{true≢false}
use Rattle.bl_cut_terms.specs.declared.parts.Tight.TheVariants.{Row}
use Rattle.bl_nogood.specs.Candidates.{IsCandidate}
use Rattle.bl_nogood.proofs.Chosen.{next_chosen, next_left}
use Rattle.bl_nogood.proofs.candidates.candidates.Goals as goal
use Rattle.bl_nogood.proofs.candidates.candidates.Goals.{then-branch+in_ok-push, else-branch}

pub loop-item-preserved : goal.loop-item-preserved
loop-item-preserved c =
    let P = IsCandidate c.args.model.now c.args.area.now c.args.earlier.now c.args.point.now in
    let items = c.deref-item-items.result.now in
    elim c.if-branch.branch [
      | then-branch+in_ok-push w ↦
          rw w.chosen-is
          (next_chosen P items c.loop-item.chosen.items w.push.new.self.items c.loop-item.item-index (Row 0)
          _ c.loop-item-test.true refl (c.in_ok-is_candidate.ensures.0 w.if-branch.true) c.loop-item.invariant
          w.in_ok-push.ensures.items)
      | else-branch w ↦
          rw w.chosen-is (next_left P items c.loop-item.chosen.items c.loop-item.item-index (Row 0) _
          c.loop-item-test.true refl
          (λ h. true≢false (sym (c.in_ok-is_candidate.ensures.1 h) ∙ w.if-branch.false)) c.loop-item.invariant)
    ]
