use Rattle.std.proofs.Common.{◌≡◌, ◌+◌, ◌∷◌, [], ◌++◌, List, take, map, sym, ap, ◌∙◌, subst, get_or}
use Rattle.std.specs.List.{flat_map}
use Rattle.std.specs.Arc.{arc_value}
use Rattle.std.proofs.lemmas.List.{map_more}
use Rattle.std.proofs.lemmas.List.Elements.{All-push, All-same}
use Rattle.bl_cut_terms.specs.NoGoods.{CutStep}
use Rattle.bl_certtext.specs.Texts.{text_of}
use Rattle.bl_check_terms.specs.Writing.{cut_lines}
use Rattle.bl_cert.specs.Pieces.{HasFewTight}
use Rattle.bl_cert.proofs.Texts.{put-item}
use Rattle.bl_cert.proofs.steps.put_cuts.Goals as goal

pub loop-step-preserved : goal.loop-step-preserved
loop-step-preserved c =
    let steps = c.args.steps.now in
    let i = c.loop-step.step-index in
    let item = c.step-item.result in
    let before = map arc_value (take i steps) in
    let last = arc_value (get_or steps i item) in
    let same : c.deref.result.now ≡ last = c.deref.ensures ∙ ap arc_value c.step-item.is in
    let more = map_more arc_value steps i item c.loop-step-test.true in
    record {
      text =
          put-item cut_lines c.args.text.now.items c.loop-step.text.items c.put_cut.new.text.items before last
          c.loop-step.invariant.text
          (c.in_ok-put_cut.ensures.text ∙ ap (λ (s : CutStep). c.loop-step.text.items ++ text_of (cut_lines s)) same)
          ∙ ap (λ (ss : List CutStep). c.args.text.now.items ++ text_of (flat_map cut_lines ss)) (sym more);
      few =
          All-same HasFewTight (map arc_value (take (i + 1) steps)) (before ++ last ∷ []) more
          (All-push HasFewTight before last c.loop-step.invariant.few
          (subst HasFewTight same c.in_ok-put_cut.ensures.few));
    }
