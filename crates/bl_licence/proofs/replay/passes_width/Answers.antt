use Rattle.std.proofs.Common.{◌≡◌, ℕ, ◌+◌, ◌-◌, ◌<◌, [], ◌∷◌, ◌++◌, length, false, take, get_or, refl, sym, ap, ◌∙◌}
use Rattle.std.proofs.Common.{subst, arith}
use Rattle.std.specs.Prelude.{IsTrue}
use Rattle.std.proofs.lemmas.List.{take_more}
use Rattle.bl_tableau.specs.Runs.{Run}
use Rattle.bl_licence.specs.Steps.{EndsInWidth}
use Rattle.bl_licence.proofs.StepLaws.{width_from, width_to, take_whole}
use Rattle.bl_licence.proofs.replay.passes_width.Goals as goal

pub returns : goal.returns
returns c =
    let q = c.args.problem.now in
    let ps = c.args.pivots.now in
    let n = length ps - 1 in
    let front = take n ps in
    let last = get_or ps n (0, 0) in
    let whole : n + 1 ≡ length ps = omega arith in
    let split : ps ≡ front ++ last ∷ [] =
    sym (take_whole ps) ∙ ap (λ k. take k ps) (sym whole) ∙ take_more ps n (0, 0) (omega arith) in
    let Exact : Run → Type 0 =
    λ t. (IsTrue c.ends_wide.result → EndsInWidth t.problem c.args.cutoff front last c.args.row c.args.column)
    × (EndsInWidth t.problem c.args.cutoff front last c.args.row c.args.column → IsTrue c.ends_wide.result) in
    let exact : Exact (record { problem = q; most = length ps; pivots = []; spent = false }) =
    subst Exact c.in_ok-tableau.ensures c.ends_wide.ensures in (
      λ t. width_from q c.args.cutoff ps front last c.args.row c.args.column split (exact.0 t),
      λ h. exact.1 (width_to q c.args.cutoff ps front last c.args.row c.args.column split h),
    )
