use Rattle.std.proofs.Common.{◌≡◌, ◌∙◌, ap, subst, List}
use Rattle.std.specs.Prelude.{ℤ, IsTrue, ◌↔◌}
use Rattle.bl_terms.specs.Bounds.{Problem, Proves, over}
use Rattle.bl_fproof.proofs.walk.is_shut.Goals as goal

pub returns : goal.returns
returns c =
    let q = c.args.rows.now in
    let over_lo : List ℤ → Problem = λ lo. over q (record { lo = lo; hi = c.hi.result.now }) in
    let over_hi : List ℤ → Problem = λ hi. over q (record { lo = c.args.part.now.lo; hi = hi }) in
    let same : c.in_ok-problem.problem ≡ over q c.args.part.now =
    c.in_ok-problem.ensures.value ∙ ap over_lo c.lo.ensures ∙ ap over_hi c.hi.ensures in
    subst (λ p. IsTrue c.holds.result ↔ Proves p c.args.cutoff c.args.proof.now) same c.holds.ensures
