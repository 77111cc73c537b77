use Rattle.std.proofs.Common.{rules, ◌≡◌, ◌∙◌, ap, List, refl}
use Rattle.std.proofs.Common.{to_z, of_z}
use Rattle.std.specs.Prelude.{ℤ, FitsSigned}
use Rattle.std.specs.Int.{w64, w128}
use Rattle.std.proofs.lemmas.Int.{to_z-of_z}
use Rattle.bl_whole.specs.Sums.{dot}
use Rattle.bl_follower.proofs.Responses.{cost_fits}
use Rattle.bl_follower.proofs.response.response_at.Goals as goal

pub overflow_cast-value : goal.overflow_cast-value
overflow_cast-value c =
    let fits : FitsSigned w128 c.cost_at-value.result = search rules in
    let e : c.cost_at-value.result ≡ dot c.args.problem.now.cost c.args.point =
    c.cost_at-value.ensures ∙ ap (λ (z : List ℤ). dot c.args.problem.now.cost z) c.as_slice.ensures in
    rw (to_z-of_z, e) (cost_fits c.args.problem.now c.args.point c.requires.problem_fits c.requires.inside)

pub returns : goal.returns
returns c =
    let fits : FitsSigned w128 c.cost_at-value.result = search rules in
    let e : c.cost_at-value.result ≡ dot c.args.problem.now.cost c.args.point =
    c.cost_at-value.ensures ∙ ap (λ (z : List ℤ). dot c.args.problem.now.cost z) c.as_slice.ensures in
    let casts : FitsSigned w64 (to_z w128 (of_z w128 c.cost_at-value.result)) = overflow_cast-value c in
    rw (to_z-of_z, to_z-of_z, e) refl
