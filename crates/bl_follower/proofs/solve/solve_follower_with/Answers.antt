use Rattle.std.proofs.Common.{◌≡◌, ◌∙◌, sym, ap, subst, []}
use Rattle.std.specs.Prelude.{false}
use Rattle.std.specs.Arc.{arc_value}
use Rattle.bl_terms.specs.Programs.{Program}
use Rattle.bl_model.specs.View.{IsModel}
use Rattle.bl_fproof.specs.Entries.{whole_problem}
use Rattle.bl_follower.specs.Search.{IsUnderWay}
use Rattle.bl_follower.specs.Answers.{IsSolved}
use Rattle.bl_follower.proofs.Ends.{search_solves}
use Rattle.bl_follower.proofs.solve.solve_follower_with.Goals as goal

pub returns-then-not-is_left-clause-ok : goal.returns-then-not-is_left-clause-ok
returns-then-not-is_left-clause-ok c =
    let p = arc_value c.args.model in
    let l = c.args.link.now in
    let tree = c.in_ok-tree.tree in
    let best = c.in_ok-tree.best in
    let same : c.in_ok-rows.rows ≡ whole_problem p l =
    c.in_ok-rows.ensures.rows ∙ ap (λ (p : Program). whole_problem p l) c.deref.ensures in
    let under_way = subst (λ q. IsUnderWay q c.args.budget best tree []) same c.in_ok-tree.ensures in
    let model = subst (λ p. IsModel p) c.deref.ensures c.in_ok-rows.ensures.model in
    let finished : tree.left ≡ false = sym c.is_left.ensures ∙ c.if-not-is_left.true in
    subst (λ s. IsSolved p l c.args.budget s) (sym c.answer_of.ensures)
    (search_solves p l c.args.budget best tree model under_way finished)
