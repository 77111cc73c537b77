use Rattle.std.proofs.Common.{ℕ, List, ◌∙◌, subst}
use Rattle.std.specs.Fmt.{decimal}
use Rattle.bl_run.specs.Steps.{Puts}
use Rattle.bl_run.proofs.StatusLemmas.{nodes_pieces}
use Rattle.bl_run.proofs.status.tell_nodes.Goals as goal

pub returns : goal.returns
returns g c =
    let budget = c.as_bytes-budget.ensures.value ∙ c.format.ensures.text in
    let made = c.as_bytes-made.ensures.value ∙ c.format-2.ensures.text in
    subst (λ (line : List ℕ). Puts line (g.E.Sink.state c.args.err.now) (g.E.Sink.state c.put_all.new.err)
    c.put_all.result) (nodes_pieces (decimal c.args.budget) (decimal c.args.made))
    (rw (budget, made) at c.put_all.ensures)
