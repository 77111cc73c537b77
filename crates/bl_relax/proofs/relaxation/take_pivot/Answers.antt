use Rattle.std.proofs.Common.{[], ◌∷◌, length, ap, ◌∙◌, length-append}
use Rattle.bl_relax.proofs.Steps.{goes_on, columns_distinct}
use Rattle.bl_relax.proofs.relaxation.take_pivot.Goals as goal

pub returns-in-Ok : goal.returns-in-Ok
returns-in-Ok c =
    let run = c.args.tableau.now in
    let p = c.in-Some.pivot in
    let may = c.in-Some.ensures in
    let e = c.in-Ok.ensures.recorded in
    record {
      run = goes_on c.args.problem.now c.args.cutoff run c.pivot.new.self p c.requires.run may c.in-Ok.ensures.ok e;
      count = ap (λ r. length r.pivots) e ∙ length-append run.pivots (p ∷ []);
      most = ap (λ r. r.most) e;
    }

pub next_pivot-requires-clause-labels : goal.next_pivot-requires-clause-labels
next_pivot-requires-clause-labels c =
    columns_distinct c.args.problem.now c.args.cutoff c.args.tableau.now c.requires.run
