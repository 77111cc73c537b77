use Rattle.std.proofs.Common.{rules, ◌+◌, ◌<◌, pos, ◌<ℤ◌, sym, subst, arith}
use Rattle.bl_simplex.specs.Dictionaries.{columns, cost_row}
use Rattle.bl_tableau.specs.Runs.{current}
use Rattle.bl_relax.specs.Choices.{IsBestSoFar}
use Rattle.bl_relax.proofs.RatioTest.{one_more, none_more}
use Rattle.bl_relax.proofs.choice.entering_column.Goals as goal
use Rattle.bl_relax.proofs.choice.entering_column.Goals.{then-is_negative+in-Some, else-is_negative}

pub loop-j-preserved : goal.loop-j-preserved
loop-j-preserved c =
    let q = c.args.tableau.now.problem in
    let d = current c.args.tableau.now in
    let n = c.loop-j.j in
    let costs = d.place (cost_row q) in
    let entries = d.place c.args.row in
    let below : n < columns q = omega (arith, c.columns-j-end.ensures.value) in
    elim c.if-is_negative.branch [
      | then-is_negative+in-Some w ↦
          let less : (entries n).num <ℤ pos 0 =
          subst (λ f. f.num <ℤ pos 0) c.entry-entry.ensures.value (c.is_negative.ensures.0 (search rules)) in
          subst (IsBestSoFar (n + 1) costs entries d.column_label) (sym w.best-is)
          (one_more (columns q) n costs entries d.column_label below c.requires.labels c.loop-j.best w.in-Some.next
          w.winner.result c.loop-j.invariant less w.in-Some.ensures w.winner.ensures)
      | else-is_negative w ↦
          subst (IsBestSoFar (n + 1) costs entries d.column_label) (sym w.best-is)
          (none_more n costs entries d.column_label c.loop-j.best c.loop-j.invariant (λ less.
          let t = c.is_negative.ensures.1 (subst (λ f. f.num <ℤ pos 0) (sym c.entry-entry.ensures.value) less) in
          let no = w.if-is_negative.false in
          search rules))
    ]
