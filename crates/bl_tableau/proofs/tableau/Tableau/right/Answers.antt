use Rattle.std.proofs.Common.{◌≡◌, ◌+◌, ◌≤◌, ◌∙◌, false, sym, ap, subst, arith}
use Rattle.bl_simplex.specs.Dictionaries.{columns, cost_row, opening, width_of}
use Rattle.bl_simplex.specs.Pivots.{replay}
use Rattle.bl_tableau.specs.Runs.{Run}
use Rattle.bl_tableau.proofs.RunSteps.{shown, shown_reduced}
use Rattle.bl_tableau.proofs.tableau.Tableau.right.Goals as goal

pub returns-clause-value : goal.returns-clause-value
returns-clause-value c =
    let s = c.self.inside in
    let k = c.self.invariant in
    let Fresh : Run → Type 0 = λ run. run.spent ≡ false in
    let InRow : Run → Type 0 = λ run. c.args.row ≤ cost_row run.problem in
    let fresh : s.spent ≡ false = subst Fresh (sym c.self.view_is) c.requires.not_spent in
    let row : c.args.row ≤ cost_row s.problem.now = subst InRow (sym c.self.view_is) c.requires.row_in in
    let width : c.len-width.result + 1 ≡ width_of s.problem.now =
    omega (arith, s.column_labels.ok.0, c.len-width.ensures, k.labels) in
    let last : c.len.result ≡ columns s.problem.now = omega (arith, s.column_labels.ok.0, c.len.ensures, k.labels) in
    let value = shown s.problem.now s.cells.items s.row_labels.items s.column_labels.items _
    (c.len-width.result + 1) c.args.row c.len.result _ (k.shows fresh) k.size width (omega arith)
    (omega arith) c.index.ensures in
    rw (← c.self.view_is) (value ∙ ap ((replay (opening s.problem.now) s.pivots.items).place c.args.row) last)

pub returns-clause-lowest_terms : goal.returns-clause-lowest_terms
returns-clause-lowest_terms c =
    let s = c.self.inside in
    let k = c.self.invariant in
    let Fresh : Run → Type 0 = λ run. run.spent ≡ false in
    let InRow : Run → Type 0 = λ run. c.args.row ≤ cost_row run.problem in
    let fresh : s.spent ≡ false = subst Fresh (sym c.self.view_is) c.requires.not_spent in
    let row : c.args.row ≤ cost_row s.problem.now = subst InRow (sym c.self.view_is) c.requires.row_in in
    let width : c.len-width.result + 1 ≡ width_of s.problem.now =
    omega (arith, s.column_labels.ok.0, c.len-width.ensures, k.labels) in
    let last : c.len.result ≡ columns s.problem.now = omega (arith, s.column_labels.ok.0, c.len.ensures, k.labels) in
    shown_reduced s.problem.now s.cells.items (c.len-width.result + 1) c.args.row c.len.result _
    (k.numbers fresh) k.size width (omega arith) (omega arith) c.index.ensures
