use Rattle.std.proofs.Common.{rules, ◌≡◌, ℕ, ◌-◌, ◌<◌, length, pos, ◌<ℤ◌, false, sym, ap, ◌∙◌, subst, arith}
use Rattle.std.specs.Prelude.{slice_index}
use Rattle.bl_simplex.specs.Rationals.{fraction_at}
use Rattle.bl_simplex.specs.Dictionaries.{columns, cost_row, height_of}
use Rattle.bl_simplex.specs.LegalPivots.{IsEntering, IsCandidate}
use Rattle.bl_tableau.specs.Runs.{Run, current}
use Rattle.bl_tableau.proofs.Choices.{Match, chosen_agrees}
use Rattle.bl_tableau.proofs.tableau.Tableau.is_legal.Goals as goal

pub returns : goal.returns
returns c =
    let run = c.args.self.now in
    let q = run.problem in
    let d = current run in
    let n = columns q in
    let s = c.self.inside in
    let k = c.self.invariant in
    let Fresh : Run → Type 0 = λ t. t.spent ≡ false in
    let fresh : s.spent ≡ false = subst Fresh (sym c.self.view_is) c.requires.not_spent in
    let Labels : Run → Type 0 = λ t. (j : ℕ) → j < columns t.problem
    → slice_index s.column_labels.items j ≡ (current t).column_label j in
    let Height : Run → Type 0 = λ t. length s.row_labels.items ≡ height_of t.problem in
    let labels : Labels run = subst Labels c.self.view_is (k.shows fresh).column_labels in
    let height : Height run = subst Height c.self.view_is k.rows in
    let last : c.len.result - 1 ≡ cost_row q = omega (arith, s.row_labels.ok.0, c.len.ensures, height) in
    let not_last : c.args.row ≡ cost_row q → ⊥ = λ e. c.if-row-cost_row.false (e ∙ sym last) in
    let leaves : (d.place c.args.row n).num <ℤ pos 0 =
    subst (λ f. f.num <ℤ pos 0) c.right.ensures.value (c.is_negative.ensures.0 (search rules)) in
    let candidate : IsCandidate n (d.place c.args.row) c.args.column = record {
      column_in = c.requires.column_in;
      negative = subst (λ f. f.num <ℤ pos 0) c.entry.ensures.value
          (c.is_negative-else-not-is_negative.ensures.0 (search rules));
    } in
    let same : Match n (fraction_at c.entries.result.now) (d.place (cost_row q)) (fraction_at c.entries-2.result.now)
    (d.place c.args.row) (slice_index c.deref.result.now) d.column_label = record {
      same_costs = λ j l. c.entries.ensures.places j l ∙ ap (λ i. d.place i j) last;
      same_entries = λ j l. c.entries-2.ensures.places j l;
      same_labels = λ j l. ap (λ xs. slice_index xs j) c.deref.ensures.value ∙ labels j l;
    } in
    let agree = chosen_agrees n _ _ _ _ _ _ c.args.column same c.requires.column_in in
    let Chosen : ℕ → Type 0 =
    λ m. IsEntering m (fraction_at c.entries.result.now) (fraction_at c.entries-2.result.now)
    (slice_index c.deref.result.now) c.args.column in (
      λ h. record {
        row_in = omega (arith, c.requires.row_in);
        infeasible = leaves;
        candidate = candidate;
        entering =
            agree.0 (subst Chosen c.entries-2.ensures.size (c.is_entering.ensures.0 h));
      },
      λ l. c.is_entering.ensures.1 (subst Chosen (sym c.entries-2.ensures.size) (agree.1 l.entering)),
    )
