use Rattle.std.proofs.Common.{◌≡◌, ◌≢◌, ℕ, ◌+◌, ◌<◌, ◌≤◌, List, length, ◌∙◌, false, true, pos, refl, sym, ap, subst}
use Rattle.std.proofs.Common.{arith}
use Rattle.std.specs.Vec.{vec_capacity}
use Rattle.bl_simplex.specs.Fractions.{Fraction}
use Rattle.bl_tableau.specs.Cells.{placed}
use Rattle.bl_simplex.specs.Dictionaries.{columns, cost_row, opening, width_of, height_of}
use Rattle.bl_simplex.specs.Pivots.{replay, IsPivot, IsFirstWide, pivot_place, FailsFirstAt}
use Rattle.bl_tableau.specs.Runs.{Run, current, KeepsReplay}
use Rattle.std.specs.Prelude.{Some, slice_index, slice_set}
use Rattle.bl_tableau.proofs.RunSteps.{Agree, first_wide_agrees, keeps_pivot, keeps_spent, narrow_pivot, written_back}
use Rattle.bl_tableau.proofs.tableau.Tableau.pivot.Goals as goal

moved : (P : List (ℕ × ℕ) → List Fraction → List ℕ → List ℕ → Type 0) {ps ps' : List (ℕ × ℕ)} {xs xs' : List Fraction}
    {rs rs' cs cs' : List ℕ} → ps ≡ ps' → xs ≡ xs' → rs ≡ rs' → cs ≡ cs' → P ps xs rs cs → P ps' xs' rs' cs'
moved P {ps} {ps'} {xs} {xs'} {rs} {rs'} {cs} {cs'} e f g h p =
    subst (P ps' xs' rs') h
    (subst (λ y. P ps' xs' y cs) g (subst (λ y. P ps' y rs cs) f (subst (λ y. P y xs rs cs) e p)))

pub invariant_of-self : goal.invariant_of-self
invariant_of-self c =
    let s = c.self.inside in
    let k = c.self.invariant in
    let q = s.problem.now in
    let Fresh : Run → Type 0 = λ run. run.spent ≡ false in
    let Room : Run → Type 0 = λ run. length run.pivots < run.most in
    let InRow : Run → Type 0 = λ run. c.args.row ≤ cost_row run.problem in
    let InColumn : Run → Type 0 = λ run. c.args.column < columns run.problem in
    let Nonzero : Run → Type 0 = λ run. ((current run).place c.args.row c.args.column).num ≢ pos 0 in
    let fresh : s.spent ≡ false = subst Fresh (sym c.self.view_is) c.requires.not_spent in
    let few : length s.pivots.items < s.most = subst Room (sym c.self.view_is) c.requires.room in
    let can : IsPivot q (replay (opening q) s.pivots.items) c.args.row c.args.column = record {
      row_in = subst InRow (sym c.self.view_is) c.requires.row_in;
      column_in = subst InColumn (sym c.self.view_is) c.requires.column_in;
      nonzero = subst Nonzero (sym c.self.view_is) c.requires.nonzero;
    } in
    let height : c.len.result ≡ height_of q = omega (arith, s.row_labels.ok.0, c.len.ensures, k.rows) in
    let width : c.len-2.result + 1 ≡ width_of q = omega (arith, s.column_labels.ok.0, c.len-2.ensures, k.labels) in
    let before : c.deref_mut.result.now ≡ s.cells.items = c.deref_mut.ensures.value in
    let size : length c.pivot_rows-outcome.new.cells ≡ length s.cells.items =
    c.pivot_rows-outcome.auto.cells ∙ ap length before in
    let written = written_back s.cells.len c.pivot_rows-outcome.new.cells s.cells.items
    (omega (arith, s.cells.ok.0, size)) in
    let New : List Fraction → ℕ → ℕ → Type 0 = λ xs h w. (i j : ℕ) → i < h → j < w
    → pivot_place (placed xs w) c.args.row c.args.column i j ≡ Some (placed c.pivot_rows-outcome.new.cells w i j) in
    let new : New s.cells.items (height_of q) (width_of q) =
    subst (λ w. New s.cells.items (height_of q) w) width
    (subst (λ h. New s.cells.items h (c.len-2.result + 1)) height
    (subst (λ xs. New xs c.len.result (c.len-2.result + 1)) before c.in-Ok.ensures.ok)) in
    let kept = keeps_pivot q s.most s.pivots.items s.spent s.cells.items c.pivot_rows-outcome.new.cells
    s.row_labels.items s.column_labels.items (vec_capacity s.pivots)
    (vec_capacity c.push_reserved.new.self) c.args.row c.args.column k fresh can few
    (omega (arith, k.room, c.push_reserved.ensures.capacity)) size c.in-Ok.ensures.lowest_terms new in
    let of_rows = c.deref_mut-in-Ok.ensures.value in
    let of_columns = c.deref_mut-in-Ok-2.ensures.value in
    let rows = c.swap_labels.ensures.rows
    ∙ ap (λ xs. slice_set xs c.args.row (slice_index c.deref_mut-in-Ok-2.result.now c.args.column)) of_rows
    ∙ ap (λ ys. slice_set s.row_labels.items c.args.row (slice_index ys c.args.column)) of_columns in
    let labels = c.swap_labels.ensures.columns
    ∙ ap (λ xs. slice_set xs c.args.column (slice_index c.deref_mut-in-Ok.result.now c.args.row)) of_columns
    ∙ ap (λ ys. slice_set s.column_labels.items c.args.column (slice_index ys c.args.row)) of_rows in
    let rows_size : s.row_labels.len ≡ length c.swap_labels.new.row_labels =
    s.row_labels.ok.0 ∙ ap length (sym of_rows) ∙ sym c.swap_labels.auto.row_labels in
    let labels_size : s.column_labels.len ≡ length c.swap_labels.new.column_labels =
    s.column_labels.ok.0 ∙ ap length (sym of_columns) ∙ sym c.swap_labels.auto.column_labels in
    let written_rows = written_back s.row_labels.len c.swap_labels.new.row_labels s.row_labels.items rows_size ∙ rows in
    let written_labels =
    written_back s.column_labels.len c.swap_labels.new.column_labels s.column_labels.items labels_size ∙ labels in
    let Kept : List (ℕ × ℕ) → List Fraction → List ℕ → List ℕ → Type 0 =
    λ ps xs rs cs. KeepsReplay (record { problem = q; most = s.most; pivots = ps; spent = s.spent }) xs rs cs
    (vec_capacity c.push_reserved.new.self) in
    moved Kept (sym c.push_reserved.ensures.items) (sym written) (sym written_rows) (sym written_labels) kept

pub invariant_of-self-in-Err : goal.invariant_of-self-in-Err
invariant_of-self-in-Err c =
    let s = c.self.inside in
    let k = c.self.invariant in
    let q = s.problem.now in
    let Fresh : Run → Type 0 = λ run. run.spent ≡ false in
    let Room : Run → Type 0 = λ run. length run.pivots < run.most in
    let InRow : Run → Type 0 = λ run. c.args.row ≤ cost_row run.problem in
    let InColumn : Run → Type 0 = λ run. c.args.column < columns run.problem in
    let Nonzero : Run → Type 0 = λ run. ((current run).place c.args.row c.args.column).num ≢ pos 0 in
    let fresh : s.spent ≡ false = subst Fresh (sym c.self.view_is) c.requires.not_spent in
    let few : length s.pivots.items < s.most = subst Room (sym c.self.view_is) c.requires.room in
    let can : IsPivot q (replay (opening q) s.pivots.items) c.args.row c.args.column = record {
      row_in = subst InRow (sym c.self.view_is) c.requires.row_in;
      column_in = subst InColumn (sym c.self.view_is) c.requires.column_in;
      nonzero = subst Nonzero (sym c.self.view_is) c.requires.nonzero;
    } in
    let height : c.len.result ≡ height_of q = omega (arith, s.row_labels.ok.0, c.len.ensures, k.rows) in
    let width : c.len-2.result + 1 ≡ width_of q = omega (arith, s.column_labels.ok.0, c.len-2.ensures, k.labels) in
    let before : c.deref_mut.result.now ≡ s.cells.items = c.deref_mut.ensures.value in
    let size : length c.pivot_rows-outcome.new.cells ≡ length s.cells.items =
    c.pivot_rows-outcome.auto.cells ∙ ap length before in
    let written = written_back s.cells.len c.pivot_rows-outcome.new.cells s.cells.items
    (omega (arith, s.cells.ok.0, size)) in
    let First : List Fraction → ℕ → ℕ → Type 0 =
    λ xs h w. IsFirstWide h w (placed xs w) c.args.row c.args.column c.in-Err.place.row c.in-Err.place.column in
    let first : First s.cells.items (height_of q) (width_of q) =
    subst (λ w. First s.cells.items (height_of q) w) width
    (subst (λ h. First s.cells.items h (c.len-2.result + 1)) height
    (subst (λ xs. First xs c.len.result (c.len-2.result + 1)) before c.in-Err.ensures.err)) in
    let same : Agree (height_of q) (width_of q) (placed s.cells.items (width_of q))
    (replay (opening q) s.pivots.items).place = record { each = (k.shows fresh).places } in
    let fails : FailsFirstAt q
    (replay (opening q) s.pivots.items) c.args.row c.args.column c.in-Err.place.row c.in-Err.place.column =
    first_wide_agrees (height_of q)
    (width_of q) _ _ c.args.row c.args.column c.in-Err.place.row c.in-Err.place.column same
    (omega (arith, can.row_in)) (omega (arith, can.column_in)) first in
    let kept = keeps_spent q s.most s.pivots.items s.spent s.cells.items c.pivot_rows-outcome.new.cells
    s.row_labels.items s.column_labels.items (vec_capacity s.pivots)
    (vec_capacity c.push_reserved.new.self) c.args.row c.args.column c.in-Err.place.row c.in-Err.place.column k
    fresh can few (omega (arith, k.room, c.push_reserved.ensures.capacity)) size fails in
    let Kept : List (ℕ × ℕ) → List Fraction → List ℕ → List ℕ → Type 0 =
    λ ps xs rs cs. KeepsReplay (record { problem = q; most = s.most; pivots = ps; spent = true }) xs rs cs
    (vec_capacity c.push_reserved.new.self) in
    moved Kept (sym c.push_reserved.ensures.items) (sym written) refl refl kept

pub returns-in-Ok-clause-ok : goal.returns-in-Ok-clause-ok
returns-in-Ok-clause-ok c =
    let s = c.self.inside in
    let k = c.self.invariant in
    let q = s.problem.now in
    let Fresh : Run → Type 0 = λ run. run.spent ≡ false in
    let Room : Run → Type 0 = λ run. length run.pivots < run.most in
    let InRow : Run → Type 0 = λ run. c.args.row ≤ cost_row run.problem in
    let InColumn : Run → Type 0 = λ run. c.args.column < columns run.problem in
    let Nonzero : Run → Type 0 = λ run. ((current run).place c.args.row c.args.column).num ≢ pos 0 in
    let fresh : s.spent ≡ false = subst Fresh (sym c.self.view_is) c.requires.not_spent in
    let few : length s.pivots.items < s.most = subst Room (sym c.self.view_is) c.requires.room in
    let can : IsPivot q (replay (opening q) s.pivots.items) c.args.row c.args.column = record {
      row_in = subst InRow (sym c.self.view_is) c.requires.row_in;
      column_in = subst InColumn (sym c.self.view_is) c.requires.column_in;
      nonzero = subst Nonzero (sym c.self.view_is) c.requires.nonzero;
    } in
    let height : c.len.result ≡ height_of q = omega (arith, s.row_labels.ok.0, c.len.ensures, k.rows) in
    let width : c.len-2.result + 1 ≡ width_of q = omega (arith, s.column_labels.ok.0, c.len-2.ensures, k.labels) in
    let before : c.deref_mut.result.now ≡ s.cells.items = c.deref_mut.ensures.value in
    let size : length c.pivot_rows-outcome.new.cells ≡ length s.cells.items =
    c.pivot_rows-outcome.auto.cells ∙ ap length before in
    let written = written_back s.cells.len c.pivot_rows-outcome.new.cells s.cells.items
    (omega (arith, s.cells.ok.0, size)) in
    let New : List Fraction → ℕ → ℕ → Type 0 = λ xs h w. (i j : ℕ) → i < h → j < w
    → pivot_place (placed xs w) c.args.row c.args.column i j ≡ Some (placed c.pivot_rows-outcome.new.cells w i j) in
    let new : New s.cells.items (height_of q) (width_of q) =
    subst (λ w. New s.cells.items (height_of q) w) width
    (subst (λ h. New s.cells.items h (c.len-2.result + 1)) height
    (subst (λ xs. New xs c.len.result (c.len-2.result + 1)) before c.in-Ok.ensures.ok)) in
    rw (← c.self.view_is)
    (narrow_pivot q s.cells.items c.pivot_rows-outcome.new.cells s.row_labels.items s.column_labels.items
    (replay (opening q) s.pivots.items) c.args.row c.args.column (k.shows fresh) can new)

pub returns-in-Err-clause-first : goal.returns-in-Err-clause-first
returns-in-Err-clause-first c =
    let s = c.self.inside in
    let k = c.self.invariant in
    let q = s.problem.now in
    let Fresh : Run → Type 0 = λ run. run.spent ≡ false in
    let Room : Run → Type 0 = λ run. length run.pivots < run.most in
    let InRow : Run → Type 0 = λ run. c.args.row ≤ cost_row run.problem in
    let InColumn : Run → Type 0 = λ run. c.args.column < columns run.problem in
    let Nonzero : Run → Type 0 = λ run. ((current run).place c.args.row c.args.column).num ≢ pos 0 in
    let fresh : s.spent ≡ false = subst Fresh (sym c.self.view_is) c.requires.not_spent in
    let few : length s.pivots.items < s.most = subst Room (sym c.self.view_is) c.requires.room in
    let can : IsPivot q (replay (opening q) s.pivots.items) c.args.row c.args.column = record {
      row_in = subst InRow (sym c.self.view_is) c.requires.row_in;
      column_in = subst InColumn (sym c.self.view_is) c.requires.column_in;
      nonzero = subst Nonzero (sym c.self.view_is) c.requires.nonzero;
    } in
    let height : c.len.result ≡ height_of q = omega (arith, s.row_labels.ok.0, c.len.ensures, k.rows) in
    let width : c.len-2.result + 1 ≡ width_of q = omega (arith, s.column_labels.ok.0, c.len-2.ensures, k.labels) in
    let before : c.deref_mut.result.now ≡ s.cells.items = c.deref_mut.ensures.value in
    let size : length c.pivot_rows-outcome.new.cells ≡ length s.cells.items =
    c.pivot_rows-outcome.auto.cells ∙ ap length before in
    let written = written_back s.cells.len c.pivot_rows-outcome.new.cells s.cells.items
    (omega (arith, s.cells.ok.0, size)) in
    let First : List Fraction → ℕ → ℕ → Type 0 =
    λ xs h w. IsFirstWide h w (placed xs w) c.args.row c.args.column c.in-Err.place.row c.in-Err.place.column in
    let first : First s.cells.items (height_of q) (width_of q) =
    subst (λ w. First s.cells.items (height_of q) w) width
    (subst (λ h. First s.cells.items h (c.len-2.result + 1)) height
    (subst (λ xs. First xs c.len.result (c.len-2.result + 1)) before c.in-Err.ensures.err)) in
    let same : Agree (height_of q) (width_of q) (placed s.cells.items (width_of q))
    (replay (opening q) s.pivots.items).place = record { each = (k.shows fresh).places } in
    let fails : FailsFirstAt q
    (replay (opening q) s.pivots.items) c.args.row c.args.column c.in-Err.place.row c.in-Err.place.column =
    first_wide_agrees (height_of q)
    (width_of q) _ _ c.args.row c.args.column c.in-Err.place.row c.in-Err.place.column same
    (omega (arith, can.row_in)) (omega (arith, can.column_in)) first in
    rw (← c.self.view_is) fails
