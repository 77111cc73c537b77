-- A run of steps, and one more.
use Rattle.std.proofs.Common.{◌≡◌, ℕ, inl, inr, List, [], ◌∷◌, ◌++◌, length, false, sym, ap, ◌∙◌}
use Rattle.std.proofs.Common.{subst}
use Rattle.std.specs.Prelude.{Option, ℤ}
use Rattle.bl_terms.specs.Bounds.{Problem}
use Rattle.bl_simplex.specs.Dictionaries.{Dictionary, columns, opening}
use Rattle.bl_simplex.specs.Pivots.{pivoted, replay, IsNarrowPivot, FailsFirstAt}
use Rattle.bl_simplex.specs.Closing.{Closes}
use Rattle.bl_simplex.specs.Licences.{IsStep, AreSteps, PassesWidth, PassesPivots, PassesNumbers, ClosesPastLimit}
use Rattle.bl_simplex.specs.Licences.{IsPointPastLimit, pivot_limit}
use Rattle.bl_tableau.specs.Runs.{Run, current}
use Rattle.bl_licence.specs.Steps.{MayPivot}
use Rattle.bl_duality.proofs.Labels.{permuted}
use Rattle.bl_duality.proofs.CostSigns.{steps_narrow}
use Rattle.bl_relax.specs.Runs.{IsRunOfSteps}
use Rattle.bl_relax.specs.Choices.{AreDistinct}

steps_one_more : (q : Problem) (u : Option ℤ) (d : Dictionary) (ps : List (ℕ × ℕ)) (p : ℕ × ℕ) → AreSteps q u d ps
    → IsStep q u (replay d ps) p → AreSteps q u d (ps ++ p ∷ [])
steps_one_more q u d [] p h step = (step, tt)
steps_one_more q u d (o ∷ os) p h step = (h.0, steps_one_more q u (pivoted d o.0 o.1) os p h.1 step)

pub begins : (q : Problem) (u : Option ℤ) (run : Run) (n : ℕ)
    → run ≡ record { problem = q; most = n; pivots = []; spent = false } → IsRunOfSteps q u run
begins q u run n e = record {
  problem = ap (λ r. r.problem) e;
  fresh = ap (λ r. r.spent) e;
  steps = subst (AreSteps q u (opening q)) (sym (ap (λ r. r.pivots) e)) tt;
}

pub goes_on : (q : Problem) (u : Option ℤ) (run next : Run) (p : ℕ × ℕ) → IsRunOfSteps q u run
    → MayPivot run.problem u (current run) p → IsNarrowPivot run.problem (current run) p.0 p.1
    → next ≡ record run { pivots = run.pivots ++ p ∷ []; spent = false } → IsRunOfSteps q u next
goes_on q u run next p so may narrow e =
    let Step : Problem → Type 0 = λ r. IsStep r u (replay (opening r) run.pivots) p in
    let step : Step run.problem = record { open_box = may.open_box; legal = may.legal; narrow = narrow } in
    record {
      problem = ap (λ r. r.problem) e ∙ so.problem;
      fresh = ap (λ r. r.spent) e;
      steps = subst (AreSteps q u (opening q)) (sym (ap (λ r. r.pivots) e))
          (steps_one_more q u (opening q) run.pivots p so.steps (subst Step so.problem step));
    }

pub passes_width : (q : Problem) (u : Option ℤ) (run : Run) (ps : List (ℕ × ℕ)) (p : ℕ × ℕ) (row column : ℕ)
    → IsRunOfSteps q u run → MayPivot run.problem u (current run) p
    → FailsFirstAt run.problem (current run) p.0 p.1 row column
    → ps ≡ run.pivots ++ p ∷ [] → PassesWidth q u ps row column
passes_width q u run ps p row column so may wide e =
    let May : Problem → Type 0 = λ r. MayPivot r u (replay (opening r) run.pivots) p in
    let Wide : Problem → Type 0 = λ r. FailsFirstAt r (replay (opening r) run.pivots) p.0 p.1 row column in
    let there : May q = subst May so.problem may in
    record {
      front = run.pivots;
      last = p;
      split = e;
      steps = so.steps;
      open_box = there.open_box;
      legal = there.legal;
      wide = subst Wide so.problem wide;
    }

pub passes_pivots : (q : Problem) (u : Option ℤ) (run : Run) (ps : List (ℕ × ℕ)) → IsRunOfSteps q u run
    → length run.pivots ≡ pivot_limit q → ¬ Closes run.problem u (current run) → ps ≡ run.pivots → PassesPivots q u ps
passes_pivots q u run ps so count unclosed e =
    let Open : Problem → Type 0 = λ r. ¬ Closes r u (replay (opening r) run.pivots) in
    subst (PassesPivots q u) (sym e)
    (record { count = count; steps = so.steps; open_box = subst Open so.problem unclosed })

pub passes_by_proof : (q : Problem) (u : Option ℤ) (run : Run) (ps : List (ℕ × ℕ)) → IsRunOfSteps q u run
    → ClosesPastLimit run.problem u (current run) → ps ≡ run.pivots → PassesNumbers q u ps
passes_by_proof q u run ps so past e =
    let Past : Problem → Type 0 = λ r. ClosesPastLimit r u (replay (opening r) run.pivots) in
    subst (PassesNumbers q u) (sym e) (record { steps = so.steps; ending = inl (subst Past so.problem past) })

pub passes_by_point : (q : Problem) (u : Option ℤ) (run : Run) (ps : List (ℕ × ℕ)) → IsRunOfSteps q u run
    → IsPointPastLimit run.problem u (current run) → ps ≡ run.pivots → PassesNumbers q u ps
passes_by_point q u run ps so past e =
    let Past : Problem → Type 0 = λ r. IsPointPastLimit r u (replay (opening r) run.pivots) in
    subst (PassesNumbers q u) (sym e) (record { steps = so.steps; ending = inr (subst Past so.problem past) })

-- ---- the labels of a run's columns

pub columns_distinct : (q : Problem) (u : Option ℤ) (run : Run) → IsRunOfSteps q u run
    → AreDistinct (columns run.problem) (current run).column_label
columns_distinct q u run so =
    let Distinct : Problem → Type 0 = λ r. AreDistinct (columns r) (replay (opening r) run.pivots).column_label in
    let narrow = steps_narrow q u (opening q) run.pivots so.steps in
    subst Distinct (sym so.problem) (record { each = (permuted q run.pivots narrow).columns_apart })
