-- What the last dictionary of a run gives.
use Rattle.std.proofs.Common.{◌≡◌, ◌≢◌, ℕ, ◌<◌, ◌≤◌, inl, inr, List, length, ℤ, pos, ◌-ℤ◌, ◌≤ℤ◌, refl, sym, ap}
use Rattle.std.proofs.Common.{◌∙◌, subst, arith}
use Rattle.std.specs.Prelude.{Option, Some, None, MatchOption, Result, Ok, Err, IfOk}
use Rattle.std.proofs.lemmas.Int.{ints}
use Rattle.bl_limits.specs.declared.TheConstants.{MAX_PROOF_NUMBER}
use Rattle.bl_terms.specs.Bounds.{Problem, Fits, Multipliers, Proves}
use Rattle.bl_simplex.specs.Fractions.{Fraction}
use Rattle.bl_simplex.specs.Rationals.{fraction_at, common_denominator}
use Rattle.bl_simplex.specs.Dictionaries.{Dictionary, columns, opening}
use Rattle.bl_simplex.specs.Pivots.{replay}
use Rattle.bl_simplex.specs.Closing.{Closes, ClosesByRow, ClosesByCost, IsFirstClosingRow, PassLimit, row_multiplier}
use Rattle.bl_simplex.specs.Closing.{cost_multiplier, basic_value}
use Rattle.bl_simplex.specs.Licences.{IsFeasible, IsFractional, PassesNumbers}
use Rattle.bl_bound.specs.Plain.{IsBetterPoint}
use Rattle.bl_whole.specs.Sums.{component}
use Rattle.bl_tableau.specs.Runs.{Run, current}
use Rattle.bl_licence.specs.Steps.{IsListOf, IsBetween}
use Rattle.bl_licence.proofs.Limits.{list_common}
use Rattle.bl_duality.proofs.ClosingRows.{closing_row_proves}
use Rattle.bl_duality.proofs.ClosingCosts.{closing_cost_proves}
use Rattle.bl_vertex.specs.Optima.{IsOpenOptimum, AreAllWhole, IsPointAt}
use Rattle.bl_vertex.proofs.OpenOptimum.{between, fractional, whole}
use Rattle.bl_relax.specs.declared.relaxed.Relaxed.{Relaxed}
use Rattle.bl_relax.specs.Relaxed.{IsRelaxed}
use Rattle.bl_relax.specs.Runs.{IsRunOfSteps, IsProofOf, IsClosed}
use Rattle.bl_relax.proofs.Steps.{passes_by_proof, passes_by_point}

pub if_ok : {E : Type 0} (P Q : Relaxed → Type 0) (r : Result Relaxed E) → ((x : Relaxed) → P x → Q x) → IfOk r P
    → IfOk r Q
if_ok P Q (Ok x) f h = f x h
if_ok P Q (Err e) f h = h

-- ---- a dictionary that closes the box

-- a claim of a run's problem is one of the problem that the run is of
of_run : (P : Problem → Type 0) (q : Problem) (run : Run) → run.problem ≡ q → P run.problem → P q
of_run P q run e h = subst P e h

-- the answer of a closing dictionary, from what its proof means and what want of one means
closed_answer : (q : Problem) (u : Option ℤ) (pivots : List (ℕ × ℕ)) (P : Type 0) (R : Multipliers → Type 0)
    (proof : Option Multipliers) (answer : Relaxed) → (P → PassesNumbers q u pivots)
    → ((w : Multipliers) → R w → Proves q u w) → MatchOption proof P R → IsClosed pivots proof answer
    → IsRelaxed q u answer
closed_answer q u pivots P R None answer past proves h e = subst (IsRelaxed q u) (sym e) (past h)
closed_answer q u pivots P R (Some w) answer past proves h e = subst (IsRelaxed q u) (sym e) (proves w h)

with_parts : (q : Problem) (u : Option ℤ) (w : Multipliers) (den : ℤ) → w.den ≡ den
    → Proves q u (record { den = den; mult = w.mult }) → Proves q u w
with_parts q u w den e h = subst (λ d. Proves q u (record { den = d; mult = w.mult })) (sym e) h

pub row_answer : (q : Problem) (u : Option ℤ) (run : Run) (row : ℕ) (proof : Option Multipliers) (answer : Relaxed)
    → Fits q → IsRunOfSteps q u run → IsFirstClosingRow run.problem (current run) row
    → MatchOption proof (PassLimit run.problem (row_multiplier run.problem (current run) row))
    (IsProofOf run.problem (pos 0) (row_multiplier run.problem (current run) row))
    → IsClosed run.pivots proof answer → IsRelaxed q u answer
row_answer q u run row proof answer f so first h e =
    closed_answer q u run.pivots _ _ proof answer
    (λ past. passes_by_proof q u run run.pivots so (inl (row, first, past)) refl) proves h e
  where
    proves : (w : Multipliers) → IsProofOf run.problem (pos 0) (row_multiplier run.problem (current run) row) w
        → Proves q u w
    proves w p =
        let d : Problem → Dictionary = λ r. replay (opening r) run.pivots in
        let there : IsProofOf q (pos 0) (row_multiplier q (d q) row) w =
        of_run (λ r. IsProofOf r (pos 0) (row_multiplier r (d r) row) w) q run so.problem p in
        let closes : ClosesByRow q (d q) row = of_run (λ r. ClosesByRow r (d r) row) q run so.problem first.closes in
        with_parts q u w (pos 0) there.weight
        (closing_row_proves q u run.pivots row w.mult f.shape so.steps closes there.within there.whole)

-- the weight of the cost
abbrev cost_weight : List (ℕ × ℕ) → Problem → ℤ
cost_weight pivots r = pos (common_denominator (length r.rows) (cost_multiplier r (replay (opening r) pivots)))

pub cost_answer : (q : Problem) (u : Option ℤ) (run : Run) (proof : Option Multipliers) (answer : Relaxed)
    → Fits q → IsRunOfSteps q u run → ((r : ℕ) → ¬ ClosesByRow run.problem (current run) r)
    → ClosesByCost run.problem u (current run)
    → MatchOption proof (PassLimit run.problem (cost_multiplier run.problem (current run)))
    (IsProofOf run.problem
    (pos (common_denominator (length run.problem.rows) (cost_multiplier run.problem (current run))))
    (cost_multiplier run.problem (current run)))
    → IsClosed run.pivots proof answer → IsRelaxed q u answer
cost_answer q u run proof answer f so none cost h e =
    closed_answer q u run.pivots _ _ proof answer
    (λ past. passes_by_proof q u run run.pivots so (inr (none, cost, past)) refl) proves h e
  where
    proves : (w : Multipliers)
        → IsProofOf run.problem (cost_weight run.pivots run.problem) (cost_multiplier run.problem (current run)) w
        → Proves q u w
    proves w p =
        let d : Problem → Dictionary = λ r. replay (opening r) run.pivots in
        let weight = cost_weight run.pivots in
        let there : IsProofOf q (weight q) (cost_multiplier q (d q)) w =
        of_run (λ r. IsProofOf r (weight r) (cost_multiplier r (d r)) w) q run so.problem p in
        let closes : ClosesByCost q u (d q) = of_run (λ r. ClosesByCost r u (d r)) q run so.problem cost in
        with_parts q u w (weight q) there.weight
        (closing_cost_proves q u run.pivots w.mult f.shape so.steps closes there.within there.whole)

-- ---- an open optimum

-- the common denominator of an open optimum's point passes its limit
pub point_past : (q : Problem) (u : Option ℤ) (run : Run) (fs ds : List Fraction) (m : ℕ) → IsRunOfSteps q u run
    → ¬ Closes q u (current run) → IsFeasible q (current run)
    → IsListOf (columns run.problem) (basic_value run.problem (current run)) fs → ds ≡ fs
    → ¬ (common_denominator (length ds) (fraction_at ds) ≤ m) → MAX_PROOF_NUMBER ≤ℤ pos m
    → PassesNumbers q u run.pivots
point_past q u run fs ds m so unclosed feasible l e past least =
    let common : common_denominator (length ds) (fraction_at ds)
    ≡ common_denominator (columns run.problem) (basic_value run.problem (current run)) =
    ap (λ ys. common_denominator (length ys) (fraction_at ys)) e
    ∙ list_common (columns run.problem) (basic_value run.problem (current run)) fs l in
    passes_by_point q u run run.pivots so (record {
      open_box = subst (λ r. ¬ Closes r u (current run)) (sym so.problem) unclosed;
      feasible = subst (λ r. IsFeasible r (current run)) (sym so.problem) feasible;
      common =
          let above : m < common_denominator (length ds) (fraction_at ds) = omega (arith, past) in
          omega (arith, ints);
    }) refl

-- ---- what its point gives

at_list : (P : List Fraction → Type 0) (ds fs : List Fraction) → ds ≡ fs → P ds → P fs
at_list P ds fs e h = subst P e h

pub in_box : (q : Problem) (u : Option ℤ) (fs ds : List Fraction) → Fits q
    → (pivots : List (ℕ × ℕ)) × IsOpenOptimum q u pivots fs → ds ≡ fs → (j : ℕ) → j < columns q
    → IsBetween (component q.area.hi j -ℤ component q.area.lo j) (fraction_at ds j)
in_box q u fs ds f h e j l =
    subst (λ ys. IsBetween (component q.area.hi j -ℤ component q.area.lo j) (fraction_at ys j)) (sym e)
    (between q u h.0 fs f h.1 j l)

pub all_whole : (q : Problem) (u : Option ℤ) (fs ds es : List Fraction)
    → (pivots : List (ℕ × ℕ)) × IsOpenOptimum q u pivots fs → ds ≡ fs → es ≡ fs
    → ((j : ℕ) → j < length ds → (fraction_at ds j).den ≡ 1) → AreAllWhole q es
all_whole q u fs ds es h e g whole j l =
    let size : length ds ≡ columns q = ap length e ∙ h.1.values.size in
    subst (λ ys. (fraction_at ys j).den ≡ 1) (e ∙ sym g) (whole j (omega arith))

pub whole_answer : (q : Problem) (u : Option ℤ) (fs ds : List Fraction) (z : List ℤ) → Fits q
    → (pivots : List (ℕ × ℕ)) × IsOpenOptimum q u pivots fs → ds ≡ fs → AreAllWhole q ds → IsPointAt q ds z
    → IsBetterPoint q u z
whole_answer q u fs ds z f h e all at =
    whole q u h.0 fs z f h.1 (at_list (AreAllWhole q) ds fs e all) (at_list (λ ys. IsPointAt q ys z) ds fs e at)

pub split_answer : (q : Problem) (u : Option ℤ) (fs ds es : List Fraction) → Fits q
    → (pivots : List (ℕ × ℕ)) × IsOpenOptimum q u pivots fs → ds ≡ fs → es ≡ fs
    → (j : ℕ) × (j < length ds) × ((fraction_at ds j).den ≢ 1) → IsFractional q u es
split_answer q u fs ds es f h e g some =
    let size : length ds ≡ columns q = ap length e ∙ h.1.values.size in
    let l = some.1 in
    subst (IsFractional q u) (sym g)
    (fractional q u h.0 fs f h.1
    (some.0, omega arith, subst (λ ys. (fraction_at ys some.0).den ≢ 1) e some.2))
