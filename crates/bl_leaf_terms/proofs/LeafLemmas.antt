-- Incumbents, value rows and closed leaves.
use Rattle.std.proofs.Common.{◌≡◌, ◌≢◌, ℕ, zero, suc, ◌<◌, refl, sym, ◌∙◌, ap, subst, arith, List, [], ◌∷◌, ◌++◌}
use Rattle.std.proofs.Common.{length}
use Rattle.std.specs.Prelude.{◌↔◌, ℤ, map, Option, Some, None, All}
use Rattle.std.specs.List.{range_with_len}
use Rattle.std.proofs.lemmas.List.{length-map, get_or_default}
use Rattle.std.proofs.lemmas.List.FromFn.{length-range_with_len}
use Rattle.std.proofs.lemmas.List.Elements.{All-append, All-map}
use Rattle.bl_terms.specs.Points.{Area, IsArea, IsWithinArea, Linear, zeros}
use Rattle.bl_terms.specs.Programs.{Program, Row, IsProgram, columns, row_at, no_row, inequality, root, InBox}
use Rattle.bl_terms.specs.Programs.{MeetsRows}
use Rattle.bl_terms.specs.Programs.{MeetsLowerRows, link_of, cost_at}
use Rattle.bl_terms.specs.Responses.{Entry, Best, NoResponse, IsTrueEntry}
use Rattle.bl_terms.specs.Feasible.{BilevelFeasible}
use Rattle.bl_terms.specs.Bounds.{Multipliers, Proves, IsProblem, IsPoint, no_linear}
use Rattle.bl_terms.proofs.PointLemmas.{zeros_ask_nothing}
use Rattle.bl_terms.proofs.ResponseLemmas.{entry_law, no_response_no_point}
use Rattle.bl_terms.proofs.BoundLemmas.{weak_duality, no_cutoff_no_point}
use Rattle.bl_model.specs.View.{IsModel}
use Rattle.bl_model.proofs.BoxLemmas.{link_of_box}
use Rattle.bl_fproof.specs.Entries.{Admitted}
use Rattle.bl_fproof.specs.Steps.{entry_of}
use Rattle.bl_fproof.proofs.Truth.{admitted_is_true}
use Rattle.bl_cut_terms.specs.ValidRows.{IsValidRow}
use Rattle.bl_cut_terms.specs.NoGoods.{NoGoodCut, LocalRow, CutStep, IsCutStep, AreCutSteps, local_row, last_step}
use Rattle.bl_cut_terms.specs.NoGoods.{cut_of}
use Rattle.bl_cut_terms.proofs.NoGoodLemmas.{no_goods_law, valid_on_parts}
use Rattle.bl_leaf_terms.specs.Incumbents.{IsEntryFor, IsNoBetter, IncumbentLaw, cutoff_of}
use Rattle.bl_leaf_terms.specs.Nodes.{fixed_link, ValueRowLaw}
use Rattle.bl_leaf_terms.specs.Leaves.{IsAtLeast, IsClosed, value_place, leaf_problem, Evidence, Bounded, NoAnswer}
use Rattle.bl_leaf_terms.specs.Leaves.{IsCutFor, HasValueFor, IsBounded, HasNoAnswer, IsShownClosed}
use Rattle.bl_leaf_terms.specs.Leaves.{BoundedLaw, LeafLaw}

-- ---- incumbents

-- an entry that is for a link says the truth of it
pub true_entry : (p : Program) (l : List ℤ) (e : Admitted) → IsEntryFor p l e → IsTrueEntry p l (entry_of e.answered)
true_entry p l e f =
    let h : IsTrueEntry e.program e.link (entry_of e.answered) = admitted_is_true e f.admitted in
    let of_program : IsTrueEntry p e.link (entry_of e.answered) =
    subst (λ (x : Program). IsTrueEntry x e.link (entry_of e.answered)) f.program h in
    subst (λ (x : List ℤ). IsTrueEntry p x (entry_of e.answered)) f.link of_program

-- a point that meets the rows meets the follower's
pub lower_rows : (p : Program) (z : List ℤ) → MeetsRows p z → MeetsLowerRows p z
lower_rows p z h = record { each = λ i b _. h.each i b }

incumbent_of_entry : (p : Program) (z : List ℤ) (x : Entry) → IsProgram p → IsTrueEntry p (link_of p z) x
    → BilevelFeasible p z ↔ (InBox p z × MeetsRows p z × IsNoBetter p z x)
incumbent_of_entry p z (Best y v) g true_at = (
  λ f. (f.inside, f.rows, (entry_law p z y v g f.inside f.rows true_at).1.0 f),
  λ h. (entry_law p z y v g h.0 h.1 true_at).1.1 h.2,
)
incumbent_of_entry p z NoResponse g true_at =
    (λ f. absurd (no_response_no_point p z g f.inside true_at (lower_rows p z f.rows)), λ h. absurd h.2)

pub incumbent_law : IncumbentLaw
incumbent_law p z e m f = incumbent_of_entry p z (entry_of e.answered) m.sound (true_entry p (link_of p z) e f)

-- ---- the value row

pub value_row_law : ValueRowLaw
value_row_law p a e v m area within has z f inside =
    let link = link_of_box p a z m.sound within has.fixes inside in
    let at_box : IsTrueEntry p (fixed_link p a) (Best has.best.0 v) =
    subst (λ (x : Entry). IsTrueEntry p (fixed_link p a) x) has.best.1 (true_entry p (fixed_link p a) e has.entry) in
    let at_point : IsTrueEntry p (link_of p z) (Best has.best.0 v) =
    subst (λ (x : List ℤ). IsTrueEntry p x (Best has.best.0 v)) (sym link) at_box in
    record { holds = (entry_law p z has.best.0 v m.sound f.inside f.rows at_point).1.0 f }

-- ---- a bound over valid rows

bounds : (p : Program) (a : Area) (u : Option ℤ) (w : Multipliers) (rows : List Linear) (z : List ℤ)
    → IsProblem (record { rows = rows; cost = p.cost; area = a })
    → Proves (record { rows = rows; cost = p.cost; area = a }) u w
    → IsPoint (record { rows = rows; cost = p.cost; area = a }) z → IsAtLeast u (cost_at p z)
bounds p a (Some u) w rows z shape proof point =
    weak_duality (record { rows = rows; cost = p.cost; area = a }) u w z shape proof point
bounds p a None w rows z shape proof point =
    no_cutoff_no_point (record { rows = rows; cost = p.cost; area = a }) w z shape proof point

pub bounded_law : BoundedLaw
bounded_law p a u w rows m area within valid shape proof z f inside =
    bounds p a u w rows z shape proof (record { inside = inside; rows = λ i b. valid i no_linear b z f inside })

-- ---- leaves

-- a row that is valid on the box and has a coefficient for each column
pub record IsRowFor (p : Program) (a : Area) (r : Linear) : Type 0 where
  pub valid : IsValidRow p a r
  pub count : length r.coef ≡ columns p

-- rows of the program are such
program_row : (p : Program) (a : Area) (i : ℕ) → IsProgram p → i < length p.rows
    → IsRowFor p a (inequality (row_at p.rows i))
program_row p a i g b = record { valid = λ z f _. f.rows.each i b; count = g.row_columns i b }

program_rows : (p : Program) (a : Area) → IsProgram p → All (IsRowFor p a) (map inequality p.rows)
program_rows p a g =
    All-map (IsRowFor p a) inequality p.rows
    (λ i d b. subst (λ (r : Row). IsRowFor p a (inequality r)) (get_or_default p.rows i no_row d b)
    (program_row p a i g b))

-- so is what stands at the place of the value row
zeros_count : (n : ℕ) → length (zeros n) ≡ n
zeros_count zero = refl
zeros_count (suc n) = ap suc (zeros_count n)

place_row : (p : Program) (a : Area) (w : Multipliers) (entry : Option Admitted) (value : Option ℤ) → IsModel p
    → IsArea a → IsWithinArea a (root p) → HasValueFor p a w entry value → IsRowFor p a (value_place p value)
place_row p a w entry None m area within has =
    record { valid = λ z _ _. zeros_ask_nothing (columns p) z; count = zeros_count (columns p) }
place_row p a w None (Some v) m area within has = absurd (let e = has.0 in cc)
place_row p a w (Some e) (Some v) m area within has =
    record { valid = value_row_law p a e v m area within has; count = m.sound.follower_cost_columns }

-- and the row of a cut
pub last_of : (P : CutStep → Type 0) (steps : List CutStep) → All P steps → steps ≢ [] → P (last_step steps)
last_of P [] each some = absurd (some refl)
last_of P (s ∷ []) each some = each 0 s (omega arith)
last_of P (s ∷ t ∷ steps) each some = last_of P (t ∷ steps) (λ k d b. each (suc k) d (omega arith)) (λ e. cc)

counted : (p : Program) (earlier : List LocalRow) (steps : List CutStep) → AreCutSteps p earlier steps
    → All (λ s. length s.row.coef ≡ columns p) steps
counted p earlier [] shown = λ k d b. absurd (omega arith)
counted p earlier (s ∷ steps) shown =
    All-append (λ x. length x.row.coef ≡ columns p) (s ∷ []) steps (first shown.0)
    (counted p (earlier ++ local_row s ∷ []) steps shown.1)
  where
    first : IsCutStep p earlier s → All (λ x. length x.row.coef ≡ columns p) (s ∷ [])
    first h zero d b =
        ap (λ (r : Linear). length r.coef) h.row ∙ length-map (range_with_len 0 (columns p)) _
        ∙ length-range_with_len 0 (columns p)
    first h (suc k) d b = absurd (omega arith)

pub cut_row_for : (p : Program) (a : Area) (c : NoGoodCut) → IsProgram p → IsCutFor p a c → IsRowFor p a (cut_of c).row
cut_row_for p a c g h = record {
  valid =
      valid_on_parts p a (cut_of c).area (cut_of c).row h.within
      (last_of (λ s. IsValidRow p s.area s.row) c.steps (no_goods_law p c.steps g h.steps) h.some);
  count = last_of (λ s. length s.row.coef ≡ columns p) c.steps (counted p [] c.steps h.steps) h.some;
}

-- so all rows of a leaf are valid and have a coefficient for each column
leaf_rows : (p : Program) (a : Area) (u : Option ℤ) (w : Multipliers) (cuts : List NoGoodCut) (entry : Option Admitted)
    → IsModel p → IsArea a → IsWithinArea a (root p) → (h : IsBounded p a u w cuts entry)
    → All (IsRowFor p a) (leaf_problem p a h.value (map (λ c. (cut_of c).row) cuts)).rows
leaf_rows p a u w cuts entry m area within h =
    let rest : All (IsRowFor p a) (map (λ c. (cut_of c).row) cuts) =
    All-map (IsRowFor p a) (λ c. (cut_of c).row) cuts (λ k d b. cut_row_for p a _ m.sound (h.valid k d b)) in
    let place : All (IsRowFor p a) (value_place p h.value ∷ []) =
    λ k d b. one_row k d b in
    All-append (IsRowFor p a) (map inequality p.rows) (value_place p h.value ∷ map (λ c. (cut_of c).row) cuts)
    (program_rows p a m.sound)
    (All-append (IsRowFor p a) (value_place p h.value ∷ []) (map (λ c. (cut_of c).row) cuts) place rest)
  where
    one_row : All (IsRowFor p a) (value_place p h.value ∷ [])
    one_row zero d b = place_row p a w entry h.value m area within h.has
    one_row (suc k) d b = absurd (omega arith)

bounded_closes : (p : Program) (a : Area) (u : Option ℤ) (w : Multipliers) (cuts : List NoGoodCut)
    (entry : Option Admitted) → IsModel p → IsArea a → IsWithinArea a (root p) → IsBounded p a u w cuts entry
    → IsClosed p a u
bounded_closes p a u w cuts entry m area within h =
    let rows = leaf_rows p a u w cuts entry m area within h in
    bounded_law p a u w (leaf_problem p a h.value (map (λ c. (cut_of c).row) cuts)).rows m area within
    (λ k d b. (rows k d b).valid)
    (record {
      box = area;
      cost_columns = m.sound.cost_columns ∙ sym within.columns;
      row_columns = λ i b. (rows i no_linear b).count ∙ sym within.columns;
    })
    h.proof

unanswered_closes : (p : Program) (a : Area) (u : Option ℤ) (e : Admitted) → IsModel p → IsWithinArea a (root p)
    → HasNoAnswer p a e → IsClosed p a u
unanswered_closes p a u e m within h z f inside =
    let link = link_of_box p a z m.sound within h.fixes inside in
    let at_box : IsTrueEntry p (fixed_link p a) NoResponse =
    subst (λ (x : Entry). IsTrueEntry p (fixed_link p a) x) h.none (true_entry p (fixed_link p a) e h.entry) in
    let at_point : IsTrueEntry p (link_of p z) NoResponse =
    subst (λ (x : List ℤ). IsTrueEntry p x NoResponse) (sym link) at_box in
    absurd (no_response_no_point p z m.sound f.inside at_point (lower_rows p z f.rows))

pub shown_closes : (p : Program) (a : Area) (u : Option ℤ) (evidence : Evidence) → IsModel p → IsArea a
    → IsWithinArea a (root p) → IsShownClosed p a u evidence → IsClosed p a u
shown_closes p a u (Bounded w cuts entry) m area within h = bounded_closes p a u w cuts entry m area within h
shown_closes p a u (NoAnswer e) m area within h = unanswered_closes p a u e m within h

pub leaf_law : LeafLaw
leaf_law leaf h =
    shown_closes leaf.program leaf.area (cutoff_of leaf.cutoff) leaf.evidence h.model h.area h.within h.shown
