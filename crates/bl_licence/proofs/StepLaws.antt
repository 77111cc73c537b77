-- Lists of pivots that are taken one after the other.
use Rattle.std.proofs.Common.{rules, ◌≡◌, ◌≢◌, ℕ, zero, suc, ◌+◌, ◌-◌, ◌<◌, ◌≤◌, ◌⊎◌, inl, inr, cond, true, false, List}
use Rattle.std.proofs.Common.{[], ◌∷◌, ◌++◌, length, drop, take, get_or, refl, sym, ap, ◌∙◌, subst, arith}
use Rattle.std.proofs.Common.{length-append, append_assoc, length-drop}
use Rattle.std.specs.Prelude.{Option, None, Some, IsSome, ℤ, ◌==◌}
use Rattle.std.proofs.Math.Seq.{drop-cons}
use Rattle.std.proofs.lemmas.Bool.{cases_eq, cases_order}
use Rattle.bl_terms.specs.Bounds.{Problem}
use Rattle.bl_simplex.specs.Fractions.{Fraction}
use Rattle.bl_simplex.specs.Dictionaries.{Dictionary, columns, cost_row, height_of, width_of, opening}
use Rattle.bl_simplex.specs.Pivots.{pivoted, replay, pivot_place, turn_of, ComesBefore, IsFirstWide, IsNarrowPivot}
use Rattle.bl_simplex.specs.Pivots.{FailsFirstAt}
use Rattle.bl_simplex.specs.LegalPivots.{IsLegal}
use Rattle.bl_simplex.specs.Closing.{Closes}
use Rattle.bl_simplex.specs.Licences.{IsStep, AreSteps, PassesWidth}
use Rattle.bl_tableau.specs.Runs.{Run, current}
use Rattle.bl_tableau.proofs.RunSteps.{replay-append}
use Rattle.bl_tableau.proofs.RowSteps.{test_same, test_other}
use Rattle.bl_licence.specs.Steps.{MayPivot, Took, EndsInWidth}

pub record StepsSoFar (u : Option ℤ) (start now : Run) (pivots : List (ℕ × ℕ)) (k : ℕ) : Type 0 where
  pub problem : now.problem ≡ start.problem
  pub most : now.most ≡ start.most
  pub fresh : now.spent ≡ false
  pub added : now.pivots ++ drop k pivots ≡ start.pivots ++ pivots
  pub room : length now.pivots + (length pivots - k) ≤ now.most
  pub goes_on : AreSteps start.problem u (current start) pivots → AreSteps now.problem u (current now) (drop k pivots)
  pub came : AreSteps now.problem u (current now) (drop k pivots) → AreSteps start.problem u (current start) pivots

pub steps_begin : (u : Option ℤ) (start : Run) (pivots : List (ℕ × ℕ)) → start.spent ≡ false
    → length start.pivots + length pivots ≤ start.most → StepsSoFar u start start pivots 0
steps_begin u start pivots fresh room = record {
  problem = refl;
  most = refl;
  fresh = fresh;
  added = refl;
  room = omega (arith, room);
  goes_on = λ h. h;
  came = λ h. h;
}

rest_is : (pivots : List (ℕ × ℕ)) (k : ℕ) (p : ℕ × ℕ) → k < length pivots → p ≡ get_or pivots k (0, 0)
    → drop k pivots ≡ p ∷ drop (k + 1) pivots
rest_is pivots k p l e =
    let n : suc k ≡ k + 1 = omega arith in
    drop-cons pivots k (0, 0) l ∙ ap (λ x. x ∷ drop (suc k) pivots) (sym e) ∙ ap (λ m. p ∷ drop m pivots) n

after_is : (q : Problem) (ps : List (ℕ × ℕ)) (p : ℕ × ℕ)
    → replay (opening q) (ps ++ p ∷ []) ≡ pivoted (replay (opening q) ps) p.0 p.1
after_is q ps p = replay-append (opening q) ps p

abbrev pub with_pivot : Run → ℕ × ℕ → Run
with_pivot now p = record now { pivots = now.pivots ++ p ∷ [] }

pub steps_more : (u : Option ℤ) (start now next : Run) (pivots : List (ℕ × ℕ)) (k : ℕ) (p : ℕ × ℕ)
    → StepsSoFar u start now pivots k → k < length pivots → p ≡ get_or pivots k (0, 0)
    → IsStep now.problem u (current now) p → next ≡ with_pivot now p → StepsSoFar u start next pivots (k + 1)
steps_more u start now next pivots k p so l ep step en =
    let rest = rest_is pivots k p l ep in
    let after = after_is now.problem now.pivots p in
    let made : StepsSoFar u start (with_pivot now p) pivots (k + 1) = record {
      problem = so.problem;
      most = so.most;
      fresh = so.fresh;
      added = append_assoc now.pivots (p ∷ []) (drop (k + 1) pivots) ∙ ap (λ xs. now.pivots ++ xs) (sym rest)
          ∙ so.added;
      room = omega (arith, length-append now.pivots (p ∷ []), so.room);
      goes_on = λ h.
          let all = subst (AreSteps now.problem u (current now)) rest (so.goes_on h) in
          subst (λ d. AreSteps now.problem u d (drop (k + 1) pivots)) (sym after) all.1;
      came = λ h.
          let there = subst (λ d. AreSteps now.problem u d (drop (k + 1) pivots)) after h in
          let all : AreSteps now.problem u (current now) (p ∷ drop (k + 1) pivots) = (step, there) in
          so.came (subst (AreSteps now.problem u (current now)) (sym rest) all);
    } in
    subst (λ r. StepsSoFar u start r pivots (k + 1)) (sym en) made

pub steps_fail : (u : Option ℤ) (start now : Run) (pivots : List (ℕ × ℕ)) (k : ℕ) (p : ℕ × ℕ)
    → StepsSoFar u start now pivots k → k < length pivots → p ≡ get_or pivots k (0, 0)
    → ¬ IsStep now.problem u (current now) p → ¬ AreSteps start.problem u (current start) pivots
steps_fail u start now pivots k p so l ep refused h =
    refused (subst (AreSteps now.problem u (current now)) (rest_is pivots k p l ep) (so.goes_on h)).0

drop_all : (pivots : List (ℕ × ℕ)) (k : ℕ) → length pivots ≤ k → drop k pivots ≡ []
drop_all [] zero h = refl
drop_all [] (suc k) h = refl
drop_all (p ∷ ps) zero h = absurd (omega arith)
drop_all (p ∷ ps) (suc k) h = drop_all ps k (omega arith)

append_none : (xs : List (ℕ × ℕ)) → xs ++ [] ≡ xs
append_none [] = refl
append_none (x ∷ xs) = ap (λ ys. x ∷ ys) (append_none xs)

pub steps_all : (u : Option ℤ) (start now : Run) (pivots : List (ℕ × ℕ)) (k : ℕ) → StepsSoFar u start now pivots k
    → length pivots ≤ k → AreSteps start.problem u (current start) pivots
steps_all u start now pivots k so l =
    so.came (subst (AreSteps now.problem u (current now)) (sym (drop_all pivots k l)) tt)

pub steps_took : (u : Option ℤ) (start now : Run) (pivots : List (ℕ × ℕ)) (k : ℕ) → StepsSoFar u start now pivots k
    → length pivots ≤ k → Took start pivots now
steps_took u start now pivots k so l = record {
  problem = so.problem;
  most = so.most;
  fresh = so.fresh;
  added = sym (append_none now.pivots) ∙ ap (λ xs. now.pivots ++ xs) (sym (drop_all pivots k l)) ∙ so.added;
}

-- what a run from the opening dictionary has come to
pub took_opening : (start now : Run) (pivots : List (ℕ × ℕ)) → start.pivots ≡ [] → Took start pivots now
    → current now ≡ replay (opening start.problem) pivots
took_opening start now pivots none took =
    ap (λ q. replay (opening q) now.pivots) took.problem
    ∙ ap (replay (opening start.problem)) (took.added ∙ ap (λ ps. ps ++ pivots) none)

pub current_opening : (start : Run) → start.pivots ≡ [] → current start ≡ opening start.problem
current_opening start none = ap (replay (opening start.problem)) none

-- ---- the place at which a pivot first passes 128 bits is one

turn_own : (r i : ℕ) → i ≡ r → turn_of r i ≡ 0
turn_own r i e = ap (λ t. cond t zero (suc i)) (ap (λ n. i == n) (sym e) ∙ test_same i)

turn_other : (r i : ℕ) → i ≢ r → turn_of r i ≡ suc i
turn_other r i ne = ap (λ t. cond t zero (suc i)) (test_other i r ne)

same_turn : (r i k : ℕ) → turn_of r i ≡ turn_of r k → i ≡ k
same_turn r i k e = by (cases_eq i r) (cases_eq k r)
  where
    by : (i ≡ r) ⊎ (i ≢ r) → (k ≡ r) ⊎ (k ≢ r) → i ≡ k
    by (inl a) (inl b) = a ∙ sym b
    by (inl a) (inr b) = let x = turn_own r i a in let y = turn_other r k b in absurd (omega arith)
    by (inr a) (inl b) = let x = turn_other r i a in let y = turn_own r k b in absurd (omega arith)
    by (inr a) (inr b) = let x = turn_other r i a in let y = turn_other r k b in omega arith

none_empty : IsSome {T = Fraction} None → ⊥
none_empty h = search rules

none_is_not : (o : Option Fraction) → o ≡ None → IsSome o → ⊥
none_is_not None e h = none_empty h
none_is_not (Some x) e h = cc

turns_by : (a b : ℕ) (P Q : Type 0) → ((a < b) ⊎ P → ⊥) → ((b < a) ⊎ Q → ⊥) → (a ≡ b) ⊎ ((a < b) ⊎ (b < a)) → a ≡ b
turns_by a b P Q first second (inl same) = same
turns_by a b P Q first second (inr (inl less)) = absurd (first (inl less))
turns_by a b P Q first second (inr (inr more)) = absurd (second (inl more))

-- of two places one comes first, or they are one
in_turn : (r i j k l : ℕ) → (ComesBefore r i j k l → ⊥) → (ComesBefore r k l i j → ⊥) → (i ≡ k) × (j ≡ l)
in_turn r i j k l first second =
    let turns : turn_of r i ≡ turn_of r k =
    turns_by (turn_of r i) (turn_of r k) ((i ≡ k) × (j < l)) ((k ≡ i) × (l < j)) first second
    (cases_order (turn_of r i) (turn_of r k)) in
    let same = same_turn r i k turns in
    (same, by_columns same (cases_order j l))
  where
    by_columns : i ≡ k → (j ≡ l) ⊎ ((j < l) ⊎ (l < j)) → j ≡ l
    by_columns e (inl b) = b
    by_columns e (inr (inl a)) = absurd (first (inr (e, a)))
    by_columns e (inr (inr c)) = absurd (second (inr (sym e, c)))

pub one_wide_place : (q : Problem) (d : Dictionary) (r c i j k l : ℕ) → FailsFirstAt q d r c i j
    → FailsFirstAt q d r c k l → (i ≡ k) × (j ≡ l)
one_wide_place q d r c i j k l a b =
    in_turn r i j k l (λ h. none_is_not _ a.wide (b.earlier i j a.row_in a.column_in h))
    (λ h. none_is_not _ b.wide (a.earlier k l b.row_in b.column_in h))

pub narrow_or_wide : (q : Problem) (d : Dictionary) (r c i j : ℕ) → IsNarrowPivot q d r c → FailsFirstAt q d r c i j → ⊥
narrow_or_wide q d r c i j narrow wide =
    none_is_not _ wide.wide
    (narrow.each i j (let h = wide.row_in in omega arith) (let h = wide.column_in in omega arith))

-- ---- the last pivot

last_same : (xs ys : List (ℕ × ℕ)) (x y : ℕ × ℕ) → xs ++ x ∷ [] ≡ ys ++ y ∷ [] → (xs ≡ ys) × (x ≡ y)
last_same [] [] x y e = (refl, cc)
last_same [] (z ∷ []) x y e = cc
last_same [] (z ∷ w ∷ ws) x y e = cc
last_same (z ∷ []) [] x y e = cc
last_same (z ∷ w ∷ ws) [] x y e = cc
last_same (z ∷ zs) (w ∷ ws) x y e =
    let tails : zs ++ x ∷ [] ≡ ws ++ y ∷ [] = cc in
    let both = last_same zs ws x y tails in
    let heads : z ≡ w = cc in
    (ap (λ h. h ∷ zs) heads ∙ ap (λ t. w ∷ t) both.0, both.1)

pub width_from : (q : Problem) (u : Option ℤ) (pivots front : List (ℕ × ℕ)) (last : ℕ × ℕ) (row column : ℕ)
    → pivots ≡ front ++ last ∷ [] → EndsInWidth q u front last row column → PassesWidth q u pivots row column
width_from q u pivots front last row column e h = record {
  front = front;
  last = last;
  split = e;
  steps = h.steps;
  open_box = h.may.open_box;
  legal = h.may.legal;
  wide = h.wide;
}

pub width_to : (q : Problem) (u : Option ℤ) (pivots front : List (ℕ × ℕ)) (last : ℕ × ℕ) (row column : ℕ)
    → pivots ≡ front ++ last ∷ [] → PassesWidth q u pivots row column → EndsInWidth q u front last row column
width_to q u pivots front last row column e h =
    let both = last_same h.front front h.last last (sym h.split ∙ e) in
    let made : EndsInWidth q u h.front h.last row column =
    record { steps = h.steps; may = record { open_box = h.open_box; legal = h.legal }; wide = h.wide } in
    subst (λ l. EndsInWidth q u front l row column) both.1
    (subst (λ f. EndsInWidth q u f h.last row column) both.0 made)

pub no_width : (q : Problem) (u : Option ℤ) (row column : ℕ) → PassesWidth q u [] row column → ⊥
no_width q u row column h = by h.front h.split
  where
    by : (xs : List (ℕ × ℕ)) → [] ≡ xs ++ h.last ∷ [] → ⊥
    by [] e = cc
    by (x ∷ xs) e = cc

pub take_whole : (xs : List (ℕ × ℕ)) → take (length xs) xs ≡ xs
take_whole [] = refl
take_whole (x ∷ xs) = ap (λ ys. x ∷ ys) (take_whole xs)
