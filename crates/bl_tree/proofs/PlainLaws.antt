-- A further row with the multiplier 0 changes no bound.
use Rattle.std.proofs.Common.{◌≡◌, ℕ, suc, ◌+◌, ◌<◌, refl, sym, ◌∙◌, ap, arith, inl, inr}
use Rattle.std.proofs.Common.{[], ◌∷◌, ◌++◌, length}
use Rattle.std.specs.Prelude.{ℤ, pos, ◌+ℤ◌, ◌*ℤ◌, Option, Some, None}
use Rattle.std.proofs.Math.IntN.{zero-*ℤ}
use Rattle.std.proofs.lemmas.Int.{ints}
use Rattle.std.proofs.lemmas.Bool.{cases_lt}
use Rattle.std.proofs.lemmas.List.{get_or_append_left, get_or_push, length_push}
use Rattle.bl_whole.specs.Sums.{component, sum_below}
use Rattle.bl_whole.proofs.SumLemmas.{sum_below-agree}
use Rattle.bl_terms.specs.Points.{Linear, row_of_zeros}
use Rattle.bl_terms.specs.Programs.{columns}
use Rattle.bl_terms.specs.Bounds.{Problem, linear_at, no_linear, Multipliers, AreMultipliers, Proves, reduced_cost}
use Rattle.bl_terms.specs.Bounds.{least_product, least_term, rhs_sum, dual_bound, target_of}
use Rattle.bl_leaf_terms.specs.Nodes.{plain_problem}
use Rattle.bl_tree.specs.Laws.{with_zero, PlainProofCloses}

-- the problem with a further row
abbrev with_row : Problem → Linear → Problem
with_row q r = record q { rows = q.rows ++ r ∷ [] }

mult_before : (w : Multipliers) (i : ℕ) → i < length w.mult → component (with_zero w).mult i ≡ component w.mult i
mult_before w i b = get_or_append_left w.mult (pos 0 ∷ []) (pos 0) i b

mult_last : (w : Multipliers) (i : ℕ) → length w.mult ≡ i → component (with_zero w).mult i ≡ pos 0
mult_last w i e = get_or_push w.mult (pos 0) (pos 0) i e

row_before : (q : Problem) (r : Linear) (i : ℕ) → i < length q.rows
    → linear_at (with_row q r).rows i ≡ linear_at q.rows i
row_before q r i b = get_or_append_left q.rows (r ∷ []) no_linear i b

-- a sum over the rows
sums_same : (q : Problem) (r : Linear) (w : Multipliers) (f : Linear → ℤ) → length w.mult ≡ length q.rows
    → sum_below (length (with_row q r).rows)
    (λ i. component (with_zero w).mult i *ℤ f (linear_at (with_row q r).rows i))
    ≡ sum_below (length q.rows) (λ i. component w.mult i *ℤ f (linear_at q.rows i))
sums_same q r w f e =
    let n = length q.rows in
    let g : ℕ → ℤ = λ i. component (with_zero w).mult i *ℤ f (linear_at (with_row q r).rows i) in
    let h : ℕ → ℤ = λ i. component w.mult i *ℤ f (linear_at q.rows i) in
    let size : length (with_row q r).rows ≡ suc n = let s = length_push q.rows r in omega arith in
    let front : sum_below n g ≡ sum_below n h =
    sum_below-agree n g h (λ i b.
    ap (λ x. x *ℤ f (linear_at (with_row q r).rows i)) (mult_before w i (omega arith))
    ∙ ap (λ x. component w.mult i *ℤ f x) (row_before q r i b)) in
    let last : g n ≡ pos 0 =
    ap (λ x. x *ℤ f (linear_at (with_row q r).rows n)) (mult_last w n e)
    ∙ zero-*ℤ (f (linear_at (with_row q r).rows n)) in
    let all : sum_below (suc n) g ≡ sum_below n h = omega (arith, ints) in
    ap (λ m. sum_below m g) size ∙ all

reduced_same : (q : Problem) (r : Linear) (w : Multipliers) (j : ℕ) → length w.mult ≡ length q.rows
    → reduced_cost (with_row q r) (with_zero w) j ≡ reduced_cost q w j
reduced_same q r w j e = ap (λ x. w.den *ℤ component q.cost j +ℤ x) (sums_same q r w (λ x. component x.coef j) e)

bound_same : (q : Problem) (r : Linear) (w : Multipliers) → length w.mult ≡ length q.rows
    → dual_bound (with_row q r) (with_zero w) ≡ dual_bound q w
bound_same q r w e =
    let n = length q.area.lo in
    let terms : sum_below n (least_term (with_row q r) (with_zero w)) ≡ sum_below n (least_term q w) =
    sum_below-agree n (least_term (with_row q r) (with_zero w)) (least_term q w) (λ j b.
    ap (λ x. least_product x (component q.area.lo j) (component q.area.hi j)) (reduced_same q r w j e)) in
    let sums : rhs_sum (with_row q r) (with_zero w) ≡ rhs_sum q w = sums_same q r w (λ x. x.rhs) e in
    omega (arith, ints)

multipliers_same : (w : Multipliers) → AreMultipliers w → AreMultipliers (with_zero w)
multipliers_same w g = record {
  den_least = g.den_least;
  den_most = g.den_most;
  least = λ i b. elim (cases_lt i (length w.mult)) [
    | inl c ↦ let e = mult_before w i c in let h = g.least i c in omega (arith, ints)
    | inr c ↦ let e = mult_last w i (let s = length_push w.mult (pos 0) in omega arith) in omega (arith, ints)
  ];
  most = λ i b. elim (cases_lt i (length w.mult)) [
    | inl c ↦ let e = mult_before w i c in let h = g.most i c in omega (arith, ints)
    | inr c ↦ let e = mult_last w i (let s = length_push w.mult (pos 0) in omega arith) in omega (arith, ints)
  ];
}

target_same : (u : Option ℤ) (w : Multipliers) → target_of u (with_zero w) ≡ target_of u w
target_same None w = refl
target_same (Some u) w = refl

proves_more : (q : Problem) (r : Linear) (u : Option ℤ) (w : Multipliers) → Proves q u w
    → Proves (with_row q r) u (with_zero w)
proves_more q r u w proof =
    let e = proof.rows in
    let bound = bound_same q r w e in
    let target = target_same u w in
    let beyond = proof.beyond in
    record {
      rows = length_push w.mult (pos 0) ∙ ap (λ n. n + 1) e ∙ sym (length_push q.rows r);
      multipliers = multipliers_same w proof.multipliers;
      free = proof.free;
      beyond = omega (arith, ints);
    }

pub plain_proof_closes : PlainProofCloses
plain_proof_closes = record {
  without = λ p a u w proof. proves_more (plain_problem p a None) (row_of_zeros (columns p)) u w proof;
  with = λ p a v. refl;
}
