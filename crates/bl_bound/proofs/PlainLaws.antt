-- Proofs of one row or of the cost alone, and boxes of one point.
use Rattle.std.proofs.Common.{◌≡◌, ◌≢◌, ℕ, zero, suc, ◌<◌, ◌⊎◌, inl, inr, Bool, true, false, cond, List, ◌∷◌, length, ℤ}
use Rattle.std.proofs.Common.{pos, ◌+ℤ◌, ◌-ℤ◌, ◌*ℤ◌, ◌≤ℤ◌, ◌<ℤ◌, refl, sym, ap, ◌∙◌, subst, arith, get_or-set_same}
use Rattle.std.proofs.Common.{get_or-set_other}
use Rattle.std.specs.Prelude.{Option, Some, None, slice_set, int_lt}
use Rattle.std.proofs.Math.ListN.{replicate}
use Rattle.std.proofs.lemmas.Bool.{cases_eq}
use Rattle.std.proofs.lemmas.List.{length-set}
use Rattle.std.proofs.lemmas.Int.{ints, by_lt_z}
use Rattle.bl_whole.specs.Sums.{component, sum_below, dot}
use Rattle.bl_whole.proofs.Products.{one-*ℤ}
use Rattle.bl_whole.proofs.SumLemmas.{sum_below-agree, sum_below-zero, sum_below_isolate, without, without-other}
use Rattle.bl_whole.proofs.SumLemmas.{without-same}
use Rattle.bl_limits.specs.declared.TheConstants.{MAX_PROOF_NUMBER}
use Rattle.bl_terms.specs.Points.{zeros, IsOnePoint}
use Rattle.bl_terms.specs.Bounds.{Problem, IsProblem, linear_at, Multipliers, Proves, reduced_cost, least_product}
use Rattle.bl_terms.specs.Bounds.{least_term, rhs_sum, dual_bound, target_of}
use Rattle.bl_terms.proofs.BoundLemmas.{weak_duality, no_cutoff_no_point}
use Rattle.bl_bound.specs.Plain.{row_alone, cost_alone, NoRowAlone, IsPlainProof, CostsLess, IsBetterPoint}
use Rattle.bl_bound.specs.Plain.{OnePointClause}
use Rattle.bl_bound.specs.Sums.{least_value, RowCloses, CostCloses, IsFirstClosing}

-- ---- lists of zeros, and of one 1

pub length-zeros : (n : ℕ) → length (zeros n) ≡ n
length-zeros zero = refl
length-zeros (suc n) = let e = length-zeros n in omega arith

pub component-zeros : (n k : ℕ) → component (zeros n) k ≡ pos 0
component-zeros zero zero = refl
component-zeros zero (suc k) = refl
component-zeros (suc n) zero = refl
component-zeros (suc n) (suc k) = component-zeros n k

unit : ℕ → ℕ → List ℤ
unit m r = slice_set (zeros m) r (pos 1)

component-unit : (m r : ℕ) → r < m → component (slice_set (zeros m) r (pos 1)) r ≡ pos 1
component-unit m r h = get_or-set_same (zeros m) r (pos 1) (pos 0) (let e = length-zeros m in omega arith)

component-unit_other : (m r k : ℕ) → k ≢ r → component (slice_set (zeros m) r (pos 1)) k ≡ pos 0
component-unit_other m r k ne = get_or-set_other (zeros m) r k (pos 1) (pos 0) ne ∙ component-zeros m k

zero-times : (a : ℤ) → pos 0 *ℤ a ≡ pos 0
zero-times a = omega (arith, ints)

sum_unit : (m r : ℕ) (f : ℕ → ℤ) → r < m → sum_below m (λ i. component (slice_set (zeros m) r (pos 1)) i *ℤ f i) ≡ f r
sum_unit m r f h =
    let g : ℕ → ℤ = λ i. component (slice_set (zeros m) r (pos 1)) i *ℤ f i in
    let rest : sum_below m (without r g) ≡ pos 0 = sum_below-zero m (without r g) (λ k l. by k (cases_eq k r)) in
    let own : g r ≡ f r = ap (λ x. x *ℤ f r) (component-unit m r h) ∙ one-*ℤ (f r) in
    sum_below_isolate m r g h ∙ ap (λ s. g r +ℤ s) rest ∙ ap (λ s. s +ℤ pos 0) own ∙ omega (arith, ints)
  where
    by : (k : ℕ) → (k ≡ r) ⊎ (k ≢ r) → without r (λ i. component (slice_set (zeros m) r (pos 1)) i *ℤ f i) k ≡ pos 0
    by k (inl same) = subst (λ n. without r (λ i. component (slice_set (zeros m) r (pos 1)) i *ℤ f i) n ≡ pos 0)
        (sym same) (without-same r (λ i. component (slice_set (zeros m) r (pos 1)) i *ℤ f i))
    by k (inr other) = without-other r k (λ i. component (slice_set (zeros m) r (pos 1)) i *ℤ f i) other
        ∙ ap (λ x. x *ℤ f k) (component-unit_other m r k other) ∙ zero-times (f k)

sum_zeros : (m n : ℕ) (f : ℕ → ℤ) → sum_below m (λ i. component (zeros n) i *ℤ f i) ≡ pos 0
sum_zeros m n f = sum_below-zero m (λ i. component (zeros n) i *ℤ f i)
    (λ k l. ap (λ x. x *ℤ f k) (component-zeros n k) ∙ zero-times (f k))

-- ---- the bounds of one row and of the cost

row_bound : (q : Problem) (r : ℕ) → IsProblem q → r < length q.rows
    → dual_bound q (row_alone q r) ≡ least_value (linear_at q.rows r).coef q.area.lo q.area.hi
    -ℤ (linear_at q.rows r).rhs
row_bound q r shape h =
    let row = linear_at q.rows r in
    let reduced : (j : ℕ) → reduced_cost q (row_alone q r) j ≡ component row.coef j =
    λ j. ap (λ s. pos 0 *ℤ component q.cost j +ℤ s)
    (sum_unit (length q.rows) r (λ i. component (linear_at q.rows i).coef j) h)
    ∙ ap (λ z. z +ℤ component row.coef j) (zero-times (component q.cost j)) ∙ omega (arith, ints) in
    let terms : sum_below (length q.area.lo) (least_term q (row_alone q r)) ≡ least_value row.coef q.area.lo q.area.hi =
    sum_below-agree (length q.area.lo) (least_term q (row_alone q r))
    (λ j. least_product (component row.coef j) (component q.area.lo j) (component q.area.hi j))
    (λ j l. ap (λ a. least_product a (component q.area.lo j) (component q.area.hi j)) (reduced j))
    ∙ ap (λ n. sum_below n (λ j. least_product (component row.coef j) (component q.area.lo j) (component q.area.hi j)))
    (sym (shape.row_columns r h)) in
    ap (λ s. s -ℤ rhs_sum q (row_alone q r)) terms
    ∙ ap (λ s. least_value row.coef q.area.lo q.area.hi -ℤ s)
    (sum_unit (length q.rows) r (λ i. (linear_at q.rows i).rhs) h)

cost_bound : (q : Problem) → IsProblem q → dual_bound q (cost_alone q) ≡ least_value q.cost q.area.lo q.area.hi
cost_bound q shape =
    let reduced : (j : ℕ) → reduced_cost q (cost_alone q) j ≡ component q.cost j =
    λ j. ap (λ s. pos 1 *ℤ component q.cost j +ℤ s)
    (sum_zeros (length q.rows) (length q.rows) (λ i. component (linear_at q.rows i).coef j))
    ∙ ap (λ z. z +ℤ pos 0) (one-*ℤ (component q.cost j)) ∙ omega (arith, ints) in
    let terms : sum_below (length q.area.lo) (least_term q (cost_alone q)) ≡ least_value q.cost q.area.lo q.area.hi =
    sum_below-agree (length q.area.lo) (least_term q (cost_alone q))
    (λ j. least_product (component q.cost j) (component q.area.lo j) (component q.area.hi j))
    (λ j l. ap (λ a. least_product a (component q.area.lo j) (component q.area.hi j)) (reduced j))
    ∙ ap (λ n. sum_below n (λ j. least_product (component q.cost j) (component q.area.lo j) (component q.area.hi j)))
    (sym shape.cost_columns) in
    ap (λ s. s -ℤ rhs_sum q (cost_alone q)) terms
    ∙ ap (λ s. least_value q.cost q.area.lo q.area.hi -ℤ s)
    (sum_zeros (length q.rows) (length q.rows) (λ i. (linear_at q.rows i).rhs)) ∙ omega (arith, ints)

row_target : (u : Option ℤ) (q : Problem) (r : ℕ) → target_of u (row_alone q r) ≡ pos 0
row_target None q r = refl
row_target (Some u) q r = zero-times (u -ℤ pos 1)

unit_numbers : (m r k : ℕ) → r < m
    → (pos 0 ≤ℤ component (slice_set (zeros m) r (pos 1)) k)
    × (component (slice_set (zeros m) r (pos 1)) k ≤ℤ MAX_PROOF_NUMBER)
unit_numbers m r k h = by (cases_eq k r)
  where
    by : (k ≡ r) ⊎ (k ≢ r)
        → (pos 0 ≤ℤ component (slice_set (zeros m) r (pos 1)) k)
        × (component (slice_set (zeros m) r (pos 1)) k ≤ℤ MAX_PROOF_NUMBER)
    by (inl same) = let e = ap (component (slice_set (zeros m) r (pos 1))) same ∙ component-unit m r h in
        rw e (omega (arith, ints), omega (arith, ints))
    by (inr other) = let e = component-unit_other m r k other in rw e (omega (arith, ints), omega (arith, ints))

-- ---- a row that passes 0 is a proof, and none else

pub proves_by_row : (q : Problem) (u : Option ℤ) (r : ℕ) → IsProblem q → r < length q.rows → RowCloses q r
    → Proves q u (row_alone q r)
proves_by_row q u r shape h closes = record {
  rows = length-set (zeros (length q.rows)) r (pos 1) ∙ length-zeros (length q.rows);
  multipliers = record {
    den_least = omega (arith, ints);
    den_most = omega (arith, ints);
    least = λ k l. (unit_numbers (length q.rows) r k h).0;
    most = λ k l. (unit_numbers (length q.rows) r k h).1;
  };
  free = λ _. refl;
  beyond = rw (row_target u q r, row_bound q r shape h) (omega (arith, ints));
}

pub row_from_proof : (q : Problem) (u : Option ℤ) (r : ℕ) → IsProblem q → r < length q.rows
    → Proves q u (row_alone q r) → RowCloses q r
row_from_proof q u r shape h p =
    let b = rw (row_target u q r, row_bound q r shape h) at p.beyond in
    omega (arith, ints)

pub proves_by_cost : (q : Problem) (u : Option ℤ) → IsProblem q → CostCloses q u → Proves q u (cost_alone q)
proves_by_cost q None shape closes = absurd closes
proves_by_cost q (Some u) shape closes = record {
  rows = length-zeros (length q.rows);
  multipliers = record {
    den_least = omega (arith, ints);
    den_most = omega (arith, ints);
    least = λ k l. rw (component-zeros (length q.rows) k) (omega (arith, ints));
    most = λ k l. rw (component-zeros (length q.rows) k) (omega (arith, ints));
  };
  free = λ e. cc;
  beyond = rw (one-*ℤ (u -ℤ pos 1), cost_bound q shape) closes;
}

pub cost_from_proof : (q : Problem) (u : Option ℤ) → IsProblem q → Proves q u (cost_alone q) → CostCloses q u
cost_from_proof q None shape p = cc (p.free refl)
cost_from_proof q (Some u) shape p = rw (one-*ℤ (u -ℤ pos 1), cost_bound q shape) at p.beyond

-- ---- a box of one point

fixed_product : (a lo hi : ℤ) → lo ≡ hi → least_product a lo hi ≡ a *ℤ lo
fixed_product a lo hi e = by (int_lt a (pos 0))
  where
    by : (t : Bool) → cond t (a *ℤ hi) (a *ℤ lo) ≡ a *ℤ lo
    by true = ap (λ z. a *ℤ z) (sym e)
    by false = refl

fixed_value : (q : Problem) (cs : List ℤ) → IsOnePoint q.area → length cs ≡ length q.area.lo
    → least_value cs q.area.lo q.area.hi ≡ dot cs q.area.lo
fixed_value q cs one e =
    sum_below-agree (length cs) (λ j. least_product (component cs j) (component q.area.lo j) (component q.area.hi j))
    (λ j. component cs j *ℤ component q.area.lo j)
    (λ j l. fixed_product (component cs j) (component q.area.lo j) (component q.area.hi j) (one.fixed j (omega arith)))

below : (z v : ℤ) → ((v -ℤ pos 1) <ℤ z → ⊥) → z <ℤ v
below z v h = by_lt_z (v -ℤ pos 1) z (λ l. absurd (h l)) (λ l. omega (arith, ints))

not_above : (a b : ℤ) → (b <ℤ a → ⊥) → a ≤ℤ b
not_above a b h = by_lt_z b a (λ l. absurd (h l)) (λ l. l)

better : (q : Problem) (u : Option ℤ) → IsProblem q → IsOnePoint q.area → NoRowAlone q u → ¬ Proves q u (cost_alone q)
    → IsBetterPoint q u q.area.lo
better q u shape one rows cost = record {
  point = record {
    inside = record { columns = refl; least = λ k l. omega (arith, ints); most = λ k l. shape.box.ordered k l };
    rows = λ i l. record {
      holds =
          let open_row : ¬ RowCloses q i = λ closes. rows i l (proves_by_row q u i shape l closes) in
          let e = fixed_value q (linear_at q.rows i).coef one (shape.row_columns i l) in
          subst (λ z. z ≤ℤ (linear_at q.rows i).rhs) e
          (not_above (least_value (linear_at q.rows i).coef q.area.lo q.area.hi) (linear_at q.rows i).rhs open_row);
    };
  };
  cost = by u (λ closes. cost (proves_by_cost q u shape closes));
}
  where
    by : (v : Option ℤ) → ¬ CostCloses q v → CostsLess v (dot q.cost q.area.lo)
    by None h = tt
    by (Some v) h =
        let e = fixed_value q q.cost one shape.cost_columns in
        let past : ¬ ((v -ℤ pos 1) <ℤ dot q.cost q.area.lo) = λ l. h (subst (λ z. (v -ℤ pos 1) <ℤ z) (sym e) l) in
        below (dot q.cost q.area.lo) v past

no_better : (q : Problem) (u : Option ℤ) (w : Multipliers) (z : List ℤ) → IsProblem q → Proves q u w
    → ¬ IsBetterPoint q u z
no_better q None w z shape p b = no_cutoff_no_point q w z shape p b.point
no_better q (Some u) w z shape p b = let least = weak_duality q u w z shape p b.point in let less = b.cost in
    omega (arith, ints)

proof_proves : (q : Problem) (u : Option ℤ) (w : Multipliers) → IsPlainProof q u (Some w) → Proves q u w
proof_proves q u w (inl (r, first, e)) = subst (Proves q u) (sym e) first.proves
proof_proves q u w (inr (rows, p, e)) = subst (Proves q u) (sym e) p

pub one_point : (q : Problem) (u : Option ℤ) (o : Option Multipliers) → IsProblem q → IsPlainProof q u o
    → OnePointClause q u o
one_point q u None shape h one = (λ _. better q u shape one h.0 h.1, λ _. refl)
one_point q u (Some w) shape h one = (λ e. cc, λ b. absurd (no_better q u w q.area.lo shape (proof_proves q u w h) b))

-- ---- the list of one multiplier, as it is built

pub zeros-replicate : (n : ℕ) → replicate n (pos 0) ≡ zeros n
zeros-replicate zero = refl
zeros-replicate (suc n) = ap (λ zs. pos 0 ∷ zs) (zeros-replicate n)

abbrev pub proof_of : ℤ → List ℤ → Multipliers
proof_of den xs = record { den = den; mult = xs }

pub made : (den : ℤ) (xs ys : List ℤ) → xs ≡ ys → proof_of den xs ≡ proof_of den ys
made den xs ys e = ap (proof_of den) e

-- ---- what the tests of rows and cost say of proofs

pub plain_by_row : (q : Problem) (u : Option ℤ) (w : Multipliers) (r : ℕ) → IsProblem q → IsFirstClosing q r
    → w ≡ row_alone q r → IsPlainProof q u (Some w)
plain_by_row q u w r shape first e =
    inl (
      r,
      record {
        row_in = first.row_in;
        proves = proves_by_row q u r shape first.row_in first.closes;
        earlier =
            λ k l p. let before : k < length q.rows = (let h = first.row_in in omega arith) in
            first.earlier k l (row_from_proof q u k shape before p);
      },
      e,
    )

pub plain_by_cost : (q : Problem) (u : Option ℤ) (w : Multipliers) → IsProblem q
    → ((r : ℕ) → r < length q.rows → ¬ RowCloses q r) → CostCloses q u → w ≡ cost_alone q → IsPlainProof q u (Some w)
plain_by_cost q u w shape none closes e =
    inr (λ r l p. none r l (row_from_proof q u r shape l p), proves_by_cost q u shape closes, e)

pub no_plain : (q : Problem) (u : Option ℤ) → IsProblem q → ((r : ℕ) → r < length q.rows → ¬ RowCloses q r)
    → ¬ CostCloses q u → IsPlainProof q u None
no_plain q u shape none open_cost =
    (λ r l p. none r l (row_from_proof q u r shape l p), λ p. open_cost (cost_from_proof q u shape p))
