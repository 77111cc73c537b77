-- A no-good cut takes away its point alone, and no bilevel feasible point of its box.
use Rattle.std.proofs.Common.{◌≡◌, ◌≢◌, ℕ, zero, suc, ◌+◌, ◌<◌, refl, sym, ◌∙◌, ap, subst, arith, true}
use Rattle.std.proofs.Common.{false, cond, List, [], ◌∷◌, ◌++◌, length, inl, inr}
use Rattle.std.specs.Prelude.{ℤ, pos, negsuc, ◌+ℤ◌, ◌*ℤ◌, ◌≤ℤ◌, ◌<ℤ◌, nat_eq, slice_set, All}
use Rattle.std.specs.Prelude.{slice_index, slice_index_or, IsTrue}
use Rattle.std.proofs.lemmas.Int.{ints, by_lt_z}
use Rattle.std.proofs.lemmas.Bool.{cases_eq, cases_lt}
use Rattle.std.proofs.lemmas.Bool.Decides.{nat_tests}
use Rattle.std.proofs.lemmas.List.{length-map, get_or-map, get_or-set_same, get_or-set_other, length-set}
use Rattle.std.proofs.lemmas.List.{get_or_past, ext_get_or}
use Rattle.std.proofs.lemmas.List.FromFn.{get_or-map-range_with_len}
use Rattle.std.proofs.lemmas.List.Elements.{All-append}
use Rattle.std.proofs.Math.IntN.{zero-*ℤ, *ℤ_comm}
use Rattle.bl_whole.specs.Sums.{component, sum_below, dot}
use Rattle.bl_whole.proofs.Products.{*ℤ_assoc, +ℤ-*ℤ, le_of_mul_le}
use Rattle.bl_whole.proofs.SumLemmas.{sum_below-agree, sum_below-zero, sum_below-add, sum_below-scale, sum_below-split}
use Rattle.bl_whole.proofs.SumLemmas.{sum_below-exchange, sum_below_monotone, sum_below_isolate, without}
use Rattle.bl_whole.proofs.SumLemmas.{without-same, without-other}
use Rattle.bl_terms.specs.Points.{Area, InArea, IsWithinArea, Linear, Meets, zeros, values_at}
use Rattle.bl_terms.specs.Programs.{Program, IsProgram, columns, root, row_at}
use Rattle.bl_terms.specs.Programs.{IsLeader, IsInLower, link_of}
use Rattle.bl_terms.specs.Feasible.{BilevelFeasible}
use Rattle.bl_terms.specs.Responses.{IsResponse, response_cost, lhs_of, IsBest}
use Rattle.bl_terms.specs.Bounds.{linear_at, no_linear}
use Rattle.bl_terms.proofs.PlaceLemmas.{values_at-entry, Contains-at}
use Rattle.bl_terms.proofs.PointLemmas.{point_of_part}
use Rattle.bl_terms.proofs.ResponseLemmas.{entry_is_optimum}
use Rattle.bl_cut_terms.specs.declared.parts.Tight.{Tight}
use Rattle.bl_cut_terms.specs.declared.parts.Tight.TheVariants.{Row, Upper, Lower, Cut}
use Rattle.bl_cut_terms.specs.ValidRows.{IsValidRow, ValidOnParts}
use Rattle.bl_cut_terms.specs.NoGoods.{LocalRow, no_local_row, tight_row, tight_rows, lowered_sum, cut_row}
use Rattle.bl_cut_terms.specs.NoGoods.{IsThere, combined, unit_at, Inverts, HasBetterResponse}
use Rattle.bl_cut_terms.specs.NoGoods.{CutStep, local_row, AreCutSteps, NoGoodLaw, NoGoodsLaw}

pub valid_on_parts : ValidOnParts
valid_on_parts p a outer r part valid z feasible inside = valid z feasible (point_of_part part inside)

-- ---- rows of n columns at a point

pub zero_at : (n k : ℕ) → component (zeros n) k ≡ pos 0
zero_at zero k = refl
zero_at (suc n) zero = refl
zero_at (suc n) (suc k) = zero_at n k

pub length-zeros : (n : ℕ) → length (zeros n) ≡ n
length-zeros zero = refl
length-zeros (suc n) = ap suc (length-zeros n)

-- a row with one coefficient
one_column : (n j : ℕ) (c : ℤ) (z : List ℤ) → j < n → dot (slice_set (zeros n) j c) z ≡ c *ℤ component z j
one_column n j c z b =
    let f : ℕ → ℤ = λ k. component (slice_set (zeros n) j c) k *ℤ component z k in
    let l : length (slice_set (zeros n) j c) ≡ n = length-set (zeros n) j c ∙ length-zeros n in
    let b' : j < length (zeros n) = rw length-zeros b in
    let first : component (slice_set (zeros n) j c) j ≡ c = get_or-set_same (zeros n) j c (pos 0) b' in
    let isolated : dot (slice_set (zeros n) j c) z ≡ f j +ℤ sum_below (length (slice_set (zeros n) j c)) (without j f) =
    sum_below_isolate (length (slice_set (zeros n) j c)) j f (rw l b) in
    let rest : sum_below (length (slice_set (zeros n) j c)) (without j f) ≡ pos 0 =
    sum_below-zero (length (slice_set (zeros n) j c)) (without j f) (λ k _. elim (cases_eq k j) [
      | inl e ↦ rw e (without-same j f)
      | inr ne ↦ without-other j k f ne ∙ ap (λ x. x *ℤ component z k)
          (get_or-set_other (zeros n) j k c (pos 0) ne ∙ zero_at n k) ∙ zero-*ℤ (component z k)
    ]) in
    let e : f j ≡ c *ℤ component z j = ap (λ x. x *ℤ component z j) first in
    omega (arith, ints)

-- a row's left side is a sum over the point's columns
pub dot_columns : (cs zs : List ℤ) → dot cs zs ≡ sum_below (length zs) (λ k. component cs k *ℤ component zs k)
dot_columns cs zs =
    let m = length cs in
    let n = length zs in
    let f : ℕ → ℤ = λ k. component cs k *ℤ component zs k in
    let no_values : sum_below m (λ k. f (n + k)) ≡ pos 0 =
    sum_below-zero m (λ k. f (n + k))
    (λ k b. ap (λ x. component cs (n + k) *ℤ x) (get_or_past zs (n + k) (pos 0) (omega arith))
    ∙ *ℤ_comm (component cs (n + k)) (pos 0) ∙ zero-*ℤ (component cs (n + k))) in
    let no_coefs : sum_below n (λ k. f (m + k)) ≡ pos 0 =
    sum_below-zero n (λ k. f (m + k))
    (λ k b. ap (λ x. x *ℤ component zs (m + k)) (get_or_past cs (m + k) (pos 0) (omega arith))
    ∙ zero-*ℤ (component zs (m + k))) in
    let by_values : sum_below (n + m) f ≡ sum_below n f +ℤ sum_below m (λ k. f (n + k)) = sum_below-split n m f in
    let by_coefs : sum_below (m + n) f ≡ sum_below m f +ℤ sum_below n (λ k. f (m + k)) = sum_below-split m n f in
    let turned : n + m ≡ m + n = omega arith in
    let same : sum_below (n + m) f ≡ sum_below (m + n) f = ap (λ l. sum_below l f) turned in
    omega (arith, ints)

-- the left side of a sum of rows is the sum of their left sides
pub dot_of_sum : (n : ℕ) (rows : List Linear) (z : List ℤ) → length z ≡ n
    → dot (lowered_sum n rows).coef z ≡ sum_below (length rows) (λ i. dot (linear_at rows i).coef z)
dot_of_sum n rows z e =
    let m = length rows in
    let term : ℕ → ℕ → ℤ = λ j i. component (linear_at rows i).coef j *ℤ component z j in
    let entry : (j : ℕ) → j < n
    → component (lowered_sum n rows).coef j ≡ sum_below m (λ i. component (linear_at rows i).coef j) =
    λ j b. get_or-map-range_with_len (λ k. sum_below m (λ i. component (linear_at rows i).coef k)) 0 n j j (pos 0) b
    (omega arith) in
    let scaled : (j : ℕ) → sum_below m (λ i. component (linear_at rows i).coef j) *ℤ component z j
    ≡ sum_below m (term j) =
    λ j. *ℤ_comm (sum_below m (λ i. component (linear_at rows i).coef j)) (component z j)
    ∙ sym (sum_below-scale m (component z j) (λ i. component (linear_at rows i).coef j))
    ∙ sum_below-agree m (λ i. component z j *ℤ component (linear_at rows i).coef j) (term j)
    (λ i _. *ℤ_comm (component z j) (component (linear_at rows i).coef j)) in
    let whole : dot (lowered_sum n rows).coef z
    ≡ sum_below n (λ j. component (lowered_sum n rows).coef j *ℤ component z j) =
    dot_columns (lowered_sum n rows).coef z
    ∙ ap (λ l. sum_below l (λ j. component (lowered_sum n rows).coef j *ℤ component z j)) e in
    let each : sum_below n (λ j. component (lowered_sum n rows).coef j *ℤ component z j)
    ≡ sum_below n (λ j. sum_below m (term j)) =
    sum_below-agree n (λ j. component (lowered_sum n rows).coef j *ℤ component z j) (λ j. sum_below m (term j))
    (λ j b. ap (λ x. x *ℤ component z j) (entry j b) ∙ scaled j) in
    let turned : sum_below n (λ j. sum_below m (term j)) ≡ sum_below m (λ i. sum_below n (λ j. term j i)) =
    sum_below-exchange n m term in
    let rows_of : sum_below m (λ i. sum_below n (λ j. term j i)) ≡ sum_below m (λ i. dot (linear_at rows i).coef z) =
    sum_below-agree m (λ i. sum_below n (λ j. term j i)) (λ i. dot (linear_at rows i).coef z)
    (λ i _. ap (λ l. sum_below l (λ j. term j i)) (sym e) ∙ sym (dot_columns (linear_at rows i).coef z)) in
    whole ∙ each ∙ turned ∙ rows_of

-- numbers that are at most others by place, and whose sum isn't less, are these others
equal_in_sum : (n : ℕ) (f g : ℕ → ℤ) → ((k : ℕ) → k < n → f k ≤ℤ g k) → sum_below n g ≤ℤ sum_below n f
    → (k : ℕ) → k < n → f k ≡ g k
equal_in_sum zero f g least sum k b = absurd (omega arith)
equal_in_sum (suc n) f g least sum k b =
    let last = least n (omega arith) in
    let before = sum_below_monotone n f g (λ i c. least i (omega arith)) in
    elim (cases_eq k n) [
      | inl e ↦ subst (λ (x : ℕ). f x ≡ g x) (sym e) (omega (arith, ints))
      | inr ne ↦ equal_in_sum n f g (λ i c. least i (omega arith)) (omega (arith, ints)) k (omega arith)
    ]

-- ---- points at which the rows have the same left sides

-- one more row in a combination
one_more : (rows : List Linear) (i : ℕ) (m : ℤ) (unit : List (ℕ × ℤ)) (n : ℕ) (z : List ℤ)
    → sum_below n (λ k. combined rows ((i, m) ∷ unit) k *ℤ component z k)
    ≡ m *ℤ sum_below n (λ k. component (linear_at rows i).coef k *ℤ component z k)
    +ℤ sum_below n (λ k. combined rows unit k *ℤ component z k)
one_more rows i m unit n z =
    let a : ℕ → ℤ = λ k. component (linear_at rows i).coef k *ℤ component z k in
    let c : ℕ → ℤ = λ k. combined rows unit k *ℤ component z k in
    let each : sum_below n (λ k. combined rows ((i, m) ∷ unit) k *ℤ component z k)
    ≡ sum_below n (λ k. m *ℤ a k +ℤ c k) =
    sum_below-agree n (λ k. combined rows ((i, m) ∷ unit) k *ℤ component z k) (λ k. m *ℤ a k +ℤ c k)
    (λ k _. +ℤ-*ℤ (m *ℤ component (linear_at rows i).coef k) (combined rows unit k) (component z k)
    ∙ ap (λ x. x +ℤ c k) (*ℤ_assoc m (component (linear_at rows i).coef k) (component z k))) in
    each ∙ sum_below-add n (λ k. m *ℤ a k) c ∙ ap (λ x. x +ℤ sum_below n c) (sum_below-scale n m a)

-- they agree on each combination of the rows
combined_agree : (rows : List Linear) (z w : List ℤ)
    → ((i : ℕ) → dot (linear_at rows i).coef z ≡ dot (linear_at rows i).coef w) → length z ≡ length w
    → (unit : List (ℕ × ℤ))
    → sum_below (length z) (λ k. combined rows unit k *ℤ component z k)
    ≡ sum_below (length z) (λ k. combined rows unit k *ℤ component w k)
combined_agree rows z w same e [] =
    sum_below-agree (length z) (λ k. pos 0 *ℤ component z k) (λ k. pos 0 *ℤ component w k)
    (λ k _. zero-*ℤ (component z k) ∙ sym (zero-*ℤ (component w k)))
combined_agree rows z w same e ((i, m) ∷ unit) =
    let others = combined_agree rows z w same e unit in
    let at_z = one_more rows i m unit (length z) z in
    let at_w = one_more rows i m unit (length z) w in
    let dot_z = dot_columns (linear_at rows i).coef z in
    let dot_w : dot (linear_at rows i).coef w
    ≡ sum_below (length z) (λ k. component (linear_at rows i).coef k *ℤ component w k) =
    dot_columns (linear_at rows i).coef w
    ∙ ap (λ l. sum_below l (λ k. component (linear_at rows i).coef k *ℤ component w k)) (sym e) in
    let row : sum_below (length z) (λ k. component (linear_at rows i).coef k *ℤ component z k)
    ≡ sum_below (length z) (λ k. component (linear_at rows i).coef k *ℤ component w k) =
    sym dot_z ∙ same i ∙ dot_w in
    let row_m = ap (λ x. m *ℤ x) row in
    at_z ∙ ap (λ x. x +ℤ sum_below (length z) (λ k. combined rows unit k *ℤ component z k)) row_m
    ∙ ap (λ x. m *ℤ sum_below (length z) (λ k. component (linear_at rows i).coef k *ℤ component w k) +ℤ x) others
    ∙ sym at_w

-- den times one column alone
one_entry : (n j : ℕ) (den : ℤ) (z : List ℤ) → j < n
    → sum_below n (λ k. cond (nat_eq j k) den (pos 0) *ℤ component z k) ≡ den *ℤ component z j
one_entry n j den z b =
    let f : ℕ → ℤ = λ k. cond (nat_eq j k) den (pos 0) *ℤ component z k in
    let isolated = sum_below_isolate n j f b in
    let rest : sum_below n (without j f) ≡ pos 0 =
    sum_below-zero n (without j f) (λ k _. elim (cases_eq k j) [
      | inl e ↦ rw e (without-same j f)
      | inr ne ↦ let apart : nat_eq j k ≡ false = grind (arith, nat_tests) in
          without-other j k f ne
          ∙ ap (λ t. cond t den (pos 0) *ℤ component z k) apart ∙ zero-*ℤ (component z k)
    ]) in
    let itself : nat_eq j j ≡ true = grind (arith, nat_tests) in
    let first : f j ≡ den *ℤ component z j = ap (λ t. cond t den (pos 0) *ℤ component z j) itself in
    omega (arith, ints)

-- where the rows combine to each column, the points are one
one_solution : (n : ℕ) (rows : List Linear) (den : ℤ) (units : List (List (ℕ × ℤ))) (z w : List ℤ)
    → Inverts n rows den units → pos 1 ≤ℤ den → length z ≡ n → length w ≡ n
    → ((i : ℕ) → dot (linear_at rows i).coef z ≡ dot (linear_at rows i).coef w) → z ≡ w
one_solution n rows den units z w inverts positive e e' same =
    ext_get_or (pos 0) z w (e ∙ sym e') (λ j b.
    let b' : j < n = omega arith in
    let at_column : (x : List ℤ) → sum_below n (λ k. combined rows (unit_at units j) k *ℤ component x k)
    ≡ den *ℤ component x j =
    λ x. sum_below-agree n (λ k. combined rows (unit_at units j) k *ℤ component x k)
    (λ k. cond (nat_eq j k) den (pos 0) *ℤ component x k)
    (λ k c. ap (λ y. y *ℤ component x k) (inverts.each j k b' c))
    ∙ one_entry n j den x b' in
    let agree : sum_below n (λ k. combined rows (unit_at units j) k *ℤ component z k)
    ≡ sum_below n (λ k. combined rows (unit_at units j) k *ℤ component w k) =
    subst (λ (l : ℕ). sum_below l (λ k. combined rows (unit_at units j) k *ℤ component z k)
    ≡ sum_below l (λ k. combined rows (unit_at units j) k *ℤ component w k)) e
    (combined_agree rows z w same (e ∙ sym e') (unit_at units j)) in
    let product : den *ℤ component z j ≡ den *ℤ component w j = sym (at_column z) ∙ agree ∙ at_column w in
    let low : component z j ≤ℤ component w j = le_of_mul_le den (omega (arith, ints)) (omega (arith, ints)) in
    let high : component w j ≤ℤ component z j = le_of_mul_le den (omega (arith, ints)) (omega (arith, ints)) in
    omega (arith, ints))

-- ---- a point with a better response isn't bilevel feasible

-- the program whose follower asks only that his cost be at most that of y
abbrev at_most : Program → List ℤ → Program
at_most p y = record p {
  rows = record { coef = p.follower_cost; rhs = response_cost p y; lower = true } ∷ p.rows;
  follower_cost = zeros (columns p);
}

at_most-program : (p : Program) (y : List ℤ) → IsProgram p → IsProgram (at_most p y)
at_most-program p y g = record {
  box = g.box;
  row_columns = row_columns;
  cost_columns = g.cost_columns;
  follower_cost_columns = length-zeros (columns p);
  follower_rising = g.follower_rising;
  follower_below = g.follower_below;
  leader_free = λ k leader. zero_at (columns p) k;
  linking = record {
    rising = g.linking.rising;
    exact = λ k. (
      λ m. let h = (g.linking.exact k).0 m in
          (leader_back k h.0, (suc h.1.0, omega (arith, h.1.1), h.1.2, h.1.3)),
      λ h. (g.linking.exact k).1 (leader_there k h.0, in_lower k h.0 h.1.0 h.1.1 h.1.2 h.1.3),
    );
  };
  sign = g.sign;
  leader_sign = g.leader_sign;
}
  where
    leader_back : (k : ℕ) → IsLeader p k → IsLeader (at_most p y) k
    leader_back k h = record { column = h.column; leads = h.leads }

    leader_there : (k : ℕ) → IsLeader (at_most p y) k → IsLeader p k
    leader_there k h = record { column = h.column; leads = h.leads }

    row_columns : (i : ℕ) → i < suc (length p.rows) → length (row_at (at_most p y).rows i).coef ≡ columns p
    row_columns zero b = g.follower_cost_columns
    row_columns (suc i) b = g.row_columns i (omega arith)

    in_lower : (k : ℕ) → IsLeader (at_most p y) k → (i : ℕ) → i < suc (length p.rows)
        → IsTrue (row_at (at_most p y).rows i).lower → component (row_at (at_most p y).rows i).coef k ≢ pos 0
        → IsInLower p k
    in_lower k leader zero b low ne = absurd (ne (g.leader_free k (leader_there k leader)))
    in_lower k leader (suc i) b low ne = (i, omega arith, low, ne)

-- zeros at places are worth nothing
no_cost : (n : ℕ) (ks : List ℕ) (y : List ℤ) → dot (values_at (zeros n) ks) y ≡ pos 0
no_cost n ks y =
    sum_below-zero (length (values_at (zeros n) ks)) (λ j. component (values_at (zeros n) ks) j *ℤ component y j)
    (λ j b. let b' : j < length ks = rw length-map at b in
    ap (λ x. x *ℤ component y j) (values_at-entry (zeros n) ks j b' ∙ zero_at n (slice_index ks j))
    ∙ zero-*ℤ (component y j))

-- the leader's columns cost the follower nothing
no_link_cost : (p : Program) (l : List ℤ) → IsProgram p → dot (values_at p.follower_cost p.links) l ≡ pos 0
no_link_cost p l g =
    sum_below-zero (length (values_at p.follower_cost p.links))
    (λ j. component (values_at p.follower_cost p.links) j *ℤ component l j)
    (λ j b. let b' : j < length p.links = rw length-map at b in
    ap (λ x. x *ℤ component l j) (values_at-entry p.follower_cost p.links j b'
    ∙ g.leader_free (slice_index p.links j) ((g.linking.exact (slice_index p.links j)).0 (Contains-at p.links j b')).0)
    ∙ zero-*ℤ (component l j))

at_most-best : (p : Program) (l y : List ℤ) → IsProgram p → IsResponse p l y → IsBest (at_most p y) l y (pos 0)
at_most-best p l y g r = record {
  response = record {
    ranges = record { count = r.ranges.count; least = r.ranges.least; most = r.ranges.most };
    rows = rows;
  };
  value = no_cost (columns p) p.follower y;
  least = λ x h. let e = no_cost (columns p) p.follower x in omega (arith, ints);
}
  where
    rows : (i : ℕ) → i < suc (length p.rows) → IsTrue (row_at (at_most p y).rows i).lower
        → lhs_of (at_most p y) (row_at (at_most p y).rows i) l y ≤ℤ (row_at (at_most p y).rows i).rhs
    rows zero b low = let e = no_link_cost p l g in omega (arith, ints)
    rows (suc i) b low = r.rows i (omega arith) low

not_feasible : (p : Program) (z y : List ℤ) → IsProgram p → HasBetterResponse p z y → ¬ BilevelFeasible p z
not_feasible p z y g better f =
    let o = entry_is_optimum (at_most p y) z y (pos 0) (at_most-program p y g) f.inside
    (at_most-best p (link_of p z) y g better.response) in
    let w = o.reached.0 in
    let lower = o.reached.2 in
    let least = f.least w o.reached.1
    (record { each = λ i b low. lower.each (suc i) (omega arith) low })
    (record { agree = λ k h. o.reached.3.agree k (record { column = h.column; leads = h.leads }) }) in
    let first = (lower.each 0 (omega arith) refl).holds in
    let cheaper = better.cheaper in
    omega (arith, ints)

-- ---- the laws

meets_tight : (p : Program) (a : Area) (earlier : List LocalRow) (z : List ℤ) (x : Tight) → IsWithinArea a (root p)
    → All (λ e. IsValidRow p e.area e.row) earlier → BilevelFeasible p z → InArea a z → IsThere p a earlier x
    → Meets (tight_row p a earlier x) z
meets_tight p a earlier z (Row i) within valid f inside there = f.rows.each i there
meets_tight p a earlier z (Upper j) within valid f inside there =
    let e = one_column (columns p) j (pos 1) z there in
    let n = within.columns in
    let h = inside.most j (omega arith) in
    record { holds = omega (arith, ints) }
meets_tight p a earlier z (Lower j) within valid f inside there =
    let e = one_column (columns p) j (negsuc 0) z there in
    let n = within.columns in
    let h = inside.least j (omega arith) in
    record { holds = omega (arith, ints) }
meets_tight p a earlier z (Cut k) within valid f inside there =
    valid k no_local_row there.0 z f (point_of_part there.1 inside)

-- a point that meets the rows and not their lowered sum is the point at which they hold with equality
is_the_point : (n : ℕ) (rows : List Linear) (den : ℤ) (units : List (List (ℕ × ℤ))) (z point : List ℤ)
    → Inverts n rows den units → pos 1 ≤ℤ den → length z ≡ n → length point ≡ n
    → ((i : ℕ) → i < length rows → Meets (linear_at rows i) z)
    → ((i : ℕ) → i < length rows → dot (linear_at rows i).coef point ≡ (linear_at rows i).rhs)
    → (lowered_sum n rows).rhs <ℤ dot (lowered_sum n rows).coef z → z ≡ point
is_the_point n rows den units z point inverts positive e e' meets equal beyond =
    let sum = dot_of_sum n rows z e in
    let left : ℕ → ℤ = λ i. dot (linear_at rows i).coef z in
    let right : ℕ → ℤ = λ i. (linear_at rows i).rhs in
    let same : (i : ℕ) → i < length rows → left i ≡ right i =
    equal_in_sum (length rows) left right (λ i b. (meets i b).holds) (omega (arith, ints)) in
    one_solution n rows den units z point inverts positive e e'
    (λ i. elim (cases_lt i (length rows)) [
      | inl b ↦ same i b ∙ sym (equal i b)
      | inr past ↦ let none = get_or_past rows i no_linear past in rw none refl
    ])

pub no_good_law : NoGoodLaw
no_good_law p a earlier parts g area within valid shown z f inside =
    let rows = tight_rows p a earlier parts.tight in
    let there : (i : ℕ) → i < length rows → Meets (linear_at rows i) z =
    λ i b. let b' : i < length parts.tight = rw length-map at b in
    rw (get_or-map (tight_row p a earlier) parts.tight i (Row 0) no_linear b')
    (meets_tight p a earlier z (slice_index_or parts.tight i (Row 0)) within valid f inside
    (shown.size.there i (Row 0) b')) in
    record {
      holds = by_lt_z (cut_row p a earlier parts.tight).rhs (dot (cut_row p a earlier parts.tight).coef z)
          (λ beyond. absurd (
          let e = is_the_point (columns p) rows parts.den parts.units z parts.point shown.inverse shown.size.den_least
          f.inside.columns shown.tight.inside.columns there shown.tight.equal beyond in
          not_feasible p parts.point parts.response g shown.response (subst (BilevelFeasible p) e f)))
          (λ h. h);
    }

head_and_tail : {X : Type 0} (P : X → Type 0) (x : X) (xs : List X) → P x → All P xs → All P (x ∷ xs)
head_and_tail P x xs first rest zero d b = first
head_and_tail P x xs first rest (suc k) d b = rest k d (omega arith)

valid_steps : (p : Program) (earlier : List LocalRow) (steps : List CutStep) → IsProgram p
    → All (λ e. IsValidRow p e.area e.row) earlier → AreCutSteps p earlier steps
    → All (λ s. IsValidRow p s.area s.row) steps
valid_steps p earlier [] g valid shown = λ k d b. absurd (omega arith)
valid_steps p earlier (s ∷ steps) g valid shown =
    let first : IsValidRow p s.area s.row =
    let law = no_good_law p s.area earlier s.parts g shown.0.area shown.0.within valid shown.0.shown in
    rw shown.0.row law in
    let last : All (λ e. IsValidRow p e.area e.row) (local_row s ∷ []) =
    head_and_tail (λ e. IsValidRow p e.area e.row) (local_row s) [] first (λ k d b. absurd (omega arith)) in
    let others = valid_steps p (earlier ++ local_row s ∷ []) steps g
    (All-append (λ e. IsValidRow p e.area e.row) earlier (local_row s ∷ []) valid last) shown.1 in
    head_and_tail (λ x. IsValidRow p x.area x.row) s steps first others

pub no_goods_law : NoGoodsLaw
no_goods_law p steps g shown = valid_steps p [] steps g (λ k d b. absurd (omega arith)) shown
