-- Points against responses, and the laws of true entries.
use Rattle.std.proofs.Common.{◌≡◌, ◌≢◌, ℕ, zero, suc, ◌<◌, refl, sym, ◌∙◌, ap, subst, arith, List, length, ◌⊎◌, inl}
use Rattle.std.proofs.Common.{inr}
use Rattle.std.specs.Prelude.{ℤ, pos, negsuc, ◌+ℤ◌, ◌*ℤ◌, ◌≤ℤ◌, slice_index, Contains, IsTrue}
use Rattle.std.proofs.Math.IntN.{zero-*ℤ}
use Rattle.std.proofs.lemmas.Int.{ints}
use Rattle.std.proofs.lemmas.List.{length-map, ext_get_or}
use Rattle.bl_whole.specs.Sums.{component, sum_over, dot}
use Rattle.bl_whole.proofs.SumLemmas.{sum_below_picked, rising_pairs}
use Rattle.bl_terms.specs.Points.{values_at}
use Rattle.bl_terms.specs.Programs.{Program, columns, row_at, InBox, MeetsRows, MeetsLowerRows, IsLeader, IsProgram}
use Rattle.bl_terms.specs.Programs.{SameLead, link_of, response_of, follower_at}
use Rattle.bl_terms.specs.Feasible.{BilevelFeasible}
use Rattle.bl_terms.specs.Responses.{InRanges, lhs_of, IsResponse, response_cost, IsBest, IsFollowerOptimum}
use Rattle.bl_terms.specs.Responses.{OptimumOfLink, EntryIsOptimum, NoResponseNoPoint, EntryLaw}
use Rattle.bl_terms.proofs.PlaceLemmas.{values_at-entry, cases_Contains, Contains-at, place_of, dot-values_at, put_at}
use Rattle.bl_terms.proofs.PlaceLemmas.{length-put_at, put_at-other, put_at-same, sum_below_two}

-- a linking column is the leader's, and no column of the follower
link_leads : (p : Program) → IsProgram p → (k : ℕ) → Contains p.links k → IsLeader p k
link_leads p g k c = ((g.linking.exact k).0 c).0

-- a column that is not the follower's is the leader's
leads : (p : Program) (k : ℕ) → k < columns p → ¬ Contains p.follower k → IsLeader p k
leads p k b absent = record { column = b; leads = absent }

-- a sum over all columns goes over the linking columns and the follower's, where the coefficients of the others are 0
split_dot : (p : Program) (c z : List ℤ) → IsProgram p → length c ≡ columns p
    → ((k : ℕ) → IsLeader p k → ¬ Contains p.links k → component c k ≡ pos 0)
    → dot c z ≡ dot (values_at c p.links) (link_of p z) +ℤ dot (values_at c p.follower) (response_of p z)
split_dot p c z g e rest =
    let f : ℕ → ℤ = λ k. component c k *ℤ component z k in
    let sums : dot c z ≡ sum_over p.links (λ k. component c k *ℤ component z k)
    +ℤ sum_over p.follower (λ k. component c k *ℤ component z k) =
    sum_below_two (length c) p.links p.follower (λ k. component c k *ℤ component z k) g.linking.rising g.follower_rising
    (λ k m. let b = (link_leads p g k m).column in omega arith)
    (λ k m. let b = g.follower_below k m in omega arith)
    (λ k m m'. (link_leads p g k m').leads m)
    (λ k b absent absent'. let z0 = rest k (leads p k (omega arith) absent') absent in
    rw z0 (zero-*ℤ (component z k))) in
    let links = dot-values_at c z p.links in
    let follower = dot-values_at c z p.follower in
    cc

-- a whole number is 0 or isn't
cases_zero : (z : ℤ) → (z ≡ pos 0) ⊎ (z ≢ pos 0)
cases_zero (pos zero) = inl refl
cases_zero (pos (suc n)) = inr (λ e. absurd (omega (arith, ints)))
cases_zero (negsuc n) = inr (λ e. absurd (omega (arith, ints)))

-- a row of the follower has the coefficient 0 in each of the leader's columns that is no linking column
lower_free : (p : Program) → IsProgram p → (i : ℕ) → i < length p.rows → IsTrue (row_at p.rows i).lower
    → (k : ℕ) → IsLeader p k → ¬ Contains p.links k → component (row_at p.rows i).coef k ≡ pos 0
lower_free p g i b lower k leader absent =
    elim (cases_zero (component (row_at p.rows i).coef k)) [
      | inl e ↦ e
      | inr ne ↦ absurd (absent ((g.linking.exact k).1 (leader, (i, b, lower, ne))))
    ]

-- a row of the follower at z is that row at z's link and response
row_split : (p : Program) (z : List ℤ) → IsProgram p → (i : ℕ) → i < length p.rows → IsTrue (row_at p.rows i).lower
    → dot (row_at p.rows i).coef z ≡ lhs_of p (row_at p.rows i) (link_of p z) (response_of p z)
row_split p z g i b lower = split_dot p (row_at p.rows i).coef z g (g.row_columns i b) (lower_free p g i b lower)

-- the follower's cost of z is that of its response
pub cost_split : (p : Program) (z : List ℤ) → IsProgram p → follower_at p z ≡ response_cost p (response_of p z)
cost_split p z g =
    let sum : follower_at p z ≡ sum_over p.follower (λ k. component p.follower_cost k *ℤ component z k) =
    sum_below_picked (length p.follower_cost) p.follower
    (λ k. component p.follower_cost k *ℤ component z k) g.follower_rising
    (λ k m. let b = g.follower_below k m in let e = g.follower_cost_columns in omega arith)
    (λ k b absent. let z0 = g.leader_free k (leads p k (let e = g.follower_cost_columns in omega arith) absent) in
    rw z0 (zero-*ℤ (component z k))) in
    let e = dot-values_at p.follower_cost z p.follower in
    cc

-- the values of a point of the box on given columns lie in their ranges
values_in_ranges : (p : Program) (z : List ℤ) (ks : List ℕ) → ((k : ℕ) → Contains ks k → k < columns p) → InBox p z
    → InRanges p ks (values_at z ks)
values_in_ranges p z ks below inside = record {
  count = length-map ks (λ k. component z k);
  least = λ j b. let e = values_at-entry z ks j b in
      rw e (inside.least (slice_index ks j) (below (slice_index ks j) (Contains-at ks j b)));
  most = λ j b. let e = values_at-entry z ks j b in
      rw e (inside.most (slice_index ks j) (below (slice_index ks j) (Contains-at ks j b)));
}

-- a point of the box that meets the follower's rows has a response to its link
pub response_from_point : (p : Program) (z : List ℤ) → IsProgram p → InBox p z → MeetsLowerRows p z
    → IsResponse p (link_of p z) (response_of p z)
response_from_point p z g inside lower = record {
  ranges = values_in_ranges p z p.follower g.follower_below inside;
  rows = λ i b low. let e = row_split p z g i b low in let h = (lower.each i b low).holds in omega (arith, ints);
}

-- z with the response y put in
abbrev pub with_response : Program → List ℤ → List ℤ → List ℤ
with_response p z y = put_at p.follower y z

-- at the follower's columns it has the response, and elsewhere it is z
pub with_response-same : (p : Program) (z y : List ℤ) → IsProgram p → length z ≡ columns p
    → length y ≡ length p.follower → (j : ℕ) → j < length p.follower
    → component (with_response p z y) (slice_index p.follower j) ≡ component y j
with_response-same p z y g e e' j b =
    put_at-same p.follower y z (rising_pairs p.follower g.follower_rising)
    (λ k m. let b = g.follower_below k m in omega arith) e' j b

pub with_response-response : (p : Program) (z y : List ℤ) → IsProgram p → length z ≡ columns p
    → length y ≡ length p.follower → response_of p (with_response p z y) ≡ y
with_response-response p z y g e e' =
    ext_get_or (pos 0) (response_of p (with_response p z y)) y
    (length-map p.follower (λ k. component (with_response p z y) k) ∙ sym e')
    (λ j b. let b' : j < length p.follower = rw length-map at b in
    values_at-entry (with_response p z y) p.follower j b' ∙ with_response-same p z y g e e' j b')

pub with_response-lead : (p : Program) (z y : List ℤ) → SameLead p z (with_response p z y)
with_response-lead p z y = record { agree = λ k leader. sym (put_at-other p.follower y z k leader.leads) }

-- points that agree on the leader's columns have one link
pub link_from_lead : (p : Program) (z z' : List ℤ) → IsProgram p → SameLead p z z' → link_of p z ≡ link_of p z'
link_from_lead p z z' g same =
    ext_get_or (pos 0) (link_of p z) (link_of p z')
    (length-map p.links (λ k. component z k) ∙ sym (length-map p.links (λ k. component z' k)))
    (λ j b. let b' : j < length p.links = rw length-map at b in
    values_at-entry z p.links j b'
    ∙ same.agree (slice_index p.links j) (link_leads p g (slice_index p.links j) (Contains-at p.links j b'))
    ∙ sym (values_at-entry z' p.links j b'))

-- what holds of each of the follower's columns by its place holds of it by its number
at_follower : (p : Program) (P : ℕ → Type 0) → ((j : ℕ) → j < length p.follower → P (slice_index p.follower j))
    → (k : ℕ) → Contains p.follower k → P k
at_follower p P h k m = let q = place_of p.follower k m in subst P q.2 (h q.0 q.1)

-- a response put into a point of the box with its link is a point of the box that meets the follower's rows
pub with_response-in : (p : Program) (z y : List ℤ) → IsProgram p → InBox p z → InRanges p p.follower y
    → InBox p (with_response p z y)
with_response-in p z y g inside ranges = record {
  columns = length-put_at p.follower y z ∙ inside.columns;
  least = λ k b. elim (cases_Contains k p.follower) [
    | inl m ↦ at_follower p (λ x. component p.lo x ≤ℤ component (with_response p z y) x)
        (λ j b'. let e = with_response-same p z y g inside.columns ranges.count j b' in rw e (ranges.least j b')) k m
    | inr absent ↦ rw (put_at-other p.follower y z k absent) (inside.least k b)
  ];
  most = λ k b. elim (cases_Contains k p.follower) [
    | inl m ↦ at_follower p (λ x. component (with_response p z y) x ≤ℤ component p.hi x)
        (λ j b'. let e = with_response-same p z y g inside.columns ranges.count j b' in rw e (ranges.most j b')) k m
    | inr absent ↦ rw (put_at-other p.follower y z k absent) (inside.most k b)
  ];
}

pub with_response-link : (p : Program) (z y : List ℤ) → IsProgram p → link_of p (with_response p z y) ≡ link_of p z
with_response-link p z y g = sym (link_from_lead p z (with_response p z y) g (with_response-lead p z y))

pub with_response-lower : (p : Program) (z y : List ℤ) → IsProgram p → InBox p z → IsResponse p (link_of p z) y
    → MeetsLowerRows p (with_response p z y)
with_response-lower p z y g inside r = record {
  each = λ i b low.
      let s = row_split p (with_response p z y) g i b low in
      let e = with_response-link p z y g in
      let f = with_response-response p z y g inside.columns r.ranges.count in
      let same : lhs_of p (row_at p.rows i) (link_of p (with_response p z y)) (response_of p (with_response p z y))
      ≡ lhs_of p (row_at p.rows i) (link_of p z) y =
      ap (λ l. lhs_of p (row_at p.rows i) l (response_of p (with_response p z y))) e
      ∙ ap (λ x. lhs_of p (row_at p.rows i) (link_of p z) x) f in
      let h = r.rows i b low in
      record { holds = omega (arith, ints) };
}

pub with_response-cost : (p : Program) (z y : List ℤ) → IsProgram p → InBox p z → IsResponse p (link_of p z) y
    → follower_at p (with_response p z y) ≡ response_cost p y
with_response-cost p z y g inside r =
    cost_split p (with_response p z y) g
    ∙ ap (λ x. response_cost p x) (with_response-response p z y g inside.columns r.ranges.count)

-- ---- the laws

-- any point that agrees with z has a response to z's link
pub response_at : (p : Program) (z z' : List ℤ) → IsProgram p → InBox p z' → MeetsLowerRows p z' → SameLead p z z'
    → IsResponse p (link_of p z) (response_of p z')
response_at p z z' g inside lower same =
    let P : List ℤ → Type 0 = λ l. IsResponse p l (response_of p z') in
    subst P (sym (link_from_lead p z z' g same)) (response_from_point p z' g inside lower)

pub entry_is_optimum : EntryIsOptimum
entry_is_optimum p z y v g inside best = record {
  reached = (
    with_response p z y,
    with_response-in p z y g inside best.response.ranges,
    with_response-lower p z y g inside best.response,
    with_response-lead p z y,
    with_response-cost p z y g inside best.response ∙ best.value,
  );
  least = λ z' i l s. let h = best.least (response_of p z') (response_at p z z' g i l s) in rw (cost_split p z' g) h;
}

pub no_response_no_point : NoResponseNoPoint
no_response_no_point p z g inside none lower = none (response_of p z) (response_from_point p z g inside lower)

pub best_from_optimum : (p : Program) (z : List ℤ) (v : ℤ) → IsProgram p → InBox p z → IsFollowerOptimum p z v
    → (y : List ℤ) × IsBest p (link_of p z) y v
best_from_optimum p z v g inside o = (
  response_of p o.reached.0,
  record {
    response = response_at p z o.reached.0 g o.reached.1 o.reached.2 o.reached.3;
    value = sym (cost_split p o.reached.0 g) ∙ o.reached.4;
    least = λ y r.
        let h = o.least (with_response p z y) (with_response-in p z y g inside r.ranges)
        (with_response-lower p z y g inside r) (with_response-lead p z y) in
        let e = with_response-cost p z y g inside r in
        omega (arith, ints);
  },
)

pub optimum_of_link : OptimumOfLink
optimum_of_link p z z' v g inside inside' same o =
    let b = best_from_optimum p z v g inside o in
    let P : List ℤ → Type 0 = λ l. IsBest p l b.0 v in
    entry_is_optimum p z' b.0 v g inside' (subst P same b.1)

pub lower_from_rows : (p : Program) (z : List ℤ) → MeetsRows p z → MeetsLowerRows p z
lower_from_rows p z rows = record { each = λ i b _. rows.each i b }

pub entry_law : EntryLaw
entry_law p z y v g inside rows best =
    let own = best.least (response_of p z) (response_from_point p z g inside (lower_from_rows p z rows)) in
    let cost = cost_split p z g in
    let high : BilevelFeasible p z → follower_at p z ≤ℤ v =
    λ f.
    let h = f.least (with_response p z y) (with_response-in p z y g inside best.response.ranges)
    (with_response-lower p z y g inside best.response) (with_response-lead p z y) in
    let e = with_response-cost p z y g inside best.response in
    let e' = best.value in
    omega (arith, ints) in
    let back : follower_at p z ≤ℤ v → BilevelFeasible p z =
    λ h. record {
      inside = inside;
      rows = rows;
      least = λ z' i l s.
          let b = best.least (response_of p z') (response_at p z z' g i l s) in
          let e = cost_split p z' g in
          omega (arith, ints);
    } in
    ((λ f. let h = high f in omega (arith, ints), λ e. back (omega (arith, ints))), (high, back))
