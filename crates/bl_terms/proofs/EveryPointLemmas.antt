-- The tests of `EveryPoint` decide the definitions.
use Rattle.std.proofs.Common.{◌≡◌, ℕ, zero, suc, ◌<◌, refl, sym, ◌∙◌, ap, subst, arith, Bool, true, false, not, cond}
use Rattle.std.proofs.Common.{◌&&◌, ◌||◌, List, [], ◌∷◌, length, ◌⊎◌, inl, inr}
use Rattle.std.specs.Prelude.{ℤ, pos, ◌+ℤ◌, ◌-ℤ◌, ◌*ℤ◌, ◌≤ℤ◌, ◌<ℤ◌, int_le, int_lt, nat_eq, unsigned_abs, IsTrue}
use Rattle.std.specs.Bool.{Decides}
use Rattle.std.specs.Ordering.{int_eq}
use Rattle.std.proofs.lemmas.Int.{ints, by_lt_z}
use Rattle.std.proofs.lemmas.Bool.{cases_Bool, cases_lt, true≢false}
use Rattle.std.proofs.lemmas.Bool.Decides.{Decides-eqb, Decides-int_eq, Decides-and, Decides-or, Decides-not}
use Rattle.std.proofs.lemmas.Bool.Decides.{Decides-like}
use Rattle.std.proofs.lemmas.List.{ext_get_or}
use Rattle.bl_whole.specs.Sums.{component, dot}
use Rattle.bl_terms.specs.Points.{Meets, is_among}
use Rattle.bl_terms.specs.Programs.{Program, columns, row_at, inequality, InBox, MeetsRows, MeetsLowerRows, IsLeader}
use Rattle.bl_terms.specs.Programs.{SameLead, cost_at, value_at, follower_at}
use Rattle.bl_terms.specs.Feasible.{BilevelFeasible, Optimal, IsOnlyOptimum, Infeasible}
use Rattle.bl_terms.specs.EveryPoint.{all_numbers, all_below, count_between, all_points, all_of_box, is_in, meets_row}
use Rattle.bl_terms.specs.EveryPoint.{meets_rows, meets_lower, low_from, high_from, is_feasible, is_optimal}
use Rattle.bl_terms.specs.EveryPoint.{is_only_optimum, is_infeasible, TestsDecide}
use Rattle.bl_terms.proofs.TestLemmas.{Decides-int_le, Decides-int_lt, Decides-implies, Decides-self, and_true}
use Rattle.bl_terms.proofs.TestLemmas.{pos-unsigned_abs}
use Rattle.bl_terms.proofs.PlaceLemmas.{among_from_Contains, Contains-from_among}

pub all_below_decides : (n : ℕ) (test : ℕ → Bool) (P : ℕ → Type 0) → ((k : ℕ) → k < n → Decides (test k) (P k))
    → Decides (all_below n test) ((k : ℕ) → k < n → P k)
all_below_decides zero test P each = (λ e k b. absurd (omega arith), λ h. refl)
all_below_decides (suc n) test P each =
    Decides-like (all_below n test && test n)
    (λ both k b. elim (cases_lt k n) [
      | inl c ↦ both.0 k c
      | inr c ↦ let e : n ≡ k = omega arith in subst P e both.1
    ])
    (λ h. (λ k b. h k (omega arith), h n (omega arith)))
    (Decides-and (all_below n test) (test n) (all_below_decides n test P (λ k b. each k (omega arith)))
    (each n (omega arith)))

all_numbers_decides : (x : ℤ) (n : ℕ) (test : ℤ → Bool)
    → Decides (all_numbers x n test) ((y : ℤ) → x ≤ℤ y → y <ℤ (x +ℤ pos n) → test y ≡ true)
all_numbers_decides x zero test = (λ e y low high. absurd (omega (arith, ints)), λ h. refl)
all_numbers_decides x (suc n) test =
    let rest = all_numbers_decides (x +ℤ pos 1) n test in (
      λ e y low high.
          let both = and_true (test x) (all_numbers (x +ℤ pos 1) n test) e in
          by_lt_z x y (λ c. rest.0 both.1 y (omega (arith, ints)) (omega (arith, ints)))
          (λ c. let same : x ≡ y = omega (arith, ints) in rw (← same) both.0),
      λ h.
          let first = h x (omega (arith, ints)) (omega (arith, ints)) in
          let others = rest.1 (λ y low high. h y (omega (arith, ints)) (omega (arith, ints))) in
          rw (first, others) refl,
    )

-- z has n numbers, each in its range
record IsBetween (n : ℕ) (lo hi : ℕ → ℤ) (z : List ℤ) : Type 0 where
  count : length z ≡ n
  least : (k : ℕ) → k < n → lo k ≤ℤ component z k
  most : (k : ℕ) → k < n → component z k ≤ℤ hi k

-- the numbers counted from lo on are those up to hi
count_between_is : (lo hi x : ℤ) → lo ≤ℤ x → x ≤ℤ hi → x <ℤ (lo +ℤ pos (count_between lo hi))
count_between_is lo hi x low high = by (int_le lo hi) refl
  where
    by : (t : Bool) → int_le lo hi ≡ t → x <ℤ (lo +ℤ pos (cond t (unsigned_abs (hi -ℤ lo +ℤ pos 1)) 0))
    by true e = let a = pos-unsigned_abs (hi -ℤ lo +ℤ pos 1) (omega (arith, ints)) in omega (arith, ints)
    by false e = absurd (omega (arith, ints))

between_count : (lo hi x : ℤ) → lo ≤ℤ x → x <ℤ (lo +ℤ pos (count_between lo hi)) → x ≤ℤ hi
between_count lo hi x low high = by (int_le lo hi) refl high
  where
    by : (t : Bool) → int_le lo hi ≡ t → x <ℤ (lo +ℤ pos (cond t (unsigned_abs (hi -ℤ lo +ℤ pos 1)) 0)) → x ≤ℤ hi
    by true e h = let a = pos-unsigned_abs (hi -ℤ lo +ℤ pos 1) (omega (arith, ints)) in omega (arith, ints)
    by false e h = absurd (omega (arith, ints))

between_cons : (n : ℕ) (lo hi : ℕ → ℤ) (x : ℤ) (z : List ℤ) → lo 0 ≤ℤ x → x ≤ℤ hi 0
    → IsBetween n (λ k. lo (suc k)) (λ k. hi (suc k)) z → IsBetween (suc n) lo hi (x ∷ z)
between_cons n lo hi x z low high b = record { count = ap suc b.count; least = lows; most = highs }
  where
    lows : (k : ℕ) → k < suc n → lo k ≤ℤ component (x ∷ z) k
    lows zero c = low
    lows (suc k) c = b.least k (omega arith)

    highs : (k : ℕ) → k < suc n → component (x ∷ z) k ≤ℤ hi k
    highs zero c = high
    highs (suc k) c = b.most k (omega arith)

between_tail : (n : ℕ) (lo hi : ℕ → ℤ) (x : ℤ) (z : List ℤ) → IsBetween (suc n) lo hi (x ∷ z)
    → IsBetween n (λ k. lo (suc k)) (λ k. hi (suc k)) z
between_tail n lo hi x z b = record {
  count = let c = b.count in omega arith;
  least = λ k c. b.least (suc k) (omega arith);
  most = λ k c. b.most (suc k) (omega arith);
}

all_points_decides : (n : ℕ) (lo hi : ℕ → ℤ) (test : List ℤ → Bool)
    → Decides (all_points n lo hi test) ((z : List ℤ) → IsBetween n lo hi z → test z ≡ true)
all_points_decides zero lo hi test = (
  λ e. only e,
  λ h. h []
      (record { count = refl; least = λ k b. absurd (omega arith); most = λ k b. absurd (omega arith) }),
)
  where
    only : test [] ≡ true → (z : List ℤ) → IsBetween 0 lo hi z → test z ≡ true
    only e [] b = e
    only e (x ∷ z) b = let c = b.count in absurd (omega arith)
all_points_decides (suc n) lo hi test =
    by (λ x. all_points_decides n (λ k. lo (suc k)) (λ k. hi (suc k)) (λ z. test (x ∷ z)))
  where
    by : ((x : ℤ) → Decides (all_points n (λ k. lo (suc k)) (λ k. hi (suc k)) (λ z. test (x ∷ z)))
        ((z : List ℤ) → IsBetween n (λ k. lo (suc k)) (λ k. hi (suc k)) z → test (x ∷ z) ≡ true))
        → Decides (all_points (suc n) lo hi test) ((z : List ℤ) → IsBetween (suc n) lo hi z → test z ≡ true)
    by inner = (forward, backward)
      where
        numbers : Decides (all_points (suc n) lo hi test)
            ((y : ℤ) → lo 0 ≤ℤ y → y <ℤ (lo 0 +ℤ pos (count_between (lo 0) (hi 0)))
            → all_points n (λ k. lo (suc k)) (λ k. hi (suc k)) (λ z. test (y ∷ z)) ≡ true)
        numbers = all_numbers_decides (lo 0) (count_between (lo 0) (hi 0))
            (λ x. all_points n (λ k. lo (suc k)) (λ k. hi (suc k)) (λ z. test (x ∷ z)))

        forward : all_points (suc n) lo hi test ≡ true → (z : List ℤ) → IsBetween (suc n) lo hi z → test z ≡ true
        forward e [] b = let c = b.count in absurd (omega arith)
        forward e (x ∷ z) b =
            let low = b.least 0 (omega arith) in
            (inner x).0 (numbers.0 e x low (count_between_is (lo 0) (hi 0) x low (b.most 0 (omega arith)))) z
            (between_tail n lo hi x z b)

        backward : ((z : List ℤ) → IsBetween (suc n) lo hi z → test z ≡ true) → all_points (suc n) lo hi test ≡ true
        backward h = numbers.1
            (λ x low high. (inner x).1
            (λ z b. h (x ∷ z) (between_cons n lo hi x z low (between_count (lo 0) (hi 0) x low high) b)))

-- the points of the program's box
all_of_box_decides : (p : Program) (test : List ℤ → Bool)
    → Decides (all_of_box p test) ((z : List ℤ) → InBox p z → test z ≡ true)
all_of_box_decides p test =
    Decides-like (all_of_box p test)
    (λ h z inside. h z (record { count = inside.columns; least = inside.least; most = inside.most }))
    (λ h z b. h z (record { columns = b.count; least = b.least; most = b.most }))
    (all_points_decides (columns p) (component p.lo) (component p.hi) test)

pub is_in_decides : (p : Program) (z : List ℤ) → Decides (is_in p z) (InBox p z)
is_in_decides p z =
    Decides-like (is_in p z)
    (λ both. record { columns = both.0; least = λ k b. (both.1 k b).0; most = λ k b. (both.1 k b).1 })
    (λ inside. (inside.columns, λ k b. (inside.least k b, inside.most k b)))
    (Decides-and (nat_eq (length z) (columns p))
    (all_below (columns p)
    (λ k. int_le (component p.lo k) (component z k) && int_le (component z k) (component p.hi k)))
    (Decides-eqb (length z) (columns p))
    (all_below_decides (columns p)
    (λ k. int_le (component p.lo k) (component z k) && int_le (component z k) (component p.hi k))
    (λ k. (component p.lo k ≤ℤ component z k) × (component z k ≤ℤ component p.hi k))
    (λ k b. Decides-and (int_le (component p.lo k) (component z k)) (int_le (component z k) (component p.hi k))
    (Decides-int_le (component p.lo k) (component z k)) (Decides-int_le (component z k) (component p.hi k)))))

meets_row_decides : (p : Program) (z : List ℤ) (i : ℕ)
    → Decides (meets_row p z i) (Meets (inequality (row_at p.rows i)) z)
meets_row_decides p z i =
    Decides-like (meets_row p z i) (λ h. record { holds = h }) (λ m. m.holds)
    (Decides-int_le (dot (row_at p.rows i).coef z) (row_at p.rows i).rhs)

pub meets_rows_decides : (p : Program) (z : List ℤ) → Decides (meets_rows p z) (MeetsRows p z)
meets_rows_decides p z =
    Decides-like (meets_rows p z) (λ h. record { each = h }) (λ m. m.each)
    (all_below_decides (length p.rows) (meets_row p z) (λ i. Meets (inequality (row_at p.rows i)) z)
    (λ i b. meets_row_decides p z i))

pub meets_lower_decides : (p : Program) (z : List ℤ) → Decides (meets_lower p z) (MeetsLowerRows p z)
meets_lower_decides p z =
    Decides-like (meets_lower p z) (λ h. record { each = h }) (λ m. m.each)
    (all_below_decides (length p.rows) (λ i. not (row_at p.rows i).lower || meets_row p z i)
    (λ i. IsTrue (row_at p.rows i).lower → Meets (inequality (row_at p.rows i)) z)
    (λ i b. Decides-implies (row_at p.rows i).lower (meets_row p z i) (Decides-self (row_at p.rows i).lower)
    (meets_row_decides p z i)))

-- a column that is not among the follower's is the leader's
leads_from_test : (p : Program) (k : ℕ) → k < columns p → is_among k p.follower ≡ false → IsLeader p k
leads_from_test p k b f = record { column = b; leads = λ c. true≢false (sym (among_from_Contains k p.follower c) ∙ f) }

-- the points that agree with z on the leader's columns are those between the ranges of `low_from` and `high_from`
between_from_lead : (p : Program) (z z' : List ℤ) → InBox p z' → SameLead p z z'
    → IsBetween (columns p) (low_from p z) (high_from p z) z'
between_from_lead p z z' inside same = record {
  count = inside.columns;
  least = λ k b. elim (cases_Bool (is_among k p.follower)) [
    | inl t ↦ rw t (inside.least k b)
    | inr f ↦ rw f (let e = same.agree k (leads_from_test p k b f) in omega (arith, ints))
  ];
  most = λ k b. elim (cases_Bool (is_among k p.follower)) [
    | inl t ↦ rw t (inside.most k b)
    | inr f ↦ rw f (let e = same.agree k (leads_from_test p k b f) in omega (arith, ints))
  ];
}

in_from_between : (p : Program) (z z' : List ℤ) → InBox p z → IsBetween (columns p) (low_from p z) (high_from p z) z'
    → InBox p z'
in_from_between p z z' inside between = record {
  columns = between.count;
  least = λ k b. let h = between.least k b in elim (cases_Bool (is_among k p.follower)) [
    | inl t ↦ rw t at h
    | inr f ↦ let h' = rw f at h in let g = inside.least k b in omega (arith, ints)
  ];
  most = λ k b. let h = between.most k b in elim (cases_Bool (is_among k p.follower)) [
    | inl t ↦ rw t at h
    | inr f ↦ let h' = rw f at h in let g = inside.most k b in omega (arith, ints)
  ];
}

lead_from_between : (p : Program) (z z' : List ℤ) → IsBetween (columns p) (low_from p z) (high_from p z) z'
    → SameLead p z z'
lead_from_between p z z' between = record {
  agree = λ k leader.
      let low = between.least k leader.column in
      let high = between.most k leader.column in
      elim (cases_Bool (is_among k p.follower)) [
        | inl t ↦ absurd (leader.leads (Contains-from_among k p.follower t))
        | inr f ↦ let low' = rw f at low in let high' = rw f at high in omega (arith, ints)
      ];
}

is_feasible_decides : (p : Program) (z : List ℤ) → Decides (is_feasible p z) (BilevelFeasible p z)
is_feasible_decides p z =
    let better : List ℤ → Bool = λ z'. not (meets_lower p z') || int_le (follower_at p z) (follower_at p z') in
    let each : (z' : List ℤ)
    → Decides (not (meets_lower p z') || int_le (follower_at p z) (follower_at p z'))
    (MeetsLowerRows p z' → follower_at p z ≤ℤ follower_at p z') =
    λ z'. Decides-implies (meets_lower p z') (int_le (follower_at p z) (follower_at p z')) (meets_lower_decides p z')
    (Decides-int_le (follower_at p z) (follower_at p z')) in
    Decides-like (is_feasible p z)
    (λ all. record {
      inside = all.0.0;
      rows = all.0.1;
      least = λ z' i l s. (each z').0 (all.1 z' (between_from_lead p z z' i s)) l;
    })
    (λ f. (
      (f.inside, f.rows),
      λ z' b. (each z').1 (λ l. f.least z' (in_from_between p z z' f.inside b) l (lead_from_between p z z' b)),
    ))
    (Decides-and (is_in p z && meets_rows p z)
    (all_points (columns p) (low_from p z) (high_from p z)
    (λ z'. not (meets_lower p z') || int_le (follower_at p z) (follower_at p z')))
    (Decides-and (is_in p z) (meets_rows p z) (is_in_decides p z) (meets_rows_decides p z))
    (all_points_decides (columns p) (low_from p z) (high_from p z)
    (λ z'. not (meets_lower p z') || int_le (follower_at p z) (follower_at p z'))))

is_infeasible_decides : (p : Program) → Decides (is_infeasible p) (Infeasible p)
is_infeasible_decides p =
    Decides-like (is_infeasible p)
    (λ h z f. (Decides-not (is_feasible p z) (is_feasible_decides p z)).0 (h z f.inside) f)
    (λ none z inside. (Decides-not (is_feasible p z) (is_feasible_decides p z)).1 (none z))
    (all_of_box_decides p (λ z. not (is_feasible p z)))

is_optimal_decides : (p : Program) (z : List ℤ) (v : ℤ) → Decides (is_optimal p z v) (Optimal p z v)
is_optimal_decides p z v =
    let each : (z' : List ℤ)
    → Decides (not (is_feasible p z') || int_le (cost_at p z) (cost_at p z'))
    (BilevelFeasible p z' → cost_at p z ≤ℤ cost_at p z') =
    λ z'. Decides-implies (is_feasible p z') (int_le (cost_at p z) (cost_at p z')) (is_feasible_decides p z')
    (Decides-int_le (cost_at p z) (cost_at p z')) in
    Decides-like (is_optimal p z v)
    (λ all. record { feasible = all.0.0; value = all.0.1; least = λ z' f. (each z').0 (all.1 z' f.inside) f })
    (λ o. ((o.feasible, o.value), λ z' inside. (each z').1 (λ f. o.least z' f)))
    (Decides-and (is_feasible p z && int_eq (value_at p z) v)
    (all_of_box p (λ z'. not (is_feasible p z') || int_le (cost_at p z) (cost_at p z')))
    (Decides-and (is_feasible p z) (int_eq (value_at p z) v) (is_feasible_decides p z)
    (Decides-int_eq (value_at p z) v))
    (all_of_box_decides p (λ z'. not (is_feasible p z') || int_le (cost_at p z) (cost_at p z'))))

is_only_optimum_decides : (p : Program) (z : List ℤ) (v : ℤ) → Decides (is_only_optimum p z v) (IsOnlyOptimum p z v)
is_only_optimum_decides p z v =
    let same : (z' : List ℤ)
    → Decides (all_below (columns p) (λ k. int_eq (component z k) (component z' k)))
    ((k : ℕ) → k < columns p → component z k ≡ component z' k) =
    λ z'. all_below_decides (columns p) (λ k. int_eq (component z k) (component z' k))
    (λ k. component z k ≡ component z' k) (λ k b. Decides-int_eq (component z k) (component z' k)) in
    let each : (z' : List ℤ)
    → Decides (not (is_feasible p z')
    || (int_lt (cost_at p z) (cost_at p z')
    || all_below (columns p) (λ k. int_eq (component z k) (component z' k))))
    (BilevelFeasible p z'
    → (cost_at p z <ℤ cost_at p z') ⊎ ((k : ℕ) → k < columns p → component z k ≡ component z' k)) =
    λ z'. Decides-implies (is_feasible p z')
    (int_lt (cost_at p z) (cost_at p z') || all_below (columns p) (λ k. int_eq (component z k) (component z' k)))
    (is_feasible_decides p z')
    (Decides-or (int_lt (cost_at p z) (cost_at p z'))
    (all_below (columns p) (λ k. int_eq (component z k) (component z' k)))
    (Decides-int_lt (cost_at p z) (cost_at p z')) (same z')) in
    Decides-like (is_only_optimum p z v)
    (λ all. record {
      optimal = all.0;
      alone = λ z' o.
          elim ((each z').0 (all.1 z' o.feasible.inside) o.feasible) [
            | inl c ↦ let l = o.least z all.0.feasible in absurd (omega (arith, ints))
            | inr eq ↦ ext_get_or (pos 0) z' z (o.feasible.inside.columns ∙ sym all.0.feasible.inside.columns)
                (λ k b. sym (eq k (let e = o.feasible.inside.columns in omega arith)))
          ];
    })
    (λ u. (
      u.optimal,
      λ z' inside. (each z').1 (λ f.
          by_lt_z (cost_at p z) (cost_at p z') (λ c. inl c)
          (λ c. inr (λ k b.
          let l = u.optimal.least z' f in
          let same : cost_at p z' ≡ cost_at p z = omega (arith, ints) in
          let e = u.alone z' (record {
            feasible = f;
            value = ap (λ x. p.leader_sense *ℤ x) same ∙ u.optimal.value;
            least = λ y g. let h = u.optimal.least y g in omega (arith, ints);
          }) in
          ap (λ x. component x k) (sym e)))),
    ))
    (Decides-and (is_optimal p z v)
    (all_of_box p (λ z'. not (is_feasible p z')
    || (int_lt (cost_at p z) (cost_at p z')
    || all_below (columns p) (λ k. int_eq (component z k) (component z' k)))))
    (is_optimal_decides p z v)
    (all_of_box_decides p
    (λ z'. not (is_feasible p z')
    || (int_lt (cost_at p z) (cost_at p z')
    || all_below (columns p) (λ k. int_eq (component z k) (component z' k))))))

pub tests_decide : TestsDecide
tests_decide = record {
  feasible = is_feasible_decides;
  optimal = is_optimal_decides;
  only_optimum = is_only_optimum_decides;
  infeasible = is_infeasible_decides;
}
