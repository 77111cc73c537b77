-- The optimum of a dictionary that doesn't close the box.
use Rattle.std.proofs.Common.{◌≡◌, ℕ, zero, suc, ◌+◌, ◌/◌, ◌<◌, Bool, true, false, cond, List, length}
use Rattle.std.proofs.Common.{map, inr, ℤ, pos, negsuc, ◌+ℤ◌, ◌-ℤ◌, ◌*ℤ◌, ◌≤ℤ◌, refl, sym, ap, ◌∙◌, subst, arith}
use Rattle.std.specs.Prelude.{Option, Some, None, MatchOption}
use Rattle.std.specs.List.{range_with_len}
use Rattle.std.specs.Int.{◌∣◌}
use Rattle.std.proofs.lemmas.Int.{ints, by_lt_z}
use Rattle.std.proofs.lemmas.List.FromFn.{length-map-range_with_len, get_or-map-range_with_len}
use Rattle.bl_whole.specs.Sums.{component, sum_below, dot}
use Rattle.bl_whole.proofs.Products.{*ℤ_one, one-*ℤ, neg_ℤ-*ℤ}
use Rattle.bl_whole.proofs.SumLemmas.{sum_below-agree}
use Rattle.bl_terms.specs.Bounds.{Problem, Fits, linear_at}
use Rattle.bl_bound.specs.Plain.{CostsLess}
use Rattle.bl_simplex.specs.Gcd.{gcd, lcm}
use Rattle.bl_simplex.specs.Fractions.{Fraction}
use Rattle.bl_simplex.specs.Rationals.{fraction_at, common_denominator, times_multiple, IsAtMost}
use Rattle.bl_simplex.specs.Dictionaries.{Dictionary, columns, cost_row, descends, start_at, sign_at, opening}
use Rattle.bl_simplex.specs.Pivots.{replay}
use Rattle.bl_simplex.specs.Closing.{ClosesByCost}
use Rattle.bl_tableau.proofs.ReplayInduction.{replay_law}
use Rattle.bl_licence.specs.Steps.{scaled_column, IsScaledPoint, IsBetween}
use Rattle.bl_licence.proofs.Multiples.{common_positive, common_divides, dens_positive}
use Rattle.bl_licence.proofs.Points.{Setting, RowsPass, CostPasses, fractional_from_test, at_most_over}
use Rattle.bl_duality.proofs.CostSigns.{steps_narrow}
use Rattle.bl_vertex.specs.Optima.{IsOpenOptimum, AreAllWhole, IsPointAt, FractionalOptimum, WholeOptimum}
use Rattle.bl_vertex.proofs.BasicValues.{vertex_list, vertex_solves, value_of, value_of_cost, value_positive}
use Rattle.bl_vertex.proofs.BasicValues.{basic_least}
use Rattle.bl_vertex.proofs.BasicValues.{list_rational, IsBasis, steps_to_basis}
use Rattle.bl_vertex.proofs.OpeningRows.{IsOpened, scaled_value, row_met, column_in_range, cost_over}

module _ (q : Problem) (u : Option ℤ) (pivots : List (ℕ × ℕ)) (fs : List Fraction) (f : Fits q)
    (h : IsOpenOptimum q u pivots fs) where
  -- the dictionary, its values by label, and the common denominator of the columns' values
  abbrev last : Dictionary
  last = replay (opening q) pivots

  value : ℕ → Fraction
  value = fraction_at (vertex_list q last)

  abbrev common : ℕ
  common = common_denominator (columns q) (fraction_at fs)

  basis : IsBasis q last
  basis = steps_to_basis q u pivots h.steps

  column_value : (j : ℕ) → j < columns q → value j ≡ fraction_at fs j
  unfolding value
  column_value j l = value_of q last j (omega arith) ∙ sym (h.values.each j l)

  column_positive : (j : ℕ) → j < columns q → 0 < (fraction_at fs j).den
  column_positive j l = dens_positive fs h.values.reduced j (let s = h.values.size in omega arith)

  opened : IsOpened q value common
  unfolding value
  opened = record {
    some = common_positive (columns q) (fraction_at fs) column_positive;
    positive = λ l b. value_positive q last l basis.positive (omega arith);
    divides = λ j l. subst (λ x. x.den ∣ common) (sym (column_value j l))
        (common_divides (columns q) (fraction_at fs) j l);
    solved = ((replay_law q pivots (vertex_list q last) (steps_narrow q u (opening q) pivots h.steps)
        (list_rational q last basis.positive)).1 (vertex_solves q last basis)).each;
  }

  value_least : (l : ℕ) → l < columns q + cost_row q → pos 0 ≤ℤ (value l).num
  unfolding value
  value_least l b = subst (λ x. pos 0 ≤ℤ x.num) (sym (value_of q last l b)) (basic_least q last l h.feasible)

  pub between : (j : ℕ) → j < columns q
      → IsBetween (component q.area.hi j -ℤ component q.area.lo j) (fraction_at fs j)
  between j l =
      let e = column_value j l in (
        subst (λ x. pos 0 ≤ℤ x.num) e (value_least j (omega arith)),
        subst (λ x. IsAtMost x (component q.area.hi j -ℤ component q.area.lo j)) e
            (column_in_range q value common opened j l (value_least (columns q + (length q.rows + j)) (omega arith))),
      )

  -- ---- a point times the common denominator

  dot_is : (cs xs : List ℤ) → length cs ≡ columns q → IsScaledPoint q common (fraction_at fs) xs
      → dot cs xs ≡ scaled_value q value common cs
  dot_is cs xs size point =
      ap (λ n. sum_below n (λ j. component cs j *ℤ component xs j)) size
      ∙ sum_below-agree (columns q) _ _ (λ j l.
      ap (λ z. component cs j *ℤ z)
      (point.each j l
      ∙ ap (λ x. start_at q j *ℤ pos common +ℤ sign_at q j *ℤ times_multiple common x) (sym (column_value j l))))

  pub rows_pass : (xs : List ℤ) → IsScaledPoint q common (fraction_at fs) xs → RowsPass q common xs
  rows_pass xs point i l =
      let size = f.shape.row_columns i l in
      subst (λ z. z ≤ℤ ((linear_at q.rows i).rhs *ℤ pos common)) (sym (dot_is (linear_at q.rows i).coef xs size point))
      (row_met q value common opened i l size (value_least (columns q + i) (omega arith)))

  cost_at_most : (v : ℤ) → ¬ ClosesByCost q (Some v) last
      → IsAtMost (value (columns q + cost_row q)) (v -ℤ pos 1)
  unfolding value
  cost_at_most v unclosed =
      subst (λ x. IsAtMost x (v -ℤ pos 1)) (sym (value_of_cost q last)) (record {
        cross = by_lt_z ((v -ℤ pos 1) *ℤ pos (last.place (cost_row q) (columns q)).den)
            (last.place (cost_row q) (columns q)).num (λ more. absurd (unclosed more)) (λ z. z);
      })

  cost_below : (xs : List ℤ) (v : ℤ) → IsScaledPoint q common (fraction_at fs) xs → ¬ ClosesByCost q (Some v) last
      → dot q.cost xs ≤ℤ ((v -ℤ pos 1) *ℤ pos common)
  cost_below xs v point unclosed =
      let size = f.shape.cost_columns in
      subst (λ z. z ≤ℤ ((v -ℤ pos 1) *ℤ pos common)) (sym (dot_is q.cost xs size point))
      ((at_most_over common (value (columns q + cost_row q)) (scaled_value q value common q.cost) (v -ℤ pos 1)
      opened.some (opened.positive (columns q + cost_row q) (omega arith)) (cost_over q value common opened size)).0
      (cost_at_most v unclosed))

cost_passes : (q : Problem) (u : Option ℤ) (pivots : List (ℕ × ℕ)) (fs : List Fraction) (xs : List ℤ) → Fits q
    → IsOpenOptimum q u pivots fs
    → IsScaledPoint q (common_denominator (columns q) (fraction_at fs)) (fraction_at fs) xs
    → CostPasses q u (common_denominator (columns q) (fraction_at fs)) xs
cost_passes q None pivots fs xs f h point = tt
cost_passes q (Some v) pivots fs xs f h point =
    cost_below q (Some v) pivots fs f h xs v point (λ closing. h.open_box (inr closing))

-- ---- where some distance isn't whole

scaled_list : Problem → List Fraction → List ℤ
scaled_list q fs =
    map (scaled_column q (common_denominator (columns q) (fraction_at fs)) (fraction_at fs))
    (range_with_len 0 (columns q))

list_scales : (q : Problem) (fs : List Fraction)
    → IsScaledPoint q (common_denominator (columns q) (fraction_at fs)) (fraction_at fs) (scaled_list q fs)
unfolding scaled_list
list_scales q fs =
    let g = scaled_column q (common_denominator (columns q) (fraction_at fs)) (fraction_at fs) in
    record {
      size = length-map-range_with_len g 0 (columns q);
      each = λ j l. get_or-map-range_with_len g 0 (columns q) j j (pos 0) l (omega arith);
    }

pub fractional : FractionalOptimum
fractional q u pivots fs f h some =
    let common = common_denominator (columns q) (fraction_at fs) in
    let size = h.values.size in
    let xs = scaled_list q fs in
    let point = list_scales q fs in
    let setting : Setting q fs common xs = record {
      fits = f;
      size = size;
      reduced = h.values.reduced;
      multiple = ap (λ n. common_denominator n (fraction_at fs)) (sym size);
      point = point;
    } in
    let l = some.1 in
    let small = h.common in
    fractional_from_test q u fs common xs setting (between q u pivots fs f h) (some.0, omega arith, some.2)
    (omega (arith, ints)) (rows_pass q u pivots fs f h xs point) (cost_passes q u pivots fs xs f h point)

-- ---- where every distance is whole

lcm_of_ones : lcm 1 1 ≡ 1
unfolding lcm gcd
lcm_of_ones = refl

common_of_ones : (n : ℕ) (x : ℕ → Fraction) → ((j : ℕ) → j < n → (x j).den ≡ 1) → common_denominator n x ≡ 1
common_of_ones zero x h = refl
common_of_ones (suc n) x h =
    ap (λ c. lcm c (x n).den) (common_of_ones n x (λ j l. h j (omega arith))) ∙ ap (lcm 1) (h n (omega arith))
    ∙ lcm_of_ones

whole_multiple : (m : ℕ) (x : Fraction) → m ≡ 1 → x.den ≡ 1 → times_multiple m x ≡ x.num
whole_multiple m x em ed =
    ap (λ n. x.num *ℤ pos (n / x.den)) em ∙ ap (λ n. x.num *ℤ pos (1 / n)) ed ∙ *ℤ_one x.num

point_scales : (q : Problem) (fs : List Fraction) (z : List ℤ) (m : ℕ) → m ≡ 1 → AreAllWhole q fs → IsPointAt q fs z
    → IsScaledPoint q m (fraction_at fs) z
point_scales q fs z m em whole at = record {
  size = at.size;
  each = λ j l.
      let start : start_at q j *ℤ pos m ≡ start_at q j =
      ap (λ n. start_at q j *ℤ pos n) em ∙ *ℤ_one (start_at q j) in
      at.each j l
      ∙ ap (λ d. start_at q j +ℤ sign_at q j *ℤ d) (sym (whole_multiple m (fraction_at fs j) em (whole j l)))
      ∙ ap (λ s. s +ℤ sign_at q j *ℤ times_multiple m (fraction_at fs j)) (sym start);
}

in_range : (t : Bool) (lo hi d z : ℤ) → pos 0 ≤ℤ d → d ≤ℤ (hi -ℤ lo)
    → z ≡ cond t hi lo +ℤ cond t (negsuc 0) (pos 1) *ℤ d → (lo ≤ℤ z) × (z ≤ℤ hi)
in_range true lo hi d z least most e =
    let n = neg_ℤ-*ℤ (pos 1) d in
    let o = one-*ℤ d in
    (omega (arith, ints), omega (arith, ints))
in_range false lo hi d z least most e =
    let o = one-*ℤ d in
    (omega (arith, ints), omega (arith, ints))

column_inside : (q : Problem) (fs : List Fraction) (z : List ℤ) (j : ℕ) → j < columns q → (fraction_at fs j).den ≡ 1
    → IsPointAt q fs z → IsBetween (component q.area.hi j -ℤ component q.area.lo j) (fraction_at fs j)
    → (component q.area.lo j ≤ℤ component z j) × (component z j ≤ℤ component q.area.hi j)
column_inside q fs z j l whole at between =
    let range = component q.area.hi j -ℤ component q.area.lo j in
    let most : (fraction_at fs j).num ≤ℤ range =
    subst (λ y. (fraction_at fs j).num ≤ℤ y) (ap (λ n. range *ℤ pos n) whole ∙ *ℤ_one range) between.1.cross in
    in_range (descends q j) (component q.area.lo j) (component q.area.hi j) (fraction_at fs j).num (component z j)
    between.0 most (at.each j l)

less_than : (u : Option ℤ) (v : ℤ) (m : ℕ) → m ≡ 1
    → MatchOption u (Unit {0}) (λ w. v ≤ℤ ((w -ℤ pos 1) *ℤ pos m)) → CostsLess u v
less_than None v m e h = tt
less_than (Some w) v m e h =
    let most : v ≤ℤ (w -ℤ pos 1) =
    subst (λ y. v ≤ℤ y) (ap (λ n. (w -ℤ pos 1) *ℤ pos n) e ∙ *ℤ_one (w -ℤ pos 1)) h in
    omega (arith, ints)

pub whole : WholeOptimum
whole q u pivots fs z f h all at =
    let common = common_denominator (columns q) (fraction_at fs) in
    let one : common ≡ 1 = common_of_ones (columns q) (fraction_at fs) all in
    let point = point_scales q fs z common one all at in
    let rows = rows_pass q u pivots fs f h z point in
    let inside = λ (j : ℕ) (l : j < columns q).
    column_inside q fs z j l (all j l) at (between q u pivots fs f h j l) in
    record {
      point = record {
        inside = record {
          columns = at.size;
          least = λ j l. (inside j l).0;
          most = λ j l. (inside j l).1;
        };
        rows = λ i l. record {
          holds =
              let rhs = (linear_at q.rows i).rhs in
              subst (λ y. dot (linear_at q.rows i).coef z ≤ℤ y) (ap (λ n. rhs *ℤ pos n) one ∙ *ℤ_one rhs) (rows i l);
        };
      };
      cost = less_than u (dot q.cost z) common one (cost_passes q u pivots fs z f h point);
    }
