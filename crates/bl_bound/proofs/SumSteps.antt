-- Steps of the loops that add up a bound proof.
use Rattle.std.proofs.Common.{◌≡◌, ◌≢◌, ℕ, ◌+◌, ◌*◌, Bool, true, false, cond, ◌<◌, ◌≤◌, ◌⊎◌, inl, inr, List, length, ℤ}
use Rattle.std.proofs.Common.{pos, ◌+ℤ◌, ◌*ℤ◌, sym, ap, ◌∙◌, subst, arith, get_or-set_same, get_or-set_other}
use Rattle.std.specs.Prelude.{slice_set, slice_index_or, int_lt}
use Rattle.std.proofs.lemmas.Bool.{cases_eq}
use Rattle.bl_whole.specs.Sums.{component}
use Rattle.std.proofs.lemmas.List.{get_or_read}
use Rattle.bl_whole.proofs.SumLemmas.{sum_below_more}
use Rattle.bl_terms.specs.Points.{Linear}
use Rattle.bl_terms.specs.Bounds.{Problem, no_linear, linear_at, Multipliers, reduced_cost, least_product, least_term}
use Rattle.bl_limits.specs.declared.TheConstants.{MAX_NUMBER, MAX_PROBLEM_COEFFICIENT}
use Rattle.bl_whole.specs.Within.{IsWithin, AreWithin}
use Rattle.bl_whole.proofs.WithinLemmas.{within_entry, within_product, within_sum_below}
use Rattle.bl_bound.specs.Sums.{rows_part, rhs_part, least_part}

-- the sums at the places below j have their product, those from j on are as before
pub record Added (old new numbers : List ℤ) (factor : ℤ) (j : ℕ) : Type 0 where
  pub done : (k : ℕ) → k < j → component new k ≡ component old k +ℤ factor *ℤ component numbers k
  pub rest : (k : ℕ) → j ≤ k → component new k ≡ component old k

pub added_more : (old new numbers : List ℤ) (factor x : ℤ) (j : ℕ) → Added old new numbers factor j → j < length new
    → x ≡ component new j +ℤ factor *ℤ component numbers j → Added old (slice_set new j x) numbers factor (j + 1)
added_more old new numbers factor x j a h e = record {
  done = λ k l. by k l (cases_eq k j);
  rest = λ k l. let ne : k ≢ j = omega arith in get_or-set_other new j k x (pos 0) ne ∙ a.rest k (omega arith);
}
  where
    by : (k : ℕ) → k < j + 1 → (k ≡ j) ⊎ (k ≢ j)
        → component (slice_set new j x) k ≡ component old k +ℤ factor *ℤ component numbers k
    by k l (inl same) =
        let P : ℕ → Type 0 = λ n. component (slice_set new j x) n ≡ component old n +ℤ factor *ℤ component numbers n in
        let here : P j = get_or-set_same new j x (pos 0) h ∙ e
        ∙ ap (λ y. y +ℤ factor *ℤ component numbers j) (a.rest j (omega arith)) in
        subst P (sym same) here
    by k l (inr other) = get_or-set_other new j k x (pos 0) other ∙ a.done k (omega arith)

-- ---- a column's reduced cost and least term, from numbers that were read

pub reduced_is : (q : Problem) (w : Multipliers) (den cost part : ℤ) (j : ℕ) → den ≡ w.den → cost ≡ component q.cost j
    → part ≡ rows_part q w (length q.rows) j
    → den *ℤ cost +ℤ part ≡ reduced_cost q w j
reduced_is q w den cost part j ed ec ep =
    ap (λ d. d *ℤ cost +ℤ part) ed ∙ ap (λ c. w.den *ℤ c +ℤ part) ec ∙ ap (λ p. w.den *ℤ component q.cost j +ℤ p) ep

pub least_is : (q : Problem) (w : Multipliers) (reduced lo hi : ℤ) (j : ℕ) → reduced ≡ reduced_cost q w j
    → lo ≡ component q.area.lo j → hi ≡ component q.area.hi j
    → least_product reduced lo hi ≡ least_term q w j
least_is q w reduced lo hi j er el eh =
    ap (λ r. least_product r lo hi) er ∙ ap (λ l. least_product (reduced_cost q w j) l hi) el
    ∙ ap (λ h. least_product (reduced_cost q w j) (component q.area.lo j) h) eh

-- ---- a row that was read, and the sums with it

pub row_read : (rows : List Linear) (i : ℕ) (x : Linear) → i < length rows → x ≡ slice_index_or rows i x
    → x ≡ linear_at rows i
row_read rows i x h e = get_or_read rows i x h e no_linear

pub column_more : (q : Problem) (w : Multipliers) (sum factor : ℤ) (row : Linear) (i j : ℕ) → sum ≡ rows_part q w i j
    → factor ≡ component w.mult i → row ≡ linear_at q.rows i
    → sum +ℤ factor *ℤ component row.coef j ≡ rows_part q w (i + 1) j
column_more q w sum factor row i j es ef er =
    ap (λ s. s +ℤ factor *ℤ component row.coef j) es ∙ ap (λ f. rows_part q w i j +ℤ f *ℤ component row.coef j) ef
    ∙ ap (λ r. rows_part q w i j +ℤ component w.mult i *ℤ component r.coef j) er
    ∙ sym (sum_below_more i (λ k. component w.mult k *ℤ component (linear_at q.rows k).coef j))

pub rhs_more : (q : Problem) (w : Multipliers) (sum factor : ℤ) (row : Linear) (i : ℕ) → sum ≡ rhs_part q w i
    → factor ≡ component w.mult i → row ≡ linear_at q.rows i
    → sum +ℤ factor *ℤ row.rhs ≡ rhs_part q w (i + 1)
rhs_more q w sum factor row i es ef er =
    ap (λ s. s +ℤ factor *ℤ row.rhs) es ∙ ap (λ f. rhs_part q w i +ℤ f *ℤ row.rhs) ef
    ∙ ap (λ r. rhs_part q w i +ℤ component w.mult i *ℤ r.rhs) er
    ∙ sym (sum_below_more i (λ k. component w.mult k *ℤ (linear_at q.rows k).rhs))

-- ---- the size of a sum of least products

least_product_within : (m n : ℕ) (a lo hi : ℤ) → IsWithin m a → IsWithin n lo → IsWithin n hi
    → IsWithin (m * n) (least_product a lo hi)
least_product_within m n a lo hi ha hl hh = by (int_lt a (pos 0))
  where
    by : (t : Bool) → IsWithin (m * n) (cond t (a *ℤ hi) (a *ℤ lo))
    by true = within_product ha hh
    by false = within_product ha hl

pub least_part_within : (coefs lo hi : List ℤ) (n : ℕ) → AreWithin MAX_PROBLEM_COEFFICIENT coefs
    → AreWithin MAX_NUMBER lo → AreWithin MAX_NUMBER hi
    → IsWithin (n * (MAX_PROBLEM_COEFFICIENT * MAX_NUMBER)) (least_part coefs lo hi n)
least_part_within coefs lo hi n hc hl hh =
    within_sum_below (MAX_PROBLEM_COEFFICIENT * MAX_NUMBER) n
    (λ j. least_product (component coefs j) (component lo j) (component hi j))
    (λ j b. least_product_within MAX_PROBLEM_COEFFICIENT MAX_NUMBER (component coefs j) (component lo j)
    (component hi j) (within_entry hc j) (within_entry hl j) (within_entry hh j))
