-- The program of two sound texts is sound, and keeps the limits.
use Rattle.std.proofs.Common.{◌≡◌, ℕ, zero, suc, ◌+◌, ◌*◌, ◌<◌, ◌≤◌, Bool, true, false, cond, ◌||◌, List, [], ◌∷◌}
use Rattle.std.proofs.Common.{length, map, ◌∙◌, sym, refl, ap, ⊎_elim, inl, inr, arith}
use Rattle.std.specs.Prelude.{ℤ, pos, neg_ℤ, ◌*ℤ◌, ◌≤ℤ◌, ◌==◌, All, Contains, unsigned_abs, Option, None, Some, IfSome}
use Rattle.std.specs.List.{range_with_len, AllByRecursion, zip}
use Rattle.std.proofs.lemmas.Int.{unsigned_abs-mul}
use Rattle.std.proofs.lemmas.Bool.{false_from_ne_true, cases_lt}
use Rattle.std.proofs.lemmas.List.{length-map, length-append, get_or_past}
use Rattle.std.proofs.lemmas.List.Elements.{All-nil, All-cons, All-append, All-get_or, recursion_from_All}
use Rattle.std.proofs.lemmas.List.FromFn.{length-map-range_with_len, get_or-map-range_with_len}
use Rattle.bl_whole.specs.Sums.{component}
use Rattle.bl_whole.specs.Within.{IsWithin}
use Rattle.bl_whole.proofs.WithinLemmas.{within_zero, within_negation}
use Rattle.bl_limits.specs.declared.TheConstants.{MAX_NUMBER, MAX_RHS}
use Rattle.bl_terms.specs.Points.{is_among}
use Rattle.bl_terms.specs.Programs.{Row, no_row, columns, is_linking, IsProgram, KeepsLimits}
use Rattle.bl_terms.proofs.TestLemmas.{Decides-among}
use Rattle.bl_terms.proofs.ProgramLemmas.{places_where-rising, passes_from_Contains, Contains_from_passes}
use Rattle.bl_terms.proofs.ProgramLemmas.{is_linking_decides}
use Rattle.bl_raw.specs.declared.raw.RawRow.{RawRow}
use Rattle.bl_raw.specs.declared.raw.RawColumn.{RawColumn}
use Rattle.bl_raw.specs.declared.raw.RawMps.{RawMps}
use Rattle.bl_raw.specs.declared.raw.RawAux.{RawAux}
use Rattle.bl_raw.specs.Raw.{IsSmall, IsSide, IsSense, IsRow, IsColumn, FitsModel, IsRawModel}
use Rattle.bl_model.specs.Build.{number_for, coefficients, rhs_row, lhs_row, sides, rows_from, follower_numbers}
use Rattle.bl_model.specs.Build.{leader_sense_of, program_of}
use Rattle.bl_model.proofs.BuildLemmas.{IsSmall-number_for}

-- ---- sizes

-- every number of a list of columns' numbers is small, also past the end
within_columns : (f : RawColumn → ℤ) (n : ℕ) (cs : List RawColumn) → ((c : RawColumn) → IsColumn n c → IsSmall (f c))
    → AllByRecursion (IsColumn n) cs → (k : ℕ) → IsWithin MAX_NUMBER (component (map f cs) k)
within_columns f n [] small h k = within_zero MAX_NUMBER
within_columns f n (c ∷ cs) small h zero = record { magnitude = small c h.0 }
within_columns f n (c ∷ cs) small h (suc k) = within_columns f n cs small h.1 k

-- each column's range
ordered_columns : (n : ℕ) (cs : List RawColumn) → AllByRecursion (IsColumn n) cs → (k : ℕ)
    → k < length (map (λ c. c.lo) cs) → component (map (λ c. c.lo) cs) k ≤ℤ component (map (λ c. c.hi) cs) k
ordered_columns n [] h k below = absurd (omega (arith, below))
ordered_columns n (c ∷ cs) h zero below = h.0.ordered
ordered_columns n (c ∷ cs) h (suc k) below = ordered_columns n cs h.1 k (omega (arith, below))

-- the numbers of a row's sides
within_negated : (m : ℕ) (coef : List ℤ) → ((k : ℕ) → IsWithin m (component coef k)) → (k : ℕ)
    → IsWithin m (component (map neg_ℤ coef) k)
within_negated m [] h k = within_zero m
within_negated m (x ∷ xs) h zero = within_negation (h zero)
within_negated m (x ∷ xs) h (suc k) = within_negated m xs (λ j. h (suc j)) k

-- a row of the program: one coefficient for each column, and all numbers within their limits
record IsSound (n : ℕ) (r : Row) : Type 0 where
  count : length r.coef ≡ n
  coefs : (k : ℕ) → IsWithin MAX_NUMBER (component r.coef k)
  rhs : IsWithin MAX_RHS r.rhs

sound_rhs : (n : ℕ) (coef : List ℤ) (lower : Bool) (hi : Option ℤ) → length coef ≡ n
    → ((k : ℕ) → IsWithin MAX_NUMBER (component coef k)) → IfSome hi IsSide → All (IsSound n) (rhs_row coef lower hi)
sound_rhs n coef lower None count coefs side = All-nil (IsSound n)
sound_rhs n coef lower (Some hi) count coefs side =
    All-cons (IsSound n) (record { coef = coef; rhs = hi; lower = lower }) []
    (record { count = count; coefs = coefs; rhs = record { magnitude = side } }) (All-nil (IsSound n))

sound_lhs : (n : ℕ) (coef : List ℤ) (lower : Bool) (lo : Option ℤ) → length coef ≡ n
    → ((k : ℕ) → IsWithin MAX_NUMBER (component coef k)) → IfSome lo IsSide → All (IsSound n) (lhs_row coef lower lo)
sound_lhs n coef lower None count coefs side = All-nil (IsSound n)
sound_lhs n coef lower (Some lo) count coefs side =
    All-cons (IsSound n) (record { coef = map neg_ℤ coef; rhs = neg_ℤ lo; lower = lower }) []
    (record {
      count = length-map coef neg_ℤ ∙ count;
      coefs = within_negated MAX_NUMBER coef coefs;
      rhs =
          within_negation (record { magnitude = side });
    })
    (All-nil (IsSound n))

sound_rows : (m : ℕ) (cs : List RawColumn) (lower_rows : List ℕ) (i : ℕ) (rows : List RawRow)
    → AllByRecursion (IsColumn m) cs → AllByRecursion IsRow rows
    → All (IsSound (length cs)) (rows_from cs lower_rows i rows)
sound_rows m cs lower_rows i [] sound each = All-nil (IsSound (length cs))
sound_rows m cs lower_rows i (row ∷ rows) sound each =
    let n = length cs in
    let coef = coefficients cs i in
    let lower = is_among i lower_rows in
    let count : length coef ≡ n = length-map cs (λ c. number_for c.entries i) in
    let coefs : (k : ℕ) → IsWithin MAX_NUMBER (component coef k) =
    within_columns (λ c. number_for c.entries i) m cs
    (λ c is. IsSmall-number_for c.entries i (recursion_from_All (λ e. IsSmall e.1) c.entries is.small)) sound in
    All-append (IsSound n) (sides cs lower_rows i row) (rows_from cs lower_rows (i + 1) rows)
    (All-append (IsSound n) (rhs_row coef lower row.hi) (lhs_row coef lower row.lo)
    (sound_rhs n coef lower row.hi count coefs each.0.hi) (sound_lhs n coef lower row.lo count coefs each.0.lo))
    (sound_rows m cs lower_rows (i + 1) rows sound each.1)

-- a row of the text makes at most two
few_rhs : (coef : List ℤ) (lower : Bool) (hi : Option ℤ) → length (rhs_row coef lower hi) ≤ 1
few_rhs coef lower None = omega arith
few_rhs coef lower (Some hi) = omega arith

few_lhs : (coef : List ℤ) (lower : Bool) (lo : Option ℤ) → length (lhs_row coef lower lo) ≤ 1
few_lhs coef lower None = omega arith
few_lhs coef lower (Some lo) = omega arith

few_rows : (cs : List RawColumn) (lower_rows : List ℕ) (i : ℕ) (rows : List RawRow)
    → length (rows_from cs lower_rows i rows) ≤ 2 * length rows
few_rows cs lower_rows i [] = omega arith
few_rows cs lower_rows i (row ∷ rows) =
    let coef = coefficients cs i in
    let lower = is_among i lower_rows in
    omega (
      arith,
      few_rows cs lower_rows (i + 1) rows,
      few_rhs coef lower row.hi,
      few_lhs coef lower row.lo,
      length-append (sides cs lower_rows i row) (rows_from cs lower_rows (i + 1) rows),
      length-append (rhs_row coef lower row.hi) (lhs_row coef lower row.lo),
    )

-- ---- the follower's costs

small_zip : (ks : List ℕ) (vs : List ℤ) → AllByRecursion IsSmall vs → AllByRecursion (λ e. IsSmall e.1) (zip ks vs)
small_zip [] vs h = tt
small_zip (k ∷ ks) [] h = tt
small_zip (k ∷ ks) (v ∷ vs) h = (h.0, small_zip ks vs h.1)

small_one : (sense z : ℤ) → IsSense sense → IsSmall z → IsSmall (z *ℤ sense)
small_one sense z is h =
    let one : unsigned_abs sense ≡ 1 = ⊎_elim (λ e. ap unsigned_abs e) (λ e. ap unsigned_abs e) is in
    rw (unsigned_abs-mul z sense, one) (omega (arith, h))

pub leader_sense_is : (maximise : Bool) → IsSense (leader_sense_of maximise)
leader_sense_is true = inr refl
leader_sense_is false = inl refl

small_turned : (sense : ℤ) (vs : List ℤ) → IsSense sense → AllByRecursion IsSmall vs
    → AllByRecursion IsSmall (map (λ v. v *ℤ sense) vs)
small_turned sense [] is h = tt
small_turned sense (v ∷ vs) is h =
    let one : unsigned_abs sense ≡ 1 = ⊎_elim (λ e. ap unsigned_abs e) (λ e. ap unsigned_abs e) is in
    (rw (unsigned_abs-mul v sense, one) (omega (arith, h.0)), small_turned sense vs is h.1)

-- no number stands with a place that isn't there
absent : (ks : List ℕ) (vs : List ℤ) (k : ℕ) → is_among k ks ≡ false → number_for (zip ks vs) k ≡ pos 0
absent [] vs k h = refl
absent (p ∷ ps) [] k h = refl
absent (p ∷ ps) (v ∷ vs) k h = go (k == p) (is_among k ps) h (absent ps vs k)
  where
    go : (b r : Bool) → (b || r) ≡ false → (r ≡ false → number_for (zip ps vs) k ≡ pos 0)
        → cond b v (number_for (zip ps vs) k) ≡ pos 0
    go true r e f = cc
    go false r e f = f e

-- a function's values at places, also past the end
at_places : (f : ℕ → ℤ) (n k : ℕ) → (P : ℤ → Type 0) → P (pos 0) → (k < n → P (f k))
    → P (component (map f (range_with_len 0 n)) k)
at_places f n k P past here =
    ⊎_elim
    (λ below. rw (get_or-map-range_with_len f 0 n k k (pos 0) below (omega arith)) (here below))
    (λ above. rw (get_or_past (map f (range_with_len 0 n)) k (pos 0)
    (omega (arith, above, length-map-range_with_len f 0 n))) past)
    (cases_lt k n)

-- ---- the program

pub program_sound : (mps : RawMps) (aux : RawAux) → IsRawModel mps
    → FitsModel (length mps.columns) (length mps.rows) aux → IsProgram (program_of mps aux)
unfolding program_of
program_sound mps aux keeps fits =
    let cs = mps.columns in
    let n = length cs in
    let p = program_of mps aux in
    let sound = recursion_from_All (IsColumn (length mps.rows)) cs keeps.columns in
    let count : columns p ≡ n = length-map cs (λ c. c.lo) in
    let rows : All (IsSound n) p.rows =
    sound_rows (length mps.rows) cs aux.rows 0 mps.rows sound (recursion_from_All IsRow mps.rows keeps.rows) in
    let follows : ℕ → Bool = λ k. is_among k aux.columns in
    let linking : ℕ → Bool = is_linking aux.columns p.rows in
    let kept = λ (k : ℕ) (below : k < n) (has : Contains aux.columns k). Contains_from_passes follows n k below
    ((Decides-among k aux.columns).1 has) in
    record {
      box = record {
        sides = length-map cs (λ c. c.hi) ∙ sym count;
        ordered =
            ordered_columns (length mps.rows) cs sound;
      };
      row_columns = λ i below. (All-get_or (IsSound n) p.rows i no_row below rows).count ∙ sym count;
      cost_columns = length-map cs (λ c. c.cost *ℤ leader_sense_of mps.maximise) ∙ sym count;
      follower_cost_columns = length-map-range_with_len (number_for (follower_numbers aux)) 0 n ∙ sym count;
      follower_rising = places_where-rising follows n;
      follower_below = λ k has. rw count (passes_from_Contains follows n k has).0;
      leader_free = λ k leader.
          let below : k < n = omega (arith, leader.column, count) in
          let free : follows k ≡ false =
          false_from_ne_true (follows k) (λ yes. leader.leads (Contains_from_passes follows n k below yes)) in
          get_or-map-range_with_len (number_for (follower_numbers aux)) 0 n k k (pos 0) below (omega arith)
          ∙ absent aux.columns (map (λ v. v *ℤ aux.sense) aux.costs) k free;
      linking = record {
        rising = places_where-rising linking n;
        exact = λ k. (
          λ has.
              let passed = passes_from_Contains linking n k has in
              let holds = (is_linking_decides aux.columns p.rows k).0 passed.1 in (
                record {
                  column = rw count passed.0;
                  leads =
                      λ among. holds.0 ((Decides-among k aux.columns).0 (passes_from_Contains follows n k among).1);
                },
                holds.1,
              ),
          λ is.
              let below : k < n = omega (arith, is.0.column, count) in
              Contains_from_passes linking n k below
              ((is_linking_decides aux.columns p.rows k).1 (λ has. is.0.leads (kept k below has), is.1)),
        );
      };
      sign = fits.sense;
      leader_sign = leader_sense_is mps.maximise;
    }

pub program_limits : (mps : RawMps) (aux : RawAux) → IsRawModel mps
    → FitsModel (length mps.columns) (length mps.rows) aux → KeepsLimits (program_of mps aux)
unfolding program_of
program_limits mps aux keeps fits =
    let cs = mps.columns in
    let n = length cs in
    let p = program_of mps aux in
    let m = length mps.rows in
    let sound = recursion_from_All (IsColumn m) cs keeps.columns in
    let rows : All (IsSound n) p.rows =
    sound_rows m cs aux.rows 0 mps.rows sound (recursion_from_All IsRow mps.rows keeps.rows) in
    let costs = small_zip aux.columns (map (λ v. v *ℤ aux.sense) aux.costs)
    (small_turned aux.sense aux.costs fits.sense (recursion_from_All IsSmall aux.costs fits.costs)) in
    record {
      few_columns = omega (arith, keeps.column_count, length-map cs (λ c. c.lo));
      few_rows = omega (arith, keeps.row_count, few_rows cs aux.rows 0 mps.rows);
      coefs = λ i k below. (All-get_or (IsSound n) p.rows i no_row below rows).coefs k;
      rhs = λ i below. (All-get_or (IsSound n) p.rows i no_row below rows).rhs;
      costs = within_columns (λ c. c.cost *ℤ leader_sense_of mps.maximise) m cs
          (λ c is. small_one (leader_sense_of mps.maximise) c.cost (leader_sense_is mps.maximise) is.cost) sound;
      follower_costs = λ k. at_places (number_for (follower_numbers aux)) n k (IsWithin MAX_NUMBER)
          (within_zero MAX_NUMBER) (λ below. record { magnitude = IsSmall-number_for (follower_numbers aux) k costs });
      lower_bounds = within_columns (λ c. c.lo) m cs (λ c is. is.lo) sound;
      upper_bounds = within_columns (λ c. c.hi) m cs (λ c is. is.hi) sound;
    }
