-- Bound proofs over rows that stand in another order.
use Rattle.std.proofs.Common.{◌≡◌, ℕ, suc, ◌+◌, refl, sym, ◌∙◌, ap, subst, arith, Bool, true, false, cond, List, []}
use Rattle.std.proofs.Common.{◌∷◌, ◌++◌, length, map, Option, Some, None}
use Rattle.std.specs.Prelude.{ℤ, pos, ◌+ℤ◌, ◌-ℤ◌, ◌*ℤ◌, ◌≤ℤ◌, ◌<ℤ◌, All, nat_lt}
use Rattle.std.proofs.lemmas.Int.{ints}
use Rattle.std.proofs.lemmas.List.{length-append, get_or_append_left, get_or-append-add}
use Rattle.std.proofs.lemmas.List.Elements.{All-from_get_or, All-cons, All-head, All-tail}
use Rattle.std.proofs.Math.IntN.{zero-*ℤ}
use Rattle.bl_limits.specs.declared.TheConstants.{MAX_PROOF_NUMBER}
use Rattle.bl_whole.specs.Sums.{component, sum_below}
use Rattle.bl_whole.proofs.Products.{mul_le_left}
use Rattle.bl_whole.proofs.SumLemmas.{sum_below-agree, sum_below-split, sum_below_front}
use Rattle.bl_terms.specs.Points.{Area, Linear}
use Rattle.bl_terms.specs.Bounds.{Problem, Multipliers, AreMultipliers, Proves, linear_at, no_linear, reduced_cost}
use Rattle.bl_terms.specs.Bounds.{least_product, least_term, rhs_sum, dual_bound, target_of}
use Rattle.bl_book_terms.specs.Books.{IsCurrent}
use Rattle.bl_cert_book.specs.Leaves.{put_by_place, by_place}

-- ---- sums over rows

-- the sum of a number of each row, with multipliers
abbrev pub weighted : (Linear → ℤ) → List ℤ → List Linear → ℤ
weighted h ms rows = sum_below (length rows) (λ i. component ms i *ℤ h (linear_at rows i))

pub weighted-append : (h : Linear → ℤ) (ts ms : List ℤ) (before rows : List Linear) → length ts ≡ length before
    → weighted h (ts ++ ms) (before ++ rows) ≡ weighted h ts before +ℤ weighted h ms rows
weighted-append h ts ms before rows e =
    let f : ℕ → ℤ = λ i. component (ts ++ ms) i *ℤ h (linear_at (before ++ rows) i) in
    let whole : weighted h (ts ++ ms) (before ++ rows) ≡ sum_below (length before + length rows) f =
    ap (λ n. sum_below n f) (length-append before rows) in
    let first : sum_below (length before) f ≡ weighted h ts before =
    sum_below-agree (length before) f (λ i. component ts i *ℤ h (linear_at before i))
    (λ i b.
    let m : component (ts ++ ms) i ≡ component ts i = get_or_append_left ts ms (pos 0) i (omega arith) in
    let r : linear_at (before ++ rows) i ≡ linear_at before i = get_or_append_left before rows no_linear i b in
    ap (λ x. x *ℤ h (linear_at (before ++ rows) i)) m ∙ ap (λ x. component ts i *ℤ h x) r) in
    let rest : sum_below (length rows) (λ i. f (length before + i)) ≡ weighted h ms rows =
    sum_below-agree (length rows) (λ i. f (length before + i)) (λ i. component ms i *ℤ h (linear_at rows i))
    (λ i b.
    let m : component (ts ++ ms) (length before + i) ≡ component ms i =
    ap (λ n. component (ts ++ ms) (n + i)) (sym e) ∙ get_or-append-add ts ms i (pos 0) in
    let r : linear_at (before ++ rows) (length before + i) ≡ linear_at rows i =
    get_or-append-add before rows i no_linear in
    ap (λ x. x *ℤ h (linear_at (before ++ rows) (length before + i))) m ∙ ap (λ x. component ms i *ℤ h x) r) in
    let split = sum_below-split (length before) (length rows) f in
    whole ∙ split ∙ ap (λ x. x +ℤ sum_below (length rows) (λ i. f (length before + i))) first
    ∙ ap (λ x. weighted h ts before +ℤ x) rest

weighted-cons : (h : Linear → ℤ) (m : ℤ) (ms : List ℤ) (r : Linear) (rows : List Linear)
    → weighted h (m ∷ ms) (r ∷ rows) ≡ m *ℤ h r +ℤ weighted h ms rows
weighted-cons h m ms r rows =
    sum_below_front (length rows) (λ i. component (m ∷ ms) i *ℤ h (linear_at (r ∷ rows) i))

-- ---- pairs of places and multipliers

abbrev pub places_of : List (ℕ × ℤ) → List ℕ
places_of pairs = map (λ x. x.0) pairs

abbrev pub multipliers_of : List (ℕ × ℤ) → List ℤ
multipliers_of pairs = map (λ x. x.1) pairs

-- the sum over the rows at the places of pairs
abbrev pub pair_sum : (Linear → ℤ) → (ℕ → Linear) → List (ℕ × ℤ) → ℤ
pair_sum h row pairs = weighted h (multipliers_of pairs) (map row (places_of pairs))

pair_sum-cons : (h : Linear → ℤ) (row : ℕ → Linear) (x : ℕ × ℤ) (pairs : List (ℕ × ℤ))
    → pair_sum h row (x ∷ pairs) ≡ x.1 *ℤ h (row x.0) +ℤ pair_sum h row pairs
pair_sum-cons h row x pairs =
    weighted-cons h x.1 (multipliers_of pairs) (row x.0) (map row (places_of pairs))

pair_sum-put : (h : Linear → ℤ) (row : ℕ → Linear) (x : ℕ × ℤ) (pairs : List (ℕ × ℤ))
    → pair_sum h row (put_by_place x pairs) ≡ x.1 *ℤ h (row x.0) +ℤ pair_sum h row pairs
pair_sum-put h row x [] = pair_sum-cons h row x []
pair_sum-put h row x (y ∷ pairs) = by (nat_lt y.0 x.0) (pair_sum-put h row x pairs)
  where
    by : (t : Bool) → pair_sum h row (put_by_place x pairs) ≡ x.1 *ℤ h (row x.0) +ℤ pair_sum h row pairs
        → pair_sum h row (cond t (y ∷ put_by_place x pairs) (x ∷ y ∷ pairs))
        ≡ x.1 *ℤ h (row x.0) +ℤ pair_sum h row (y ∷ pairs)
    by false rest = pair_sum-cons h row x (y ∷ pairs)
    by true rest =
        let more = pair_sum-cons h row y (put_by_place x pairs) in
        let same = pair_sum-cons h row y pairs in
        omega (arith, ints)

-- the sum is the same in the order of the places
pub pair_sum-by_place : (h : Linear → ℤ) (row : ℕ → Linear) (pairs : List (ℕ × ℤ))
    → pair_sum h row (by_place pairs) ≡ pair_sum h row pairs
pair_sum-by_place h row [] = refl
pair_sum-by_place h row (x ∷ pairs) =
    let put = pair_sum-put h row x (by_place pairs) in
    let rest = pair_sum-by_place h row pairs in
    let same = pair_sum-cons h row x pairs in
    omega (arith, ints)

-- so is what holds of each pair, and their number
all-put : (P : ℕ × ℤ → Type 0) (x : ℕ × ℤ) (pairs : List (ℕ × ℤ)) → P x → All P pairs → All P (put_by_place x pairs)
all-put P x [] here each = All-cons P x [] here each
all-put P x (y ∷ pairs) here each =
    by (nat_lt y.0 x.0) (all-put P x pairs here (All-tail P y pairs each))
  where
    by : (t : Bool) → All P (put_by_place x pairs) → All P (cond t (y ∷ put_by_place x pairs) (x ∷ y ∷ pairs))
    by false rest = All-cons P x (y ∷ pairs) here each
    by true rest = All-cons P y (put_by_place x pairs) (All-head P y pairs each) rest

pub all-by_place : (P : ℕ × ℤ → Type 0) (pairs : List (ℕ × ℤ)) → All P pairs → All P (by_place pairs)
all-by_place P [] each = each
all-by_place P (x ∷ pairs) each =
    all-put P x (by_place pairs) (All-head P x pairs each) (all-by_place P pairs (All-tail P x pairs each))

length-put : (x : ℕ × ℤ) (pairs : List (ℕ × ℤ)) → length (put_by_place x pairs) ≡ suc (length pairs)
length-put x [] = refl
length-put x (y ∷ pairs) = by (nat_lt y.0 x.0) (length-put x pairs)
  where
    by : (t : Bool) → length (put_by_place x pairs) ≡ suc (length pairs)
        → length (cond t (y ∷ put_by_place x pairs) (x ∷ y ∷ pairs)) ≡ suc (suc (length pairs))
    by false rest = refl
    by true rest = ap suc rest

pub length-by_place : (pairs : List (ℕ × ℤ)) → length (by_place pairs) ≡ length pairs
length-by_place [] = refl
length-by_place (x ∷ pairs) = length-put x (by_place pairs) ∙ ap suc (length-by_place pairs)

-- ---- a proof over other rows

-- a multiplier of a proof
abbrev pub IsMultiplier : ℤ → Type 0
IsMultiplier m = (pos 0 ≤ℤ m) × (m ≤ℤ MAX_PROOF_NUMBER)

pub each_multiplier : (w : Multipliers) → AreMultipliers w → All IsMultiplier w.mult
each_multiplier w g = All-from_get_or IsMultiplier w.mult (pos 0) (λ i b. (g.least i b, g.most i b))

-- where all sums over the rows are the same, so is the bound
same_bound : (cost : List ℤ) (a : Area) (rows rows' : List Linear) (d : ℤ) (ms ms' : List ℤ)
    → ((h : Linear → ℤ) → weighted h ms' rows' ≡ weighted h ms rows)
    → dual_bound (record { rows = rows'; cost = cost; area = a }) (record { den = d; mult = ms' })
    ≡ dual_bound (record { rows = rows; cost = cost; area = a }) (record { den = d; mult = ms })
same_bound cost a rows rows' d ms ms' same =
    let q : Problem = record { rows = rows; cost = cost; area = a } in
    let q' : Problem = record { rows = rows'; cost = cost; area = a } in
    let w : Multipliers = record { den = d; mult = ms } in
    let w' : Multipliers = record { den = d; mult = ms' } in
    let reduced : (j : ℕ) → reduced_cost q' w' j ≡ reduced_cost q w j =
    λ j. ap (λ x. d *ℤ component cost j +ℤ x) (same (λ r. component r.coef j)) in
    let terms : sum_below (length a.lo) (least_term q' w') ≡ sum_below (length a.lo) (least_term q w) =
    sum_below-agree (length a.lo) (least_term q' w') (least_term q w)
    (λ j b. ap (λ x. least_product x (component a.lo j) (component a.hi j)) (reduced j)) in
    let rights : rhs_sum q' w' ≡ rhs_sum q w = same (λ r. r.rhs) in
    ap (λ x. x -ℤ rhs_sum q' w') terms ∙ ap (λ x. sum_below (length a.lo) (least_term q w) -ℤ x) rights

pub proves_over : (cost : List ℤ) (a : Area) (rows rows' : List Linear) (u : Option ℤ) (d : ℤ) (ms ms' : List ℤ)
    → Proves (record { rows = rows; cost = cost; area = a }) u (record { den = d; mult = ms })
    → length ms' ≡ length rows' → All IsMultiplier ms'
    → ((h : Linear → ℤ) → weighted h ms' rows' ≡ weighted h ms rows)
    → Proves (record { rows = rows'; cost = cost; area = a }) u (record { den = d; mult = ms' })
proves_over cost a rows rows' u d ms ms' proof count each same = record {
  rows = count;
  multipliers = record {
    den_least = proof.multipliers.den_least;
    den_most = proof.multipliers.den_most;
    least = λ i b. (each i (pos 0) b).0;
    most = λ i b. (each i (pos 0) b).1;
  };
  free = proof.free;
  beyond =
      subst (λ (x : ℤ). target_of u (record { den = d; mult = ms' }) <ℤ x)
      (sym (same_bound cost a rows rows' d ms ms' same))
      (same_target u (dual_bound (record { rows = rows; cost = cost; area = a }) (record { den = d; mult = ms }))
      proof.beyond);
}
  where
    same_target : (v : Option ℤ) (x : ℤ) → target_of v (record { den = d; mult = ms }) <ℤ x
        → target_of v (record { den = d; mult = ms' }) <ℤ x
    same_target None x h = h
    same_target (Some y) x h = h

-- ---- a lower cutoff

-- a proof of a cutoff proves each lower one, and one without a cutoff proves each
pub proves_lower : (q : Problem) (u v : Option ℤ) (w : Multipliers) → IsCurrent u v → Proves q u w → Proves q v w
proves_lower q None None w lower proof = proof
proves_lower q (Some u) None w lower proof = absurd lower
proves_lower q u (Some v) w lower proof = record {
  rows = proof.rows;
  multipliers = proof.multipliers;
  free = λ e. absurd cc;
  beyond = below u lower proof.free proof.beyond;
}
  where
    below : (x : Option ℤ) → IsCurrent x (Some v) → (x ≡ None → w.den ≡ pos 0) → target_of x w <ℤ dual_bound q w
        → target_of (Some v) w <ℤ dual_bound q w
    below None c free h =
        let e : w.den *ℤ (v -ℤ pos 1) ≡ pos 0 = ap (λ d. d *ℤ (v -ℤ pos 1)) (free refl) ∙ zero-*ℤ (v -ℤ pos 1) in
        subst (λ (x : ℤ). x <ℤ dual_bound q w) (sym e) h
    below (Some x) c free h =
        let le : (w.den *ℤ (v -ℤ pos 1)) ≤ℤ (w.den *ℤ (x -ℤ pos 1)) =
        mul_le_left w.den proof.multipliers.den_least (omega (arith, ints)) in
        omega (arith, ints)
