-- The follower's problem fits, over its whole box and over a part of it.
use Rattle.std.proofs.Common.{◌≡◌, ℕ, zero, suc, ◌+◌, ◌<◌, ◌≤◌, List, [], ◌∷◌, length, Bool, true, false}
use Rattle.std.proofs.Common.{sym, ◌∙◌, arith, cond, add-one}
use Rattle.std.specs.Prelude.{ℤ, ◌-ℤ◌, Contains, slice_index, slice_index_or, All, FitsSigned}
use Rattle.std.specs.Int.{w64}
use Rattle.std.proofs.lemmas.List.Elements.{Contains-get_or}
use Rattle.std.specs.List.Sorted.{IsStrictlyIncreasing}
use Rattle.std.proofs.lemmas.Int.{ints}
use Rattle.std.proofs.lemmas.List.{length-map}
use Rattle.bl_limits.specs.declared.TheConstants.{MAX_COLUMNS, MAX_NUMBER, MAX_RHS}
use Rattle.bl_limits.specs.declared.TheConstants.{MAX_PROBLEM_COEFFICIENT, MAX_PROBLEM_RHS}
use Rattle.bl_whole.specs.Sums.{component, dot}
use Rattle.bl_whole.specs.Within.{IsWithin, AreWithin}
use Rattle.bl_whole.proofs.WithinLemmas.{within_high, within_low, within_from_bounds, within_more}
use Rattle.bl_whole.proofs.WithinLemmas.{within_difference, within_dot, fits_from_within}
use Rattle.bl_terms.proofs.FollowerProofLemmas.{follower_box-area}
use Rattle.bl_terms.specs.Points.{Linear, values_at}
use Rattle.bl_terms.specs.Bounds.{Fits, linear_at}
use Rattle.bl_terms.specs.Programs.{Program, Row, row_at, columns}
use Rattle.bl_terms.specs.Responses.{IsLink}
use Rattle.bl_terms.specs.FollowerProofs.{follower_row, follower_rows}
use Rattle.bl_terms.proofs.PlaceLemmas.{Contains-at}
use Rattle.bl_model.specs.View.{IsModel}
use Rattle.bl_fproof.specs.Entries.{whole_problem}
use Rattle.bl_fproof.proofs.Picks.{values_within}

-- ---- over a part

-- ---- the places of a list that rises and stays below n are at most n

rising_place : (ks : List ℕ) → IsStrictlyIncreasing ks → (j : ℕ) → j < length ks → j ≤ slice_index ks j
rising_place ks h zero b = omega arith
rising_place ks h (suc j) b =
    let before = rising_place ks h j (omega arith) in
    let step : slice_index ks j < slice_index ks (j + 1) = h j (omega arith) in
    let step' : slice_index ks j < slice_index ks (suc j) = rw add-one at step in
    omega arith

rising_length : (ks : List ℕ) (n : ℕ) → IsStrictlyIncreasing ks → ((k : ℕ) → Contains ks k → k < n) → length ks ≤ n
rising_length [] n h below = omega arith
rising_length (k ∷ ks) n h below =
    let last = length ks in
    let at : last < length (k ∷ ks) = omega arith in
    let far = rising_place (k ∷ ks) h last at in
    let near = below (slice_index (k ∷ ks) last) (Contains-at (k ∷ ks) last at) in
    omega arith

pub follower_few : (p : Program) → IsModel p → length p.follower ≤ MAX_COLUMNS
follower_few p m =
    let few = m.limits.few_columns in
    let size = rising_length p.follower (columns p) m.sound.follower_rising m.sound.follower_below in
    omega arith

pub link_below : (p : Program) → IsModel p → (k : ℕ) → Contains p.links k → k < columns p
link_below p m k has = ((m.sound.linking.exact k).0 has).0.column

pub links_few : (p : Program) → IsModel p → length p.links ≤ MAX_COLUMNS
links_few p m =
    let few = m.limits.few_columns in
    let size = rising_length p.links (columns p) m.sound.linking.rising (link_below p m) in
    omega arith

-- ---- places and links

pub link_within : (p : Program) (l : List ℤ) → IsModel p → IsLink p l → AreWithin MAX_NUMBER l
link_within p l m is = record {
  each = λ j b.
      let e = is.count in
      let at : j < length p.links = omega arith in
      let low = within_low (m.limits.lower_bounds (slice_index p.links j)) in
      let high = within_high (m.limits.upper_bounds (slice_index p.links j)) in
      let least = is.least j at in
      let most = is.most j at in
      within_from_bounds MAX_NUMBER (component l j) (omega (arith, ints)) (omega (arith, ints));
}

pub places_below : (n : ℕ) (ks : List ℕ) → ((k : ℕ) → Contains ks k → k < n) → All (λ k. k < n) ks
places_below n ks h = λ j d b. h (slice_index_or ks j d) (Contains-get_or ks j d b)

pub follower_places : (p : Program) (xs : List ℤ) → IsModel p → length xs ≡ columns p
    → All (λ k. k < length xs) p.follower
follower_places p xs m e = rw e (places_below (columns p) p.follower m.sound.follower_below)

pub link_places : (p : Program) (xs : List ℤ) → IsModel p → length xs ≡ columns p → All (λ k. k < length xs) p.links
link_places p xs m e = rw e (places_below (columns p) p.links (link_below p m))

-- ---- the whole problem

-- what a row of the follower's problem keeps
record IsSmall (n : ℕ) (r : Linear) : Type 0 where
  size : length r.coef ≡ n
  coef : AreWithin MAX_PROBLEM_COEFFICIENT r.coef
  rhs : IsWithin MAX_PROBLEM_RHS r.rhs

row_small : (p : Program) (l : List ℤ) (r : Row) → AreWithin MAX_NUMBER r.coef → IsWithin MAX_RHS r.rhs
    → AreWithin MAX_NUMBER l → length p.links ≤ MAX_COLUMNS → IsSmall (length p.follower) (follower_row p l r)
row_small p l r coef rhs link few =
    let part = within_dot (values_within MAX_NUMBER r.coef p.links coef) link in
    let size = length-map p.links (λ k. component r.coef k) in
    record {
      size = length-map p.follower (λ k. component r.coef k);
      coef = record {
        each = λ k b. within_more ((values_within MAX_NUMBER r.coef p.follower coef).each k b) (omega arith);
      };
      rhs = within_more (within_difference rhs part) (rw size (omega arith));
    }

-- a row's right side with the link put in fits 64 bits
pub follower_rhs_fits : (p : Program) (l : List ℤ) (r : Row) → IsModel p → IsLink p l → AreWithin MAX_NUMBER r.coef
    → IsWithin MAX_RHS r.rhs → FitsSigned w64 (r.rhs -ℤ dot (values_at r.coef p.links) l)
follower_rhs_fits p l r m is coef rhs =
    let small = row_small p l r coef rhs (link_within p l m is) (links_few p m) in
    fits_from_within w64 small.rhs (omega arith)

rows_small : (p : Program) (l : List ℤ) (n : ℕ) (rows : List Row)
    → ((i : ℕ) → i < length rows → IsSmall n (follower_row p l (row_at rows i)))
    → (i : ℕ) → i < length (follower_rows p l rows) → IsSmall n (linear_at (follower_rows p l rows) i)
rows_small p l n [] h = λ i b. absurd (omega arith)
rows_small p l n (r ∷ rs) h = by r.lower (h 0 (omega arith)) (rows_small p l n rs (λ i b. h (suc i) (omega arith)))
  where
    by : (t : Bool) → IsSmall n (follower_row p l r)
        → ((i : ℕ) → i < length (follower_rows p l rs) → IsSmall n (linear_at (follower_rows p l rs) i))
        → (i : ℕ) → i < length (cond t (follower_row p l r ∷ follower_rows p l rs) (follower_rows p l rs))
        → IsSmall n (linear_at (cond t (follower_row p l r ∷ follower_rows p l rs) (follower_rows p l rs)) i)
    by true first others zero b = first
    by true first others (suc i) b = others i (omega arith)
    by false first others i b = others i b

rows_few : (p : Program) (l : List ℤ) (rows : List Row) → length (follower_rows p l rows) ≤ length rows
rows_few p l [] = omega arith
rows_few p l (r ∷ rs) = by r.lower (rows_few p l rs)
  where
    by : (t : Bool) → length (follower_rows p l rs) ≤ length rs
        → length (cond t (follower_row p l r ∷ follower_rows p l rs) (follower_rows p l rs)) ≤ suc (length rs)
    by true h = omega arith
    by false h = omega arith

pub whole_fits : (p : Program) (l : List ℤ) → IsModel p → IsLink p l → Fits (whole_problem p l)
whole_fits p l m is =
    let link = link_within p l m is in
    let small = rows_small p l (length p.follower) p.rows (λ i b.
    row_small p l (row_at p.rows i) (record { each = λ k _. m.limits.coefs i k b }) (m.limits.rhs i b) link
    (links_few p m)) in
    let size = length-map p.follower (λ k. component p.lo k) in
    record {
      shape = record {
        box = follower_box-area p m.sound;
        cost_columns = length-map p.follower (λ k. component p.follower_cost k) ∙ sym size;
        row_columns = λ i b. (small i b).size ∙ sym size;
      };
      few_columns = let few = follower_few p m in omega arith;
      few_rows = let few = m.limits.few_rows in let fewer = rows_few p l p.rows in omega arith;
      coefs = λ i b. (small i b).coef;
      rhs = λ i b. (small i b).rhs;
      costs = values_within MAX_NUMBER p.follower_cost p.follower (record { each = λ k _. m.limits.follower_costs k });
      lower_bounds = values_within MAX_NUMBER p.lo p.follower (record { each = λ k _. m.limits.lower_bounds k });
      upper_bounds = values_within MAX_NUMBER p.hi p.follower (record { each = λ k _. m.limits.upper_bounds k });
    }
