-- What tests on an example show: that it is a program, that it keeps the limits, and that multipliers are proofs.
use Rattle.std.proofs.Common.{◌≡◌, ℕ, ◌+◌, ◌<◌, subst, arith, Bool, true, false, ◌&&◌, ◌||◌, List, length}
use Rattle.std.specs.Prelude.{ℤ, pos, ◌≤ℤ◌, ◌<ℤ◌, nat_eq, nat_le, nat_lt, int_le, slice_index, unsigned_abs, Option}
use Rattle.std.specs.Prelude.{None}
use Rattle.std.specs.Ordering.{int_eq}
use Rattle.std.proofs.lemmas.Bool.{true≢false, false_from_ne_true}
use Rattle.std.proofs.lemmas.Bool.Decides.{nat_tests, Decides-int_eq}
use Rattle.bl_whole.specs.Sums.{component}
use Rattle.bl_limits.specs.declared.TheConstants.{MAX_COLUMNS, MAX_ROWS, MAX_NUMBER, MAX_RHS, MAX_PROOF_NUMBER}
use Rattle.bl_whole.specs.Within.{AreWithin}
use Rattle.bl_whole.proofs.WithinLemmas.{within_entry}
use Rattle.bl_terms.specs.Points.{is_among}
use Rattle.bl_terms.specs.Programs.{Program, IsProgram, IsSense, KeepsLimits, columns, row_at, is_linking, places_where}
use Rattle.bl_terms.specs.Bounds.{Problem, Multipliers, Proves, target_of, dual_bound}
use Rattle.bl_terms.specs.EveryPoint.{all_below}
use Rattle.bl_terms.proofs.PlaceLemmas.{Contains-from_among, place_of}
use Rattle.bl_terms.proofs.ProgramLemmas.{linking_computed}
use Rattle.bl_terms.proofs.EveryPointLemmas.{all_below_decides}
use Rattle.bl_terms.proofs.TestLemmas.{and_true, Decides-int_le}

all_pass : (n : ℕ) (test : ℕ → Bool) → all_below n test ≡ true → (k : ℕ) → k < n → test k ≡ true
all_pass n test e = (all_below_decides n test (λ k. test k ≡ true) (λ k b. (λ h. h, λ h. h))).0 e

-- either m is past the end, or a is below b
guarded : (n m a b : ℕ) → (nat_le n m || nat_lt a b) ≡ true → m < n → a < b
guarded n m a b e h = grind (arith, nat_tests)

leader_or_zero : (t : Bool) (c : ℤ) → (t || int_eq c (pos 0)) ≡ true → t ≡ false → c ≡ pos 0
leader_or_zero true c e f = absurd (true≢false f)
leader_or_zero false c e f = (Decides-int_eq c (pos 0)).0 e

pub program_from_tests : (p : Program) → length p.hi ≡ columns p
    → all_below (columns p) (λ k. int_le (component p.lo k) (component p.hi k)) ≡ true
    → all_below (length p.rows) (λ i. nat_eq (length (row_at p.rows i).coef) (columns p)) ≡ true
    → length p.cost ≡ columns p → length p.follower_cost ≡ columns p
    → all_below (length p.follower)
    (λ k. nat_le (length p.follower) (k + 1) || nat_lt (slice_index p.follower k) (slice_index p.follower (k + 1)))
    ≡ true
    → all_below (length p.follower) (λ k. nat_lt (slice_index p.follower k) (columns p)) ≡ true
    → all_below (columns p) (λ k. is_among k p.follower || int_eq (component p.follower_cost k) (pos 0)) ≡ true
    → p.links ≡ places_where (is_linking p.follower p.rows) (columns p) → IsSense p.sense → IsSense p.leader_sense
    → IsProgram p
program_from_tests p sides ordered rows cost follower_cost rising below free linked sign leader_sign = record {
  box = record {
    sides = sides;
    ordered =
        λ k b. (Decides-int_le (component p.lo k) (component p.hi k)).0
        (all_pass (columns p) (λ k. int_le (component p.lo k) (component p.hi k)) ordered k b);
  };
  row_columns = λ i b. let e =
      all_pass (length p.rows) (λ i. nat_eq (length (row_at p.rows i).coef) (columns p)) rows i b in
      grind (arith, nat_tests);
  cost_columns = cost;
  follower_cost_columns = follower_cost;
  follower_rising = λ k b.
      guarded (length p.follower) (k + 1) (slice_index p.follower k) (slice_index p.follower (k + 1))
      (all_pass (length p.follower)
      (λ k. nat_le (length p.follower) (k + 1)
      || nat_lt (slice_index p.follower k) (slice_index p.follower (k + 1))) rising k (omega arith)) b;
  follower_below = λ k m.
      let q = place_of p.follower k m in
      let e = all_pass (length p.follower) (λ k. nat_lt (slice_index p.follower k) (columns p)) below q.0 q.1 in
      let P : ℕ → Type 0 = λ x. x < columns p in
      subst P q.2 (grind (arith, nat_tests));
  leader_free = λ k leader.
      leader_or_zero (is_among k p.follower) (component p.follower_cost k)
      (all_pass (columns p)
      (λ k. is_among k p.follower || int_eq (component p.follower_cost k) (pos 0)) free k leader.column)
      (false_from_ne_true (is_among k p.follower) (λ t. leader.leads (Contains-from_among k p.follower t)));
  linking = (linking_computed p).1 linked;
  sign = sign;
  leader_sign = leader_sign;
}

-- each number of the list is of magnitude at most m
abbrev pub are_within : ℕ → List ℤ → Bool
are_within m xs = all_below (length xs) (λ k. nat_le (unsigned_abs (component xs k)) m)

are_within_is : (m : ℕ) (xs : List ℤ) → are_within m xs ≡ true → AreWithin m xs
are_within_is m xs e = record {
  each = λ k b. let h = all_pass (length xs) (λ k. nat_le (unsigned_abs (component xs k)) m) e k b in
      record { magnitude = grind (arith, nat_tests) };
}

pub limits_from_tests : (p : Program) → nat_le (columns p) MAX_COLUMNS ≡ true → nat_le (length p.rows) MAX_ROWS ≡ true
    → all_below (length p.rows) (λ i. are_within MAX_NUMBER (row_at p.rows i).coef) ≡ true
    → all_below (length p.rows) (λ i. nat_le (unsigned_abs (row_at p.rows i).rhs) MAX_RHS) ≡ true
    → are_within MAX_NUMBER p.cost ≡ true → are_within MAX_NUMBER p.follower_cost ≡ true
    → are_within MAX_NUMBER p.lo ≡ true → are_within MAX_NUMBER p.hi ≡ true → KeepsLimits p
limits_from_tests p few_columns few_rows coefs rights cost follower_cost lo hi = record {
  few_columns = grind (arith, nat_tests);
  few_rows = grind (arith, nat_tests);
  coefs = λ i k b. within_entry
      (are_within_is MAX_NUMBER (row_at p.rows i).coef
      (all_pass (length p.rows) (λ i. are_within MAX_NUMBER (row_at p.rows i).coef) coefs i b)) k;
  rhs = λ i b. let h =
      all_pass (length p.rows) (λ i. nat_le (unsigned_abs (row_at p.rows i).rhs) MAX_RHS) rights i b in
      record { magnitude = grind (arith, nat_tests) };
  costs = within_entry (are_within_is MAX_NUMBER p.cost cost);
  follower_costs = within_entry (are_within_is MAX_NUMBER p.follower_cost follower_cost);
  lower_bounds = within_entry (are_within_is MAX_NUMBER p.lo lo);
  upper_bounds = within_entry (are_within_is MAX_NUMBER p.hi hi);
}

pub proves_from_tests : (q : Problem) (u : Option ℤ) (w : Multipliers) → length w.mult ≡ length q.rows → pos 0 ≤ℤ w.den
    → w.den ≤ℤ MAX_PROOF_NUMBER
    → all_below (length w.mult)
    (λ i. int_le (pos 0) (component w.mult i) && int_le (component w.mult i) MAX_PROOF_NUMBER) ≡ true
    → (u ≡ None → w.den ≡ pos 0) → target_of u w <ℤ dual_bound q w → Proves q u w
proves_from_tests q u w rows least most mult free beyond =
    let each : (i : ℕ) → i < length w.mult
    → (int_le (pos 0) (component w.mult i) ≡ true) × (int_le (component w.mult i) MAX_PROOF_NUMBER ≡ true) =
    λ i b. and_true (int_le (pos 0) (component w.mult i)) (int_le (component w.mult i) MAX_PROOF_NUMBER)
    (all_pass (length w.mult)
    (λ i. int_le (pos 0) (component w.mult i) && int_le (component w.mult i) MAX_PROOF_NUMBER) mult i b) in
    record {
      rows = rows;
      multipliers = record {
        den_least = least;
        den_most = most;
        least = λ i b. (Decides-int_le (pos 0) (component w.mult i)).0 (each i b).0;
        most = λ i b. (Decides-int_le (component w.mult i) MAX_PROOF_NUMBER).0 (each i b).1;
      };
      free = free;
      beyond = beyond;
    }
