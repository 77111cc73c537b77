-- The facts on the examples, by the tests that try every point.
use Rattle.std.proofs.Common.{◌≡◌, ℕ, zero, suc, ◌<◌, refl, arith, true, false, ◌&&◌, List, length, inl, inr}
use Rattle.std.specs.Prelude.{ℤ, pos, negsuc, ◌≤ℤ◌, ◌<ℤ◌, int_le, slice_index, IsTrue, Option, Some, None}
use Rattle.std.specs.Int.Signed.{le_z_yes, lt_z_yes, clash_ℤ}
use Rattle.std.proofs.Math.IntN.{zero-*ℤ}
use Rattle.std.proofs.lemmas.Int.{ints}
use Rattle.std.proofs.lemmas.Bool.Decides.{not_from_Decides}
use Rattle.bl_limits.specs.declared.TheConstants.{MAX_PROOF_NUMBER}
use Rattle.bl_whole.specs.Sums.{component}
use Rattle.bl_whole.proofs.Products.{one-*ℤ}
use Rattle.bl_terms.specs.Points.{Area}
use Rattle.bl_terms.specs.Programs.{Program, IsLeader, row_at}
use Rattle.bl_terms.specs.Feasible.{BilevelFeasible}
use Rattle.bl_terms.specs.Responses.{IsResponse, lhs_of, Best, NoResponse}
use Rattle.bl_terms.specs.Trees.{low_half, high_half}
use Rattle.bl_terms.specs.Bounds.{IsProblem, relaxation, Multipliers, Proves, target_of, dual_bound, linear_at}
use Rattle.bl_terms.specs.FollowerProofs.{ProvesBest, ClosesFollower, follower_box, follower_problem}
use Rattle.bl_terms.specs.EveryPoint.{is_feasible, all_below}
use Rattle.bl_terms.specs.Examples.{moore_bard, greatest_answer, least_answer, leader_maximises, leader_chooses}
use Rattle.bl_terms.specs.Examples.{leader_refuses, no_follower, one_point, half_row, one_cut, one, two, three}
use Rattle.bl_terms.specs.Examples.{MooreBardFacts, SenseFacts, LeaderSenseFacts, ChoiceFacts, RefusalFacts}
use Rattle.bl_terms.specs.Examples.{OneLevelFacts, WholeFacts, SplitFacts, ProgramFacts, BoundFacts, EntryFacts}
use Rattle.bl_terms.specs.Examples.{weights, four, tree_at_two, tree_at_zero, tree_at_nine, WorkedExamples}
use Rattle.bl_terms.proofs.BoundLemmas.{weak_duality}
use Rattle.bl_terms.proofs.FollowerProofLemmas.{follower_proof_law}
use Rattle.bl_terms.proofs.ExampleTests.{program_from_tests, limits_from_tests, proves_from_tests}
use Rattle.bl_terms.proofs.EveryPointLemmas.{tests_decide, is_in_decides, meets_rows_decides, meets_lower_decides}

-- where the test fails the point is not bilevel feasible
not_feasible : (p : Program) (z : List ℤ) → is_feasible p z ≡ false → ¬ BilevelFeasible p z
not_feasible p z e = not_from_Decides (is_feasible p z) (tests_decide.feasible p z) e

moore_bard_facts : MooreBardFacts
moore_bard_facts = record {
  optimum = (tests_decide.only_optimum moore_bard (two (pos 2) (pos 2)) (negsuc 21)).0 refl;
  follower = refl;
  vertex_rows = (meets_rows_decides moore_bard (two (pos 2) (pos 4))).0 refl;
  vertex_cost = refl;
  vertex = not_feasible moore_bard (two (pos 2) (pos 4)) refl;
}

sense_facts : SenseFacts
sense_facts = record {
  greatest = (tests_decide.only_optimum greatest_answer (two (pos 3) (pos 3)) (negsuc 2)).0 refl;
  least = (tests_decide.only_optimum least_answer (two (pos 3) (pos 0)) (negsuc 5)).0 refl;
}

leader_sense_facts : LeaderSenseFacts
leader_sense_facts = record {
  program = program_from_tests leader_maximises refl refl refl refl refl refl refl refl refl (inr refl) (inr refl);
  optimum = (tests_decide.only_optimum leader_maximises (two (pos 3) (pos 3)) (pos 3)).0 refl;
}

choice_facts : ChoiceFacts
choice_facts = record {
  optimum = (tests_decide.optimal leader_chooses (three (pos 0) (pos 1) (pos 0)) (negsuc 0)).0 refl;
  another = (tests_decide.optimal leader_chooses (three (pos 1) (pos 0) (pos 1)) (negsuc 0)).0 refl;
  reaches_least = ((meets_lower_decides leader_chooses (three (pos 0) (pos 1) (pos 1))).0 refl, refl);
  ruled_out = not_feasible leader_chooses (three (pos 0) (pos 1) (pos 1)) refl;
}

-- (0, 1) and (0, 0) agree on the leader's column
refuser_agrees : (k : ℕ) → IsLeader leader_refuses k
    → component (two (pos 0) (pos 1)) k ≡ component (two (pos 0) (pos 0)) k
refuser_agrees zero l = refl
refuser_agrees (suc zero) l = absurd (l.leads (0, omega arith, refl))
refuser_agrees (suc (suc k)) l = refl

refusal_facts : RefusalFacts
refusal_facts = record {
  rows = (meets_rows_decides leader_refuses (two (pos 0) (pos 1))).0 refl;
  least = record {
    reached = (
      two (pos 0) (pos 0),
      (is_in_decides leader_refuses (two (pos 0) (pos 0))).0 refl,
      (meets_lower_decides leader_refuses (two (pos 0) (pos 0))).0 refl,
      record { agree = refuser_agrees },
      refl,
    );
    least = λ z' inside lower same.
        let h = inside.least 1 (omega arith) in
        let e = zero-*ℤ (component z' 0) in
        let f = one-*ℤ (component z' 1) in
        omega (arith, ints);
  };
  infeasible = (tests_decide.infeasible leader_refuses).0 refl;
}

one_level_facts : OneLevelFacts
one_level_facts = record {
  optimum = (tests_decide.only_optimum no_follower (two (pos 2) (pos 1)) (negsuc 6)).0 refl;
  fixed = (tests_decide.only_optimum (one_point (pos 3)) (one (pos 3)) (pos 6)).0 refl;
  ruled_out = (tests_decide.infeasible (one_point (pos 2))).0 refl;
}

whole_facts : WholeFacts
whole_facts = record {
  half = (tests_decide.only_optimum half_row (two (pos 1) (pos 1)) (negsuc 0)).0 refl;
  half_follower = refl;
  cut = (tests_decide.only_optimum one_cut (two (pos 1) (pos 0)) (negsuc 0)).0 refl;
}

split_facts : SplitFacts
split_facts = record {
  tree = ((record { column = omega arith; least = le_z_yes tt; below = lt_z_yes tt }, tt), (tt, (tt, tt)));
  parts = refl;
  points = refl;
}

-- ---- the examples are programs

program_facts : ProgramFacts
program_facts = record {
  first = (
    program_from_tests moore_bard refl refl refl refl refl refl refl refl refl (inl refl) (inl refl),
    limits_from_tests moore_bard refl refl refl refl refl refl refl refl,
  );
  second = (
    program_from_tests greatest_answer refl refl refl refl refl refl refl refl refl (inr refl) (inl refl),
    limits_from_tests greatest_answer refl refl refl refl refl refl refl refl,
  );
  third = (
    program_from_tests least_answer refl refl refl refl refl refl refl refl refl (inl refl) (inl refl),
    limits_from_tests least_answer refl refl refl refl refl refl refl refl,
  );
  fourth = (
    program_from_tests leader_chooses refl refl refl refl refl refl refl refl refl (inl refl) (inl refl),
    limits_from_tests leader_chooses refl refl refl refl refl refl refl refl,
  );
  fifth = (
    program_from_tests leader_refuses refl refl refl refl refl refl refl refl refl (inl refl) (inl refl),
    limits_from_tests leader_refuses refl refl refl refl refl refl refl refl,
  );
  sixth = (
    program_from_tests no_follower refl refl refl refl refl refl refl refl refl (inl refl) (inl refl),
    limits_from_tests no_follower refl refl refl refl refl refl refl refl,
  );
  seventh = (
    program_from_tests half_row refl refl refl refl refl refl refl refl refl (inl refl) (inl refl),
    limits_from_tests half_row refl refl refl refl refl refl refl refl,
  );
  ninth = (
    program_from_tests (one_point (pos 2)) refl refl refl refl refl refl refl refl refl (inl refl) (inl refl),
    limits_from_tests (one_point (pos 2)) refl refl refl refl refl refl refl refl,
  );
  tenth = (
    program_from_tests (one_point (pos 3)) refl refl refl refl refl refl refl refl refl (inl refl) (inl refl),
    limits_from_tests (one_point (pos 3)) refl refl refl refl refl refl refl refl,
  );
  eighth = (
    program_from_tests one_cut refl refl refl refl refl refl refl refl refl (inl refl) (inl refl),
    limits_from_tests one_cut refl refl refl refl refl refl refl refl,
  );
}

-- ---- bound proofs and entries of Moore and Bard's program

moore_bard_proof : Proves (relaxation moore_bard) (Some (negsuc 41))
    (weights (pos 35) (four (pos 4) (pos 135) (pos 0) (pos 0)))
moore_bard_proof =
    proves_from_tests (relaxation moore_bard) (Some (negsuc 41))
    (weights (pos 35) (four (pos 4) (pos 135) (pos 0) (pos 0))) refl (le_z_yes tt) (le_z_yes tt) refl
    (λ e. cc) (lt_z_yes tt)

moore_bard_problem : IsProblem (relaxation moore_bard)
moore_bard_problem =
    let g = program_facts.first.0 in
    record { box = g.box; cost_columns = refl; row_columns = each }
  where
    each : (i : ℕ) → i < 4 → length (linear_at (relaxation moore_bard).rows i).coef ≡ 2
    each zero b = refl
    each (suc zero) b = refl
    each (suc (suc zero)) b = refl
    each (suc (suc (suc zero))) b = refl
    each (suc (suc (suc (suc i)))) b = absurd (omega arith)

bound_facts : BoundFacts
bound_facts = record {
  problem = moore_bard_problem;
  proved = moore_bard_proof;
  unproved = λ p. clash_ℤ p.beyond (le_z_yes tt);
  bounded = λ z point. weak_duality (relaxation moore_bard) (negsuc 41)
      (weights (pos 35) (four (pos 4) (pos 135) (pos 0) (pos 0))) z moore_bard_problem moore_bard_proof point;
}

-- the response 2 to the link 2
answer_two : IsResponse moore_bard (one (pos 2)) (one (pos 2))
answer_two = record {
  ranges = record { count = refl; least = least; most = most };
  rows = rows;
}
  where
    least : (j : ℕ) → j < 1 → component moore_bard.lo (slice_index moore_bard.follower j) ≤ℤ component (one (pos 2)) j
    least zero b = le_z_yes tt
    least (suc j) b = absurd (omega arith)

    most : (j : ℕ) → j < 1 → component (one (pos 2)) j ≤ℤ component moore_bard.hi (slice_index moore_bard.follower j)
    most zero b = le_z_yes tt
    most (suc j) b = absurd (omega arith)

    rows : (i : ℕ) → i < 4 → IsTrue (row_at moore_bard.rows i).lower
        → lhs_of moore_bard (row_at moore_bard.rows i) (one (pos 2)) (one (pos 2)) ≤ℤ (row_at moore_bard.rows i).rhs
    rows zero b low = le_z_yes tt
    rows (suc zero) b low = le_z_yes tt
    rows (suc (suc zero)) b low = le_z_yes tt
    rows (suc (suc (suc zero))) b low = le_z_yes tt
    rows (suc (suc (suc (suc i)))) b low = absurd (omega arith)

-- a leaf of a tree at a link
leaf_proof : (l : ℤ) (a : Area) (u : Option ℤ) (w : Multipliers) → length w.mult ≡ 4 → pos 0 ≤ℤ w.den
    → w.den ≤ℤ MAX_PROOF_NUMBER
    → all_below (length w.mult)
    (λ i. int_le (pos 0) (component w.mult i) && int_le (component w.mult i) MAX_PROOF_NUMBER) ≡ true
    → (u ≡ None → w.den ≡ pos 0)
    → target_of u w <ℤ dual_bound (follower_problem moore_bard (one l) a) w
    → Proves (follower_problem moore_bard (one l) a) u w
leaf_proof l a u w = proves_from_tests (follower_problem moore_bard (one l) a) u w

entry_facts : EntryFacts
entry_facts =
    let at_two : ProvesBest moore_bard (one (pos 2)) (one (pos 2)) (pos 2) tree_at_two = record {
      response = answer_two;
      value = refl;
      tree = (
        leaf_proof (pos 2) (follower_box moore_bard) (Some (pos 2))
            (weights (pos 10) (four (pos 0) (pos 0) (pos 0) (pos 1))) refl (le_z_yes tt) (le_z_yes tt) refl (λ e. cc)
            (lt_z_yes tt),
        tt,
      );
    } in
    let at_zero : ClosesFollower moore_bard (one (pos 0)) None tree_at_zero = (
      (record { column = omega arith; least = le_z_yes tt; below = lt_z_yes tt }, tt),
      (
        leaf_proof (pos 0) (low_half (follower_box moore_bard) 0 (pos 1)) None
            (weights (pos 0) (four (pos 0) (pos 0) (pos 0) (pos 1))) refl (le_z_yes tt) (le_z_yes tt) refl (λ e. refl)
            (lt_z_yes tt),
        (
          leaf_proof (pos 0) (high_half (follower_box moore_bard) 0 (pos 1)) None
              (weights (pos 0) (four (pos 1) (pos 0) (pos 0) (pos 0))) refl (le_z_yes tt) (le_z_yes tt) refl (λ e. refl)
              (lt_z_yes tt),
          tt,
        ),
      ),
    ) in
    let at_nine : ClosesFollower moore_bard (one (pos 9)) None tree_at_nine = (
      leaf_proof (pos 9) (follower_box moore_bard) None (weights (pos 0) (four (pos 0) (pos 1) (pos 2) (pos 0))) refl
          (le_z_yes tt) (le_z_yes tt) refl (λ e. refl) (lt_z_yes tt),
      tt,
    ) in
    let g = program_facts.first.0 in
    record {
      proof_at_two = at_two;
      proof_at_zero = at_zero;
      proof_at_nine = at_nine;
      entry_at_two = follower_proof_law moore_bard (one (pos 2)) (Best (one (pos 2)) (pos 2)) tree_at_two g at_two;
      entry_at_zero = follower_proof_law moore_bard (one (pos 0)) NoResponse tree_at_zero g at_zero;
      entry_at_nine = follower_proof_law moore_bard (one (pos 9)) NoResponse tree_at_nine g at_nine;
    }

pub worked_examples : WorkedExamples
worked_examples = record {
  moore_bard_facts = moore_bard_facts;
  sense_facts = sense_facts;
  leader_sense_facts = leader_sense_facts;
  choice_facts = choice_facts;
  refusal_facts = refusal_facts;
  one_level_facts = one_level_facts;
  whole_facts = whole_facts;
  split_facts = split_facts;
  program_facts = program_facts;
  bound_facts = bound_facts;
  entry_facts = entry_facts;
}
