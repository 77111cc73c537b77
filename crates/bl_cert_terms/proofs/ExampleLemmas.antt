-- The certificates that were worked out by hand.
use Rattle.std.proofs.Common.{◌≡◌, ℕ, zero, suc, ◌<◌, refl, subst, arith, [], ◌∷◌, inl}
use Rattle.std.specs.Prelude.{ℤ, pos, negsuc, ◌≤ℤ◌, slice_index, IsTrue, Option, Some, None, false, true}
use Rattle.std.specs.Prelude.{if◌then◌else◌, nat_eq, slice_index_or}
use Rattle.std.specs.Int.Signed.{le_z_yes, lt_z_yes, clash_ℤ}
use Rattle.std.proofs.lemmas.Bool.{false≢true}
use Rattle.std.proofs.lemmas.List.Elements.{All-cons, All-nil}
use Rattle.bl_limits.specs.declared.TheConstants.{MAX_PROBLEM_COEFFICIENT}
use Rattle.bl_whole.specs.Sums.{component, dot}
use Rattle.bl_whole.specs.Within.{IsWithin, AreWithin}
use Rattle.bl_terms.specs.Points.{IsArea}
use Rattle.bl_terms.specs.Programs.{Program, root, row_at}
use Rattle.bl_terms.specs.Responses.{InRanges, IsResponse, lhs_of}
use Rattle.bl_terms.specs.Bounds.{Proves, linear_at}
use Rattle.bl_terms.specs.FollowerProofs.{follower_problem, follower_box}
use Rattle.bl_terms.specs.Examples.{leader_refuses, one_cut, one, two, three, weights}
use Rattle.bl_terms.proofs.PointLemmas.{part_of_itself}
use Rattle.bl_terms.proofs.EveryPointLemmas.{is_in_decides, meets_rows_decides}
use Rattle.bl_terms.proofs.ExampleTests.{proves_from_tests}
use Rattle.bl_terms.proofs.ExampleLemmas.{worked_examples}
use Rattle.bl_cut_terms.specs.declared.parts.Tight.TheVariants.{Row, Upper}
use Rattle.bl_cut_terms.specs.NoGoods.{IsThere, IsUnit, IsCutStep, HasSize, Inverts, IsTightAt, cut_row, tight_rows}
use Rattle.bl_cut_terms.specs.NoGoods.{combined, unit_at}
use Rattle.bl_leaf_terms.specs.Leaves.{leaf_problem}
use Rattle.bl_cert_terms.specs.Certificates.{IsProvedEntry, AreRising, ProvedEntry, IsCited, IsBounded, IsAccepted}
use Rattle.bl_cert_terms.specs.Examples.{answer_without_rows, refusal, refusal_without_value, answer_to_one}
use Rattle.bl_cert_terms.specs.Examples.{cut_at_top, one_cut_closes, no_cut_closes, WorkedCertificates}
use Rattle.bl_cert_terms.proofs.CertificateLemmas.{accepted_law}

-- ---- lists of one item

one_in_range : (p : Program) (k : ℕ) (x : ℤ) → component p.lo k ≤ℤ x → x ≤ℤ component p.hi k
    → InRanges p (k ∷ []) (one x)
one_in_range p k x low high = record { count = refl; least = least; most = most }
  where
    least : (j : ℕ) → j < 1 → component p.lo (slice_index (k ∷ []) j) ≤ℤ component (one x) j
    least zero b = low
    least (suc j) b = absurd (omega arith)

    most : (j : ℕ) → j < 1 → component (one x) j ≤ℤ component p.hi (slice_index (k ∷ []) j)
    most zero b = high
    most (suc j) b = absurd (omega arith)

one_is_rising : (e : ProvedEntry) → AreRising (e ∷ [])
one_is_rising e i j d before below = absurd (omega arith)

one_proved : (p : Program) (e : ProvedEntry) → IsProvedEntry p e → (k : ℕ) (d : ProvedEntry) → k < 1
    → IsProvedEntry p (slice_index_or (e ∷ []) k d)
one_proved p e proved = All-cons (IsProvedEntry p) e [] proved (All-nil (IsProvedEntry p))

-- ---- a program without a bilevel feasible point

no_link : InRanges leader_refuses [] []
no_link = record { count = refl; least = λ j b. absurd (omega arith); most = λ j b. absurd (omega arith) }

no_lower_row : (i : ℕ) → i < 1 → IsTrue (row_at leader_refuses.rows i).lower
    → lhs_of leader_refuses (row_at leader_refuses.rows i) [] (one (pos 0)) ≤ℤ (row_at leader_refuses.rows i).rhs
no_lower_row zero b low = absurd (false≢true low)
no_lower_row (suc i) b low = absurd (omega arith)

proved_without_rows : IsProvedEntry leader_refuses answer_without_rows
proved_without_rows = record {
  link = no_link;
  proof = record {
    response = record {
      ranges = one_in_range leader_refuses 1 (pos 0) (le_z_yes tt) (le_z_yes tt);
      rows = no_lower_row;
    };
    value = refl;
    tree = (
      proves_from_tests (follower_problem leader_refuses [] (follower_box leader_refuses)) (Some (pos 0))
          (weights (pos 1) []) refl (le_z_yes tt) (le_z_yes tt) refl (λ e. cc) (lt_z_yes tt),
      tt,
    );
  };
}

refusal_closes : IsBounded leader_refuses refusal (root leader_refuses) (weights (pos 0) (two (pos 1) (pos 1))) true []
refusal_closes = record {
  few = omega arith;
  rising = λ k b. absurd (omega arith);
  there = All-nil (IsCited [] (root leader_refuses));
  value = Some (pos 0);
  has = (
    record { fixed = λ j b. absurd (omega arith) },
    (one (pos 0), (0, answer_without_rows, omega arith, refl, (refl, refl))),
  );
  proof =
      proves_from_tests (leaf_problem leader_refuses (root leader_refuses) (Some (pos 0)) []) None
      (weights (pos 0) (two (pos 1) (pos 1))) refl (le_z_yes tt) (le_z_yes tt) refl (λ e. refl) (lt_z_yes tt);
}

refusal_accepted : IsAccepted leader_refuses refusal
refusal_accepted = record {
  point = tt;
  entries = one_proved leader_refuses answer_without_rows proved_without_rows;
  rising = one_is_rising answer_without_rows;
  cuts = tt;
  tree = (refusal_closes, tt);
}

without_value_refused : ¬ IsAccepted leader_refuses refusal_without_value
without_value_refused h =
    let b = h.tree.0 in
    let proof =
    subst (λ (v : Option ℤ). Proves (leaf_problem leader_refuses (root leader_refuses) v []) None
    (weights (pos 0) (two (pos 1) (pos 0)))) b.has.0 b.proof in
    clash_ℤ proof.beyond (le_z_yes tt)

-- ---- a program that one cut solves

row_at_one : (i : ℕ) → i < 1 → IsTrue (row_at one_cut.rows i).lower
    → lhs_of one_cut (row_at one_cut.rows i) (one (pos 1)) (one (pos 0)) ≤ℤ (row_at one_cut.rows i).rhs
row_at_one zero b low = le_z_yes tt
row_at_one (suc i) b low = absurd (omega arith)

response_to_one : IsResponse one_cut (one (pos 1)) (one (pos 0))
response_to_one = record {
  ranges = one_in_range one_cut 1 (pos 0) (le_z_yes tt) (le_z_yes tt);
  rows = row_at_one;
}

proved_at_one : IsProvedEntry one_cut answer_to_one
proved_at_one = record {
  link = one_in_range one_cut 0 (pos 1) (le_z_yes tt) (le_z_yes tt);
  proof = record {
    response = response_to_one;
    value = refl;
    tree = (
      proves_from_tests (follower_problem one_cut (one (pos 1)) (follower_box one_cut)) (Some (pos 0))
          (weights (pos 1) (one (pos 0))) refl (le_z_yes tt) (le_z_yes tt) refl (λ e. cc) (lt_z_yes tt),
      tt,
    );
  };
}

cut_area : IsArea cut_at_top.area
cut_area = record { sides = refl; ordered = ordered }
  where
    ordered : (k : ℕ) → k < 2 → component cut_at_top.area.lo k ≤ℤ component cut_at_top.area.hi k
    ordered zero b = le_z_yes tt
    ordered (suc zero) b = le_z_yes tt
    ordered (suc (suc k)) b = absurd (omega arith)

cut_coef : AreWithin MAX_PROBLEM_COEFFICIENT (cut_row one_cut cut_at_top.area [] cut_at_top.parts.tight).coef
cut_coef = record { each = each }
  where
    each : (k : ℕ) → k < 2
        → IsWithin MAX_PROBLEM_COEFFICIENT
        (component (cut_row one_cut cut_at_top.area [] cut_at_top.parts.tight).coef k)
    each zero b = record { magnitude = omega arith }
    each (suc zero) b = record { magnitude = omega arith }
    each (suc (suc k)) b = absurd (omega arith)

cut_size : HasSize one_cut cut_at_top.area [] cut_at_top.parts
cut_size = record {
  there =
      All-cons (IsThere one_cut cut_at_top.area []) (Row 0) (Upper 0 ∷ []) (omega arith)
      (All-cons (IsThere one_cut cut_at_top.area []) (Upper 0) [] (omega arith)
      (All-nil (IsThere one_cut cut_at_top.area [])));
  order = (inl (omega arith), tt);
  units_count = refl;
  units =
      All-cons (IsUnit 2) ((1, pos 1) ∷ []) (((0, pos 1) ∷ (1, pos 1) ∷ []) ∷ [])
      ((omega arith, omega arith, λ e. cc, le_z_yes tt, le_z_yes tt), tt)
      (All-cons (IsUnit 2) ((0, pos 1) ∷ (1, pos 1) ∷ []) [] (
        (omega arith, omega arith, λ e. cc, le_z_yes tt, le_z_yes tt),
        ((omega arith, omega arith, λ e. cc, le_z_yes tt, le_z_yes tt), tt),
      )
      (All-nil (IsUnit 2)));
  den_least = le_z_yes tt;
  den_most = le_z_yes tt;
  coef = cut_coef;
  rhs = record { magnitude = omega arith };
}

cut_inverse : Inverts 2 (tight_rows one_cut cut_at_top.area [] cut_at_top.parts.tight) (pos 1) cut_at_top.parts.units
cut_inverse = record { each = each }
  where
    each : (j k : ℕ) → j < 2 → k < 2
        → combined (tight_rows one_cut cut_at_top.area [] cut_at_top.parts.tight) (unit_at cut_at_top.parts.units j) k
        ≡ (if nat_eq j k then pos 1 else pos 0)
    each zero zero b c = refl
    each zero (suc zero) b c = refl
    each (suc zero) zero b c = refl
    each (suc zero) (suc zero) b c = refl
    each zero (suc (suc k)) b c = absurd (omega arith)
    each (suc zero) (suc (suc k)) b c = absurd (omega arith)
    each (suc (suc j)) k b c = absurd (omega arith)

cut_tight : IsTightAt one_cut (tight_rows one_cut cut_at_top.area [] cut_at_top.parts.tight) (two (pos 1) (pos 1))
cut_tight = record { inside = (is_in_decides one_cut (two (pos 1) (pos 1))).0 refl; equal = equal }
  where
    equal : (i : ℕ) → i < 2
        → dot (linear_at (tight_rows one_cut cut_at_top.area [] cut_at_top.parts.tight) i).coef (two (pos 1) (pos 1))
        ≡ (linear_at (tight_rows one_cut cut_at_top.area [] cut_at_top.parts.tight) i).rhs
    equal zero b = refl
    equal (suc zero) b = refl
    equal (suc (suc i)) b = absurd (omega arith)

cut_step : IsCutStep one_cut [] cut_at_top
cut_step = record {
  area = cut_area;
  within = part_of_itself (root one_cut);
  row = refl;
  shown = record {
    size = cut_size;
    inverse = cut_inverse;
    tight = cut_tight;
    response = record { response = response_to_one; cheaper = lt_z_yes tt };
  };
}

cut_closes : IsBounded one_cut one_cut_closes (root one_cut) (weights (pos 1) (three (pos 0) (pos 0) (pos 2))) false
    (0 ∷ [])
cut_closes = record {
  few = omega arith;
  rising = λ k b. absurd (omega arith);
  there =
      All-cons (IsCited one_cut_closes.cuts (root one_cut)) 0 []
      (record { below = omega arith; within = part_of_itself (root one_cut) })
      (All-nil (IsCited one_cut_closes.cuts (root one_cut)));
  value = None;
  has = (refl, refl);
  proof =
      proves_from_tests (leaf_problem one_cut (root one_cut) None (cut_at_top.row ∷ [])) (Some (negsuc 0))
      (weights (pos 1) (three (pos 0) (pos 0) (pos 2))) refl (le_z_yes tt) (le_z_yes tt) refl (λ e. cc) (lt_z_yes tt);
}

one_cut_accepted : IsAccepted one_cut one_cut_closes
one_cut_accepted = record {
  point = record {
    inside = (is_in_decides one_cut (two (pos 1) (pos 0))).0 refl;
    rows = (meets_rows_decides one_cut (two (pos 1) (pos 0))).0 refl;
    value = refl;
    follower = (one (pos 0), (0, answer_to_one, omega arith, refl, (refl, refl)));
  };
  entries = one_proved one_cut answer_to_one proved_at_one;
  rising = one_is_rising answer_to_one;
  cuts = (cut_step, tt);
  tree = (cut_closes, tt);
}

without_cut_refused : ¬ IsAccepted one_cut no_cut_closes
without_cut_refused h =
    let b = h.tree.0 in
    let proof =
    subst (λ (v : Option ℤ). Proves (leaf_problem one_cut (root one_cut) v []) (Some (negsuc 0))
    (weights (pos 1) (two (pos 0) (pos 0)))) b.has.0 b.proof in
    clash_ℤ proof.beyond (le_z_yes tt)

pub worked_certificates : WorkedCertificates
worked_certificates = record {
  infeasible = refusal_accepted;
  infeasible_holds = accepted_law leader_refuses refusal worked_examples.program_facts.fifth.0 refusal_accepted;
  without_value = without_value_refused;
  optimal = one_cut_accepted;
  optimal_holds = accepted_law one_cut one_cut_closes worked_examples.program_facts.eighth.0 one_cut_accepted;
  without_cut = without_cut_refused;
}
