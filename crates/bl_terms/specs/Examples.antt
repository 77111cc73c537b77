-- Trusted. Small bilevel programs with their answers worked out by hand, and the facts on them that the definitions
-- have to give.
use Rattle.std.specs.Prelude.{ℕ, ℤ, pos, negsuc, ◌≡◌, ◌≤ℤ◌, true, false, Some, List, [], ◌∷◌}
use Rattle.bl_whole.specs.Sums.{dot}
use Rattle.bl_terms.specs.Points.{Area}
use Rattle.bl_terms.specs.Programs.{Program, Row, IsProgram, KeepsLimits, MeetsRows, MeetsLowerRows, cost_at}
use Rattle.bl_terms.specs.Programs.{follower_at}
use Rattle.bl_terms.specs.Feasible.{BilevelFeasible, Optimal, IsOnlyOptimum, Infeasible}
use Rattle.bl_terms.specs.Responses.{Best, NoResponse, IsTrueEntry, IsFollowerOptimum}
use Rattle.bl_terms.specs.Bounds.{IsProblem, IsPoint, relaxation, Multipliers, Proves}
use Rattle.bl_terms.specs.FollowerProofs.{IsFollowerProof}
use Rattle.bl_terms.specs.Trees.{BareNode, Leaf, Split, leaf_boxes, IsTree, point_count}

-- a row of the leader, and of the follower
abbrev pub leader_row : List ℤ → ℤ → Row
leader_row c b = record { coef = c; rhs = b; lower = false }

abbrev pub lower_row : List ℤ → ℤ → Row
lower_row c b = record { coef = c; rhs = b; lower = true }

-- a program without columns, in which both minimise: what the examples below fill in
abbrev pub blank : Program
blank = record {
  lo = [];
  hi = [];
  rows = [];
  cost = [];
  follower_cost = [];
  follower = [];
  links = [];
  sense = pos 1;
  leader_sense = pos 1;
}

-- Moore and Bard (1990): columns X and Y from 0 to 10, Y the follower's. The leader minimises -X - 10Y and
-- the follower Y, over the follower's rows -25X + 20Y <= 30, X + 2Y <= 10, 2X - Y <= 15 and 2X + 10Y >= 15
abbrev pub moore_bard : Program
moore_bard = record blank {
  lo = pos 0 ∷ pos 0 ∷ [];
  hi = pos 10 ∷ pos 10 ∷ [];
  rows = lower_row (negsuc 24 ∷ pos 20 ∷ []) (pos 30) ∷ lower_row (pos 1 ∷ pos 2 ∷ []) (pos 10)
      ∷ lower_row (pos 2 ∷ negsuc 0 ∷ []) (pos 15)
      ∷ lower_row (negsuc 1 ∷ negsuc 9 ∷ []) (negsuc 14) ∷ [];
  cost = negsuc 0 ∷ negsuc 9 ∷ [];
  follower_cost = pos 0 ∷ pos 1 ∷ [];
  follower = 1 ∷ [];
  links = 0 ∷ [];
}

-- X from 0 to 3 and Y, the follower's, from 0 to 5, with the follower's row Y - X <= 0. The leader minimises
-- Y - 2X, and the follower maximises Y
abbrev pub greatest_answer : Program
greatest_answer = record blank {
  lo = pos 0 ∷ pos 0 ∷ [];
  hi = pos 3 ∷ pos 5 ∷ [];
  rows = lower_row (negsuc 0 ∷ pos 1 ∷ []) (pos 0) ∷ [];
  cost = negsuc 1 ∷ pos 1 ∷ [];
  follower_cost = pos 0 ∷ negsuc 0 ∷ [];
  follower = 1 ∷ [];
  links = 0 ∷ [];
  sense = negsuc 0;
}

-- the same, but the follower minimises Y
abbrev pub least_answer : Program
least_answer = record greatest_answer { follower_cost = pos 0 ∷ pos 1 ∷ []; sense = pos 1 }

-- the same box, row and follower that maximises, but the leader maximises 2X - Y
abbrev pub leader_maximises : Program
leader_maximises = record greatest_answer { leader_sense = negsuc 0 }

-- X, Y1 and Y2 from 0 to 1, Y1 and Y2 the follower's at no cost, with the leader's row Y1 + Y2 <= 1. The leader
-- minimises -Y1 - Y2
abbrev pub leader_chooses : Program
leader_chooses = record blank {
  lo = pos 0 ∷ pos 0 ∷ pos 0 ∷ [];
  hi = pos 1 ∷ pos 1 ∷ pos 1 ∷ [];
  rows = leader_row (pos 0 ∷ pos 1 ∷ pos 1 ∷ []) (pos 1) ∷ [];
  cost = pos 0 ∷ negsuc 0 ∷ negsuc 0 ∷ [];
  follower_cost = pos 0 ∷ pos 0 ∷ pos 0 ∷ [];
  follower = 1 ∷ 2 ∷ [];
}

-- X and Y from 0 to 1, Y the follower's, which minimises Y, with the leader's row Y >= 1. The leader minimises X
abbrev pub leader_refuses : Program
leader_refuses = record blank {
  lo = pos 0 ∷ pos 0 ∷ [];
  hi = pos 1 ∷ pos 1 ∷ [];
  rows = leader_row (pos 0 ∷ negsuc 0 ∷ []) (negsuc 0) ∷ [];
  cost = pos 1 ∷ pos 0 ∷ [];
  follower_cost = pos 0 ∷ pos 1 ∷ [];
  follower = 1 ∷ [];
}

-- A and B from 0 to 3 with the row A + 2B <= 4 and no follower. The leader minimises -2A - 3B
abbrev pub no_follower : Program
no_follower = record blank {
  lo = pos 0 ∷ pos 0 ∷ [];
  hi = pos 3 ∷ pos 3 ∷ [];
  rows = leader_row (pos 1 ∷ pos 2 ∷ []) (pos 4) ∷ [];
  cost = negsuc 1 ∷ negsuc 2 ∷ [];
  follower_cost = pos 0 ∷ pos 0 ∷ [];
}

-- one column, fixed to 3, with the row X <= rhs. The leader minimises 2X
abbrev pub one_point : ℤ → Program
one_point rhs = record blank {
  lo = pos 3 ∷ [];
  hi = pos 3 ∷ [];
  rows = leader_row (pos 1 ∷ []) rhs ∷ [];
  cost = pos 2 ∷ [];
  follower_cost = pos 0 ∷ [];
}

-- X and Y from 0 to 1, Y the follower's at 3 a piece, with the follower's row 2Y >= 1. The leader minimises -X
abbrev pub half_row : Program
half_row = record blank {
  lo = pos 0 ∷ pos 0 ∷ [];
  hi = pos 1 ∷ pos 1 ∷ [];
  rows = lower_row (pos 0 ∷ negsuc 1 ∷ []) (negsuc 0) ∷ [];
  cost = negsuc 0 ∷ pos 0 ∷ [];
  follower_cost = pos 0 ∷ pos 3 ∷ [];
  follower = 1 ∷ [];
}

-- X and Y from 0 to 1, Y the follower's, which minimises Y, with the follower's row Y - X <= 0. The leader minimises -X
-- - 2Y
abbrev pub one_cut : Program
one_cut = record blank {
  lo = pos 0 ∷ pos 0 ∷ [];
  hi = pos 1 ∷ pos 1 ∷ [];
  rows = lower_row (negsuc 0 ∷ pos 1 ∷ []) (pos 0) ∷ [];
  cost = negsuc 0 ∷ negsuc 1 ∷ [];
  follower_cost = pos 0 ∷ pos 1 ∷ [];
  follower = 1 ∷ [];
  links = 0 ∷ [];
}

-- a point, written short
abbrev pub one : ℤ → List ℤ
one a = a ∷ []

abbrev pub two : ℤ → ℤ → List ℤ
two a b = a ∷ b ∷ []

abbrev pub three : ℤ → ℤ → ℤ → List ℤ
three a b c = a ∷ b ∷ c ∷ []

-- THE FACTS

-- Moore and Bard's program: (2, 2) is the only optimum, with -22. (2, 4) meets all rows and costs -42, but the follower
-- would answer 2
pub record MooreBardFacts : Type 0 where
  pub optimum : IsOnlyOptimum moore_bard (two (pos 2) (pos 2)) (negsuc 21)
  pub follower : follower_at moore_bard (two (pos 2) (pos 2)) ≡ pos 2
  pub vertex_rows : MeetsRows moore_bard (two (pos 2) (pos 4))
  pub vertex_cost : cost_at moore_bard (two (pos 2) (pos 4)) ≡ negsuc 41
  pub vertex : ¬ BilevelFeasible moore_bard (two (pos 2) (pos 4))

-- the follower's sense decides: where it maximises, (3, 3) is the only optimum, with -3; where it minimises, (3, 0),
-- with -6
pub record SenseFacts : Type 0 where
  pub greatest : IsOnlyOptimum greatest_answer (two (pos 3) (pos 3)) (negsuc 2)
  pub least : IsOnlyOptimum least_answer (two (pos 3) (pos 0)) (negsuc 5)

-- the leader's sense turns the value alone: maximising 2X - Y finds the same point (3, 3), with 3
pub record LeaderSenseFacts : Type 0 where
  pub program : IsProgram leader_maximises
  pub optimum : IsOnlyOptimum leader_maximises (two (pos 3) (pos 3)) (pos 3)

-- among equal optima of the follower the leader has the choice, and its rows may rule some of them out:
-- (0, 0, 1) and (0, 1, 0) are optimal with -1. (0, 1, 1) has the follower's least cost and is ruled out by
-- the leader's row
pub record ChoiceFacts : Type 0 where
  pub optimum : Optimal leader_chooses (three (pos 0) (pos 1) (pos 0)) (negsuc 0)
  pub another : Optimal leader_chooses (three (pos 1) (pos 0) (pos 1)) (negsuc 0)
  pub reaches_least : MeetsLowerRows leader_chooses (three (pos 0) (pos 1) (pos 1))
      × (follower_at leader_chooses (three (pos 0) (pos 1) (pos 1)) ≡ pos 0)
  pub ruled_out : ¬ BilevelFeasible leader_chooses (three (pos 0) (pos 1) (pos 1))

-- a row of the leader doesn't change the follower's least cost: the follower answers 0, which the leader's
-- row refuses at each point, so no point is bilevel feasible, though (0, 1) meets every row
pub record RefusalFacts : Type 0 where
  pub rows : MeetsRows leader_refuses (two (pos 0) (pos 1))
  pub least : IsFollowerOptimum leader_refuses (two (pos 0) (pos 1)) (pos 0)
  pub infeasible : Infeasible leader_refuses

-- programs without a follower's column are programs of one level
pub record OneLevelFacts : Type 0 where
  pub optimum : IsOnlyOptimum no_follower (two (pos 2) (pos 1)) (negsuc 6)
  pub fixed : IsOnlyOptimum (one_point (pos 3)) (one (pos 3)) (pos 6)
  pub ruled_out : Infeasible (one_point (pos 2))

-- whole numbers count: 2Y >= 1 makes Y 1; and one cut closes a box
pub record WholeFacts : Type 0 where
  pub half : IsOnlyOptimum half_row (two (pos 1) (pos 1)) (negsuc 0)
  pub half_follower : follower_at half_row (two (pos 1) (pos 1)) ≡ pos 3
  pub cut : IsOnlyOptimum one_cut (two (pos 1) (pos 0)) (negsuc 0)

-- the range from 0 to 3, split at 1
abbrev pub four_numbers : Area
four_numbers = record { lo = one (pos 0); hi = one (pos 3) }

abbrev pub split_at_one : List (BareNode ℕ)
split_at_one = Split 0 (pos 1) tt ∷ Leaf 0 ∷ Leaf 1 ∷ []

-- one side has the numbers 0 and 1, the other 2 and 3
pub record SplitFacts : Type 0 where
  pub tree : IsTree split_at_one four_numbers
  pub parts : leaf_boxes split_at_one (four_numbers ∷ []) ≡ record { lo = one (pos 0); hi = one (pos 1) }
      ∷ record { lo = one (pos 2); hi = one (pos 3) } ∷ []
  pub points : point_count four_numbers ≡ 4

-- the examples are programs, and keep the limits
pub record ProgramFacts : Type 0 where
  pub first : IsProgram moore_bard × KeepsLimits moore_bard
  pub second : IsProgram greatest_answer × KeepsLimits greatest_answer
  pub third : IsProgram least_answer × KeepsLimits least_answer
  pub fourth : IsProgram leader_chooses × KeepsLimits leader_chooses
  pub fifth : IsProgram leader_refuses × KeepsLimits leader_refuses
  pub sixth : IsProgram no_follower × KeepsLimits no_follower
  pub seventh : IsProgram half_row × KeepsLimits half_row
  pub eighth : IsProgram one_cut × KeepsLimits one_cut
  pub ninth : IsProgram (one_point (pos 2)) × KeepsLimits (one_point (pos 2))
  pub tenth : IsProgram (one_point (pos 3)) × KeepsLimits (one_point (pos 3))

-- dual multipliers, written short
abbrev pub weights : ℤ → List ℤ → Multipliers
weights d ms = record { den = d; mult = ms }

abbrev pub four : ℤ → ℤ → ℤ → ℤ → List ℤ
four a b c d = a ∷ b ∷ c ∷ d ∷ []

-- 4 times the first row and 135 times the second are 35 times the cost of Moore and Bard's program: they
-- prove that no point costs less than -42, and don't prove that of -41
pub record BoundFacts : Type 0 where
  pub problem : IsProblem (relaxation moore_bard)
  pub proved : Proves (relaxation moore_bard) (Some (negsuc 41))
      (weights (pos 35) (four (pos 4) (pos 135) (pos 0) (pos 0)))
  pub unproved : ¬ Proves (relaxation moore_bard) (Some (negsuc 40))
      (weights (pos 35) (four (pos 4) (pos 135) (pos 0) (pos 0)))
  pub bounded : (z : List ℤ) → IsPoint (relaxation moore_bard) z → negsuc 41 ≤ℤ dot moore_bard.cost z

-- trees that prove the entries of Moore and Bard's program at the links 2, 0 and 9
abbrev pub tree_at_two : List (BareNode Multipliers)
tree_at_two = Leaf (weights (pos 10) (four (pos 0) (pos 0) (pos 0) (pos 1))) ∷ []

abbrev pub tree_at_zero : List (BareNode Multipliers)
tree_at_zero =
    Split 0 (pos 1) tt ∷ Leaf (weights (pos 0) (four (pos 0) (pos 0) (pos 0) (pos 1)))
    ∷ Leaf (weights (pos 0) (four (pos 1) (pos 0) (pos 0) (pos 0))) ∷ []

abbrev pub tree_at_nine : List (BareNode Multipliers)
tree_at_nine = Leaf (weights (pos 0) (four (pos 0) (pos 1) (pos 2) (pos 0))) ∷ []

-- link 2 has the best response 2, at 2; links 0 and 9 have no response
pub record EntryFacts : Type 0 where
  pub proof_at_two : IsFollowerProof moore_bard (one (pos 2)) (Best (one (pos 2)) (pos 2)) tree_at_two
  pub proof_at_zero : IsFollowerProof moore_bard (one (pos 0)) NoResponse tree_at_zero
  pub proof_at_nine : IsFollowerProof moore_bard (one (pos 9)) NoResponse tree_at_nine
  pub entry_at_two : IsTrueEntry moore_bard (one (pos 2)) (Best (one (pos 2)) (pos 2))
  pub entry_at_zero : IsTrueEntry moore_bard (one (pos 0)) NoResponse
  pub entry_at_nine : IsTrueEntry moore_bard (one (pos 9)) NoResponse

-- all of them
pub record WorkedExamples : Type 0 where
  pub moore_bard_facts : MooreBardFacts
  pub sense_facts : SenseFacts
  pub leader_sense_facts : LeaderSenseFacts
  pub choice_facts : ChoiceFacts
  pub refusal_facts : RefusalFacts
  pub one_level_facts : OneLevelFacts
  pub whole_facts : WholeFacts
  pub split_facts : SplitFacts
  pub program_facts : ProgramFacts
  pub bound_facts : BoundFacts
  pub entry_facts : EntryFacts
