-- Trusted. Certificates of small programs that were worked out by hand: two that are accepted, and the same two with
-- one thing changed, which are not.
use Rattle.std.specs.Prelude.{pos, negsuc, true, false, [], ◌∷◌}
use Rattle.bl_terms.specs.Responses.{Best}
use Rattle.bl_terms.specs.Trees.{Leaf}
use Rattle.bl_terms.specs.Examples.{leader_refuses, one_cut, one, two, three, weights}
use Rattle.bl_cut_terms.specs.declared.parts.Tight.TheVariants.{Row, Upper}
use Rattle.bl_cut_terms.specs.NoGoods.{CutStep}
use Rattle.bl_cert_terms.specs.declared.stated.Statement.TheVariants.{Optimal, Infeasible}
use Rattle.bl_cert_terms.specs.Certificates.{ProvedEntry, Bounded, Certificate, StatementHolds, IsAccepted}

-- X and Y from 0 to 1, Y the follower's, which minimises Y, with the leader's row Y >= 1. No row is the follower's, so
-- there is one link, the empty one, and the follower answers 0
abbrev pub answer_without_rows : ProvedEntry
answer_without_rows = record {
  link = [];
  entry = Best (one (pos 0)) (pos 0);
  proof = Leaf (weights (pos 1) []) ∷ [];
}

-- no point is bilevel feasible: the leader's row and the value row Y <= 0 add up to 0 <= -1
abbrev pub refusal : Certificate
refusal = record {
  statement = Infeasible;
  entries = answer_without_rows ∷ [];
  cuts = [];
  tree = Leaf (Bounded (weights (pos 0) (two (pos 1) (pos 1))) true []) ∷ [];
}

-- the same without the value row proves nothing
abbrev pub refusal_without_value : Certificate
refusal_without_value = record refusal {
  tree = Leaf (Bounded (weights (pos 0) (two (pos 1) (pos 0))) false []) ∷ [];
}

-- X and Y from 0 to 1, Y the follower's, which minimises Y, with the follower's row Y - X <= 0. The leader minimises -X
-- - 2Y. At the link 1 the follower answers 0
abbrev pub answer_to_one : ProvedEntry
answer_to_one = record {
  link = one (pos 1);
  entry = Best (one (pos 0)) (pos 0);
  proof = Leaf (weights (pos 1) (one (pos 0))) ∷ [];
}

-- the follower's row and X <= 1 hold with equality at (1, 1) alone, where the follower has the cheaper answer 0. They
-- add up to Y <= 1, so the cut is Y <= 0
abbrev pub cut_at_top : CutStep
cut_at_top = record {
  area = record { lo = two (pos 0) (pos 0); hi = two (pos 1) (pos 1) };
  parts = record {
    tight = Row 0 ∷ Upper 0 ∷ [];
    den = pos 1;
    units = ((1, pos 1) ∷ []) ∷ ((0, pos 1) ∷ (1, pos 1) ∷ []) ∷ [];
    point = two (pos 1) (pos 1);
    response = one (pos 0);
  };
  row = record { coef = two (pos 0) (pos 1); rhs = pos 0 };
}

-- (1, 0) is optimal with -1: the cost and twice the cut add up to -X, which is at least -1
abbrev pub one_cut_closes : Certificate
one_cut_closes = record {
  statement = Optimal (two (pos 1) (pos 0)) (negsuc 0);
  entries = answer_to_one ∷ [];
  cuts = cut_at_top ∷ [];
  tree = Leaf (Bounded (weights (pos 1) (three (pos 0) (pos 0) (pos 2))) false (0 ∷ [])) ∷ [];
}

-- the same without the cut proves too little
abbrev pub no_cut_closes : Certificate
no_cut_closes = record one_cut_closes {
  tree = Leaf (Bounded (weights (pos 1) (two (pos 0) (pos 0))) false []) ∷ [];
}

-- THE FACTS
pub record WorkedCertificates : Type 0 where
  pub infeasible : IsAccepted leader_refuses refusal
  pub infeasible_holds : StatementHolds leader_refuses refusal.statement
  pub without_value : ¬ IsAccepted leader_refuses refusal_without_value
  pub optimal : IsAccepted one_cut one_cut_closes
  pub optimal_holds : StatementHolds one_cut one_cut_closes.statement
  pub without_cut : ¬ IsAccepted one_cut no_cut_closes
