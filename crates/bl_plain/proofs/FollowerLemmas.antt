-- The bilevel feasible points with one list of leader values.
use Rattle.std.proofs.Common.{List, ◌∙◌, sym, ⊎_elim, arith}
use Rattle.std.specs.Prelude.{ℤ, pos, None, Some}
use Rattle.std.proofs.lemmas.Bool.{cases_lt}
use Rattle.std.proofs.lemmas.Int.{ints}
use Rattle.std.proofs.lemmas.List.{get_or_past}
use Rattle.bl_terms.specs.Programs.{Program, InBox, MeetsLowerRows, MeetsRows, SameLead, columns}
use Rattle.bl_terms.specs.Feasible.{BilevelFeasible}
use Rattle.bl_model.specs.View.{IsModel}
use Rattle.bl_plain.specs.Walk.{Varies, Best, Improves, Among, AnswersAt, IsLeastCost}
use Rattle.bl_plain.proofs.WalkLemmas.{In-varies, Varies-trans, Varies-back}
use Rattle.bl_plain.proofs.BestLemmas.{Improves-same, Improves-none}

-- points that vary one on the follower's columns have the same leader values
lead_from_varies : (p : Program) (z z' w : List ℤ) → Varies p p.follower z z' → Varies p p.follower z w
    → SameLead p z' w
lead_from_varies p z z' w v u = record { agree = λ k leader. v.others k leader.leads ∙ sym (u.others k leader.leads) }

-- and the other way round, in the box
varies_from_lead : (p : Program) (z z' w : List ℤ) → IsModel p → InBox p z → Varies p p.follower z z' → InBox p w
    → SameLead p z' w → Varies p p.follower z w
varies_from_lead p z z' w m is v in' lead = record {
  count = in'.columns ∙ sym is.columns;
  others = λ k out. ⊎_elim
      (λ below. sym (lead.agree k (record { column = below; leads = out })) ∙ v.others k out)
      (λ above. get_or_past w k (pos 0) (omega (arith, above, in'.columns))
      ∙ sym (get_or_past z k (pos 0) (omega (arith, above, is.columns))))
      (cases_lt k (columns p));
  least = λ k has. in'.least k (m.sound.follower_below k has);
  most = λ k has. in'.most k (m.sound.follower_below k has);
}

rows_lower : (p : Program) (z : List ℤ) → MeetsRows p z → MeetsLowerRows p z
rows_lower p z h = record { each = λ i below lower. h.each i below }

-- a point that meets all rows at the follower's least cost is bilevel feasible
feasible_from_answer : (p : Program) (z z' : List ℤ) (least : ℤ) → IsModel p → InBox p z
    → IsLeastCost p p.follower z (Some least) → Varies p p.follower z z' → AnswersAt p least z' → BilevelFeasible p z'
feasible_from_answer p z z' least m is h v a = record {
  inside = In-varies p p.follower z z' is v;
  rows = a.rows;
  least = λ w in' lower lead. rw a.cost (h.bound w (varies_from_lead p z z' w m is v in' lead) lower);
}

-- and the other way round
answer_from_feasible : (p : Program) (z z' : List ℤ) (least : ℤ) → InBox p z → IsLeastCost p p.follower z (Some least)
    → Varies p p.follower z z' → BilevelFeasible p z' → AnswersAt p least z'
answer_from_feasible p z z' least is h v f =
    let other = h.reached in
    let up = h.bound z' v (rows_lower p z' f.rows) in
    let down = f.least other.0 (In-varies p p.follower z other.0 is other.1) other.2
    (lead_from_varies p z z' other.0 v other.1) in
    let same = other.3 in
    record { rows = f.rows; cost = omega (arith, ints) }

-- the walk of the follower's columns at his least cost finds the best bilevel feasible point
pub follower_found : (p : Program) (z z₁ : List ℤ) (least : ℤ) (a b : Best) → IsModel p → InBox p z
    → IsLeastCost p p.follower z (Some least) → Varies p p.follower z z₁
    → Improves p (Among p p.follower z₁ (AnswersAt p least)) a b
    → Improves p (Among p p.follower z (BilevelFeasible p)) a b
follower_found p z z₁ least a b m is h v =
    Improves-same p (Among p p.follower z₁ (AnswersAt p least)) (Among p p.follower z (BilevelFeasible p)) a b
    (λ z' w. let u = Varies-trans p p.follower z z₁ z' v w.0 in (u, feasible_from_answer p z z' least m is h u w.1))
    (λ z' w. (Varies-back p p.follower z z₁ z' v w.0, answer_from_feasible p z z' least is h w.0 w.1))

-- without a response there is none
pub follower_absent : (p : Program) (z : List ℤ) (a : Best) → IsLeastCost p p.follower z None
    → Improves p (Among p p.follower z (BilevelFeasible p)) a a
follower_absent p z a h =
    Improves-none p (Among p p.follower z (BilevelFeasible p)) a
    (λ z' w. elim (h.bound z' w.0 (rows_lower p z' w.1.rows)) [ ])
