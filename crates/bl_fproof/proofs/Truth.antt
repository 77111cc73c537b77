-- An admitted answer is true, and an answer is shown exactly where its point and its tree over the whole problem are.
use Rattle.std.proofs.Common.{◌≡◌, ℕ, ◌<◌, List, length, sym, ◌∙◌, inl, inr}
use Rattle.std.specs.Prelude.{ℤ, Option, Some, None, ◌↔◌, ◌⊎◌, MatchOption}
use Rattle.std.proofs.lemmas.List.{length-map}
use Rattle.bl_whole.specs.Sums.{component}
use Rattle.bl_terms.specs.Points.{InArea}
use Rattle.bl_terms.specs.Programs.{Program}
use Rattle.bl_terms.specs.Responses.{IsResponse}
use Rattle.bl_terms.proofs.PlaceLemmas.{values_at-entry}
use Rattle.bl_terms.specs.FollowerProofs.{follower_box}
use Rattle.bl_terms.proofs.FollowerProofLemmas.{follower_proof_law, follower_points}
use Rattle.bl_terms.proofs.PointLemmas.{part_of_itself}
use Rattle.bl_model.specs.View.{IsModel}
use Rattle.bl_fproof.specs.declared.answered.FollowerProof.{FollowerProof}
use Rattle.bl_fproof.specs.declared.answered.Answered.TheVariants.{Best, NoResponse}
use Rattle.bl_fproof.specs.Steps.{entry_of, tree_of, nodes_of}
use Rattle.bl_fproof.specs.Entries.{Admitted, IsAdmitted, IsTrueAnswer, Closes, FailsToClose, FailsAt, IsShown}
use Rattle.bl_fproof.specs.Entries.{IsPointOfCost, IsResponseOfCost, whole_problem}
use Rattle.bl_fproof.specs.Points.{FailsAsPoint}

pub admitted_is_true : (e : Admitted) → IsAdmitted e → IsTrueAnswer e
admitted_is_true e is =
    follower_proof_law e.program e.link (entry_of e.answered) (tree_of e.answered) is.model.sound is.shown

-- the points of that cost are the responses of that cost
response_from_point : (p : Program) (l y : List ℤ) (v : ℤ) → IsModel p → IsPointOfCost (whole_problem p l) y v
    → IsResponseOfCost p l y v
response_from_point p l y v m h = record {
  response = ((follower_points p l y (follower_box p) m.sound (part_of_itself (follower_box p))).0 h.0).1;
  cost = h.1;
}

response_inside : (p : Program) (l y : List ℤ) → IsResponse p l y → InArea (follower_box p) y
response_inside p l y r = record {
  columns = r.ranges.count ∙ sym (length-map p.follower (λ k. component p.lo k));
  least = λ j b. let b' : j < length p.follower = rw length-map at b in
      rw (values_at-entry p.lo p.follower j b') (r.ranges.least j b');
  most = λ j b. let b' : j < length p.follower = rw length-map at b in
      rw (values_at-entry p.hi p.follower j b') (r.ranges.most j b');
}

point_from_response : (p : Program) (l y : List ℤ) (v : ℤ) → IsModel p → IsResponseOfCost p l y v
    → IsPointOfCost (whole_problem p l) y v
point_from_response p l y v m h = (
  (follower_points p l y (follower_box p) m.sound (part_of_itself (follower_box p))).1
      (response_inside p l y h.response, h.response),
  h.cost,
)

pub best_is_shown : (p : Program) (l y : List ℤ) (v : ℤ) (proof : FollowerProof) (o : Option ℕ) → IsModel p
    → MatchOption o (IsPointOfCost (whole_problem p l) y v × Closes (whole_problem p l) (Some v) (nodes_of proof.steps))
    (FailsAsPoint (whole_problem p l) y v (nodes_of proof.steps))
    → MatchOption o (IsShown p l (Best y v proof)) (FailsAt p l (Best y v proof))
best_is_shown p l y v proof None m h =
    let response = response_from_point p l y v m h.0 in
    record { response = response.response; value = response.cost; tree = h.1 }
best_is_shown p l y v proof (Some k) m (inl h) = inl (λ r. h.0 (point_from_response p l y v m r), h.1)
best_is_shown p l y v proof (Some k) m (inr h) = inr (response_from_point p l y v m h.0, h.1)

pub none_is_shown : (p : Program) (l : List ℤ) (proof : FollowerProof) (o : Option ℕ)
    → MatchOption o (Closes (whole_problem p l) None (nodes_of proof.steps))
    (FailsToClose (whole_problem p l) None (nodes_of proof.steps))
    → MatchOption o (IsShown p l (NoResponse proof)) (FailsAt p l (NoResponse proof))
none_is_shown p l proof None h = h
none_is_shown p l proof (Some k) h = h
