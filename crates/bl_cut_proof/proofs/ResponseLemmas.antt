-- The follower's problem at a point's link, and cheaper responses.
use Rattle.std.proofs.Common.{◌≡◌, sym, ◌∙◌, ap, subst, Bool, List, ◌↔◌}
use Rattle.std.specs.Prelude.{ℤ, ◌<ℤ◌, IsTrue}
use Rattle.bl_whole.specs.Sums.{dot}
use Rattle.bl_terms.specs.Points.{Area}
use Rattle.bl_terms.specs.Programs.{Program, IsProgram, link_of, follower_at}
use Rattle.bl_terms.specs.Responses.{response_cost}
use Rattle.bl_terms.specs.Bounds.{Problem, IsPoint, over}
use Rattle.bl_terms.specs.FollowerProofs.{follower_box}
use Rattle.bl_terms.proofs.PointLemmas.{part_of_itself}
use Rattle.bl_terms.proofs.FollowerProofLemmas.{follower_points, response_in_box}
use Rattle.bl_cut_terms.specs.NoGoods.{HasBetterResponse}
use Rattle.bl_fproof.specs.Entries.{whole_problem}

-- the problem over its own box
over_itself : (rows q : Problem) (lo hi : List ℤ) → q ≡ over rows (record { lo = lo; hi = hi }) → lo ≡ rows.area.lo
    → hi ≡ rows.area.hi → q ≡ rows
over_itself rows q lo hi e l h =
    e ∙ ap (λ x. over rows (let a : Area = record { lo = x; hi = hi } in a)) l
    ∙ ap (λ x. over rows (let a : Area = record { lo = rows.area.lo; hi = x } in a)) h

pub problem_at_link : (p : Program) (rows q : Problem) (lo hi l z : List ℤ) → q
    ≡ over rows (record { lo = lo; hi = hi })
    → lo ≡ rows.area.lo → hi ≡ rows.area.hi → rows ≡ whole_problem p l → l ≡ link_of p z
    → q ≡ whole_problem p (link_of p z)
problem_at_link p rows q lo hi l z e f g is link = over_itself rows q lo hi e f g ∙ is ∙ ap (whole_problem p) link

-- a cheaper point of the follower's problem is a better response
pub better : (p : Program) (q : Problem) (z y : List ℤ) (cost : ℤ) (r : Bool) → IsProgram p
    → q ≡ whole_problem p (link_of p z) → cost ≡ follower_at p z
    → IsTrue r ↔ (IsPoint q y × (dot q.cost y <ℤ cost)) → IsTrue r ↔ HasBetterResponse p z y
better p q z y cost r g e f h =
    let law = follower_points p (link_of p z) y (follower_box p) g (part_of_itself (follower_box p)) in (
      λ t.
          let both = h.0 t in
          let point = subst (λ (x : Problem). IsPoint x y) e both.0 in
          let less = subst (λ (x : Problem). dot x.cost y <ℤ cost) e both.1 in
          record { response = (law.0 point).1; cheaper = subst (λ (c : ℤ). response_cost p y <ℤ c) f less },
      λ b.
          let point = law.1 (response_in_box p (link_of p z) y b.response, b.response) in
          h.1 (
            subst (λ (x : Problem). IsPoint x y) (sym e) point,
            subst (λ (x : Problem). dot x.cost y <ℤ cost) (sym e)
                (subst (λ (c : ℤ). response_cost p y <ℤ c) (sym f) b.cheaper),
          ),
    )
