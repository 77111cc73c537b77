-- What is kept while a tree grows, and what it shows at its end.
use Rattle.std.proofs.Common.{◌≡◌, ℕ, ◌+◌, ◌*◌, ◌≤◌, List, [], ◌∷◌, ◌++◌, length, refl, sym, subst, arith}
use Rattle.std.specs.Prelude.{ℤ, Option, Some, None, All, false}
use Rattle.std.proofs.lemmas.Bool.{false≢true}
use Rattle.std.proofs.lemmas.List.{length-append, map-append, append-nil}
use Rattle.std.proofs.lemmas.List.Elements.{All-append, All-cons, All-nil, Contains-push, Contains-append_left}
use Rattle.bl_terms.specs.Points.{Area, IsOnePoint}
use Rattle.bl_terms.specs.Bounds.{Problem, Multipliers, Proves, over}
use Rattle.bl_terms.specs.Trees.{CanSplit, low_half, high_half, point_count}
use Rattle.bl_terms.proofs.TreeLemmas.{point_count-split, point_count-positive}
use Rattle.bl_licence.specs.declared.why.Why.{Why}
use Rattle.bl_fproof.specs.declared.answered.Step.{Step}
use Rattle.bl_fproof.specs.declared.answered.Step.TheVariants as step
use Rattle.bl_fproof.specs.Steps.{node_of, nodes_of}
use Rattle.bl_fproof.specs.Stacks.{IsPart}
use Rattle.bl_fproof.specs.Entries.{Closes}
use Rattle.bl_fproof.proofs.Walks.{low_is_part, high_is_part}
use Rattle.bl_follower_tree.specs.declared.licensed.LicensedNode.{LicensedNode}
use Rattle.bl_follower_tree.specs.declared.licensed.LicensedNode.TheVariants as node
use Rattle.bl_follower_tree.specs.Licences.{Licenses, IsLicensed, IsFinished, split_of}
use Rattle.bl_follower_tree.specs.Shapes.{HaveSameSplits, split_of_step}
use Rattle.bl_follower_tree.specs.Openings.{Opens, AreParts, points_of}
use Rattle.bl_follower_tree.specs.Growth.{Grown, IsGrown, IsLowered}
use Rattle.bl_follower_tree.specs.Growth.{beginning, shut_by, split_by, left_by}
use Rattle.bl_follower_tree.proofs.Openings.{opens_more, opens_all, opens_too}
use Rattle.bl_follower_tree.proofs.Licences.{licenses_more}
use Rattle.bl_follower_tree.proofs.Cutoffs.{proves_too}

-- ---- one more node

finished_more : (nodes : List LicensedNode) (n : LicensedNode) → All IsFinished nodes → IsFinished n
    → All IsFinished (nodes ++ n ∷ [])
finished_more nodes n h f =
    All-append IsFinished nodes (n ∷ []) h (All-cons IsFinished n [] f (All-nil IsFinished))

same_more : (nodes : List LicensedNode) (steps : List Step) (n : LicensedNode) (s : Step) → HaveSameSplits nodes steps
    → split_of n ≡ split_of_step s → HaveSameSplits (nodes ++ n ∷ []) (steps ++ s ∷ [])
same_more nodes steps n s h e =
    let one = map-append split_of nodes (n ∷ []) in
    let two = map-append split_of_step steps (s ∷ []) in
    cc

opens_one_more : (q : Problem) (u : Option ℤ) (steps : List Step) (s : Step) (stack rest end : List Area)
    → Opens q u (nodes_of steps) stack rest → Opens q u (node_of s ∷ []) rest end
    → Opens q u (nodes_of (steps ++ s ∷ [])) stack end
opens_one_more q u steps s stack rest end h m =
    subst (λ ns. Opens q u ns stack end) (sym (map-append node_of steps (s ∷ [])))
    (opens_more q u (nodes_of steps) (node_of s ∷ []) stack rest end h m)

one_longer : {X : Type 0} (xs : List X) (x : X) → length (xs ++ x ∷ []) ≡ length xs + 1
one_longer xs x = length-append xs (x ∷ [])

-- ---- the tree grows

pub grown_at_start : (q : Problem) → IsPart q q.area → IsGrown q None (beginning q.area) (q.area ∷ [])
grown_at_start q part = record {
  parts = (part, tt);
  licensed = refl;
  shown = λ _. record { opens = refl; same = refl; finished = All-nil IsFinished };
  left = λ e. absurd (false≢true e);
  room = omega arith;
}

pub grown_by_shut : (q : Problem) (u : Option ℤ) (g : Grown) (a : Area) (boxes : List Area) (w : Multipliers)
    → IsGrown q u g (a ∷ boxes) → Proves (over q a) u w → IsGrown q u (shut_by g w) boxes
grown_by_shut q u g a boxes w h p = record {
  parts = h.parts.1;
  licensed = subst (λ us. Licenses q (g.nodes ++ node.Shut ∷ []) us (q.area ∷ []) boxes) (append-nil g.cutoffs)
      (licenses_more q g.nodes (node.Shut ∷ []) g.cutoffs [] (q.area ∷ []) (a ∷ boxes) boxes h.licensed refl);
  shown = λ e. let so_far = h.shown e in record {
    opens = opens_one_more q u g.steps (step.Shut w) (q.area ∷ []) (a ∷ boxes) boxes so_far.opens (p, refl);
    same = same_more g.nodes g.steps node.Shut (step.Shut w) so_far.same refl;
    finished = finished_more g.nodes node.Shut so_far.finished tt;
  };
  left = λ e. let l = h.left e in (l.0, Contains-append_left g.nodes (node.Shut ∷ []) (node.Left (Some l.0)) l.1);
  room = let one = one_longer g.nodes node.Shut in let room = h.room in
      let some = point_count-positive a h.parts.0.area in omega arith;
}

pub grown_by_split : (q : Problem) (u c : Option ℤ) (g : Grown) (a : Area) (boxes : List Area) (j : ℕ) (v : ℤ)
    (why : Why) → IsGrown q u g (a ∷ boxes) → CanSplit a j v → IsLicensed q a c why
    → IsGrown q u (split_by g j v (low_half a j v, high_half a j v) c why) (low_half a j v ∷ high_half a j v ∷ boxes)
grown_by_split q u c g a boxes j v why h can l =
    let halves : List Area = low_half a j v ∷ high_half a j v ∷ boxes in
    record {
      parts = (low_is_part q a j v h.parts.0 can, (high_is_part q a j v h.parts.0 can, h.parts.1));
      licensed = licenses_more q g.nodes (node.Split j v why ∷ []) g.cutoffs (c ∷ []) (q.area ∷ []) (a ∷ boxes)
          halves h.licensed ((can, l), refl);
      shown = λ e. let so_far = h.shown e in record {
        opens = opens_one_more q u g.steps (step.Split j v) (q.area ∷ []) (a ∷ boxes) halves so_far.opens
            (can, refl);
        same = same_more g.nodes g.steps (node.Split j v why) (step.Split j v) so_far.same refl;
        finished = finished_more g.nodes (node.Split j v why) so_far.finished tt;
      };
      left = λ e. let l = h.left e in
          (l.0, Contains-append_left g.nodes (node.Split j v why ∷ []) (node.Left (Some l.0)) l.1);
      room = let one = one_longer g.nodes (node.Split j v why) in let room = h.room in
          let both = point_count-split a j v can h.parts.0.area in omega arith;
    }

pub grown_by_leave : (q : Problem) (u c : Option ℤ) (g : Grown) (a : Area) (boxes : List Area) (why : Why)
    → IsGrown q u g (a ∷ boxes) → ¬ IsOnePoint a → IsLicensed q a c why → IsGrown q u (left_by g c why) boxes
grown_by_leave q u c g a boxes why h many l = record {
  parts = h.parts.1;
  licensed = licenses_more q g.nodes (node.Left (Some why) ∷ []) g.cutoffs (c ∷ []) (q.area ∷ []) (a ∷ boxes) boxes
      h.licensed ((many, l), refl);
  shown = λ e. absurd (false≢true (sym e));
  left = λ _. (why, Contains-push g.nodes (node.Left (Some why)));
  room = let one = one_longer g.nodes (node.Left (Some why)) in let room = h.room in
      let some = point_count-positive a h.parts.0.area in omega arith;
}

-- ---- the cutoff is lowered

pub grown_below : (q : Problem) (u v : Option ℤ) (g : Grown) (boxes : List Area) → IsLowered u v → IsGrown q u g boxes
    → IsGrown q v g boxes
grown_below q u v g boxes low h = record {
  parts = h.parts;
  licensed = h.licensed;
  shown = λ e. let so_far = h.shown e in record {
    opens = opens_too q u v (λ a w p. proves_too (over q a) u v w low p) (nodes_of g.steps) (q.area ∷ []) boxes
        so_far.opens;
    same = so_far.same;
    finished = so_far.finished;
  };
  left = h.left;
  room = h.room;
}

-- ---- the end

-- where no leaf is open the steps close the problem
pub grown_closes : (q : Problem) (u : Option ℤ) (g : Grown) → IsGrown q u g [] → g.left ≡ false
    → Closes q u (nodes_of g.steps)
grown_closes q u g h e = opens_all q u (nodes_of g.steps) (q.area ∷ []) (h.shown e).opens

few_boxes : (q : Problem) (boxes : List Area) → AreParts q boxes → length boxes ≤ points_of boxes
few_boxes q [] parts = omega arith
few_boxes q (a ∷ rest) parts =
    let i = few_boxes q rest parts.1 in let some = point_count-positive a parts.0.area in omega arith

-- a box that can be split has room for two more nodes within those that the whole box can have
pub room_for_split : (q : Problem) (u : Option ℤ) (g : Grown) (a : Area) (boxes : List Area) (j : ℕ) (v : ℤ)
    → IsGrown q u g (a ∷ boxes) → CanSplit a j v
    → length g.nodes + length boxes + 4 ≤ 2 * point_count q.area
room_for_split q u g a boxes j v h can =
    let both = point_count-split a j v can h.parts.0.area in
    let low = point_count-positive (low_half a j v) (low_is_part q a j v h.parts.0 can).area in
    let high = point_count-positive (high_half a j v) (high_is_part q a j v h.parts.0 can).area in
    let rest = few_boxes q boxes h.parts.1 in
    let room = h.room in
    omega arith
