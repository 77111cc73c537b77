-- Links of points of the job's box, and how the follower's solver fails there.
use Rattle.std.proofs.Common.{◌≡◌, ℕ, ◌<◌, sym, subst, arith, List, length}
use Rattle.std.specs.Prelude.{ℤ, slice_index, Option, Some, None, Result, Ok, Err, IfErr}
use Rattle.std.specs.Result.{IsErrAnd}
use Rattle.bl_terms.specs.Points.{Area, InArea, IsWithinArea, IsOnePoint, Fixes}
use Rattle.bl_terms.specs.Programs.{Program, IsProgram, columns, root, link_of}
use Rattle.bl_terms.proofs.PlaceLemmas.{values_at-entry}
use Rattle.bl_model.proofs.BoxLemmas.{links_below}
use Rattle.bl_fproof.specs.Entries.{Admitted}
use Rattle.bl_follower.specs.declared.solve.FollowerFail.{FollowerFail}
use Rattle.bl_follower.specs.declared.solve.FollowerFail.TheVariants as fails
use Rattle.bl_follower.specs.Answers.{IsFailure}
use Rattle.bl_source.specs.Sources.{KeepsEntries}
use Rattle.bl_node.specs.declared.nodes.WorkFail.{WorkFail}
use Rattle.bl_node.specs.Works.{Job, IsSoundJob, IsLinkOfBox, IsWorkFailure, fails_as}

-- a linking column is a column of the box
link_there : (p : Program) (a : Area) (i : ℕ) → IsProgram p → IsWithinArea a (root p) → i < length p.links
    → slice_index p.links i < length a.lo
link_there p a i g within b =
    let below : slice_index p.links i < columns p = links_below p g i 0 b in
    let e = within.columns in omega arith

-- the link of a point of the box lies in its ranges
link_in_box : (p : Program) (a : Area) (z : List ℤ) → IsProgram p → IsWithinArea a (root p) → InArea a z
    → IsLinkOfBox p a (link_of p z)
link_in_box p a z g within inside = record {
  least = λ i b. rw (values_at-entry z p.links i b)
      (inside.least (slice_index p.links i) (link_there p a i g within b));
  most = λ i b. rw (values_at-entry z p.links i b)
      (inside.most (slice_index p.links i) (link_there p a i g within b));
}

-- the follower's solver fails at the link of a point of the job's box
pub fails_at : (j : Job) (z : List ℤ) (budget : ℕ) (fail : FollowerFail) → IsSoundJob j → InArea j.area z
    → IsFailure j.program (link_of j.program z) budget fail → IsWorkFailure j budget (fails_as fail)
fails_at j z budget (fails.Spent s) job inside h = record {
  program = h.program;
  budget = h.nodes;
  link = subst (λ (l : List ℤ). IsLinkOfBox j.program j.area l) (sym h.link)
      (link_in_box j.program j.area z job.model.sound job.job.within inside);
  small = h.small;
}
fails_at j z budget fails.Memory job inside h = tt

-- a failure of the follower's solver as one of the work
pub err_as : {T : Type 0} (r : Result T WorkFail) (j : Job) (budget : ℕ) (fail : WorkFail)
    → IsErrAnd r (λ e. e ≡ fail) → IsWorkFailure j budget fail → IfErr r (IsWorkFailure j budget)
err_as (Ok x) j budget fail is h = tt
err_as (Err e) j budget fail is h = subst (λ (x : WorkFail). IsWorkFailure j budget x) (sym is) h

-- a box of one point fixes the linking columns
pub one_point_fixes : (p : Program) (a : Area) → IsProgram p → IsWithinArea a (root p) → IsOnePoint a
    → Fixes a p.links
one_point_fixes p a g within one =
    record { fixed = λ i b. one.fixed (slice_index p.links i) (link_there p a i g within b) }

-- ---- entries stay

pub keeps_more : (a b c : Option (List Admitted)) → KeepsEntries a b → KeepsEntries b c → KeepsEntries a c
keeps_more None None c g h = h
keeps_more None (Some b) c g h = cc
keeps_more (Some a) None c g h = absurd g
keeps_more (Some a) (Some b) None g h = absurd h
keeps_more (Some a) (Some b) (Some c) g h = λ e there. h e (g e there)
