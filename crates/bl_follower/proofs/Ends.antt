-- What a search that has ended shows.
use Rattle.std.proofs.Common.{◌≡◌, ℕ, List, [], arith}
use Rattle.std.specs.Prelude.{ℤ, Option, Some, None, false}
use Rattle.bl_terms.specs.Programs.{Program}
use Rattle.bl_model.specs.View.{IsModel}
use Rattle.bl_fproof.specs.Entries.{whole_problem}
use Rattle.bl_fproof.proofs.Truth.{best_is_shown, none_is_shown}
use Rattle.bl_follower_tree.specs.Growth.{Grown}
use Rattle.bl_follower_tree.proofs.Growth.{grown_closes}
use Rattle.bl_follower.specs.declared.response.Response.{Response}
use Rattle.bl_follower.specs.Search.{IsUnderWay}
use Rattle.bl_follower.specs.Answers.{IsSolved}
use Rattle.bl_follower.specs.Ends.{solved_by}

pub search_solves : (p : Program) (l : List ℤ) (budget : ℕ) (found : Option Response) (g : Grown) → IsModel p
    → IsUnderWay (whole_problem p l) budget found g [] → g.left ≡ false → IsSolved p l budget (solved_by g found)
search_solves p l budget None g m h e =
    let so_far = h.grown.shown e in
    record {
      shown = none_is_shown p l (record { steps = g.steps }) None (grown_closes (whole_problem p l) None g h.grown e);
      tree = h.grown.licensed;
      same = so_far.same;
      finished = so_far.finished;
      few = let within = h.within in omega arith;
    }
search_solves p l budget (Some r) g m h e =
    let so_far = h.grown.shown e in
    record {
      shown = best_is_shown p l r.point r.value (record { steps = g.steps }) None m
          (h.best, grown_closes (whole_problem p l) (Some r.value) g h.grown e);
      tree = h.grown.licensed;
      same = so_far.same;
      finished = so_far.finished;
      few = let within = h.within in omega arith;
    }
