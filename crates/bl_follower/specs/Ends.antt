-- Internal. The answer that a finished tree shows.
use Rattle.std.specs.Prelude.{Option, Some, None}
use Rattle.bl_fproof.specs.declared.answered.Answered.TheVariants.{Best, NoResponse}
use Rattle.bl_follower_tree.specs.Growth.{Grown}
use Rattle.bl_follower.specs.declared.response.Response.{Response}
use Rattle.bl_follower.specs.declared.solve.Solved.{Solved}

abbrev pub solved_by : Grown → Option Response → Solved
solved_by g None = record {
  answered = NoResponse (record { steps = g.steps });
  tree = record { nodes = g.nodes };
  cutoffs = g.cutoffs;
}
solved_by g (Some r) = record {
  answered = Best r.point r.value (record { steps = g.steps });
  tree = record { nodes = g.nodes };
  cutoffs = g.cutoffs;
}
