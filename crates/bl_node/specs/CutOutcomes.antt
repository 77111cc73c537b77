-- Internal. What becomes of a relaxation with cuts, and of a round.
use Rattle.std.specs.Prelude.{List, Option, ◌<◌}
use Rattle.bl_cut_terms.specs.NoGoods.{NoGoodCut}
use Rattle.bl_leaf_terms.specs.Nodes.{IsFreeLicence}
use Rattle.bl_leaf_terms.specs.Incumbents.{Incumbent}
use Rattle.bl_node.specs.Works.{Job, IsClosing}
use Rattle.bl_node.specs.NodeCuts.{IsTried}
use Rattle.bl_node.specs.Standing.{IsBelow, cutoff_with, height}
use Rattle.bl_node.specs.declared.cutting.Outcome.{Outcome}
use Rattle.bl_node.specs.declared.cutting.Outcome.TheVariants.{Closed, Whole, Open}
use Rattle.bl_node.specs.declared.rounds.Round.{Round}
use Rattle.bl_node.specs.declared.rounds.Round.TheVariants as round

-- a leaf of the job's box, or a whole point of it below the cutoff
abbrev pub IsCutOutcome : Job → Option Incumbent → Outcome → Type 0
IsCutOutcome j found (Closed leaf) = IsClosing j leaf
IsCutOutcome j found (Whole z) = IsBelow j found z
IsCutOutcome j found Open = Unit {0}

-- a leaf of the job's box, a licence for which cuts were tried, or a lower cutoff
abbrev pub IsRound : Job → Option Incumbent → Option Incumbent → List NoGoodCut → Round → Type 0
IsRound j old new made (round.Closed leaf) = IsClosing j leaf
IsRound j old new made (round.Stuck why) =
    IsFreeLicence j.program j.area (cutoff_with j new) why × IsTried j.program j.area j.node j.cuts made why
IsRound j old new made round.Fell = height (cutoff_with j new) < height (cutoff_with j old)
