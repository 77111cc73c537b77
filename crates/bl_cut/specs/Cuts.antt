-- Trusted. Proved cuts, and a list to which cuts are added.
use Rattle.std.specs.Prelude.{ℕ, ◌<◌, ◌^◌, pos, List, []}
use Rattle.std.specs.Prelude.{◌∷◌, ◌++◌, length, slice_index_or, if◌then◌else◌, nat_lt, drop}
use Rattle.std.specs.Prelude.{◌≡◌, ◌↔◌, ◌≤◌, Bool, IsTrue, All}
use Rattle.bl_limits.specs.declared.TheConstants.{MAX_CUTS}
use Rattle.bl_terms.specs.Programs.{Program}
use Rattle.bl_model.specs.View.{IsModel}
use Rattle.bl_cut_terms.specs.ValidRows.{IsValidRow}
use Rattle.bl_cut_terms.specs.NoGoods.{NoGoodCut, AreCutSteps, cut_of}
use Rattle.bl_cut_terms.specs.Adopting.{StandsAlone}

-- the program is within the limits of a model, and each step is a no-good cut with the steps before it; there is a last
-- step, and each step has a place that fits an item; the steps can be taken over alone
pub record IsProvedCut (c : NoGoodCut) : Type 0 where
  pub model : IsModel c.program
  pub steps : AreCutSteps c.program [] c.steps
  pub some : 0 < length c.steps
  pub few : length c.steps < 2 ^ 32
  pub alone : StandsAlone c

-- a list of few cuts, each proved
pub record AreProvedCuts (cuts : List NoGoodCut) : Type 0 where
  pub few : length cuts ≤ MAX_CUTS
  pub proved : All IsProvedCut cuts

-- the cut past the end of a list, and the one at a place
abbrev pub no_cut : NoGoodCut
no_cut = record {
  program = record {
    lo = [];
    hi = [];
    rows = [];
    cost = [];
    follower_cost = [];
    follower = [];
    links = [];
    sense = pos 1;
    leader_sense = pos 1;
  };
  steps = [];
}

abbrev pub cut_at : List NoGoodCut → ℕ → NoGoodCut
cut_at cuts k = slice_index_or cuts k no_cut

-- the list with a further cut as its last, without its first where it is full
abbrev pub with_cut : List NoGoodCut → NoGoodCut → List NoGoodCut
with_cut cuts c = (if nat_lt (length cuts) MAX_CUTS then cuts else drop 1 cuts) ++ c ∷ []

-- all cuts are of a program
abbrev pub AreCutsOf : Program → List NoGoodCut → Type 0
AreCutsOf p cuts = All (λ c. c.program ≡ p) cuts

-- all cuts are of the first one's program
abbrev pub AreOfOne : List NoGoodCut → Type 0
AreOfOne cuts = AreCutsOf (cut_at cuts 0).program cuts

-- what is kept beside a list of few cuts, each proved: whether all are of one program
pub record KeepsCuts (of_one : Bool) (cuts : List NoGoodCut) : Type 0 where
  pub proved : AreProvedCuts cuts
  pub one : IsTrue of_one ↔ AreOfOne cuts

-- every bilevel feasible point of the cut's box meets its row
abbrev pub IsValidCut : NoGoodCut → Type 0
IsValidCut c = IsValidRow c.program (cut_of c).area (cut_of c).row
