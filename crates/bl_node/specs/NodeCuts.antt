-- Trusted. The cuts of a node: those that it inherits and those that are made there.
use Rattle.std.specs.Prelude.{◌≡◌, ◌≢◌, ◌<◌, ◌≤◌, ◌⊎◌, ℕ, ℤ, List, [], ◌∷◌, length, All}
use Rattle.std.specs.List.{AllPairs}
use Rattle.bl_limits.specs.declared.TheConstants.{MAX_NEW_CUTS, CUT_NODES}
use Rattle.bl_terms.specs.Points.{Area, IsWithinArea, Meets}
use Rattle.bl_terms.specs.Programs.{Program}
use Rattle.bl_licence.specs.declared.why.Why.{Why}
use Rattle.bl_licence.specs.declared.why.Why.TheVariants.{Fraction, Better, Wide, Tired, Large}
use Rattle.bl_cut_terms.specs.NoGoods.{NoGoodCut, cut_of, last_step}
use Rattle.bl_cut.specs.Cuts.{with_cut, cut_at}
use Rattle.bl_nogood.specs.Making.{IsNotUnique, IsTooLarge}

-- the k-th cut of a list is of the program, its box contains this one, and z breaks it
pub record BreaksAt (p : Program) (a : Area) (cuts : List NoGoodCut) (z : List ℤ) (k : ℕ) : Type 0 where
  pub there : k < length cuts
  pub program : (cut_at cuts k).program ≡ p
  pub within : IsWithinArea a (cut_of (cut_at cuts k)).area
  pub broken : ¬ Meets (cut_of (cut_at cuts k)).row z

-- z breaks a cut of the list that may be used in the box
abbrev pub BreaksOne : Program → Area → List NoGoodCut → List ℤ → Type 0
BreaksOne p a cuts z = (k : ℕ) × BreaksAt p a cuts z k

-- the point at which a cut is made
abbrev pub point_of : NoGoodCut → List ℤ
point_of c = (last_step c.steps).parts.point

-- the cut is of the program and the box, and takes its own point away
pub record IsOwnCut (p : Program) (a : Area) (c : NoGoodCut) : Type 0 where
  pub program : c.program ≡ p
  pub area : (cut_of c).area ≡ a
  pub away : ¬ Meets (cut_of c).row (point_of c)

-- the cuts made at the node with this number and box: few, and none from node CUT_NODES on; no two at one point
pub record AreMade (p : Program) (a : Area) (node : ℕ) (made : List NoGoodCut) : Type 0 where
  pub few : length made ≤ MAX_NEW_CUTS
  pub none : CUT_NODES ≤ node → made ≡ []
  pub own : All (IsOwnCut p a) made
  pub points : AllPairs (λ c d. point_of c ≢ point_of d) made

-- a list of cuts, with these added one by one
abbrev pub with_cuts : List NoGoodCut → List NoGoodCut → List NoGoodCut
with_cuts cuts [] = cuts
with_cuts cuts (c ∷ made) = with_cuts (with_cut cuts c) made

-- no cut of the box can be made at z with these earlier cuts
pub record IsNotMade (p : Program) (a : Area) (earlier : List NoGoodCut) (z : List ℤ) : Type 0 where
  pub number : ℕ
  pub reason : IsNotUnique p a earlier z number ⊎ IsTooLarge p a earlier z number

-- a cut at z was tried: z breaks a cut that was inherited or made, so many were made, or none can be made there
abbrev pub HasTried : Program → Area → List NoGoodCut → List NoGoodCut → List ℤ → Type 0
HasTried p a cuts made z =
    BreaksOne p a cuts z ⊎ (BreaksOne p a made z ⊎ ((length made ≡ MAX_NEW_CUTS)
    ⊎ IsNotMade p a (with_cuts cuts made) z))

-- below node CUT_NODES a better response licenses a split only after a cut was tried
abbrev pub IsTried : Program → Area → ℕ → List NoGoodCut → List NoGoodCut → Why → Type 0
IsTried p a node cuts made (Better z y) = node < CUT_NODES → HasTried p a cuts made z
IsTried p a node cuts made (Fraction fs) = Unit {0}
IsTried p a node cuts made (Wide pivots row column) = Unit {0}
IsTried p a node cuts made (Tired pivots) = Unit {0}
IsTried p a node cuts made (Large pivots) = Unit {0}
