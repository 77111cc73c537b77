-- Trusted. The cut that the elimination makes of the candidates at a point, and why there is none.
use Rattle.std.specs.Prelude.{◌≡◌, ℕ, ◌⊎◌, ℤ, ◌≤ℤ◌, ◌<ℤ◌, List, length, map, Result, Ok, Err}
use Rattle.bl_terms.specs.Points.{Area, Meets}
use Rattle.bl_terms.specs.Programs.{Program, follower_at}
use Rattle.bl_terms.specs.Responses.{response_cost}
use Rattle.bl_cut_terms.specs.declared.parts.Tight.{Tight}
use Rattle.bl_cut_terms.specs.declared.parts.CutParts.{CutParts}
use Rattle.bl_cut_terms.specs.NoGoods.{NoGoodCut, cut_of, cut_row, last_step}
use Rattle.bl_cut.specs.Cuts.{IsProvedCut}
use Rattle.bl_cut_terms.specs.Adopting.{item_at}
use Rattle.bl_cut_proof.specs.Proving.{local_rows, IsCutOf, IsOwnStep, IsSmallRow}
use Rattle.bl_elimination.specs.declared.basis.Basis.{Basis}
use Rattle.bl_elimination.specs.declared.basis.NoBasis.{NoBasis}
use Rattle.bl_elimination.specs.declared.basis.NoBasis.TheVariants as no_basis
use Rattle.bl_elimination.specs.Elimination.{elimination}
use Rattle.bl_nogood.specs.declared.no_cut.NoCut.{NoCut}
use Rattle.bl_nogood.specs.declared.no_cut.NoCut.TheVariants.{NotBetter, NotUnique, TooLarge, Memory}
use Rattle.bl_nogood.specs.Candidates.{AreCandidates, candidate_problem}

-- the elimination of the candidates at z has this outcome
pub record IsEliminated (p : Program) (a : Area) (earlier : List NoGoodCut) (z : List ℤ) (candidates : List Tight)
    (outcome : Result Basis NoBasis) : Type 0 where
  pub all : AreCandidates p a earlier z candidates
  pub gives : elimination (candidate_problem p a earlier candidates) ≡ outcome

-- the parts of the cut: the candidates that are kept, and their inverse
abbrev pub parts_of : List Tight → Basis → List ℤ → List ℤ → CutParts
parts_of candidates basis z y = record {
  tight = map (λ i. item_at candidates i) basis.kept;
  den = basis.den;
  units = basis.units;
  point = z;
  response = y;
}

-- only so many candidates are linearly independent, too few for one point
pub record IsNotUnique (p : Program) (a : Area) (earlier : List NoGoodCut) (z : List ℤ) (pivots : ℕ) : Type 0 where
  pub candidates : List Tight
  pub eliminated : IsEliminated p a earlier z candidates (Err (no_basis.NotUnique pivots))

-- a number of the elimination is too large: of the candidate at this position, or of the inverse, where the position is
-- the count of all candidates
pub record HasLargeNumber (p : Program) (a : Area) (earlier : List NoGoodCut) (z : List ℤ) (position : ℕ) : Type 0 where
  pub candidates : List Tight
  pub eliminated : IsEliminated p a earlier z candidates (Err (no_basis.TooLarge position))

-- or a number of the cut's row is
pub record HasLargeRow (p : Program) (a : Area) (earlier : List NoGoodCut) (z : List ℤ) (position : ℕ) : Type 0 where
  pub candidates : List Tight
  pub basis : Basis
  pub eliminated : IsEliminated p a earlier z candidates (Ok basis)
  pub large : ¬ IsSmallRow (cut_row p a (local_rows earlier) (map (λ i. item_at candidates i) basis.kept))
  pub count : position ≡ length candidates

abbrev pub IsTooLarge : Program → Area → List NoGoodCut → List ℤ → ℕ → Type 0
IsTooLarge p a earlier z position = HasLargeNumber p a earlier z position ⊎ HasLargeRow p a earlier z position

-- the cut is the one that the elimination makes
pub record IsMadeCut (p : Program) (a : Area) (earlier : List NoGoodCut) (z y : List ℤ) (c : NoGoodCut) : Type 0 where
  pub candidates : List Tight
  pub basis : Basis
  pub eliminated : IsEliminated p a earlier z candidates (Ok basis)
  pub cut : IsCutOf p a earlier (parts_of candidates basis z y) c
  pub own : IsOwnStep p a earlier (parts_of candidates basis z y) (last_step c.steps)

-- the cut is a proved one of the program, on this box, with this point and this response, and takes the point away
pub record IsCutAt (p : Program) (a : Area) (z y : List ℤ) (c : NoGoodCut) : Type 0 where
  pub proved : IsProvedCut c
  pub program : c.program ≡ p
  pub area : (cut_of c).area ≡ a
  pub point : (last_step c.steps).parts.point ≡ z
  pub response : (last_step c.steps).parts.response ≡ y
  pub away : ¬ Meets (cut_of c).row z

-- the response costs the follower no less than the point, and both costs are told
abbrev pub IsDearer : Program → List ℤ → List ℤ → NoCut → Type 0
IsDearer p z y (NotBetter point response) =
    (point ≡ follower_at p z) × (response ≡ response_cost p y) × (point ≤ℤ response)
IsDearer p z y (NotUnique pivots) = ⊥
IsDearer p z y (TooLarge position) = ⊥
IsDearer p z y Memory = ⊥

-- why there is no cut at z with the response y
abbrev pub IsNoCut : Program → Area → List NoGoodCut → List ℤ → List ℤ → NoCut → Type 0
IsNoCut p a earlier z y (NotBetter point response) = IsDearer p z y (NotBetter point response)
IsNoCut p a earlier z y (NotUnique pivots) =
    (response_cost p y <ℤ follower_at p z) × IsNotUnique p a earlier z pivots
IsNoCut p a earlier z y (TooLarge position) =
    (response_cost p y <ℤ follower_at p z) × IsTooLarge p a earlier z position
IsNoCut p a earlier z y Memory = Unit {0}
