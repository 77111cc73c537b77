-- Trusted. What a basis is: rows that are kept in their order, and the inverse of their coefficients.
use Rattle.std.specs.Prelude.{ℕ, suc, ◌≡◌, ◌<◌, ◌≤◌, ◌≤ℤ◌, pos, List, [], ◌∷◌, length, map, All, Ok}
use Rattle.bl_limits.specs.declared.TheConstants.{MAX_PROOF_NUMBER}
use Rattle.bl_terms.specs.Bounds.{Problem, IsProblem, linear_at}
use Rattle.bl_cut_terms.specs.NoGoods.{IsUnit, Inverts}
use Rattle.bl_elimination.specs.declared.basis.Basis.{Basis}
use Rattle.bl_elimination.specs.Elimination.{elimination}

-- the numbers rise, from least on, and stay below n
abbrev pub RiseFrom : ℕ → ℕ → List ℕ → Type 0
RiseFrom least n [] = Unit {0}
RiseFrom least n (i ∷ is) = ((least ≤ i) × (i < n)) × RiseFrom (suc i) n is

-- as many rows as columns, by their numbers, and the inverse of their coefficients, with numbers within their limit
pub record IsBasis (q : Problem) (b : Basis) : Type 0 where
  pub count : length b.kept ≡ length q.area.lo
  pub rising : RiseFrom 0 (length q.rows) b.kept
  pub den_least : pos 1 ≤ℤ b.den
  pub den_most : b.den ≤ℤ MAX_PROOF_NUMBER
  pub units_count : length b.units ≡ length q.area.lo
  pub units : All (IsUnit (length q.area.lo)) b.units
  pub inverse : Inverts (length q.area.lo) (map (linear_at q.rows) b.kept) b.den b.units

-- THE LAW: what the elimination gives is a basis
abbrev pub EliminationLaw : Type 0
EliminationLaw = (q : Problem) (b : Basis) → IsProblem q → elimination q ≡ Ok b → IsBasis q b
