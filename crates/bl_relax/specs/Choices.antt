-- Internal: the candidates of the dual ratio test, one after the other.
use Rattle.std.specs.Prelude.{◌≡◌, ℕ, ◌<◌, ◌⊎◌, Option, Some, None, MatchOption}
use Rattle.bl_simplex.specs.Fractions.{Fraction, IsReduced}
use Rattle.bl_simplex.specs.LegalPivots.{ratio_of, IsCandidate, WinsRatioTest}
use Rattle.bl_relax.specs.declared.choice.Candidate.{Candidate}

-- no two of the columns have one label
pub record AreDistinct (n : ℕ) (label : ℕ → ℕ) : Type 0 where
  pub each : (j k : ℕ) → j < n → k < n → label j ≡ label k → j ≡ k

-- no entry of the row is negative
abbrev pub HasNoCandidate : ℕ → (ℕ → Fraction) → Type 0
HasNoCandidate n entries = (j : ℕ) → ¬ IsCandidate n entries j

-- the candidate is column j, with its ratio and its label
pub record IsRatioOf (costs entries : ℕ → Fraction) (label : ℕ → ℕ) (j : ℕ) (candidate : Candidate) : Type 0 where
  pub column : candidate.column ≡ j
  pub labelled : candidate.label ≡ label j
  pub ratio : ratio_of costs entries j ≡ Some candidate.ratio
  pub reduced : IsReduced candidate.ratio

abbrev pub Wins : Candidate → Candidate → Type 0
Wins a b = WinsRatioTest a.label b.label a.ratio b.ratio

-- of two candidates the one that goes before the other
abbrev pub IsWinner : Option Candidate → Candidate → Candidate → Type 0
IsWinner None next winner = winner ≡ next
IsWinner (Some best) next winner = (Wins next best × (winner ≡ next)) ⊎ ((¬ Wins next best) × (winner ≡ best))

-- column k has a ratio, and is that of the candidate or loses to it
abbrev pub LosesTo : Candidate → (ℕ → ℕ) → ℕ → Option Fraction → Type 0
LosesTo candidate label k ratio =
    MatchOption ratio ⊥
    (λ y. (0 < y.den) × ((k ≡ candidate.column) ⊎ WinsRatioTest candidate.label (label k) candidate.ratio y))

-- c is a candidate below column n and goes before all others there
pub record IsBest (n : ℕ) (costs entries : ℕ → Fraction) (label : ℕ → ℕ) (c : Candidate) : Type 0 where
  pub candidate : IsCandidate n entries c.column
  pub ratio : IsRatioOf costs entries label c.column c
  pub others : (k : ℕ) → IsCandidate n entries k → LosesTo c label k (ratio_of costs entries k)

-- the best candidate so far
abbrev pub IsBestSoFar : ℕ → (ℕ → Fraction) → (ℕ → Fraction) → (ℕ → ℕ) → Option Candidate → Type 0
IsBestSoFar n costs entries label best =
    MatchOption best (HasNoCandidate n entries) (IsBest n costs entries label)
