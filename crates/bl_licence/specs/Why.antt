-- Trusted: what each kind of licence says of a problem and a cutoff.
use Rattle.std.specs.Prelude.{Option, ℤ}
use Rattle.bl_terms.specs.Bounds.{Problem}
use Rattle.bl_simplex.specs.Licences.{IsFractional, PassesWidth, PassesPivots, PassesNumbers}
use Rattle.bl_licence.specs.declared.why.Why.{Why}
use Rattle.bl_licence.specs.declared.why.Why.TheVariants.{Fraction, Better, Wide, Tired, Large}

-- the licence holds of the problem; a better response is no licence of a problem, but of a node of a model
abbrev pub IsLicence : Problem → Option ℤ → Why → Type 0
IsLicence q u (Fraction fs) = IsFractional q u fs
IsLicence q u (Better point response) = ⊥
IsLicence q u (Wide pivots row column) = PassesWidth q u pivots row column
IsLicence q u (Tired pivots) = PassesPivots q u pivots
IsLicence q u (Large pivots) = PassesNumbers q u pivots
