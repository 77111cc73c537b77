-- Trusted. The problem of a box without cuts, and what licenses a solver to split the box.
use Rattle.std.specs.Prelude.{◌≡◌, ◌++◌, ℤ, List, [], ◌∷◌, map, Option, Some, None, MatchOption}
use Rattle.bl_terms.specs.Points.{Area, IsArea, InArea, IsWithinArea, Fixes, Linear, values_at}
use Rattle.bl_terms.specs.Programs.{Program, inequality, root, MeetsRows, cost_at}
use Rattle.bl_terms.specs.Responses.{Best}
use Rattle.bl_terms.specs.Bounds.{Problem}
use Rattle.bl_bound.specs.Plain.{CostsLess}
use Rattle.bl_model.specs.View.{IsModel}
use Rattle.bl_fproof.specs.Entries.{Admitted}
use Rattle.bl_fproof.specs.Steps.{entry_of}
use Rattle.bl_licence.specs.declared.why.Why.{Why}
use Rattle.bl_licence.specs.declared.why.Why.TheVariants.{Fraction, Better, Wide, Tired, Large}
use Rattle.bl_licence.specs.Why.{IsLicence}
use Rattle.bl_cut_terms.specs.ValidRows.{IsValidRow}
use Rattle.bl_cut_terms.specs.NoGoods.{HasBetterResponse}
use Rattle.bl_leaf_terms.specs.Incumbents.{Incumbent, IsEntryFor, AreIncumbents, cutoff_of}

-- the value row: the follower's cost is at most v
abbrev pub value_row : Program → ℤ → Linear
value_row p v = record { coef = p.follower_cost; rhs = v }

-- the rows of the program, and the value row after them where there is a value
abbrev pub plain_rows : Program → Option ℤ → List Linear
plain_rows p None = map inequality p.rows
plain_rows p (Some v) = map inequality p.rows ++ value_row p v ∷ []

-- the plain problem of a box: the leader's cost over these rows, without cuts
abbrev pub plain_problem : Program → Area → Option ℤ → Problem
plain_problem p a value = record { rows = plain_rows p value; cost = p.cost; area = a }

-- the link that a box fixes
abbrev pub fixed_link : Program → Area → List ℤ
fixed_link p a = values_at a.lo p.links

-- the box fixes the linking columns, and the entry is that of their link: the follower's least cost there is v
pub record HasValue (p : Program) (a : Area) (e : Admitted) (v : ℤ) : Type 0 where
  pub fixes : Fixes a p.links
  pub entry : IsEntryFor p (fixed_link p a) e
  pub best : (y : List ℤ) × (entry_of e.answered ≡ Best y v)

-- z is a point of the box that meets all rows and costs less than the cutoff, and y is a cheaper response there
pub record IsBettered (p : Program) (a : Area) (u : Option ℤ) (z y : List ℤ) : Type 0 where
  pub inside : InArea a z
  pub rows : MeetsRows p z
  pub cost : CostsLess u (cost_at p z)
  pub better : HasBetterResponse p z y

-- what licenses a split of a box that leaves a linking column free: a better response, or a licence of the plain
-- problem
abbrev pub IsFreeLicence : Program → Area → Option ℤ → Why → Type 0
IsFreeLicence p a u (Better z y) = IsBettered p a u z y
IsFreeLicence p a u (Fraction fs) = IsLicence (plain_problem p a None) u (Fraction fs)
IsFreeLicence p a u (Wide pivots row column) = IsLicence (plain_problem p a None) u (Wide pivots row column)
IsFreeLicence p a u (Tired pivots) = IsLicence (plain_problem p a None) u (Tired pivots)
IsFreeLicence p a u (Large pivots) = IsLicence (plain_problem p a None) u (Large pivots)

-- ... and of one that fixes them: a licence of the plain problem with the value row of the entry, which has a response
pub record IsFixedLicence (p : Program) (a : Area) (u : Option ℤ) (e : Admitted) (why : Why) : Type 0 where
  pub value : ℤ
  pub has : HasValue p a e value
  pub licence : IsLicence (plain_problem p a (Some value)) u why

-- why licenses the split of the box for the cutoff; the entry is looked at only where the linking columns are fixed
pub record IsLicensedBox (p : Program) (a : Area) (u : Option ℤ) (entry : Option Admitted) (why : Why) : Type 0 where
  pub free : ¬ Fixes a p.links → IsFreeLicence p a u why
  pub fixed : Fixes a p.links → MatchOption entry ⊥ (λ e. IsFixedLicence p a u e why)

-- a licence to split a box of a program, with the incumbent that set its cutoff
pub record NodeLicence : Type 0 where
  pub program : Program
  pub area : Area
  pub cutoff : Option Incumbent
  pub entry : Option Admitted
  pub why : Why

-- it holds
pub record IsNodeLicence (l : NodeLicence) : Type 0 where
  pub model : IsModel l.program
  pub area : IsArea l.area
  pub within : IsWithinArea l.area (root l.program)
  pub incumbent : AreIncumbents l.program l.cutoff
  pub licensed : IsLicensedBox l.program l.area (cutoff_of l.cutoff) l.entry l.why

-- THE LAW: the value row is valid on the box
abbrev pub ValueRowLaw : Type 0
ValueRowLaw =
    (p : Program) (a : Area) (e : Admitted) (v : ℤ) → IsModel p → IsArea a → IsWithinArea a (root p) → HasValue p a e v
    → IsValidRow p a (value_row p v)
