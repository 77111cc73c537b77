-- Trusted. Rows that no bilevel feasible point of a box breaks: all that a relaxation and a leaf need of a cut.
use Rattle.std.specs.Prelude.{ℤ, List}
use Rattle.bl_terms.specs.Points.{Area, InArea, IsWithinArea, Linear, Meets}
use Rattle.bl_terms.specs.Programs.{Program}
use Rattle.bl_terms.specs.Feasible.{BilevelFeasible}

-- every bilevel feasible point of the box meets the row
abbrev pub IsValidRow : Program → Area → Linear → Type 0
IsValidRow p a r = (z : List ℤ) → BilevelFeasible p z → InArea a z → Meets r z

-- THE LAW: it is valid on each part of the box
abbrev pub ValidOnParts : Type 0
ValidOnParts = (p : Program) (a outer : Area) (r : Linear) → IsWithinArea a outer → IsValidRow p outer r
    → IsValidRow p a r
