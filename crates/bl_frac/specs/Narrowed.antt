-- What the checked steps of the arithmetic give.
use Rattle.std.specs.Prelude.{◌≡◌, Option, Some, None, Result, Ok, Err, true, false, ℤ, IsErr}
use Rattle.bl_frac.specs.declared.fraction.WideFrac.{WideFrac}
use Rattle.bl_simplex.specs.Fractions.{narrow}

-- the number where it is narrow, else the error
abbrev pub IsNarrowed : ℤ → Result ℤ WideFrac → Type 0
IsNarrowed z (Ok x) = (x ≡ z) × (narrow z ≡ true)
IsNarrowed z (Err e) = narrow z ≡ false

-- the same of a number that a checked step gave
abbrev pub IsNarrowedFrom : Option ℤ → Result ℤ WideFrac → Type 0
IsNarrowedFrom (Some z) r = IsNarrowed z r
IsNarrowedFrom None r = IsErr r
