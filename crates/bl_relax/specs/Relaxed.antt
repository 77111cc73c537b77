-- Trusted: what the answers of a relaxation mean.
use Rattle.std.specs.Prelude.{Option, ℤ}
use Rattle.bl_terms.specs.Bounds.{Problem, Proves}
use Rattle.bl_bound.specs.Plain.{IsBetterPoint}
use Rattle.bl_licence.specs.Why.{IsLicence}
use Rattle.bl_relax.specs.declared.relaxed.Relaxed.{Relaxed}
use Rattle.bl_relax.specs.declared.relaxed.Relaxed.TheVariants.{Closed, Whole, Stuck}

-- closed: the multipliers prove the cutoff, or that no point of the box meets the rows; whole: a point of the
-- box that meets the rows and costs less than the cutoff; stuck: a licence to split the box
abbrev pub IsRelaxed : Problem → Option ℤ → Relaxed → Type 0
IsRelaxed q u (Closed proof) = Proves q u proof
IsRelaxed q u (Whole point) = IsBetterPoint q u point
IsRelaxed q u (Stuck why) = IsLicence q u why
