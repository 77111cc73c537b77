-- Divisions that leave no rest.
use Rattle.std.proofs.Common.{◌≡◌, ℕ, ◌+◌, ◌*◌, ◌<◌, cond, eqb, Some, None, refl, ap, ◌∙◌}
use Rattle.std.proofs.lemmas.Nat.{div-mul-add, mod-mul-add}
use Rattle.bl_num.specs.Numbers.{exact_quotient}

-- a number as a multiple of the divisor and a rest below it
pub exact_quotient-split : (over under quotient rest : ℕ) → over ≡ quotient * under + rest → rest < under
    → exact_quotient over under ≡ cond (eqb rest 0) (Some quotient) None
exact_quotient-split over under quotient rest e below =
    ap (λ (n : ℕ). exact_quotient n under) e
    ∙ rw (mod-mul-add quotient under rest below, div-mul-add quotient under rest below) refl
