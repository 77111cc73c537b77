-- The numbers of a pivot that need no arithmetic.
use Rattle.std.proofs.Common.{◌≡◌, Bool, true, false, pos, refl, sym, ap, ◌∙◌}
use Rattle.std.specs.Prelude.{Option, Some, option_map, option_and_then}
use Rattle.bl_simplex.specs.Fractions.{Fraction, IsReduced, negated, product_of, difference_of, quotient_of}
use Rattle.bl_frac.proofs.Zeros.{nought, nought_from_num, product_of-nought_left, product_of-nought_right}
use Rattle.bl_frac.proofs.Zeros.{quotient_of-nought, difference_of-nought}
use Rattle.bl_simplex.specs.Pivots.{scaled_entry, eliminated_entry}

pub share_at_zero : (x p : Fraction) (own : Bool) → own ≡ false → IsReduced x → x.num ≡ pos 0 → IsReduced p
    → (p.num ≡ pos 0 → ⊥) → scaled_entry x p own ≡ Some x
share_at_zero x p own other hx zero hp nonzero =
    let e = nought_from_num x hx zero in
    ap (scaled_entry x p) other ∙ ap (λ y. quotient_of y p) e ∙ quotient_of-nought p hp nonzero ∙ ap Some (sym e)

less_nought : (x : Fraction) (o : Option Fraction) → IsReduced x → o ≡ Some nought
    → option_and_then (difference_of x) o ≡ Some x
less_nought x o hx e = ap (option_and_then (difference_of x)) e ∙ difference_of-nought x hx

pub remainder_at_zero : (e x f : Fraction) (own : Bool) → own ≡ false → IsReduced e → IsReduced x → IsReduced f
    → f.num ≡ pos 0 → eliminated_entry e x f own ≡ Some x
remainder_at_zero e x f own other he hx hf zero =
    ap (eliminated_entry e x f) other
    ∙ less_nought x (product_of e f) hx
    (ap (product_of e) (nought_from_num f hf zero) ∙ product_of-nought_right e he)

-- where the factor is 0 the whole row stays
pub remainder_without_factor : (e x f : Fraction) (own : Bool) → IsReduced e → IsReduced x → IsReduced f
    → e.num ≡ pos 0 → (own ≡ true → x ≡ e) → eliminated_entry e x f own ≡ Some x
remainder_without_factor e x f true he hx hf zero same =
    let none = nought_from_num e he zero in
    let product : product_of e f ≡ Some nought = ap (λ y. product_of y f) none ∙ product_of-nought_left f hf in
    ap (option_map negated) product ∙ ap Some (sym (same refl ∙ none))
remainder_without_factor e x f false he hx hf zero same =
    let none = nought_from_num e he zero in
    less_nought x (product_of e f) hx (ap (λ y. product_of y f) none ∙ product_of-nought_left f hf)
