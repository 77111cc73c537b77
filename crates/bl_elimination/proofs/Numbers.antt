-- What the elimination does with the numbers of a row, place by place.
use Rattle.std.proofs.Common.{◌≡◌, ◌≢◌, ℕ, zero, suc, ◌<◌, true, false, List, [], ◌∷◌, length, ℤ, pos}
use Rattle.std.proofs.Common.{refl, sym, ap, ◌∙◌, arith}
use Rattle.std.specs.Prelude.{Option, Some, None, option_map, option_and_then}
use Rattle.std.specs.Ordering.{int_eq}
use Rattle.std.proofs.lemmas.Bool.Decides.{Decides-int_eq}
use Rattle.bl_simplex.specs.Fractions.{Fraction, IsReduced, product_of, difference_of, quotient_of}
use Rattle.bl_simplex.specs.Rationals.{fraction_at}
use Rattle.bl_frac.proofs.Zeros.{nought, nought_from_num, product_of-nought_left, product_of-nought_right}
use Rattle.std.proofs.Common.{rules}
use Rattle.std.specs.Option.{ok_or}
use Rattle.std.specs.Prelude.{Result, Ok, Err, OnErr}
use Rattle.bl_frac.proofs.Zeros.{quotient_of-nought, difference_of-nought}
use Rattle.bl_tableau.specs.Cells.{AreReduced}
use Rattle.bl_elimination.specs.Elimination.{joined, less_multiple, less_row, without, divided, first_nonzero}

pub joined-some : {T : Type 0} (o : Option T) (p : Option (List T)) (x : T) (xs : List T) → o ≡ Some x → p ≡ Some xs
    → joined o p ≡ Some (x ∷ xs)
joined-some o p x xs ho hp = ap (λ q. joined q p) ho ∙ ap (joined (Some x)) hp

pub joined-none_left : {T : Type 0} (o : Option T) (p : Option (List T)) → o ≡ None → joined o p ≡ None
joined-none_left o p h = ap (λ q. joined q p) h

pub joined-none_right : {T : Type 0} (o : Option T) (p : Option (List T)) → p ≡ None → joined o p ≡ None
joined-none_right None p h = refl
joined-none_right (Some x) p h = ap (joined (Some x)) h

-- to take away a multiple of 0, or no multiple
less_nought : (x : Fraction) (o : Option Fraction) → IsReduced x → o ≡ Some nought
    → option_and_then (difference_of x) o ≡ Some x
less_nought x o hx e = ap (option_and_then (difference_of x)) e ∙ difference_of-nought x hx

pub less_multiple-nought : (x factor y : Fraction) → IsReduced x → IsReduced factor → IsReduced y → y.num ≡ pos 0
    → less_multiple x factor y ≡ Some x
less_multiple-nought x factor y hx hf hy is_zero =
    less_nought x (product_of factor y) hx
    (ap (product_of factor) (nought_from_num y hy is_zero) ∙ product_of-nought_right factor hf)

pub less_multiple-none : (x factor y : Fraction) → IsReduced x → IsReduced factor → IsReduced y → factor.num ≡ pos 0
    → less_multiple x factor y ≡ Some x
less_multiple-none x factor y hx hf hy is_zero =
    less_nought x (product_of factor y) hx
    (ap (λ z. product_of z y) (nought_from_num factor hf is_zero) ∙ product_of-nought_left y hy)

pub quotient-nought : (x pivot : Fraction) → IsReduced x → IsReduced pivot → (pivot.num ≡ pos 0 → ⊥) → x.num ≡ pos 0
    → quotient_of x pivot ≡ Some x
quotient-nought x pivot hx hp nonzero is_zero =
    let e = nought_from_num x hx is_zero in
    ap (λ y. quotient_of y pivot) e ∙ quotient_of-nought pivot hp nonzero ∙ ap Some (sym e)

-- ---- lists

pub less_row-some : (xs ys zs : List Fraction) (factor : Fraction) → length ys ≡ length xs → length zs ≡ length xs
    → ((j : ℕ) → j < length xs → less_multiple (fraction_at xs j) factor (fraction_at ys j) ≡ Some (fraction_at zs j))
    → less_row xs factor ys ≡ Some zs
less_row-some [] ys [] factor sy sz h = refl
less_row-some [] ys (z ∷ zs) factor sy sz h = absurd (omega arith)
less_row-some (x ∷ xs) [] zs factor sy sz h = absurd (omega arith)
less_row-some (x ∷ xs) (y ∷ ys) [] factor sy sz h = absurd (omega arith)
less_row-some (x ∷ xs) (y ∷ ys) (z ∷ zs) factor sy sz h =
    joined-some _ _ z zs (h 0 (omega arith))
    (less_row-some xs ys zs factor (omega arith) (omega arith) (λ j l. h (suc j) (omega arith)))

pub less_row-none : (xs ys : List Fraction) (factor : Fraction) (j : ℕ) → length ys ≡ length xs → j < length xs
    → less_multiple (fraction_at xs j) factor (fraction_at ys j) ≡ None → less_row xs factor ys ≡ None
less_row-none [] ys factor j sy l h = absurd (omega arith)
less_row-none (x ∷ xs) [] factor j sy l h = absurd (omega arith)
less_row-none (x ∷ xs) (y ∷ ys) factor zero sy l h = joined-none_left _ _ h
less_row-none (x ∷ xs) (y ∷ ys) factor (suc j) sy l h =
    joined-none_right _ _ (less_row-none xs ys factor j (omega arith) (omega arith) h)

pub divided-some : (xs zs : List Fraction) (pivot : Fraction) → length zs ≡ length xs
    → ((j : ℕ) → j < length xs → quotient_of (fraction_at xs j) pivot ≡ Some (fraction_at zs j))
    → divided pivot xs ≡ Some zs
divided-some [] [] pivot sz h = refl
divided-some [] (z ∷ zs) pivot sz h = absurd (omega arith)
divided-some (x ∷ xs) [] pivot sz h = absurd (omega arith)
divided-some (x ∷ xs) (z ∷ zs) pivot sz h =
    joined-some _ _ z zs (h 0 (omega arith)) (divided-some xs zs pivot (omega arith) (λ j l. h (suc j) (omega arith)))

pub divided-none : (xs : List Fraction) (pivot : Fraction) (j : ℕ) → j < length xs
    → quotient_of (fraction_at xs j) pivot ≡ None → divided pivot xs ≡ None
divided-none [] pivot j l h = absurd (omega arith)
divided-none (x ∷ xs) pivot zero l h = joined-none_left _ _ h
divided-none (x ∷ xs) pivot (suc j) l h = joined-none_right _ _ (divided-none xs pivot j (omega arith) h)

pub without-nought : (xs ys : List Fraction) (c : ℕ) → length ys ≡ length xs → c < length xs → AreReduced xs
    → AreReduced ys → (fraction_at xs c).num ≡ pos 0 → without c ys xs ≡ Some xs
without-nought xs ys c sy l hx hy is_zero =
    less_row-some xs ys xs (fraction_at xs c) sy refl
    (λ j b. less_multiple-none (fraction_at xs j) (fraction_at xs c) (fraction_at ys j) (hx.each j b) (hx.each c l)
    (hy.each j (omega arith)) is_zero)

-- ---- the first number that isn't 0

int_eq-true : (z : ℤ) → z ≡ pos 0 → int_eq z (pos 0) ≡ true
int_eq-true z h = grind (arith, Decides-int_eq)

int_eq-false : (z : ℤ) → z ≢ pos 0 → int_eq z (pos 0) ≡ false
int_eq-false z h = grind (arith, Decides-int_eq)

pub first_nonzero-at : (xs : List Fraction) (j : ℕ) → j < length xs
    → ((k : ℕ) → k < j → (fraction_at xs k).num ≡ pos 0) → (fraction_at xs j).num ≢ pos 0
    → first_nonzero xs ≡ Some j
first_nonzero-at [] j l before here = absurd (omega arith)
first_nonzero-at (x ∷ xs) zero l before here = rw (int_eq-false x.num here) refl
first_nonzero-at (x ∷ xs) (suc j) l before here =
    rw (int_eq-true x.num (before 0 (omega arith)))
    (ap (option_map suc) (first_nonzero-at xs j (omega arith) (λ k b. before (suc k) (omega arith)) here))

pub first_nonzero-nowhere : (xs : List Fraction) → ((k : ℕ) → k < length xs → (fraction_at xs k).num ≡ pos 0)
    → first_nonzero xs ≡ None
first_nonzero-nowhere [] all = refl
first_nonzero-nowhere (x ∷ xs) all =
    rw (int_eq-true x.num (all 0 (omega arith)))
    (ap (option_map suc) (first_nonzero-nowhere xs (λ k b. all (suc k) (omega arith))))

-- ---- lists in lowest terms

-- at the exit of a `?`
pub on_err : {T E : Type 0} (r : Result T E) (P : Type 0) → P → OnErr r P
on_err (Ok x) P p = tt
on_err (Err e) P p = p

pub none_of : {T E : Type 0} (o : Option T) (e d : E) → Err e ≡ ok_or o d → o ≡ None
none_of None e d h = refl
none_of (Some x) e d h = absurd (search rules)
