-- Trusted. Gauss-Jordan elimination on rows in a given order, over exact fractions whose parts stay within 128 bits:
-- the first n rows that are linearly independent, and the inverse of their coefficients over one denominator.
use Rattle.std.specs.Prelude.{ℕ, suc, ◌≡◌, Bool, ◌&&◌, nat_eq, nat_le, if◌then◌else◌, Option, Some, None, ℤ, pos}
use Rattle.std.specs.Prelude.{unsigned_abs, List, [], ◌∷◌, ◌++◌, length, map, take, drop, Result, Ok, Err}
use Rattle.std.specs.Prelude.{option_map, option_and_then}
use Rattle.std.specs.Option.{ok_or}
use Rattle.std.specs.List.{range_with_len, list_all}
use Rattle.std.specs.Ordering.{int_eq}
use Rattle.bl_limits.specs.declared.TheConstants.{MAX_PROOF_NUMBER}
use Rattle.bl_terms.specs.Points.{Linear}
use Rattle.bl_terms.specs.Bounds.{Problem}
use Rattle.bl_simplex.specs.Fractions.{Fraction, whole_fraction, product_of, difference_of, quotient_of}
use Rattle.bl_simplex.specs.Rationals.{fraction_at, common_denominator, times_multiple}
use Rattle.bl_elimination.specs.declared.basis.Basis.{Basis}
use Rattle.bl_elimination.specs.declared.basis.NoBasis.{NoBasis}
use Rattle.bl_elimination.specs.declared.basis.NoBasis.TheVariants.{NotUnique, TooLarge, Memory}

-- what is kept: rows by their numbers among the candidates, with their pivot columns. A row has its n coefficients
-- and after them its identity part: n places that tell how it is combined of the kept candidates
pub record Kept : Type 0 where
  pub numbers : List ℕ
  pub columns : List ℕ
  pub rows : List (List Fraction)

abbrev pub nothing_kept : Kept
nothing_kept = record { numbers = []; columns = []; rows = [] }

-- ---- rows

-- an item before a list, where both are there
abbrev pub joined : {T : Type 0} → Option T → Option (List T) → Option (List T)
joined (Some x) (Some xs) = Some (x ∷ xs)
joined o p = None

-- the coefficients of a candidate, with 1 at its own place of the identity part
abbrev pub candidate : ℕ → List ℤ → List Fraction
candidate slot coef =
    map whole_fraction coef
    ++ map (λ t. whole_fraction (if nat_eq t slot then pos 1 else pos 0)) (range_with_len 0 (length coef))

-- x less a multiple of y: none where a number on the way passes 128 bits
abbrev pub less_multiple : Fraction → Fraction → Fraction → Option Fraction
less_multiple x factor y = option_and_then (difference_of x) (product_of factor y)

-- a row less a multiple of another
abbrev pub less_row : List Fraction → Fraction → List Fraction → Option (List Fraction)
less_row (x ∷ xs) factor (y ∷ ys) = joined (less_multiple x factor y) (less_row xs factor ys)
less_row xs factor ys = Some []

-- a row without its entry at column c, by a row that has 1 there
abbrev pub without : ℕ → List Fraction → List Fraction → Option (List Fraction)
without c by row = less_row row (fraction_at row c) by

-- a row without its entries at the pivot columns, one after another
abbrev pub reduced : List ℕ → List (List Fraction) → List Fraction → Option (List Fraction)
reduced (c ∷ columns) (by ∷ rows) row = option_and_then (reduced columns rows) (without c by row)
reduced columns rows row = Some row

-- the place of the first entry that isn't 0
abbrev pub first_nonzero : List Fraction → Option ℕ
first_nonzero [] = None
first_nonzero (x ∷ xs) = if int_eq x.num (pos 0) then option_map suc (first_nonzero xs) else Some 0

-- a row divided by a number
abbrev pub divided : Fraction → List Fraction → Option (List Fraction)
divided pivot [] = Some []
divided pivot (x ∷ xs) = joined (quotient_of x pivot) (divided pivot xs)

-- rows without their entries at column c
abbrev pub cleared : ℕ → List Fraction → List (List Fraction) → Option (List (List Fraction))
cleared c by [] = Some []
cleared c by (row ∷ rows) = joined (without c by row) (cleared c by rows)

-- ---- candidates

-- a row more, with its pivot column
abbrev pub with_row : Kept → ℕ → ℕ → List Fraction → List (List Fraction) → Kept
with_row kept number c row rows = record {
  numbers = kept.numbers ++ number ∷ [];
  columns = kept.columns ++ c ∷ [];
  rows = rows ++ row ∷ [];
}

-- a reduced row is dropped where it has no pivot column; else it is divided by its entry there, and the others are
-- cleared by it
abbrev pub kept_with : Kept → ℕ → List Fraction → Option ℕ → Option Kept
kept_with kept number row None = Some kept
kept_with kept number row (Some c) =
    option_and_then (λ new. option_map (with_row kept number c new) (cleared c new kept.rows))
    (divided (fraction_at row c) row)

-- what is kept after a candidate: none where a number passes 128 bits
unfoldable pub kept_after : Kept → ℕ → List ℤ → Option Kept
kept_after kept number coef =
    option_and_then (λ row. kept_with kept number row (first_nonzero (take (length coef) row)))
    (reduced kept.columns kept.rows (candidate (length kept.rows) coef))

-- the value goes on, the error stays
abbrev pub then_on : {T U : Type 0} → (T → Result U NoBasis) → Result T NoBasis → Result U NoBasis
then_on f (Ok x) = f x
then_on f (Err e) = Err e

-- the candidates from this number on are taken in order, until n are kept
unfoldable pub eliminated : ℕ → Kept → ℕ → List Linear → Result Kept NoBasis
eliminated n kept number [] = if nat_eq (length kept.rows) n then Ok kept else Err (NotUnique (length kept.rows))
eliminated n kept number (r ∷ rows) =
    if nat_eq (length kept.rows) n
    then Ok kept
    else then_on (λ more. eliminated n more (suc number) rows) (ok_or (kept_after kept number r.coef) (TooLarge number))

-- ---- the inverse

-- the identity parts of the rows, one after another, and the least common multiple of their denominators
abbrev pub identity_parts : ℕ → List (List Fraction) → List Fraction
identity_parts n [] = []
identity_parts n (row ∷ rows) = drop n row ++ identity_parts n rows

abbrev pub denominator : ℕ → List (List Fraction) → ℕ
denominator n rows = common_denominator (length (identity_parts n rows)) (fraction_at (identity_parts n rows))

-- the row whose pivot column is j
abbrev pub row_of : List ℕ → List (List Fraction) → ℕ → List Fraction
row_of (c ∷ columns) (row ∷ rows) j = if nat_eq c j then row else row_of columns rows j
row_of columns rows j = []

-- the numbers other than 0 of a list, with their places, which are counted from t
abbrev pub nonzeros : ℕ → List ℤ → List (ℕ × ℤ)
nonzeros t [] = []
nonzeros t (m ∷ ms) = if int_eq m (pos 0) then nonzeros (suc t) ms else (t, m) ∷ nonzeros (suc t) ms

-- the unit list of column j: the identity part of its row, made whole
abbrev pub unit_of : ℕ → Kept → ℕ → List (ℕ × ℤ)
unit_of n kept j =
    nonzeros 0 (map (times_multiple (denominator n kept.rows)) (drop n (row_of kept.columns kept.rows j)))

abbrev pub basis_of : ℕ → Kept → Basis
basis_of n kept = record {
  kept = kept.numbers;
  den = pos (denominator n kept.rows);
  units = map (unit_of n kept) (range_with_len 0 n);
}

abbrev pub within_limit : ℤ → Bool
within_limit z = nat_le (unsigned_abs z) (unsigned_abs MAX_PROOF_NUMBER)

-- the basis, unless a number of it passes the limit of proof numbers
unfoldable pub small_basis : ℕ → ℕ → Kept → Result Basis NoBasis
small_basis n count kept =
    if within_limit (pos (denominator n kept.rows))
    && list_all (λ x. within_limit (times_multiple (denominator n kept.rows) x)) (identity_parts n kept.rows)
    then Ok (basis_of n kept)
    else Err (TooLarge count)

-- the elimination of a problem's rows
abbrev pub elimination : Problem → Result Basis NoBasis
elimination q =
    then_on (small_basis (length q.area.lo) (length q.rows)) (eliminated (length q.area.lo) nothing_kept 0 q.rows)

-- the result is this one, unless memory ran out
abbrev pub IsGiven : {T : Type 0} → Result T NoBasis → Result T NoBasis → Type 0
IsGiven wanted (Ok x) = wanted ≡ Ok x
IsGiven wanted (Err Memory) = Unit {0}
IsGiven wanted (Err e) = wanted ≡ Err e
