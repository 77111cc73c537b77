-- Trusted. Points and boxes: a point is a list of whole numbers, one for each column of an integer program.
use Rattle.std.specs.Prelude.{ℕ, zero, suc, ℤ, pos, Bool, false, ◌||◌, [], ◌∷◌, nat_eq, ◌≡◌, ◌<◌, ◌≤ℤ◌, List, length}
use Rattle.std.specs.Prelude.{map, refl, slice_index}
use Rattle.std.specs.Coded.{Coded, code_by, coded×, coded_list, coded_ℤ}
use Rattle.bl_whole.specs.Sums.{component, dot}

-- a box: the least and the greatest number of each column
pub record Area : Type 0 where
  pub lo : List ℤ
  pub hi : List ℤ

abbrev pub area_code : Coded Area
area_code =
    code_by (List ℤ × List ℤ) (coded× (coded_list coded_ℤ) (coded_list coded_ℤ)) (λ a. (a.lo, a.hi))
    (λ p. record { lo = p.0; hi = p.1 }) (λ _. refl)

-- an inequality: coef · z is at most rhs
pub record Linear : Type 0 where
  pub coef : List ℤ
  pub rhs : ℤ

abbrev pub linear_code : Coded Linear
linear_code =
    code_by (List ℤ × ℤ) (coded× (coded_list coded_ℤ) coded_ℤ) (λ r. (r.coef, r.rhs))
    (λ p. record { coef = p.0; rhs = p.1 }) (λ _. refl)

-- both sides of a box have one number for each column, and no column's range is empty
pub record IsArea (a : Area) : Type 0 where
  pub sides : length a.hi ≡ length a.lo
  pub ordered : (k : ℕ) → k < length a.lo → component a.lo k ≤ℤ component a.hi k

-- z is a point of the box: one number for each column, each in its column's range
pub record InArea (a : Area) (z : List ℤ) : Type 0 where
  pub columns : length z ≡ length a.lo
  pub least : (k : ℕ) → k < length a.lo → component a.lo k ≤ℤ component z k
  pub most : (k : ℕ) → k < length a.lo → component z k ≤ℤ component a.hi k

-- each point of the first box is one of the second: the same columns, and no side further out
pub record IsWithinArea (a outer : Area) : Type 0 where
  pub columns : length a.lo ≡ length outer.lo
  pub least : (k : ℕ) → k < length outer.lo → component outer.lo k ≤ℤ component a.lo k
  pub most : (k : ℕ) → k < length outer.lo → component a.hi k ≤ℤ component outer.hi k

-- the box has one point
pub record IsOnePoint (a : Area) : Type 0 where
  pub fixed : (j : ℕ) → j < length a.lo → component a.lo j ≡ component a.hi j

-- the box leaves one number to each of these columns
pub record Fixes (a : Area) (ks : List ℕ) : Type 0 where
  pub fixed : (j : ℕ) → j < length ks → component a.lo (slice_index ks j) ≡ component a.hi (slice_index ks j)

-- z meets the inequality
pub record Meets (r : Linear) (z : List ℤ) : Type 0 where
  pub holds : dot r.coef z ≤ℤ r.rhs

-- n zeros, and the row that asks nothing of n columns
abbrev pub zeros : ℕ → List ℤ
zeros zero = []
zeros (suc n) = pos 0 ∷ zeros n

abbrev pub row_of_zeros : ℕ → Linear
row_of_zeros n = record { coef = zeros n; rhs = pos 0 }

-- the values of z at the places in ks, in their order
abbrev pub values_at : List ℤ → List ℕ → List ℤ
values_at z ks = map (λ k. component z k) ks

-- k is among ks
abbrev pub is_among : ℕ → List ℕ → Bool
is_among k [] = false
is_among k (j ∷ js) = nat_eq k j || is_among k js

-- THE LAWS

-- a point of a box that lies within another is a point of the other
abbrev pub PartHasNoOtherPoints : Type 0
PartHasNoOtherPoints = (a outer : Area) (z : List ℤ) → IsWithinArea a outer → InArea a z → InArea outer z

-- every point meets the row that asks nothing
abbrev pub ZerosAskNothing : Type 0
ZerosAskNothing = (n : ℕ) (z : List ℤ) → Meets (row_of_zeros n) z
