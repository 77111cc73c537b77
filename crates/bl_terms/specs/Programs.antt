-- Trusted. Bilevel integer programs with bounded columns, after Moore and Bard (1990) and Tahernejad, Ralphs and
-- DeNegre (2020).
use Rattle.std.specs.Prelude.{ℕ, zero, suc, ℤ, Bool, false, not, ◌&&◌, ◌||◌, if◌then◌else◌, ◌++◌, ◌∷◌, ◌*ℤ◌, pos}
use Rattle.std.specs.Prelude.{negsuc, ◌≡◌, ◌≢◌, ◌<◌, ◌≤◌, ◌⊎◌, ◌↔◌, List, [], length, slice_index_or, Contains, IsTrue}
use Rattle.std.specs.Prelude.{refl}
use Rattle.std.specs.List.Sorted.{IsStrictlyIncreasing}
use Rattle.std.specs.Ordering.{int_eq}
use Rattle.std.specs.Coded.{Coded, code_by, coded×, coded_list, coded_ℤ, coded_ℕ, coded_bool}
use Rattle.bl_whole.specs.Sums.{component, dot}
use Rattle.bl_whole.specs.Within.{IsWithin}
use Rattle.bl_limits.specs.declared.TheConstants.{MAX_COLUMNS, MAX_ROWS, MAX_NUMBER, MAX_RHS}
use Rattle.bl_terms.specs.Points.{Area, area_code, Linear, InArea, IsArea, Meets, values_at, is_among}

-- a row: the inequality coef · z <= rhs, and whether it is the follower's ("lower")
pub record Row : Type 0 where
  pub coef : List ℤ
  pub rhs : ℤ
  pub lower : Bool

abbrev pub row_code : Coded Row
row_code =
    code_by (List ℤ × (ℤ × Bool)) (coded× (coded_list coded_ℤ) (coded× coded_ℤ coded_bool))
    (λ r. (r.coef, (r.rhs, r.lower)))
    (λ p. record { coef = p.0; rhs = p.1.0; lower = p.1.1 }) (λ _. refl)

-- a bilevel program. The numbers from lo to hi are each column's range. The leader minimises cost and the
-- follower follower_cost. follower has the places of the follower's columns, links those of the linking
-- columns. sense is 1 where the follower's cost was given to be minimised and -1 where it was given to be
-- maximised, and leader_sense says the same of the leader's: where it is -1 the cost here is the negation of
-- the given one
pub record Program : Type 0 where
  pub lo : List ℤ
  pub hi : List ℤ
  pub rows : List Row
  pub cost : List ℤ
  pub follower_cost : List ℤ
  pub follower : List ℕ
  pub links : List ℕ
  pub sense : ℤ
  pub leader_sense : ℤ

-- a program as pairs: its box and rows, the costs, the places and the senses
abbrev pub ProgramParts : Type 0
ProgramParts = (Area × List Row) × ((List ℤ × List ℤ) × ((List ℕ × List ℕ) × (ℤ × ℤ)))

abbrev pub program_of_parts : ProgramParts → Program
program_of_parts (box_and_rows, (costs, (places, senses))) = record {
  lo = box_and_rows.0.lo;
  hi = box_and_rows.0.hi;
  rows = box_and_rows.1;
  cost = costs.0;
  follower_cost = costs.1;
  follower = places.0;
  links = places.1;
  sense = senses.0;
  leader_sense = senses.1;
}

abbrev pub program_code : Coded Program
program_code =
    code_by ProgramParts
    (coded× (coded× area_code (coded_list row_code)) (coded× (coded× (coded_list coded_ℤ) (coded_list coded_ℤ))
    (coded× (coded× (coded_list coded_ℕ) (coded_list coded_ℕ)) (coded× coded_ℤ coded_ℤ))))
    (λ p. (
      (record { lo = p.lo; hi = p.hi }, p.rows),
      ((p.cost, p.follower_cost), ((p.follower, p.links), (p.sense, p.leader_sense))),
    ))
    program_of_parts
    (λ _. refl)

-- how many columns
abbrev pub columns : Program → ℕ
columns p = length p.lo

-- the box of the program
abbrev pub root : Program → Area
root p = record { lo = p.lo; hi = p.hi }

-- the row past the end: it asks nothing and is the leader's
abbrev pub no_row : Row
no_row = record { coef = []; rhs = pos 0; lower = false }

-- the row at a place
abbrev pub row_at : List Row → ℕ → Row
row_at rows i = slice_index_or rows i no_row

-- a row as an inequality
abbrev pub inequality : Row → Linear
inequality r = record { coef = r.coef; rhs = r.rhs }

-- z lies in the program's box
abbrev pub InBox : Program → List ℤ → Type 0
InBox p z = InArea (root p) z

-- z meets every row
pub record MeetsRows (p : Program) (z : List ℤ) : Type 0 where
  pub each : (i : ℕ) → i < length p.rows → Meets (inequality (row_at p.rows i)) z

-- z meets every row of the follower
pub record MeetsLowerRows (p : Program) (z : List ℤ) : Type 0 where
  pub each : (i : ℕ) → i < length p.rows → IsTrue (row_at p.rows i).lower → Meets (inequality (row_at p.rows i)) z

-- the leader's cost of z, which is always to be minimised
abbrev pub cost_at : Program → List ℤ → ℤ
cost_at p z = dot p.cost z

-- the same in the sense in which the leader's cost was given
abbrev pub value_at : Program → List ℤ → ℤ
value_at p z = p.leader_sense *ℤ cost_at p z

-- the follower's cost of z
abbrev pub follower_at : Program → List ℤ → ℤ
follower_at p z = dot p.follower_cost z

-- column k is the leader's
pub record IsLeader (p : Program) (k : ℕ) : Type 0 where
  pub column : k < columns p
  pub leads : ¬ Contains p.follower k

-- some row of the follower has a coefficient other than 0 in column k
abbrev pub IsInLower : Program → ℕ → Type 0
IsInLower p k = (i : ℕ) × (i < length p.rows) × IsTrue (row_at p.rows i).lower
    × (component (row_at p.rows i).coef k ≢ pos 0)

-- the linking columns: exactly the leader's columns with a coefficient other than 0 in some row of the follower, in
-- rising order
pub record IsLinking (p : Program) : Type 0 where
  pub rising : IsStrictlyIncreasing p.links
  pub exact : (k : ℕ) → Contains p.links k ↔ (IsLeader p k × IsInLower p k)

-- the tests of these facts: some row of the follower among the first n has a coefficient other than 0 in column k; k
-- links
abbrev pub is_in_lower : List Row → ℕ → ℕ → Bool
is_in_lower rows zero k = false
is_in_lower rows (suc n) k =
    is_in_lower rows n k || ((row_at rows n).lower && not (int_eq (component (row_at rows n).coef k) (pos 0)))

abbrev pub is_linking : List ℕ → List Row → ℕ → Bool
is_linking follower rows k = not (is_among k follower) && is_in_lower rows (length rows) k

-- the places below n that pass a test, in rising order
abbrev pub places_where : (ℕ → Bool) → ℕ → List ℕ
places_where test zero = []
places_where test (suc n) = if test n then places_where test n ++ n ∷ [] else places_where test n

-- THE LAW: the linking columns are the columns that pass the test
abbrev pub LinkingComputed : Type 0
LinkingComputed = (p : Program) → IsLinking p ↔ (p.links ≡ places_where (is_linking p.follower p.rows) (columns p))

-- the values of z on the linking columns
abbrev pub link_of : Program → List ℤ → List ℤ
link_of p z = values_at z p.links

-- the values of z on the follower's columns
abbrev pub response_of : Program → List ℤ → List ℤ
response_of p z = values_at z p.follower

-- z and z' agree on every column of the leader
pub record SameLead (p : Program) (z z' : List ℤ) : Type 0 where
  pub agree : (k : ℕ) → IsLeader p k → component z k ≡ component z' k

-- a sense: 1 where a cost is to be minimised, -1 where it is to be maximised
abbrev pub IsSense : ℤ → Type 0
IsSense z = (z ≡ pos 1) ⊎ (z ≡ negsuc 0)

-- a program whose parts fit together: every list has one number for each column, no column's range is empty,
-- the follower's columns rise and are columns, the follower's cost is 0 on the leader's columns, and links
-- has the linking columns
pub record IsProgram (p : Program) : Type 0 where
  pub box : IsArea (root p)
  pub row_columns : (i : ℕ) → i < length p.rows → length (row_at p.rows i).coef ≡ columns p
  pub cost_columns : length p.cost ≡ columns p
  pub follower_cost_columns : length p.follower_cost ≡ columns p
  pub follower_rising : IsStrictlyIncreasing p.follower
  pub follower_below : (k : ℕ) → Contains p.follower k → k < columns p
  pub leader_free : (k : ℕ) → IsLeader p k → component p.follower_cost k ≡ pos 0
  pub linking : IsLinking p
  pub sign : IsSense p.sense
  pub leader_sign : IsSense p.leader_sense

-- the limits on a program's size: few enough columns and rows, and numbers that are small enough
pub record KeepsLimits (p : Program) : Type 0 where
  pub few_columns : columns p ≤ MAX_COLUMNS
  pub few_rows : length p.rows ≤ MAX_ROWS
  pub coefs : (i k : ℕ) → i < length p.rows → IsWithin MAX_NUMBER (component (row_at p.rows i).coef k)
  pub rhs : (i : ℕ) → i < length p.rows → IsWithin MAX_RHS (row_at p.rows i).rhs
  pub costs : (k : ℕ) → IsWithin MAX_NUMBER (component p.cost k)
  pub follower_costs : (k : ℕ) → IsWithin MAX_NUMBER (component p.follower_cost k)
  pub lower_bounds : (k : ℕ) → IsWithin MAX_NUMBER (component p.lo k)
  pub upper_bounds : (k : ℕ) → IsWithin MAX_NUMBER (component p.hi k)
