-- Trusted. The integer no-good cut of DeNegre and Ralphs (2009). Rows that hold with equality at one point alone are
-- added up, and the right side is lowered by 1, so that of the whole points that meet the rows the cut takes away that
-- one. It isn't bilevel feasible, since the follower has a cheaper response there.
use Rattle.std.specs.Prelude.{ℕ, suc, ℤ, pos, negsuc, neg_ℤ, ◌≡◌, ◌≢◌, ◌<◌, ◌≤◌, ◌⊎◌, ◌+ℤ◌, ◌-ℤ◌, ◌*ℤ◌, ◌≤ℤ◌, ◌<ℤ◌}
use Rattle.std.specs.Prelude.{List, [], ◌∷◌, ◌++◌, length, map, slice_index_or, slice_set, if◌then◌else◌, nat_eq, All}
use Rattle.std.specs.List.{range_with_len}
use Rattle.bl_limits.specs.declared.TheConstants.{MAX_PROBLEM_COEFFICIENT, MAX_PROBLEM_RHS, MAX_PROOF_NUMBER}
use Rattle.bl_whole.specs.Sums.{component, sum_below, dot}
use Rattle.bl_whole.specs.Within.{IsWithin, AreWithin}
use Rattle.bl_terms.specs.Points.{Area, IsArea, IsWithinArea, Linear, zeros}
use Rattle.bl_terms.specs.Programs.{Program, IsProgram, columns, root, row_at, inequality, InBox, link_of, follower_at}
use Rattle.bl_terms.specs.Responses.{IsResponse, response_cost}
use Rattle.bl_terms.specs.Bounds.{linear_at}
use Rattle.bl_cut_terms.specs.declared.parts.Tight.{Tight}
use Rattle.bl_cut_terms.specs.declared.parts.Tight.TheVariants.{Row, Upper, Lower, Cut}
use Rattle.bl_cut_terms.specs.declared.parts.CutParts.{CutParts}
use Rattle.bl_cut_terms.specs.ValidRows.{IsValidRow}

-- a row, and a box on which it is to be valid
pub record LocalRow : Type 0 where
  pub area : Area
  pub row : Linear

-- the local row past the end, and the one at a place
abbrev pub no_local_row : LocalRow
no_local_row = record { area = record { lo = []; hi = [] }; row = record { coef = []; rhs = pos 0 } }

abbrev pub local_row_at : List LocalRow → ℕ → LocalRow
local_row_at rows k = slice_index_or rows k no_local_row

-- ---- the rows that a cut adds up

-- the row that an item stands for: a row of the program, z_j <= hi_j or -z_j <= -lo_j of the box, or an earlier cut
abbrev pub tight_row : Program → Area → List LocalRow → Tight → Linear
tight_row p a earlier (Row i) = inequality (row_at p.rows i)
tight_row p a earlier (Upper j) = record { coef = slice_set (zeros (columns p)) j (pos 1); rhs = component a.hi j }
tight_row p a earlier (Lower j) =
    record { coef = slice_set (zeros (columns p)) j (negsuc 0); rhs = neg_ℤ (component a.lo j) }
tight_row p a earlier (Cut k) = (local_row_at earlier k).row

abbrev pub tight_rows : Program → Area → List LocalRow → List Tight → List Linear
tight_rows p a earlier tight = map (tight_row p a earlier) tight

-- the sum of rows of n columns, with its right side lowered by 1
abbrev pub lowered_sum : ℕ → List Linear → Linear
lowered_sum n rows = record {
  coef = map (λ j. sum_below (length rows) (λ i. component (linear_at rows i).coef j)) (range_with_len 0 n);
  rhs = sum_below (length rows) (λ i. (linear_at rows i).rhs) -ℤ pos 1;
}

-- the cut
abbrev pub cut_row : Program → Area → List LocalRow → List Tight → Linear
cut_row p a earlier tight = lowered_sum (columns p) (tight_rows p a earlier tight)

-- ---- what is asked of its parts

-- what an item names is there; an earlier cut's box contains the cut's own
abbrev pub IsThere : Program → Area → List LocalRow → Tight → Type 0
IsThere p a earlier (Row i) = i < length p.rows
IsThere p a earlier (Upper j) = j < columns p
IsThere p a earlier (Lower j) = j < columns p
IsThere p a earlier (Cut k) = (k < length earlier) × IsWithinArea a (local_row_at earlier k).area

-- an item's kind and its place there
abbrev pub kind_of : Tight → ℕ
kind_of (Row i) = 0
kind_of (Upper j) = 1
kind_of (Lower j) = 2
kind_of (Cut k) = 3

abbrev pub place_of : Tight → ℕ
place_of (Row i) = i
place_of (Upper j) = j
place_of (Lower j) = j
place_of (Cut k) = k

-- rows stand before upper sides, these before lower sides, and these before earlier cuts; places rise in each kind
abbrev pub IsBefore : Tight → Tight → Type 0
IsBefore x y = (kind_of x < kind_of y) ⊎ ((kind_of x ≡ kind_of y) × (place_of x < place_of y))

abbrev pub AreInOrder : List Tight → Type 0
AreInOrder [] = Unit {0}
AreInOrder (x ∷ []) = Unit {0}
AreInOrder (x ∷ y ∷ tight) = IsBefore x y × AreInOrder (y ∷ tight)

-- places below n that rise, with nonzero numbers within the limit of proof numbers
abbrev pub IsUnitFrom : ℕ → ℕ → List (ℕ × ℤ) → Type 0
IsUnitFrom least n [] = Unit {0}
IsUnitFrom least n ((i, m) ∷ unit) =
    ((least ≤ i) × (i < n) × (m ≢ pos 0) × (neg_ℤ MAX_PROOF_NUMBER ≤ℤ m) × (m ≤ℤ MAX_PROOF_NUMBER))
    × IsUnitFrom (suc i) n unit

abbrev pub IsUnit : ℕ → List (ℕ × ℤ) → Type 0
IsUnit n unit = IsUnitFrom 0 n unit

-- the items and the numbers are as they should be, and the cut's numbers are within their limits
pub record HasSize (p : Program) (a : Area) (earlier : List LocalRow) (parts : CutParts) : Type 0 where
  pub there : All (IsThere p a earlier) parts.tight
  pub order : AreInOrder parts.tight
  pub units_count : length parts.units ≡ columns p
  pub units : All (IsUnit (length parts.tight)) parts.units
  pub den_least : pos 1 ≤ℤ parts.den
  pub den_most : parts.den ≤ℤ MAX_PROOF_NUMBER
  pub coef : AreWithin MAX_PROBLEM_COEFFICIENT (cut_row p a earlier parts.tight).coef
  pub rhs : IsWithin MAX_PROBLEM_RHS (cut_row p a earlier parts.tight).rhs

-- the combination of rows with the multipliers of a unit, at column k
abbrev pub combined : List Linear → List (ℕ × ℤ) → ℕ → ℤ
combined rows [] k = pos 0
combined rows ((i, m) ∷ unit) k = m *ℤ component (linear_at rows i).coef k +ℤ combined rows unit k

abbrev pub unit_at : List (List (ℕ × ℤ)) → ℕ → List (ℕ × ℤ)
unit_at units j = slice_index_or units j []

-- for each column the rows combine to den times it alone
pub record Inverts (n : ℕ) (rows : List Linear) (den : ℤ) (units : List (List (ℕ × ℤ))) : Type 0 where
  pub each : (j k : ℕ) → j < n → k < n → combined rows (unit_at units j) k ≡ (if nat_eq j k then den else pos 0)

-- the point lies in the program's box, and each row holds there with equality
pub record IsTightAt (p : Program) (rows : List Linear) (point : List ℤ) : Type 0 where
  pub inside : InBox p point
  pub equal : (i : ℕ) → i < length rows → dot (linear_at rows i).coef point ≡ (linear_at rows i).rhs

-- y is a response of the follower to the link of z, and costs him less than z
pub record HasBetterResponse (p : Program) (z y : List ℤ) : Type 0 where
  pub response : IsResponse p (link_of p z) y
  pub cheaper : response_cost p y <ℤ follower_at p z

-- the parts show a no-good cut on the box, with these earlier cuts
pub record IsNoGood (p : Program) (a : Area) (earlier : List LocalRow) (parts : CutParts) : Type 0 where
  pub size : HasSize p a earlier parts
  pub inverse : Inverts (columns p) (tight_rows p a earlier parts.tight) parts.den parts.units
  pub tight : IsTightAt p (tight_rows p a earlier parts.tight) parts.point
  pub response : HasBetterResponse p parts.point parts.response

-- ---- cuts that use cuts

-- a cut in a list: its box, its parts and its row. Its items name earlier cuts of the list
pub record CutStep : Type 0 where
  pub area : Area
  pub parts : CutParts
  pub row : Linear

abbrev pub local_row : CutStep → LocalRow
local_row s = record { area = s.area; row = s.row }

-- the step is a no-good cut on a part of the program's box
pub record IsCutStep (p : Program) (earlier : List LocalRow) (s : CutStep) : Type 0 where
  pub area : IsArea s.area
  pub within : IsWithinArea s.area (root p)
  pub row : s.row ≡ cut_row p s.area earlier s.parts.tight
  pub shown : IsNoGood p s.area earlier s.parts

-- each step is one with these earlier cuts and the steps before it
abbrev pub AreCutSteps : Program → List LocalRow → List CutStep → Type 0
AreCutSteps p earlier [] = Unit {0}
AreCutSteps p earlier (s ∷ steps) = IsCutStep p earlier s × AreCutSteps p (earlier ++ local_row s ∷ []) steps

-- a cut of a program with all that it uses: the last step is the cut itself
pub record NoGoodCut : Type 0 where
  pub program : Program
  pub steps : List CutStep

-- the step past the end, and the step at a place
abbrev pub no_step : CutStep
no_step = record {
  area = record { lo = []; hi = [] };
  parts = record { tight = []; den = pos 1; units = []; point = []; response = [] };
  row = record { coef = []; rhs = pos 0 };
}

abbrev pub step_at : List CutStep → ℕ → CutStep
step_at steps k = slice_index_or steps k no_step

abbrev pub last_step : List CutStep → CutStep
last_step [] = no_step
last_step (s ∷ []) = s
last_step (s ∷ t ∷ steps) = last_step (t ∷ steps)

-- the cut's box and row
abbrev pub cut_of : NoGoodCut → LocalRow
cut_of c = local_row (last_step c.steps)

-- THE LAWS

-- where the earlier cuts are valid on their boxes, a no-good cut is valid on its own
abbrev pub NoGoodLaw : Type 0
NoGoodLaw =
    (p : Program) (a : Area) (earlier : List LocalRow) (parts : CutParts) → IsProgram p → IsArea a
    → IsWithinArea a (root p) → All (λ e. IsValidRow p e.area e.row) earlier → IsNoGood p a earlier parts
    → IsValidRow p a (cut_row p a earlier parts.tight)

-- each step of a list is valid on its box
abbrev pub NoGoodsLaw : Type 0
NoGoodsLaw = (p : Program) (steps : List CutStep) → IsProgram p → AreCutSteps p [] steps
    → All (λ s. IsValidRow p s.area s.row) steps
