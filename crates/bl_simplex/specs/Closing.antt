-- Trusted: when a dictionary closes the box, and the dual multipliers that it gives: a row shows that no
-- point of the box meets the rows (Farkas 1902), or the cost row that none is below the cutoff.
use Rattle.std.specs.Prelude.{ℕ, zero, suc, ◌+◌, ◌<◌, ◌⊎◌, ◌==◌, if◌then◌else◌, Option, Some, None, unwrap_or}
use Rattle.std.specs.Prelude.{option_map, ℤ, pos, ◌-ℤ◌, ◌*ℤ◌, ◌≤ℤ◌, ◌<ℤ◌, unsigned_abs, length}
use Rattle.bl_limits.specs.declared.TheConstants.{MAX_PROOF_NUMBER}
use Rattle.bl_terms.specs.Bounds.{Problem}
use Rattle.bl_simplex.specs.Fractions.{Fraction, whole_fraction, negated}
use Rattle.bl_simplex.specs.Rationals.{common_denominator, times_multiple}
use Rattle.bl_simplex.specs.Dictionaries.{Dictionary, columns, cost_row}

-- row r, which isn't the cost row, has a negative right side and no negative entry
pub record ClosesByRow (q : Problem) (d : Dictionary) (r : ℕ) : Type 0 where
  pub row_in : r < cost_row q
  pub infeasible : (d.place r (columns q)).num <ℤ pos 0
  pub entries : (j : ℕ) → j < columns q → pos 0 ≤ℤ (d.place r j).num

-- the right side of the cost row is above u - 1
abbrev pub ClosesByCost : Problem → Option ℤ → Dictionary → Type 0
ClosesByCost q None d = ⊥
ClosesByCost q (Some u) d =
    let value = d.place (cost_row q) (columns q) in
    ((u -ℤ pos 1) *ℤ pos value.den) <ℤ value.num

-- the dictionary closes the box for the cutoff u, in one of two ways
abbrev pub Closes : Problem → Option ℤ → Dictionary → Type 0
Closes q u d = ((r : ℕ) × ClosesByRow q d r) ⊎ ClosesByCost q u d

-- r is the first row that closes
pub record IsFirstClosingRow (q : Problem) (d : Dictionary) (r : ℕ) : Type 0 where
  pub closes : ClosesByRow q d r
  pub earlier : (k : ℕ) → k < r → ¬ ClosesByRow q d k

-- ---- by label

-- the place below n whose label is l
abbrev pub labelled : ℕ → (ℕ → ℕ) → ℕ → Option ℕ
labelled zero label l = None
labelled (suc n) label l = if label n == l then Some n else labelled n label l

-- row r's entry in the column labelled l, or the second fraction where no column is
abbrev pub entry_labelled : Problem → Dictionary → ℕ → ℕ → Fraction → Fraction
entry_labelled q d r l otherwise = unwrap_or (option_map (d.place r) (labelled (columns q) d.column_label l)) otherwise

-- the multiplier of row i where row r closes: r's entry in the column of i's slack, 1 where r is the row of that slack
abbrev pub row_multiplier : Problem → Dictionary → ℕ → ℕ → Fraction
row_multiplier q d r i =
    let slack = columns q + i in
    entry_labelled q d r slack (if d.row_label r == slack then whole_fraction (pos 1) else whole_fraction (pos 0))

-- the multiplier of row i where the cost row closes: its negated entry in the column of i's slack
abbrev pub cost_multiplier : Problem → Dictionary → ℕ → Fraction
cost_multiplier q d i = negated (entry_labelled q d (cost_row q) (columns q + i) (whole_fraction (pos 0)))

-- the value of the variable l where every column's variable is 0: the right side of the row labelled l
abbrev pub basic_value : Problem → Dictionary → ℕ → Fraction
basic_value q d l =
    unwrap_or (option_map (λ i. d.place i (columns q)) (labelled (cost_row q) d.row_label l)) (whole_fraction (pos 0))

-- made whole by the least common multiple of their denominators, the multipliers or that multiple pass the limit of
-- proof numbers
abbrev pub PassLimit : Problem → (ℕ → Fraction) → Type 0
PassLimit q f =
    let common = common_denominator (length q.rows) f in
    (MAX_PROOF_NUMBER <ℤ pos common)
    ⊎ ((i : ℕ) × (i < length q.rows) × (MAX_PROOF_NUMBER <ℤ pos (unsigned_abs (times_multiple common (f i)))))
