-- Trusted: the dictionary of the simplex method over a box (Chvatal 1983), and the one that a problem begins with.
use Rattle.std.specs.Prelude.{ℕ, ◌+◌, ◌-◌, Bool, nat_lt, ◌==◌, if◌then◌else◌, ℤ, pos, negsuc, neg_ℤ, ◌-ℤ◌, ◌*ℤ◌, int_lt}
use Rattle.std.specs.Prelude.{unsigned_abs, List, length}
use Rattle.bl_whole.specs.Sums.{component, sum_below}
use Rattle.bl_terms.specs.Bounds.{Problem, linear_at}
use Rattle.bl_simplex.specs.Fractions.{Fraction, whole_fraction}

-- Each row reads: its variable is its right side less the sum of entry times column variable. place i j is
-- the entry of row i at column j, and at the column after the last one the right side. A label is the number
-- of a variable.
pub record Dictionary : Type 0 where
  pub place : ℕ → ℕ → Fraction
  pub row_label : ℕ → ℕ
  pub column_label : ℕ → ℕ

-- how many columns, which is also the number of the column of right sides
abbrev pub columns : Problem → ℕ
columns q = length q.area.lo

-- the number of the cost row, the last one: the rows of the problem and a row for each side of the box stand before it
abbrev pub cost_row : Problem → ℕ
cost_row q = length q.rows + columns q

-- how many rows a dictionary has, and how many numbers a row
abbrev pub height_of : Problem → ℕ
height_of q = cost_row q + 1

abbrev pub width_of : Problem → ℕ
width_of q = columns q + 1

-- column j costs less the greater it is
abbrev pub descends : Problem → ℕ → Bool
descends q j = int_lt (component q.cost j) (pos 0)

-- the end of column j's range at which it costs least. The variable with number j is how far the column is from it
abbrev pub start_at : Problem → ℕ → ℤ
start_at q j = if descends q j then component q.area.hi j else component q.area.lo j

-- the direction in which column j leaves that end
abbrev pub sign_at : Problem → ℕ → ℤ
sign_at q j = if descends q j then negsuc 0 else pos 1

-- the value of coefficients where every column is at its start
abbrev pub at_start : Problem → List ℤ → ℤ
at_start q cs = sum_below (length cs) (λ j. component cs j *ℤ start_at q j)

-- the right side of row i: the slack of a row, the length of a range, or the cost, where every column is at its start
abbrev pub opening_right : Problem → ℕ → ℤ
opening_right q i =
    if nat_lt i (length q.rows)
    then (linear_at q.rows i).rhs -ℤ at_start q (linear_at q.rows i).coef
    else (if nat_lt i (cost_row q)
    then component q.area.hi (i - length q.rows) -ℤ component q.area.lo (i - length q.rows)
    else at_start q q.cost)

-- the entry of row i at column j
abbrev pub opening_entry : Problem → ℕ → ℕ → ℤ
opening_entry q i j =
    if nat_lt i (length q.rows)
    then component (linear_at q.rows i).coef j *ℤ sign_at q j
    else (if nat_lt i (cost_row q)
    then (if i == length q.rows + j then pos 1 else pos 0)
    else neg_ℤ (pos (unsigned_abs (component q.cost j))))

-- the number at row i and column j
abbrev pub opening_number : Problem → ℕ → ℕ → ℤ
opening_number q i j = if nat_lt j (columns q) then opening_entry q i j else opening_right q i

-- the opening dictionary: the columns' variables are 0 to n - 1, and row i has the variable n + i
unfoldable pub opening : Problem → Dictionary
opening q = record {
  place = λ i j. whole_fraction (opening_number q i j);
  row_label = λ i. columns q + i;
  column_label = λ j. j;
}
