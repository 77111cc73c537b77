-- Trusted. The program that a model's two texts make together.
use Rattle.std.specs.Prelude.{ℕ, ◌+◌, Bool, ◌==◌, if◌then◌else◌, List, [], ◌∷◌, ◌++◌, length, map, ℤ, pos, negsuc}
use Rattle.std.specs.Prelude.{neg_ℤ, ◌*ℤ◌, Option, None, Some}
use Rattle.std.specs.List.{zip, range_with_len}
use Rattle.bl_terms.specs.Points.{is_among}
use Rattle.bl_terms.specs.Programs.{Row, Program, is_linking, places_where}
use Rattle.bl_raw.specs.declared.raw.RawRow.{RawRow}
use Rattle.bl_raw.specs.declared.raw.RawColumn.{RawColumn}
use Rattle.bl_raw.specs.declared.raw.RawMps.{RawMps}
use Rattle.bl_raw.specs.declared.raw.RawAux.{RawAux}

-- the number that stands with place k, 0 where none does
abbrev pub number_for : List (ℕ × ℤ) → ℕ → ℤ
number_for [] k = pos 0
number_for (e ∷ es) k = if k == e.0 then e.1 else number_for es k

-- the coefficients of a column, one for each of the rows
abbrev pub dense_column : ℕ → RawColumn → List ℤ
dense_column row_count column = map (number_for column.entries) (range_with_len 0 row_count)

-- the coefficients of row i, one for each column
abbrev pub coefficients : List RawColumn → ℕ → List ℤ
coefficients columns i = map (λ c. number_for c.entries i) columns

-- coef · z <= hi, where that side is there
abbrev pub rhs_row : List ℤ → Bool → Option ℤ → List Row
rhs_row coef lower None = []
rhs_row coef lower (Some hi) = record { coef = coef; rhs = hi; lower = lower } ∷ []

-- -coef · z <= -lo, where that side is there
abbrev pub lhs_row : List ℤ → Bool → Option ℤ → List Row
lhs_row coef lower None = []
lhs_row coef lower (Some lo) = record { coef = map neg_ℤ coef; rhs = neg_ℤ lo; lower = lower } ∷ []

-- the rows of row i of the text: that of its right-hand side, and then that of its left-hand side
abbrev pub sides : List RawColumn → List ℕ → ℕ → RawRow → List Row
sides columns lower_rows i row =
    rhs_row (coefficients columns i) (is_among i lower_rows) row.hi
    ++ lhs_row (coefficients columns i) (is_among i lower_rows) row.lo

-- those of all rows from row i on, in order
abbrev pub rows_from : List RawColumn → List ℕ → ℕ → List RawRow → List Row
rows_from columns lower_rows i [] = []
rows_from columns lower_rows i (row ∷ rows) =
    sides columns lower_rows i row ++ rows_from columns lower_rows (i + 1) rows

-- the follower's columns, each with its cost, which is always to be minimised
abbrev pub follower_numbers : RawAux → List (ℕ × ℤ)
follower_numbers aux = zip aux.columns (map (λ cost. cost *ℤ aux.sense) aux.costs)

-- the rows of the program, in the order of the text
abbrev pub rows_of : RawMps → List ℕ → List Row
rows_of mps lower_rows = rows_from mps.columns lower_rows 0 mps.rows

-- the sense of the leader: 1 where it minimises and -1 where it maximises
abbrev pub leader_sense_of : Bool → ℤ
leader_sense_of maximise = if maximise then negsuc 0 else pos 1

-- the program that the two texts make
unfoldable pub program_of : RawMps → RawAux → Program
program_of mps aux = record {
  lo = map (λ c. c.lo) mps.columns;
  hi = map (λ c. c.hi) mps.columns;
  rows = rows_of mps aux.rows;
  cost = map (λ c. c.cost *ℤ leader_sense_of mps.maximise) mps.columns;
  follower_cost = map (number_for (follower_numbers aux)) (range_with_len 0 (length mps.columns));
  follower = places_where (λ k. is_among k aux.columns) (length mps.columns);
  links = places_where (is_linking aux.columns (rows_of mps aux.rows)) (length mps.columns);
  sense = aux.sense;
  leader_sense = leader_sense_of mps.maximise;
}
