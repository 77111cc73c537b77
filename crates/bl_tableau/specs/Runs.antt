-- A run of pivots from a problem's opening dictionary, and what a tableau keeps of it.
use Rattle.std.specs.Prelude.{◌≡◌, ℕ, ◌*◌, ◌<◌, ◌≤◌, Bool, true, false, List, length, slice_index}
use Rattle.bl_terms.specs.Bounds.{Problem, Fits}
use Rattle.bl_simplex.specs.Fractions.{Fraction}
use Rattle.bl_simplex.specs.Dictionaries.{Dictionary, columns, height_of, width_of, opening}
use Rattle.bl_tableau.specs.Cells.{placed, AreReduced}
use Rattle.bl_simplex.specs.Pivots.{replay, AllNarrow, EndsWide}

-- the problem, the greatest count of pivots, the pivots so far (each a row and a column), and whether the last one
-- passed 128 bits
pub record Run : Type 0 where
  pub problem : Problem
  pub most : ℕ
  pub pivots : List (ℕ × ℕ)
  pub spent : Bool

-- the dictionary that the pivots lead to
abbrev pub current : Run → Dictionary
current run = replay (opening run.problem) run.pivots

-- lists of numbers and labels show the dictionary
pub record Shows (q : Problem) (cells : List Fraction) (of_rows of_columns : List ℕ) (d : Dictionary) : Type 0 where
  pub places : (i j : ℕ) → i < height_of q → j < width_of q → placed cells (width_of q) i j ≡ d.place i j
  pub row_labels : (i : ℕ) → i < height_of q → slice_index of_rows i ≡ d.row_label i
  pub column_labels : (j : ℕ) → j < columns q → slice_index of_columns j ≡ d.column_label j

-- what a tableau keeps: until it is spent its numbers and labels are the replay of its pivots, each of which was
-- narrow;
-- once it is spent all pivots but the last were, and the last was not
pub record KeepsReplay (run : Run) (cells : List Fraction) (of_rows of_columns : List ℕ) (capacity : ℕ) : Type 0 where
  pub fits : Fits run.problem
  pub size : length cells ≡ height_of run.problem * width_of run.problem
  pub rows : length of_rows ≡ height_of run.problem
  pub labels : length of_columns ≡ columns run.problem
  pub few : length run.pivots ≤ run.most
  pub room : run.most ≤ capacity
  pub shows : run.spent ≡ false → Shows run.problem cells of_rows of_columns (current run)
  pub numbers : run.spent ≡ false → AreReduced cells
  pub narrow : run.spent ≡ false → AllNarrow run.problem (opening run.problem) run.pivots
  pub failed : run.spent ≡ true → (row : ℕ) × (column : ℕ) × EndsWide run.problem run.pivots row column
