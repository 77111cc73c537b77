-- Trusted. The canonical auxiliary text of a follower.
use Rattle.std.specs.Prelude.{ℕ, List, ◌++◌, length, map, ℤ, pos, codes}
use Rattle.std.specs.Fmt.{signed_decimal}
use Rattle.std.specs.List.{flat_map}
use Rattle.bl_raw.specs.declared.raw.RawAux.{RawAux}

-- a key, a space, the number and a line feed
abbrev pub number_line : List ℕ → ℤ → List ℕ
number_line key number = key ++ (codes " " ++ (signed_decimal number ++ codes "\n"))

-- a line for each number in order
abbrev pub number_lines : List ℕ → List ℤ → List ℕ
number_lines key numbers = flat_map (number_line key) numbers

-- the counts, then a line for each follower column, row and cost in order, and the sense
unfoldable pub aux_text : RawAux → List ℕ
aux_text aux =
    number_line (codes "N") (pos (length aux.columns))
    ++ number_line (codes "M") (pos (length aux.rows))
    ++ number_lines (codes "LC") (map pos aux.columns)
    ++ number_lines (codes "LR") (map pos aux.rows)
    ++ number_lines (codes "LO") aux.costs
    ++ number_line (codes "OS") aux.sense
