-- Trusted: the report of what is stated of a program.
use Rattle.std.specs.Prelude.{ℕ, List, [], ◌∷◌, ◌++◌, ℤ, ◌*ℤ◌, codes}
use Rattle.std.specs.Fmt.{decimal, signed_decimal}
use Rattle.std.specs.List.{flat_map}
use Rattle.bl_raw.specs.declared.raw.RawColumn.{RawColumn}
use Rattle.bl_raw.specs.declared.raw.RawMps.{RawMps}
use Rattle.bl_raw.specs.declared.raw.RawAux.{RawAux}
use Rattle.bl_aux.specs.Canonical.{aux_text}
use Rattle.bl_mps_write.specs.Canonical.{mps_text}
use Rattle.bl_terms.specs.Programs.{Program, follower_at}
use Rattle.bl_cert_terms.specs.declared.stated.Statement.{Statement}
use Rattle.bl_cert_terms.specs.declared.stated.Statement.TheVariants.{Optimal, Infeasible}

-- `column NAME VALUE`
abbrev pub column_line : RawColumn → ℤ → List ℕ
column_line column value = codes "column " ++ column.name ++ codes " " ++ signed_decimal value ++ codes "\n"

-- a line for each column in order
abbrev pub column_lines : List RawColumn → List ℤ → List ℕ
column_lines [] point = []
column_lines (column ∷ columns) [] = []
column_lines (column ∷ columns) (value ∷ point) = column_line column value ++ column_lines columns point

-- the report of an optimal point: its value to the leader, the follower's value, and each column's
unfoldable pub optimal_text : List RawColumn → List ℤ → ℤ → ℤ → List ℕ
optimal_text columns point value follower =
    codes "optimal\nvalue " ++ signed_decimal value ++ codes "\nfollower " ++ signed_decimal follower ++ codes "\n" ++
    column_lines columns point

-- the report of a statement of a program with these columns; the follower's value is in the sense of the auxiliary text
abbrev pub report_of : List RawColumn → Program → Statement → List ℕ
report_of columns p (Optimal z v) = optimal_text columns z v (follower_at p z *ℤ p.sense)
report_of columns p Infeasible = codes "infeasible\n"

-- what `check` prints of an accepted certificate's statement
abbrev pub accepted_report : List RawColumn → Program → Statement → List ℕ
accepted_report columns p s = codes "accepted\n" ++ report_of columns p s

-- `links` and the linking columns
abbrev pub links_line : List ℕ → List ℕ
links_line links = codes "links" ++ (flat_map (λ link. codes " " ++ decimal link) links ++ codes "\n")

-- what `show` prints: both texts in their canonical form, and the linking columns
unfoldable pub show_text : RawMps → RawAux → Program → List ℕ
show_text mps aux p = mps_text mps ++ (aux_text aux ++ links_line p.links)
