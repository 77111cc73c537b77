-- The words of an MPS text. Trusted.
use Rattle.std.specs.Prelude.{ℕ, Bool, true, false, ◌||◌, List, Option, Some, None, codes, if◌then◌else◌}
use Rattle.std.specs.Str.{bytes_eq}
use Rattle.bl_mps_terms.specs.declared.words.Section.{Section}
use Rattle.bl_mps_terms.specs.declared.words.Section.TheVariants.{Name, ObjSense, Rows, Columns, RightSides, Ranges}
use Rattle.bl_mps_terms.specs.declared.words.Section.TheVariants.{Bounds, End}
use Rattle.bl_mps_terms.specs.declared.words.RowKind.{RowKind}
use Rattle.bl_mps_terms.specs.declared.words.RowKind.TheVariants.{Free, AtMost, AtLeast, Equal}
use Rattle.bl_mps_terms.specs.declared.words.BoundKind.{BoundKind}
use Rattle.bl_mps_terms.specs.declared.words.BoundKind.TheVariants.{Up, Lo, Fx, Ui, Li, Bv, Fr, Mi, Pl}

abbrev pub Bytes : Type 0
Bytes = List ℕ

abbrev pub section_named : Bytes → Option Section
section_named word =
    if bytes_eq word (codes "NAME") then Some Name else (if bytes_eq word (codes "OBJSENSE") then Some ObjSense
    else (if bytes_eq word (codes "ROWS") then Some Rows else (if bytes_eq word (codes "COLUMNS") then Some Columns
    else (if bytes_eq word (codes "RHS") then Some RightSides else (if bytes_eq word (codes "RANGES") then Some Ranges
    else (if bytes_eq word (codes "BOUNDS") then Some Bounds else (if bytes_eq word (codes "ENDATA") then Some End
    else None)))))))

abbrev pub row_kind : Bytes → Option RowKind
row_kind word =
    if bytes_eq word (codes "N") then Some Free else (if bytes_eq word (codes "L") then Some AtMost
    else (if bytes_eq word (codes "G") then Some AtLeast else (if bytes_eq word (codes "E") then Some Equal else None)))

abbrev pub bound_kind : Bytes → Option BoundKind
bound_kind word =
    if bytes_eq word (codes "UP") then Some Up else (if bytes_eq word (codes "LO") then Some Lo
    else (if bytes_eq word (codes "FX") then Some Fx else (if bytes_eq word (codes "UI") then Some Ui
    else (if bytes_eq word (codes "LI") then Some Li else (if bytes_eq word (codes "BV") then Some Bv
    else (if bytes_eq word (codes "FR") then Some Fr else (if bytes_eq word (codes "MI") then Some Mi
    else (if bytes_eq word (codes "PL") then Some Pl else None))))))))

-- whether a word for the leader's sense asks for a maximum
abbrev pub maximises : Bytes → Option Bool
maximises word =
    if bytes_eq word (codes "MAX") || bytes_eq word (codes "MAXIMIZE") then Some true
    else (if bytes_eq word (codes "MIN") || bytes_eq word (codes "MINIMIZE") then Some false else None)
