-- Internal. The lines of a certificate in pieces.
use Rattle.std.specs.Prelude.{◌<◌, ◌^◌, pos, List, [], ◌∷◌, ◌++◌, length, map, All}
use Rattle.std.specs.List.{flat_map}
use Rattle.bl_terms.specs.Programs.{Program}
use Rattle.bl_terms.specs.Trees.{BareNode}
use Rattle.bl_cut_terms.specs.NoGoods.{CutStep}
use Rattle.bl_book_terms.specs.Books.{Book}
use Rattle.bl_cert_terms.specs.Certificates.{ProvedEntry, LeafProof}
use Rattle.bl_cert_book.specs.BookCertificates.{stated_by}
use Rattle.bl_certline.specs.declared.line.CertLine.{CertLine}
use Rattle.bl_certline.specs.declared.line.CertLine.TheVariants as lines
use Rattle.bl_check_terms.specs.Values.{sides_of, item_of}
use Rattle.bl_check_terms.specs.Writing.{statement_lines, sense_line, entry_lines, cut_lines, node_line}

-- the version, the sense and what is stated
abbrev pub head_lines : Book → List CertLine
head_lines b = lines.Version (pos 2) ∷ sense_line b.program ∷ statement_lines (stated_by b.program b.best)

-- the entries and the cuts, each with their number
abbrev pub list_lines : Program → List ProvedEntry → List CutStep → List CertLine
list_lines p entries steps =
    lines.Entries (pos (length entries))
    ∷ (flat_map (entry_lines p) entries ++ lines.CutCount (pos (length steps)) ∷ flat_map cut_lines steps)

-- the tree
abbrev pub tree_lines : List (BareNode LeafProof) → List CertLine
tree_lines nodes = lines.TreeHead ∷ (map node_line nodes ++ lines.End ∷ [])

-- a cut's box, tight rows and the number of its inverse; and its point and response
abbrev pub box_lines : CutStep → List CertLine
box_lines s =
    lines.CutHead ∷ lines.Area (sides_of s.area) ∷ lines.TightList (map item_of s.parts.tight)
    ∷ lines.Inverse s.parts.den ∷ []

abbrev pub point_lines : CutStep → List CertLine
point_lines s = lines.At s.parts.point ∷ lines.Response s.parts.response ∷ []

-- ---- counts

-- so many items are tight that their number has 64 bits
abbrev pub HasFewTight : CutStep → Type 0
HasFewTight s = length s.parts.tight < 2 ^ 63

-- the entries, the cuts and each cut's tight items are so many that their numbers have 64 bits
pub record AreCounted (entries : List ProvedEntry) (steps : List CutStep) : Type 0 where
  pub few_entries : length entries < 2 ^ 63
  pub few_steps : length steps < 2 ^ 63
  pub tight : All HasFewTight steps
