-- Trusted. The text of a certificate, in version 2, and that the text of an accepted certificate is accepted.
use Rattle.std.specs.Prelude.{ℕ, ℤ, pos, negsuc, List, [], ◌∷◌, ◌++◌, length, map, slice_index, All}
use Rattle.std.specs.List.{flat_map}
use Rattle.std.specs.Ordering.{int_eq}
use Rattle.bl_terms.specs.Programs.{Program}
use Rattle.bl_terms.specs.Responses.{Entry, Best, NoResponse}
use Rattle.bl_terms.specs.Trees.{BareNode, Leaf, Split}
use Rattle.bl_terms.specs.Bounds.{Multipliers}
use Rattle.bl_model.specs.View.{IsModel}
use Rattle.bl_cut_terms.specs.NoGoods.{CutStep}
use Rattle.bl_cert_terms.specs.declared.stated.Statement.{Statement}
use Rattle.bl_cert_terms.specs.declared.stated.Statement.TheVariants.{Optimal, Infeasible}
use Rattle.bl_cert_terms.specs.Certificates.{ProvedEntry, LeafProof, Bounded, NoAnswer, Certificate, IsAccepted}
use Rattle.bl_certline.specs.declared.line.CertLine.{CertLine}
use Rattle.bl_certline.specs.declared.line.CertLine.TheVariants as lines
use Rattle.bl_certline.specs.Fields.{Bytes}
use Rattle.bl_certline.specs.Lines.{IsCount}
use Rattle.bl_certtext.specs.Texts.{text_of}
use Rattle.bl_check_terms.specs.Values.{pairs_of, sides_of, item_of, unit_pairs}
use Rattle.bl_check_terms.specs.Accepting.{IsTextOf}

-- what is stated
abbrev pub statement_lines : Statement → List CertLine
statement_lines (Optimal z v) = lines.StatesOptimal v ∷ lines.Point z ∷ []
statement_lines Infeasible = lines.StatesInfeasible ∷ []

-- an entry and its proof
abbrev pub answer_line : Entry → CertLine
answer_line (Best y v) = lines.Best v y
answer_line NoResponse = lines.NoAnswer

abbrev pub proof_line : Program → BareNode Multipliers → CertLine
proof_line p (Leaf w) = lines.Proof w.den (pairs_of w.mult)
proof_line p (Split j v s) = lines.Split (pos (slice_index p.follower j)) v

abbrev pub entry_lines : Program → ProvedEntry → List CertLine
entry_lines p e = lines.EntryHead e.link ∷ answer_line e.entry ∷ map (proof_line p) e.proof

-- a cut
abbrev pub unit_line : List (ℕ × ℤ) → CertLine
unit_line unit = lines.Unit (unit_pairs unit)

abbrev pub cut_lines : CutStep → List CertLine
cut_lines s =
    lines.CutHead ∷ lines.Area (sides_of s.area) ∷ lines.TightList (map item_of s.parts.tight)
    ∷ lines.Inverse s.parts.den
    ∷ (map unit_line s.parts.units ++ lines.At s.parts.point ∷ lines.Response s.parts.response ∷ [])

-- a node of the tree
abbrev pub node_line : BareNode LeafProof → CertLine
node_line (Split j v s) = lines.Split (pos j) v
node_line (Leaf (Bounded w uses cited)) =
    lines.Close w.den uses (pos (length cited)) (map pos cited) (pairs_of w.mult)
node_line (Leaf NoAnswer) = lines.NoAnswer

-- the leader's sense
abbrev pub sense_line : Program → CertLine
sense_line p = lines.Sense (int_eq p.leader_sense (negsuc 0))

-- the lines of a certificate
abbrev pub lines_of : Program → Certificate → List CertLine
lines_of p c =
    lines.Version (pos 2) ∷ sense_line p
    ∷ (statement_lines c.statement ++ lines.Entries (pos (length c.entries))
    ∷ (flat_map (entry_lines p) c.entries ++ lines.CutCount (pos (length c.cuts))
    ∷ (flat_map cut_lines c.cuts ++ lines.TreeHead ∷ (map node_line c.tree ++ lines.End ∷ []))))

-- its text
abbrev pub certificate_text : Program → Certificate → Bytes
certificate_text p c = text_of (lines_of p c)

-- ---- numbers

-- the numbers of entries, of cuts and of each cut's tight items have 64 bits
pub record HasCounts (c : Certificate) : Type 0 where
  pub entries : IsCount (pos (length c.entries))
  pub cuts : IsCount (pos (length c.cuts))
  pub tight : All (λ s. IsCount (pos (length s.parts.tight))) c.cuts

-- THE LAW

-- the text of an accepted certificate whose lists can be counted is accepted, and says it
abbrev pub WrittenIsAccepted : Type 0
WrittenIsAccepted =
    (p : Program) (c : Certificate) → IsModel p → IsAccepted p c → HasCounts c → IsTextOf p (certificate_text p c) c
