-- Trusted. The form alone that a line must have where a part is expected.
use Rattle.std.specs.Prelude.{◌≡◌, ◌⊎◌, length, pos, ⊤}
use Rattle.bl_terms.specs.Programs.{Program, columns}
use Rattle.bl_certline.specs.declared.line.CertLine.{CertLine}
use Rattle.bl_certline.specs.declared.line.CertLine.TheVariants as lines
use Rattle.bl_certtext.specs.declared.part.Part.{Part}
use Rattle.bl_certtext.specs.declared.part.Part.TheVariants as parts
use Rattle.bl_certtext.specs.Grammar.{Begins}

-- The line is of the form with which the part begins, and lists as many numbers as the model asks for. Whether what it
-- says is there isn't asked.
abbrev pub HasForm : Program → Part → CertLine → Type 0
HasForm p parts.Version (lines.Version number) = (number ≡ pos 1) ⊎ (number ≡ pos 2)
HasForm p parts.Sense (lines.Sense maximise) = ⊤
HasForm p parts.Statement (lines.StatesOptimal value) = ⊤
HasForm p parts.Statement lines.StatesInfeasible = ⊤
HasForm p parts.Point (lines.Point values) = length values ≡ columns p
HasForm p parts.EntryCount (lines.Entries count) = ⊤
HasForm p (parts.Entries left last) (lines.EntryHead link) = length link ≡ length p.links
HasForm p parts.Answer (lines.Best value response) = length response ≡ length p.follower
HasForm p parts.Answer lines.NoAnswer = ⊤
HasForm p (parts.FollowerTree a) (lines.Split column place) = ⊤
HasForm p (parts.FollowerTree a) (lines.Proof den mult) = ⊤
HasForm p parts.CutCount (lines.CutCount count) = ⊤
HasForm p (parts.Cuts place count) lines.CutHead = ⊤
HasForm p (parts.CutArea place) (lines.Area sides) = length sides ≡ columns p
HasForm p (parts.Tight place) (lines.TightList items) = ⊤
HasForm p (parts.Inverse items) (lines.Inverse den) = ⊤
HasForm p (parts.Units left items) (lines.Unit pairs) = ⊤
HasForm p parts.At (lines.At values) = length values ≡ columns p
HasForm p parts.Response (lines.Response values) = length values ≡ length p.follower
HasForm p (parts.Head cuts) lines.TreeHead = ⊤
HasForm p (parts.Tree a cuts) (lines.Split column place) = ⊤
HasForm p (parts.Tree a cuts) (lines.Close den value_row count cited mult) = ⊤
HasForm p (parts.Tree a cuts) lines.NoAnswer = ⊤
HasForm p parts.End lines.End = ⊤
HasForm p part line = ⊥

-- THE LAW

-- A line with which a part begins has its form.
abbrev pub BeginsWithForm : Type 0
BeginsWithForm = (p : Program) (part : Part) (line : CertLine) → Begins p part line → HasForm p part line
