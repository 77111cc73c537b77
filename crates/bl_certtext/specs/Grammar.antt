-- Trusted. The grammar of a certificate: the parts that are expected, and the line with which a part begins.
use Rattle.std.specs.Prelude.{◌≡◌, ◌⊎◌, ℕ, zero, suc, ◌+◌, ◌-◌, ◌<◌, List, [], ◌∷◌, length, All, ℤ, pos}
use Rattle.std.specs.Prelude.{◌<ℤ◌, ⊤, Option, Some, None, unsigned_abs, nat_lt, MatchOption, if◌then◌else◌}
use Rattle.std.specs.Ordering.{int_eq}
use Rattle.bl_terms.specs.Points.{Area}
use Rattle.bl_terms.specs.Programs.{Program, InBox, columns, root}
use Rattle.bl_terms.specs.Responses.{InRanges, IsLink}
use Rattle.bl_terms.specs.Trees.{high_half, low_half}
use Rattle.bl_certline.specs.declared.line.CertLine.{CertLine}
use Rattle.bl_certline.specs.declared.line.CertLine.TheVariants as lines
use Rattle.bl_certtext.specs.declared.part.Following.{Following}
use Rattle.bl_certtext.specs.declared.part.Following.TheVariants.{Nothing, One, Two}
use Rattle.bl_certtext.specs.declared.part.Part.{Part}
use Rattle.bl_certtext.specs.declared.part.Part.TheVariants as parts
use Rattle.bl_certtext.specs.Places.{AreBelow, AreInOrder, IsAbove, IsFollowers, IsLeaf, IsPart, IsThere, SplitsAt}
use Rattle.bl_certtext.specs.Places.{lower_count}

-- ---- which line a part begins with

-- The line is of the form with which the part begins, and what it says is there for the model.
abbrev pub Begins : Program → Part → CertLine → Type 0
Begins p parts.Version (lines.Version number) = (number ≡ pos 1) ⊎ (number ≡ pos 2)
Begins p parts.Sense (lines.Sense maximise) = ⊤
Begins p parts.Statement (lines.StatesOptimal value) = ⊤
Begins p parts.Statement lines.StatesInfeasible = ⊤
Begins p parts.Point (lines.Point values) = InBox p values
Begins p parts.EntryCount (lines.Entries count) = ⊤
Begins p (parts.Entries left last) (lines.EntryHead link) = IsLink p link × IsAbove last link
Begins p parts.Answer (lines.Best value response) = InRanges p p.follower response
Begins p parts.Answer lines.NoAnswer = ⊤
Begins p (parts.FollowerTree a) (lines.Split column place) = IsFollowers p column × SplitsAt a column place
Begins p (parts.FollowerTree a) (lines.Proof den mult) = AreBelow (lower_count p) mult
Begins p parts.CutCount (lines.CutCount count) = ⊤
Begins p (parts.Cuts place count) lines.CutHead = place < count
Begins p (parts.CutArea place) (lines.Area sides) = IsPart p sides
Begins p (parts.Tight place) (lines.TightList items) = AreInOrder items × All (IsThere p place) items
Begins p (parts.Inverse items) (lines.Inverse den) = pos 0 <ℤ den
Begins p (parts.Units left items) (lines.Unit pairs) = AreBelow items pairs
Begins p parts.At (lines.At values) = InBox p values
Begins p parts.Response (lines.Response values) = InRanges p p.follower values
Begins p (parts.Head cuts) lines.TreeHead = ⊤
Begins p (parts.Tree a cuts) (lines.Split column place) = SplitsAt a column place
Begins p (parts.Tree a cuts) (lines.Close den value_row count cited mult) = IsLeaf p cuts value_row cited mult
Begins p (parts.Tree a cuts) lines.NoAnswer = ⊤
Begins p parts.End lines.End = ⊤
Begins p part line = ⊥

-- ---- what is expected behind that line

-- so many entries with links above this one, and then the cuts
abbrev pub entries_from : ℕ → Option (List ℤ) → List Part
entries_from zero last = parts.CutCount ∷ []
entries_from (suc left) last = parts.Entries (suc left) last ∷ []

-- the cuts from a place on, and then the tree
abbrev pub cuts_from : ℕ → ℕ → List Part
cuts_from place count = if nat_lt place count then parts.Cuts place count ∷ [] else parts.Head count ∷ []

-- so many units, and then the cut's point and response
abbrev pub units_from : ℕ → ℕ → List Part
units_from zero items = parts.At ∷ parts.Response ∷ []
units_from (suc left) items = parts.Units (suc left) items ∷ []

-- the two halves of a box at the column that the number names
abbrev pub low_of : Area → ℤ → ℤ → Area
low_of a column place = low_half a (unsigned_abs column) place

abbrev pub high_of : Area → ℤ → ℤ → Area
high_of a column place = high_half a (unsigned_abs column) place

-- the parts that are expected in place of one whose line was read
abbrev pub parts_behind : Program → Part → CertLine → List Part
parts_behind p parts.Version (lines.Version number) =
    if int_eq number (pos 1) then parts.Statement ∷ [] else parts.Sense ∷ parts.Statement ∷ []
parts_behind p parts.Statement (lines.StatesOptimal value) = parts.Point ∷ parts.EntryCount ∷ []
parts_behind p parts.Statement lines.StatesInfeasible = parts.EntryCount ∷ []
parts_behind p parts.EntryCount (lines.Entries count) = entries_from (unsigned_abs count) None
parts_behind p (parts.Entries left last) (lines.EntryHead link) = parts.Answer ∷ entries_from (left - 1) (Some link)
parts_behind p parts.Answer line = parts.FollowerTree (root p) ∷ []
parts_behind p (parts.FollowerTree a) (lines.Split column place) =
    parts.FollowerTree (low_of a column place) ∷ parts.FollowerTree (high_of a column place) ∷ []
parts_behind p parts.CutCount (lines.CutCount count) = cuts_from 0 (unsigned_abs count)
parts_behind p (parts.Cuts place count) line = parts.CutArea place ∷ cuts_from (place + 1) count
parts_behind p (parts.CutArea place) line = parts.Tight place ∷ []
parts_behind p (parts.Tight place) (lines.TightList items) = parts.Inverse (length items) ∷ []
parts_behind p (parts.Inverse items) line = units_from (columns p) items
parts_behind p (parts.Units left items) line = units_from (left - 1) items
parts_behind p (parts.Head cuts) line = parts.Tree (root p) cuts ∷ parts.End ∷ []
parts_behind p (parts.Tree a cuts) (lines.Split column place) =
    parts.Tree (low_of a column place) cuts ∷ parts.Tree (high_of a column place) cuts ∷ []
parts_behind p part line = []

-- the line is one that may stand here, and what is expected then
pub record Follows (p : Program) (part : Part) (line : CertLine) (next : List Part) : Type 0 where
  pub begins : Begins p part line
  pub next_parts : next ≡ parts_behind p part line

-- ---- the step over one line

-- the parts in their order
abbrev pub parts_in : Following → List Part
parts_in Nothing = []
parts_in (One part) = part ∷ []
parts_in (Two part next) = part ∷ next ∷ []

-- what follows where the line may stand there, and nothing exactly where it may not
abbrev pub IsStep : Program → Part → CertLine → Option Following → Type 0
IsStep p part line step = MatchOption step (¬ Begins p part line) (λ f. Follows p part line (parts_in f))
