-- What stands of the certificate that was said so far, for each stack of the parts that are expected.
use Rattle.std.proofs.Common.{◌≡◌, ℕ, ◌<◌, ◌+◌, List, [], ◌∷◌, ◌++◌, length}
use Rattle.std.specs.Prelude.{ℤ, pos, ◌≤ℤ◌, Option, None, Some, All, map, nat_eq, if◌then◌else◌}
use Rattle.std.specs.List.{AllByRecursion}
use Rattle.bl_limits.specs.declared.TheConstants.{MAX_PROOF_NUMBER, MAX_PROBLEM_COEFFICIENT, MAX_PROBLEM_RHS}
use Rattle.bl_whole.specs.Within.{IsWithin, AreWithin}
use Rattle.bl_terms.specs.Points.{Area, IsArea, IsWithinArea, Linear}
use Rattle.bl_terms.specs.Programs.{Program, InBox, MeetsRows, columns, root, value_at}
use Rattle.bl_terms.specs.Responses.{Entry, Best, NoResponse, IsLink, IsResponse, response_cost}
use Rattle.bl_terms.specs.Bounds.{Multipliers, Proves}
use Rattle.bl_terms.specs.FollowerProofs.{follower_box, follower_problem}
use Rattle.bl_cut_terms.specs.declared.parts.Tight.{Tight}
use Rattle.bl_cut_terms.specs.NoGoods.{CutStep, LocalRow, AreCutSteps, AreInOrder, IsThere, IsUnit, IsTightAt}
use Rattle.bl_cut_terms.specs.NoGoods.{combined, cut_row, last_step, tight_rows, unit_at}
use Rattle.bl_cert_terms.specs.declared.stated.Statement.{Statement}
use Rattle.bl_cert_terms.specs.declared.stated.Statement.TheVariants.{Optimal, Infeasible}
use Rattle.bl_cert_terms.specs.Certificates.{ProvedEntry, Certificate, IsProvedEntry, ComesBefore, AreRising}
use Rattle.bl_cert_terms.specs.Certificates.{HasShownPoint, Closes, IsAccepted}
use Rattle.bl_certtext.specs.declared.part.Part.{Part}
use Rattle.bl_certtext.specs.declared.part.Part.TheVariants as parts
use Rattle.bl_certtext.specs.Grammar.{entries_from, cuts_from, parts_behind}
use Rattle.bl_certline.specs.declared.line.CertLine.{CertLine}
use Rattle.bl_check_terms.specs.Values.{followers_area}
use Rattle.bl_check_terms.specs.Reading.{before_last, last_entry, with_line}
use Rattle.bl_check_terms.specs.Accepting.{IsRightLine}
use Rattle.bl_check_terms.specs.Rules.{cutoff_of_entry, cut_at_hand, rows_before}
use Rattle.bl_check_terms.proofs.Lasts.{EndsIn}
use Rattle.bl_check_terms.proofs.Trees.{LeadsTo}

-- ---- what is stated

-- where a point is stated to be optimal, all is shown of it but what it costs the follower
abbrev pub IsStatedPoint : Program → Statement → Type 0
IsStatedPoint p (Optimal z v) = InBox p z × MeetsRows p z × (value_at p z ≡ v)
IsStatedPoint p Infeasible = Unit {0}

-- nothing is said but what is stated
abbrev pub IsBlank : Certificate → Type 0
IsBlank c = (c.entries ≡ []) × (c.cuts ≡ []) × (c.tree ≡ [])

abbrev pub IsUnstated : Certificate → Type 0
IsUnstated c = IsBlank c × (c.statement ≡ Infeasible)

-- ---- entries

-- the last entry's link is this one, and there is no entry where there is none
abbrev pub EndsWith : List ProvedEntry → Option (List ℤ) → Type 0
EndsWith entries None = entries ≡ []
EndsWith entries (Some link) =
    (before : List ProvedEntry) × (e : ProvedEntry) × (entries ≡ before ++ e ∷ []) × (e.link ≡ link)

-- the entries are proved and rise up to this link
pub record AreEntries (p : Program) (entries : List ProvedEntry) (last : Option (List ℤ)) : Type 0 where
  pub proved : All (IsProvedEntry p) entries
  pub rising : AreRising entries
  pub ends : EndsWith entries last

-- what is stated is shown, and neither a cut nor a node is said
abbrev pub IsBare : Program → Certificate → Type 0
IsBare p c = IsStatedPoint p c.statement × (c.cuts ≡ []) × (c.tree ≡ [])

-- the last entry is of this link, which comes behind those of the others, and they are proved
pub record IsOpen (p : Program) (entries : List ProvedEntry) (link : List ℤ) : Type 0 where
  pub ends : EndsIn last_entry entries
  pub same : (last_entry entries).link ≡ link
  pub is_link : IsLink p link
  pub proved : All (IsProvedEntry p) (before_last entries)
  pub rising : AreRising (before_last entries)
  pub above : All (λ e. ComesBefore e.link link) (before_last entries)

-- a best response is one, and has its cost
abbrev pub HasAnswer : Program → List ℤ → Entry → Type 0
HasAnswer p link (Best y v) = IsResponse p link y × (response_cost p y ≡ v)
HasAnswer p link NoResponse = Unit {0}

-- a bound proof of the entry over a box of the follower's columns
abbrev pub ClosesEntry : Program → List ℤ → Entry → Area → Multipliers → Type 0
ClosesEntry p link x a w = Proves (follower_problem p link a) (cutoff_of_entry x) w

abbrev pub HasSides : Area → Type 0
HasSides a = length a.hi ≡ length a.lo

-- the entry's proof is a tree whose nodes leave these boxes, which are of all columns
pub record IsProving (p : Program) (link : List ℤ) (e : ProvedEntry) (boxes : List Area) : Type 0 where
  pub answer : HasAnswer p link e.entry
  pub leads : LeadsTo (ClosesEntry p link e.entry) e.proof (follower_box p ∷ []) (map (followers_area p) boxes)
  pub sides : AllByRecursion HasSides boxes

-- the answer of the last entry is expected
pub record AnswerStands (p : Program) (c : Certificate) (rest : List Part) : Type 0 where
  pub left : ℕ
  pub link : List ℤ
  pub parts : rest ≡ entries_from left (Some link)
  pub opened : IsOpen p c.entries link
  pub silent : (last_entry c.entries).entry ≡ NoResponse
  pub unproved : (last_entry c.entries).proof ≡ []
  pub bare : IsBare p c

abbrev pub follower_parts : List Area → List Part
follower_parts boxes = map (λ a. parts.FollowerTree a) boxes

-- these boxes of the last entry's tree are expected
pub record FollowerStands (p : Program) (c : Certificate) (a : Area) (rest : List Part) : Type 0 where
  pub left : ℕ
  pub link : List ℤ
  pub boxes : List Area
  pub parts : rest ≡ follower_parts boxes ++ entries_from left (Some link)
  pub opened : IsOpen p c.entries link
  pub proving : IsProving p link (last_entry c.entries) (a ∷ boxes)
  pub bare : IsBare p c

-- ---- cuts

-- what is stated is shown, and the entries are proved and rise
pub record IsAnswered (p : Program) (statement : Statement) (entries : List ProvedEntry) : Type 0 where
  pub point : HasShownPoint p entries statement
  pub proved : All (IsProvedEntry p) entries
  pub rising : AreRising entries

-- so are the cuts, and no node is said
pub record CutsStand (p : Program) (c : Certificate) : Type 0 where
  pub answered : IsAnswered p c.statement c.entries
  pub cuts : AreCutSteps p [] c.cuts
  pub tree : c.tree ≡ []

-- more cuts are expected
abbrev pub AreMore : List Part → Type 0
AreMore rest = (place : ℕ) × (count : ℕ) × (rest ≡ cuts_from place count)

-- so much is kept of the last cut behind these local rows, and those before it are cuts
pub record CutStands (p : Program) (c : Certificate) (rest : List Part) (Kept : List LocalRow → CutStep → Type 0)
    : Type 0 where
  pub more : AreMore rest
  pub ends : EndsIn last_step c.cuts
  pub shown : AreCutSteps p [] (before_last c.cuts)
  pub kept : Kept (rows_before c) (cut_at_hand c)
  pub answered : IsAnswered p c.statement c.entries
  pub tree : c.tree ≡ []

-- the cut has a box
pub record IsBoxed (p : Program) (earlier : List LocalRow) (s : CutStep) : Type 0 where
  pub area : IsArea s.area
  pub within : IsWithinArea s.area (root p)
  pub units : s.parts.units ≡ []

-- ... and tight items and its row
pub record IsRowed (p : Program) (items : ℕ) (earlier : List LocalRow) (a : Area) (row : Linear) (tight : List Tight)
    : Type 0 where
  pub area : IsArea a
  pub within : IsWithinArea a (root p)
  pub same : row ≡ cut_row p a earlier tight
  pub size : length tight ≡ items
  pub there : All (IsThere p a earlier) tight
  pub order : AreInOrder tight
  pub coef : AreWithin MAX_PROBLEM_COEFFICIENT (cut_row p a earlier tight).coef
  pub rhs : IsWithin MAX_PROBLEM_RHS (cut_row p a earlier tight).rhs

abbrev pub AwaitsInverse : Program → ℕ → List LocalRow → CutStep → Type 0
AwaitsInverse p items earlier s = IsRowed p items earlier s.area s.row s.parts.tight × (s.parts.units ≡ [])

-- ... and the number of its inverse and these units, and so many more are expected
pub record IsInverting (p : Program) (left items : ℕ) (earlier : List LocalRow) (a : Area) (row : Linear)
    (tight : List Tight) (den : ℤ) (units : List (List (ℕ × ℤ))) : Type 0 where
  pub rowed : IsRowed p items earlier a row tight
  pub den_least : pos 1 ≤ℤ den
  pub den_most : den ≤ℤ MAX_PROOF_NUMBER
  pub count : length units + left ≡ columns p
  pub are_units : All (IsUnit (length tight)) units
  pub each : (j k : ℕ) → j < length units → k < columns p
      → combined (tight_rows p a earlier tight) (unit_at units j) k ≡ (if nat_eq j k then den else pos 0)

abbrev pub AwaitsUnits : Program → ℕ → ℕ → List LocalRow → CutStep → Type 0
AwaitsUnits p left items earlier s =
    IsInverting p left items earlier s.area s.row s.parts.tight s.parts.den s.parts.units

-- ... and its point
abbrev pub AwaitsResponse : Program → ℕ → List LocalRow → CutStep → Type 0
AwaitsResponse p items earlier s =
    AwaitsUnits p 0 items earlier s × IsTightAt p (tight_rows p s.area earlier s.parts.tight) s.parts.point

-- ---- the tree

-- the certificate but for its tree
abbrev pub treeless : Certificate → Certificate
treeless c = record c { tree = [] }

-- the tree's nodes leave these boxes, and all else is shown
pub record TreeLeaves (p : Program) (c : Certificate) (boxes : List Area) : Type 0 where
  pub answered : IsAnswered p c.statement c.entries
  pub cuts : AreCutSteps p [] c.cuts
  pub leads : LeadsTo (Closes p (treeless c)) c.tree (root p ∷ []) boxes

abbrev pub tree_parts : ℕ → List Area → List Part
tree_parts cuts boxes = map (λ a. parts.Tree a cuts) boxes

pub record TreeStands (p : Program) (c : Certificate) (a : Area) (cuts : ℕ) (rest : List Part) : Type 0 where
  pub boxes : List Area
  pub parts : rest ≡ tree_parts cuts boxes ++ parts.End ∷ []
  pub leaves : TreeLeaves p c (a ∷ boxes)

-- ---- all stacks

abbrev pub Stands : Program → List Part → Certificate → Type 0
Stands p [] c = IsAccepted p c
Stands p (parts.Version ∷ rest) c = (rest ≡ []) × IsUnstated c
Stands p (parts.Sense ∷ rest) c = (rest ≡ parts.Statement ∷ []) × IsUnstated c
Stands p (parts.Statement ∷ rest) c = (rest ≡ []) × IsUnstated c
Stands p (parts.Point ∷ rest) c =
    (rest ≡ parts.EntryCount ∷ []) × IsBlank c × ((v : ℤ) × (c.statement ≡ Optimal [] v))
Stands p (parts.EntryCount ∷ rest) c = (rest ≡ []) × IsBlank c × IsStatedPoint p c.statement
Stands p (parts.Entries left last ∷ rest) c = (rest ≡ []) × AreEntries p c.entries last × IsBare p c
Stands p (parts.Answer ∷ rest) c = AnswerStands p c rest
Stands p (parts.FollowerTree a ∷ rest) c = FollowerStands p c a rest
Stands p (parts.CutCount ∷ rest) c =
    (rest ≡ []) × ((last : Option (List ℤ)) × AreEntries p c.entries last) × IsBare p c
Stands p (parts.Cuts place count ∷ rest) c = (rest ≡ []) × CutsStand p c
Stands p (parts.CutArea place ∷ rest) c = AreMore rest × CutsStand p c
Stands p (parts.Tight place ∷ rest) c = CutStands p c rest (IsBoxed p)
Stands p (parts.Inverse items ∷ rest) c = CutStands p c rest (AwaitsInverse p items)
Stands p (parts.Units left items ∷ rest) c = (0 < left) × CutStands p c rest (AwaitsUnits p left items)
Stands p (parts.At ∷ rest) c =
    (items : ℕ) × (others : List Part) × (rest ≡ parts.Response ∷ others) × CutStands p c others (AwaitsUnits p 0 items)
Stands p (parts.Response ∷ rest) c = (items : ℕ) × CutStands p c rest (AwaitsResponse p items)
Stands p (parts.Head cuts ∷ rest) c = (rest ≡ []) × CutsStand p c
Stands p (parts.Tree a cuts ∷ rest) c = TreeStands p c a cuts rest
Stands p (parts.End ∷ rest) c = (rest ≡ []) × TreeLeaves p c []

-- a right line leads from what stands to what stands behind it
abbrev pub Steps : Program → Part → Type 0
Steps p part =
    (rest : List Part) (c : Certificate) (line : CertLine) → Stands p (part ∷ rest) c → IsRightLine p c part line
    → Stands p (parts_behind p part line ++ rest) (with_line p part line c)
