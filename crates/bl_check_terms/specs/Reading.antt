-- Trusted. The certificate that lines say, which grows line by line: what stands at the end of its lists is the entry,
-- the cut or the tree that is being read.
use Rattle.std.specs.Prelude.{ℕ, ℤ, pos, ◌+◌, Bool, List, [], ◌∷◌, ◌++◌, length, map, unsigned_abs}
use Rattle.bl_terms.specs.Points.{Area}
use Rattle.bl_terms.specs.Programs.{Program}
use Rattle.bl_terms.specs.Responses.{Entry, Best, NoResponse}
use Rattle.bl_terms.specs.Trees.{BareNode, Leaf, Split}
use Rattle.bl_terms.specs.Bounds.{Multipliers}
use Rattle.bl_cut_terms.specs.declared.parts.Tight.{Tight}
use Rattle.bl_cut_terms.specs.NoGoods.{CutStep, local_row, no_step, cut_row}
use Rattle.bl_cert_terms.specs.declared.stated.Statement.{Statement}
use Rattle.bl_cert_terms.specs.declared.stated.Statement.TheVariants.{Optimal, Infeasible}
use Rattle.bl_cert_terms.specs.Certificates.{ProvedEntry, LeafProof, Bounded, NoAnswer, Certificate}
use Rattle.bl_certline.specs.declared.line.CertLine.{CertLine}
use Rattle.bl_certline.specs.declared.line.CertLine.TheVariants as lines
use Rattle.bl_certtext.specs.declared.part.Part.{Part}
use Rattle.bl_certtext.specs.declared.part.Part.TheVariants as parts
use Rattle.bl_certtext.specs.Places.{lower_count}
use Rattle.bl_check_terms.specs.Values.{multipliers, area_of, place_in, tight_of, unit_of}

-- nothing is said yet
abbrev pub nothing : Certificate
nothing = record { statement = Infeasible; entries = []; cuts = []; tree = [] }

-- ---- the last of a list

-- the list with its last element changed
abbrev pub at_last : {A : Type 0} → (A → A) → List A → List A
at_last f [] = []
at_last f (x ∷ []) = f x ∷ []
at_last f (x ∷ y ∷ xs) = x ∷ at_last f (y ∷ xs)

-- the list without its last element
abbrev pub before_last : {A : Type 0} → List A → List A
before_last [] = []
before_last (x ∷ []) = []
before_last (x ∷ y ∷ xs) = x ∷ before_last (y ∷ xs)

-- ---- what is stated

-- the value that is stated
abbrev pub stated_value : Statement → ℤ
stated_value (Optimal z v) = v
stated_value Infeasible = pos 0

-- the statement with the point
abbrev pub with_point : List ℤ → Statement → Statement
with_point z (Optimal y v) = Optimal z v
with_point z Infeasible = Infeasible

-- ---- entries

-- the entry past the end, and the last one
abbrev pub no_entry : ProvedEntry
no_entry = record { link = []; entry = NoResponse; proof = [] }

abbrev pub last_entry : List ProvedEntry → ProvedEntry
last_entry [] = no_entry
last_entry (e ∷ []) = e
last_entry (e ∷ f ∷ entries) = last_entry (f ∷ entries)

-- an entry of which only the link is said
abbrev pub entry_of_link : List ℤ → ProvedEntry
entry_of_link link = record { link = link; entry = NoResponse; proof = [] }

-- what is said of the link
abbrev pub with_answer : Entry → ProvedEntry → ProvedEntry
with_answer x e = record e { entry = x }

-- one more node of the proof
abbrev pub with_node : BareNode Multipliers → ProvedEntry → ProvedEntry
with_node n e = record e { proof = e.proof ++ n ∷ [] }

-- ---- cuts

-- a cut of which only the box is said
abbrev pub cut_on : Area → CutStep
cut_on a = record no_step { area = a }

-- its tight rows, where these cuts stand before it
abbrev pub with_tight : Program → List CutStep → List Tight → CutStep → CutStep
with_tight p earlier tight s =
    record s { parts = record s.parts { tight = tight }; row = cut_row p s.area (map local_row earlier) tight }

abbrev pub with_den : ℤ → CutStep → CutStep
with_den den s = record s { parts = record s.parts { den = den } }

abbrev pub with_unit : List (ℕ × ℤ) → CutStep → CutStep
with_unit unit s = record s { parts = record s.parts { units = s.parts.units ++ unit ∷ [] } }

abbrev pub with_place : List ℤ → CutStep → CutStep
with_place z s = record s { parts = record s.parts { point = z } }

abbrev pub with_response : List ℤ → CutStep → CutStep
with_response y s = record s { parts = record s.parts { response = y } }

-- ---- the tree

-- what closes a leaf over the program's rows, the value row and the cited cuts
abbrev pub leaf_of : Program → ℤ → Bool → List ℤ → List (ℤ × ℤ) → LeafProof
leaf_of p den uses cited pairs =
    Bounded (multipliers (length p.rows + 1 + length cited) den pairs) uses (map unsigned_abs cited)

-- ---- one line more

-- the certificate with the last entry, or the last cut, changed; and with one more node of the tree
abbrev pub change_entry : (ProvedEntry → ProvedEntry) → Certificate → Certificate
change_entry f c = record c { entries = at_last f c.entries }

abbrev pub change_cut : (CutStep → CutStep) → Certificate → Certificate
change_cut f c = record c { cuts = at_last f c.cuts }

abbrev pub add_node : BareNode LeafProof → Certificate → Certificate
add_node n c = record c { tree = c.tree ++ n ∷ [] }

-- what is said once the line is read with which the part begins
abbrev pub with_line : Program → Part → CertLine → Certificate → Certificate
with_line p parts.Statement (lines.StatesOptimal value) c = record c { statement = Optimal [] value }
with_line p parts.Point (lines.Point values) c = record c { statement = with_point values c.statement }
with_line p (parts.Entries left last) (lines.EntryHead link) c =
    record c { entries = c.entries ++ entry_of_link link ∷ [] }
with_line p parts.Answer (lines.Best value response) c = change_entry (with_answer (Best response value)) c
with_line p (parts.FollowerTree a) (lines.Split column place) c =
    change_entry (with_node (Split (place_in p.follower (unsigned_abs column)) place tt)) c
with_line p (parts.FollowerTree a) (lines.Proof den mult) c =
    change_entry (with_node (Leaf (multipliers (lower_count p) den mult))) c
with_line p (parts.CutArea place) (lines.Area sides) c = record c { cuts = c.cuts ++ cut_on (area_of sides) ∷ [] }
with_line p (parts.Tight place) (lines.TightList items) c =
    change_cut (with_tight p (before_last c.cuts) (map tight_of items)) c
with_line p (parts.Inverse items) (lines.Inverse den) c = change_cut (with_den den) c
with_line p (parts.Units left items) (lines.Unit pairs) c = change_cut (with_unit (unit_of pairs)) c
with_line p parts.At (lines.At values) c = change_cut (with_place values) c
with_line p parts.Response (lines.Response values) c = change_cut (with_response values) c
with_line p (parts.Tree a cuts) (lines.Split column place) c = add_node (Split (unsigned_abs column) place tt) c
with_line p (parts.Tree a cuts) (lines.Close den uses count cited mult) c =
    add_node (Leaf (leaf_of p den uses cited mult)) c
with_line p (parts.Tree a cuts) lines.NoAnswer c = add_node (Leaf NoAnswer) c
with_line p part line c = c
