-- Trusted. Certificates of an answer to a bilevel program, when one is accepted, and that what it states is then true.
-- A certificate is a branch-and-bound tree (Land and Doig 1960) whose leaves are closed by bounds over valid rows, with
-- the proofs of what it says of the follower and of its cuts. Nothing here asks who wrote it.
use Rattle.std.specs.Prelude.{ℕ, ℤ, pos, Bool, true, false, ◌≡◌, ◌<◌, ◌≤◌, ◌↔◌, List, [], ◌∷◌, ◌++◌, length, map}
use Rattle.std.specs.Prelude.{Option, Some, None, All, AllPairs, Any}
use Rattle.std.specs.List.Sorted.{IsStrictlyIncreasing}
use Rattle.std.specs.Ordering.{int_cmp}
use Rattle.std.specs.Cmp.Lexicographic.{slice_cmp}
use Rattle.std.specs.declared.cmp.Ordering.TheVariants.{Less}
use Rattle.bl_limits.specs.declared.TheConstants.{MAX_CUTS}
use Rattle.bl_whole.specs.Sums.{component}
use Rattle.bl_terms.specs.Points.{Area, IsWithinArea, Fixes}
use Rattle.bl_terms.specs.Programs.{Program, IsProgram, InBox, MeetsRows, root, link_of, cost_at, value_at}
use Rattle.bl_terms.specs.Programs.{follower_at}
use Rattle.bl_terms.specs.Feasible as feasible
use Rattle.bl_terms.specs.Responses.{Entry, Best, NoResponse, IsLink, IsTrueEntry}
use Rattle.bl_terms.specs.Trees.{BareNode, Anything, Covers}
use Rattle.bl_terms.specs.Bounds.{Multipliers, Proves}
use Rattle.bl_terms.specs.FollowerProofs.{IsFollowerProof}
use Rattle.bl_cut_terms.specs.ValidRows.{IsValidRow}
use Rattle.bl_cut_terms.specs.NoGoods.{CutStep, step_at, local_row, AreCutSteps}
use Rattle.bl_leaf_terms.specs.Nodes.{fixed_link}
use Rattle.bl_leaf_terms.specs.Leaves.{leaf_problem}
use Rattle.bl_cert_terms.specs.declared.stated.Statement.{Statement}
use Rattle.bl_cert_terms.specs.declared.stated.Statement.TheVariants.{Optimal, Infeasible}

-- ---- what a certificate has

-- an entry with its proof: a link, what is said of it, and the nodes of a tree of bound proofs
pub record ProvedEntry : Type 0 where
  pub link : List ℤ
  pub entry : Entry
  pub proof : List (BareNode Multipliers)

-- what closes a box: multipliers, whether the value row is used, and the places of the cited cuts; or that the box's
-- link has no response
pub data LeafProof : Type 0 where
  Bounded : Multipliers → Bool → List ℕ → LeafProof
  NoAnswer : LeafProof

-- what is stated, the entries, the cuts, each of which uses those before it, and the tree
pub record Certificate : Type 0 where
  pub statement : Statement
  pub entries : List ProvedEntry
  pub cuts : List CutStep
  pub tree : List (BareNode LeafProof)

-- ---- what it states

-- the statement is true of the program
abbrev pub StatementHolds : Program → Statement → Type 0
StatementHolds p (Optimal z v) = feasible.Optimal p z v
StatementHolds p Infeasible = feasible.Infeasible p

-- the cost that every bilevel feasible point is to reach, none where there is to be no such point
abbrev pub stated_cutoff : Program → Statement → Option ℤ
stated_cutoff p (Optimal z v) = Some (cost_at p z)
stated_cutoff p Infeasible = None

-- ---- the entries

-- the entry's link gives each linking column a value in its range, and its tree proves what is said of the link
pub record IsProvedEntry (p : Program) (e : ProvedEntry) : Type 0 where
  pub link : IsLink p e.link
  pub proof : IsFollowerProof p e.link e.entry e.proof

-- the first link comes before the second in lexicographic order; each entry's link comes before the later ones
abbrev pub ComesBefore : List ℤ → List ℤ → Type 0
ComesBefore l m = slice_cmp int_cmp l m ≡ Less

abbrev pub AreRising : List ProvedEntry → Type 0
AreRising entries = AllPairs (λ e f. ComesBefore e.link f.link) entries

-- an entry of the list says this of the link; an entry says that its best response costs v
abbrev pub Says : List ProvedEntry → List ℤ → Entry → Type 0
Says entries l x = Any (λ e. (e.link ≡ l) × (e.entry ≡ x)) entries

abbrev pub SaysBest : List ProvedEntry → List ℤ → ℤ → Type 0
SaysBest entries l v = (y : List ℤ) × Says entries l (Best y v)

-- ---- the point

-- the point lies in the box, meets the rows and has the value, and it costs the follower what an entry says of its link
pub record IsShownPoint (p : Program) (entries : List ProvedEntry) (z : List ℤ) (v : ℤ) : Type 0 where
  pub inside : InBox p z
  pub rows : MeetsRows p z
  pub value : value_at p z ≡ v
  pub follower : SaysBest entries (link_of p z) (follower_at p z)

-- where a point is stated to be optimal, it is such a point
abbrev pub HasShownPoint : Program → List ProvedEntry → Statement → Type 0
HasShownPoint p entries (Optimal z v) = IsShownPoint p entries z v
HasShownPoint p entries Infeasible = Unit {0}

-- ---- the leaves

-- there is a cut at the place, and its box contains this one
pub record IsCited (cuts : List CutStep) (a : Area) (k : ℕ) : Type 0 where
  pub below : k < length cuts
  pub within : IsWithinArea a (step_at cuts k).area

-- the right side of the value row: where the row is used the box fixes the linking columns, and an entry says that the
-- best response of their link costs so much; else there is none, and the row's place has the multiplier 0
abbrev pub UsesValue : Program → List ProvedEntry → Area → Multipliers → Bool → Option ℤ → Type 0
UsesValue p entries a w true None = ⊥
UsesValue p entries a w true (Some v) = Fixes a p.links × SaysBest entries (fixed_link p a) v
UsesValue p entries a w false value = (value ≡ None) × (component w.mult (length p.rows) ≡ pos 0)

-- the multipliers prove the cutoff over the box, by the program's rows, the value row and the cited cuts
pub record IsBounded (p : Program) (c : Certificate) (a : Area) (w : Multipliers) (uses : Bool) (cited : List ℕ)
    : Type 0 where
  pub few : length cited ≤ MAX_CUTS
  pub rising : IsStrictlyIncreasing cited
  pub there : All (IsCited c.cuts a) cited
  pub value : Option ℤ
  pub has : UsesValue p c.entries a w uses value
  pub proof : Proves (leaf_problem p a value (map (λ k. (step_at c.cuts k).row) cited)) (stated_cutoff p c.statement) w

-- the box fixes the linking columns, and an entry says that their link has no response
pub record IsUnanswered (p : Program) (c : Certificate) (a : Area) : Type 0 where
  pub fixes : Fixes a p.links
  pub none : Says c.entries (fixed_link p a) NoResponse

-- the leaf closes its box
abbrev pub Closes : Program → Certificate → Area → LeafProof → Type 0
Closes p c a (Bounded w uses cited) = IsBounded p c a w uses cited
Closes p c a NoAnswer = IsUnanswered p c a

-- ---- the whole

-- the certificate is accepted of the program: the point is shown, each entry is proved, their links rise, each cut is
-- shown by those before it, and the nodes are a tree over the whole box each leaf of which closes its box
pub record IsAccepted (p : Program) (c : Certificate) : Type 0 where
  pub point : HasShownPoint p c.entries c.statement
  pub entries : All (IsProvedEntry p) c.entries
  pub rising : AreRising c.entries
  pub cuts : AreCutSteps p [] c.cuts
  pub tree : Covers Anything (Closes p c) c.tree (root p ∷ [])

-- THE LAWS

-- an accepted certificate implies its statement
abbrev pub AcceptedLaw : Type 0
AcceptedLaw = (p : Program) (c : Certificate) → IsProgram p → IsAccepted p c → StatementHolds p c.statement

-- its entries are true
abbrev pub EntriesAreTrue : Type 0
EntriesAreTrue =
    (p : Program) (c : Certificate) → IsProgram p → IsAccepted p c → All (λ e. IsTrueEntry p e.link e.entry) c.entries

-- and its cuts are valid on their boxes
abbrev pub CutsAreValid : Type 0
CutsAreValid =
    (p : Program) (c : Certificate) → IsProgram p → IsAccepted p c → All (λ s. IsValidRow p s.area s.row) c.cuts

-- where links rise, entries say one thing of a link at most
abbrev pub OneEntryForLink : Type 0
OneEntryForLink =
    (entries : List ProvedEntry) (l : List ℤ) (x y : Entry) → AreRising entries → Says entries l x → Says entries l y
    → x ≡ y

-- one more entry rises where its link comes after the last one's
abbrev pub OneMoreRises : Type 0
OneMoreRises =
    (entries : List ProvedEntry) (last e : ProvedEntry) → AreRising (entries ++ last ∷ [])
    → ComesBefore last.link e.link → AreRising ((entries ++ last ∷ []) ++ e ∷ [])

-- cuts may be shown one part of the list after the other
abbrev pub CutsInTurn : Type 0
CutsInTurn =
    (p : Program) (cuts more : List CutStep)
    → AreCutSteps p [] (cuts ++ more) ↔ (AreCutSteps p [] cuts × AreCutSteps p (map local_row cuts) more)
