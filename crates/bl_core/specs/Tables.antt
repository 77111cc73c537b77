-- Internal. The tables of a book, and what it means that they tell the nodes and the best incumbent of its ledger.
use Rattle.std.specs.Prelude.{ℕ, zero, suc, ℤ, ◌+◌, ◌-◌, ◌*◌, ◌^◌, ◌<◌, ◌≤◌, ◌≡◌, List, [], ◌∷◌, ◌++◌, length, map}
use Rattle.std.specs.Prelude.{◌≢◌}
use Rattle.std.specs.Prelude.{◌⊎◌, Option, Some, None, option_map, slice_get, slice_set, slice_index_or}
use Rattle.std.specs.Arc.{arc_value}
use Rattle.std.specs.Vec.{vec_capacity}
use Rattle.bl_limits.specs.declared.TheConstants.{MAX_NODES, MAX_WORKERS}
use Rattle.bl_terms.specs.Points.{Area}
use Rattle.bl_terms.specs.Programs.{root}
use Rattle.bl_terms.specs.Trees.{low_half, high_half}
use Rattle.bl_model.specs.Boxes.{Halved}
use Rattle.bl_model.specs.View.{IsModel}
use Rattle.bl_cut_terms.specs.NoGoods.{NoGoodCut}
use Rattle.bl_leaf_terms.specs.Incumbents.{Incumbent}
use Rattle.bl_leaf_terms.specs.Nodes.{NodeLicence}
use Rattle.bl_leaf_terms.specs.Leaves.{ClosedLeaf}
use Rattle.bl_tree.specs.declared.task.State.{State}
use Rattle.bl_tree.specs.declared.task.State.TheVariants as state
use Rattle.bl_book_terms.specs.Books as books
use Rattle.bl_core.specs.Accounts.{KeptBook, ledger_of, live_count}
use Rattle.bl_core.specs.Events.{event_of, brought}
use Rattle.bl_core.specs.declared.event.Event.{Event}
use Rattle.bl_core.specs.declared.event.Event.TheVariants.{Claim, Back, Split, Close, Offer}
use Rattle.bl_core.specs.declared.node.Node.{Node}
use Rattle.bl_core.specs.declared.node.Origin.{Origin}
use Rattle.bl_core.specs.declared.node.Origin.TheVariants as origin
use Rattle.bl_core.specs.declared.node.Status.{Status}
use Rattle.bl_core.specs.declared.node.Status.TheVariants as status
use Rattle.bl_core.specs.declared.book.Book.TheInside.{Inside}

-- ---- steps at places of the journal

-- what a split hands in
pub record SplitParts : Type 0 where
  pub halves : Halved
  pub licence : NodeLicence
  pub cuts : List NoGoodCut

abbrev pub split_in : Event → Option SplitParts
split_in (Claim worker node) = None
split_in (Back worker node) = None
split_in (Split worker node halves why cuts) = Some (record { halves = halves; licence = why; cuts = cuts })
split_in (Close worker node leaf) = None
split_in (Offer worker incumbent) = None

-- what a close hands in
abbrev pub leaf_in : Event → Option ClosedLeaf
leaf_in (Claim worker node) = None
leaf_in (Back worker node) = None
leaf_in (Split worker node halves why cuts) = None
leaf_in (Close worker node leaf) = Some leaf
leaf_in (Offer worker incumbent) = None

-- what is read of the step at a place, where it is there
abbrev pub read : {X : Type 0} → (Event → Option X) → Option Event → Option X
read f None = None
read f (Some e) = f e

abbrev pub read_at : {X : Type 0} → (Event → Option X) → List Event → ℕ → Option X
read_at f journal k = read f (slice_get journal k)

-- ---- what the tables tell

abbrev pub told_area : Area → List Event → Origin → Option Area
told_area whole journal origin.Root = Some whole
told_area whole journal (origin.Low k) =
    option_map (λ (s : SplitParts). low_half s.halves.area s.halves.column s.halves.at) (read_at split_in journal k)
told_area whole journal (origin.High k) =
    option_map (λ (s : SplitParts). high_half s.halves.area s.halves.column s.halves.at) (read_at split_in journal k)

abbrev pub told_cuts : List Event → Origin → Option (List NoGoodCut)
told_cuts journal origin.Root = Some []
told_cuts journal (origin.Low k) = option_map (λ (s : SplitParts). s.cuts) (read_at split_in journal k)
told_cuts journal (origin.High k) = option_map (λ (s : SplitParts). s.cuts) (read_at split_in journal k)

abbrev pub told_status : List Event → Status → Option books.Status
told_status journal status.Ready = Some books.Ready
told_status journal (status.Claimed w u) = Some (books.Claimed w u)
told_status journal (status.Split k low) =
    option_map (λ (s : SplitParts). books.Divided s.halves s.licence low) (read_at split_in journal k)
told_status journal (status.Closed k) = option_map (λ (l : ClosedLeaf). books.Closed l) (read_at leaf_in journal k)

abbrev pub told_state : Status → State
told_state status.Ready = state.Ready
told_state (status.Claimed w u) = state.Claimed w u
told_state (status.Split k low) = state.Split
told_state (status.Closed k) = state.Closed

-- the best incumbent, by the place of the step that brought it
abbrev pub told_best : List Event → Option ℕ → Option Incumbent
told_best journal None = None
told_best journal (Some k) = read_at brought journal k

-- the number after the low half's is a number of the code
abbrev pub HasNext : Status → Type 0
HasNext status.Ready = Unit {0}
HasNext (status.Claimed w u) = Unit {0}
HasNext (status.Split k low) = low + 1 < 2 ^ 32
HasNext (status.Closed k) = Unit {0}

-- a row's status tells that the node is split into these halves, or that it isn't split, or that it isn't closed
abbrev pub IsDivided : List Event → Status → Halved → ℕ → Type 0
IsDivided journal s h low = (licence : NodeLicence) × (told_status journal s ≡ Some (books.Divided h licence low))

abbrev pub IsUndivided : List Event → Status → Type 0
IsUndivided journal s =
    (h : Halved) (licence : NodeLicence) (low : ℕ) → told_status journal s ≢ Some (books.Divided h licence low)

abbrev pub IsUnclosedRow : List Event → Status → Type 0
IsUnclosedRow journal s = (leaf : ClosedLeaf) → told_status journal s ≢ Some (books.Closed leaf)

-- a row of the table tells a node
pub record IsTold (whole : Area) (journal : List Event) (x : Node) (n : books.Node) : Type 0 where
  pub area : told_area whole journal x.origin ≡ Some n.area
  pub cuts : told_cuts journal x.origin ≡ Some n.cuts
  pub status : told_status journal x.status ≡ Some n.status

-- the table tells the nodes, one by one
abbrev pub AreTold : Area → List Event → List Node → List books.Node → Type 0
AreTold whole journal [] [] = Unit {0}
AreTold whole journal [] (n ∷ nodes) = ⊥
AreTold whole journal (x ∷ rows) [] = ⊥
AreTold whole journal (x ∷ rows) (n ∷ nodes) = IsTold whole journal x n × AreTold whole journal rows nodes

-- the place tells the best incumbent, where there is one
abbrev pub IsToldBest : List Event → Option ℕ → Option Incumbent → Type 0
IsToldBest journal k None = k ≡ None
IsToldBest journal k (Some f) = told_best journal k ≡ Some f

-- ---- steps in the tables

-- the row past the end, the row at a number, and the rows with another status of one
abbrev pub no_row : Node
no_row = record { origin = origin.Root; status = status.Ready }

abbrev pub row_at : List Node → ℕ → Node
row_at rows k = slice_index_or rows k no_row

abbrev pub with_row : List Node → ℕ → Status → List Node
with_row rows k s = slice_set rows k (record { origin = (row_at rows k).origin; status = s })

-- the rows after a step at a place, where the best value was so before it
abbrev pub rows_after : Option ℤ → ℕ → List Node → Event → List Node
rows_after best place rows (Claim w k) = with_row rows k (status.Claimed w best)
rows_after best place rows (Back w k) = with_row rows k status.Ready
rows_after best place rows (Split w k halves why cuts) =
    with_row rows k (status.Split place (length rows))
    ++ record { origin = origin.Low place; status = status.Ready }
    ∷ record { origin = origin.High place; status = status.Ready } ∷ []
rows_after best place rows (Close w k leaf) = with_row rows k (status.Closed place)
rows_after best place rows (Offer w incumbent) = rows

-- how many nodes are live after a step
abbrev pub live_after : ℕ → Event → ℕ
live_after live (Claim w k) = live
live_after live (Back w k) = live
live_after live (Split w k halves why cuts) = live + 1
live_after live (Close w k leaf) = live - 1
live_after live (Offer w incumbent) = live

-- the step closes a node, or names one that is there
abbrev pub Closes : Event → Type 0
Closes (Claim w k) = ⊥
Closes (Back w k) = ⊥
Closes (Split w k halves why cuts) = ⊥
Closes (Close w k leaf) = Unit {0}
Closes (Offer w incumbent) = ⊥

abbrev pub IsOfRow : ℕ → Event → Type 0
IsOfRow count (Claim w k) = k < count
IsOfRow count (Back w k) = k < count
IsOfRow count (Split w k halves why cuts) = k < count
IsOfRow count (Close w k leaf) = k < count
IsOfRow count (Offer w incumbent) = Unit {0}

-- a step brings nothing better, and the place of the best stays; or it brings the new best, and has that place
pub record StaysBest (journal : List Event) (best : Option ℕ) (e : Event) (next : Option ℕ) : Type 0 where
  pub place : next ≡ best
  pub same : books.improved_by (told_best journal best) (brought e) ≡ told_best journal best

pub record BringsBest (journal : List Event) (best : Option ℕ) (e : Event) (next : Option ℕ) : Type 0 where
  pub place : next ≡ Some (length journal)
  pub further : Incumbent
  pub step : brought e ≡ Some further
  pub better : books.improved_by (told_best journal best) (brought e) ≡ Some further

abbrev pub IsNextBest : List Event → Option ℕ → Event → Option ℕ → Type 0
IsNextBest journal best e next = StaysBest journal best e next ⊎ BringsBest journal best e next

-- row k is ready, and is the first such one from a number on
abbrev pub IsReadyRow : List Node → ℕ → Type 0
IsReadyRow rows k = (k < length rows) × ((row_at rows k).status ≡ status.Ready)

pub record IsFirstReady (rows : List Node) (from k : ℕ) : Type 0 where
  pub least : from ≤ k
  pub ready : IsReadyRow rows k
  pub earlier : (j : ℕ) → from ≤ j → j < k → ¬ IsReadyRow rows j

-- ---- the book

abbrev pub ledger_at : Inside → books.Ledger
ledger_at b = ledger_of (arc_value b.model) b.workers b.limit (map event_of b.journal.items)

abbrev pub book_at : Inside → books.Book
book_at b = (ledger_at b).book

abbrev pub account_of : Inside → KeptBook
account_of b = record { ledger = ledger_at b; spare = b.spare }

-- what every book keeps
pub record IsBook (b : Inside) : Type 0 where
  pub model : IsModel (arc_value b.model)
  pub workers_least : 1 ≤ b.workers
  pub workers_most : b.workers ≤ MAX_WORKERS
  pub limit_least : 1 ≤ b.limit
  pub limit_most : b.limit ≤ MAX_NODES
  pub whole : arc_value b.root ≡ root (arc_value b.model)
  pub bare : b.no_cuts ≡ []
  pub run : books.IsRun (ledger_at b)
  pub told : AreTold (arc_value b.root) b.journal.items b.nodes.items (book_at b).nodes
  pub best : IsToldBest b.journal.items b.best (book_at b).best
  pub live : b.live ≡ live_count (book_at b).nodes
  pub event_room : length b.journal.items + b.spare ≤ vec_capacity b.journal
  pub node_room : length b.nodes.items + 2 * b.spare ≤ vec_capacity b.nodes
  pub few_events : length b.journal.items + b.spare < 2 ^ 32
