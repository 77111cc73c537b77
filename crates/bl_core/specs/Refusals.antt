-- Trusted. When a step is refused. The cases of each refusal come in their order, so that none holds where an earlier
-- one does.
use Rattle.std.specs.Prelude.{ℕ, ℤ, ◌+◌, ◌<◌, ◌≡◌, ◌≢◌, length, Option, Some, None}
use Rattle.bl_terms.specs.Points.{Area}
use Rattle.bl_model.specs.Boxes.{Halved}
use Rattle.bl_leaf_terms.specs.Incumbents.{cutoff_of}
use Rattle.bl_leaf_terms.specs.Nodes.{NodeLicence}
use Rattle.bl_leaf_terms.specs.Leaves.{ClosedLeaf}
use Rattle.bl_tree.specs.declared.task.State.{State}
use Rattle.bl_tree.specs.declared.task.State.TheVariants as state
use Rattle.bl_book_terms.specs.Books.{Claimed, node_at, HasStatus, IsCurrent, Book}
use Rattle.bl_core.specs.Accounts.{state_at}
use Rattle.bl_core.specs.declared.fail.SplitFail.{SplitFail}
use Rattle.bl_core.specs.declared.fail.SplitFail.TheVariants as split
use Rattle.bl_core.specs.declared.fail.CloseFail.{CloseFail}
use Rattle.bl_core.specs.declared.fail.CloseFail.TheVariants as close
use Rattle.bl_core.specs.declared.fail.TaskFail.{TaskFail}
use Rattle.bl_core.specs.declared.fail.TaskFail.TheVariants as task

-- node k is so far, and that isn't ready
pub record IsUnready (b : Book) (k : ℕ) (kept : Option State) : Type 0 where
  pub told : kept ≡ state_at b k
  pub other : kept ≢ Some state.Ready

-- node k is so far, and that isn't claimed by worker w
pub record IsUnclaimed (b : Book) (w k : ℕ) (kept : Option State) : Type 0 where
  pub told : kept ≡ state_at b k
  pub other : (u : Option ℤ) → kept ≢ Some (state.Claimed w u)

-- worker w has claimed node k
abbrev pub IsClaimedBy : Book → ℕ → ℕ → Type 0
IsClaimedBy b w k = (u : Option ℤ) × HasStatus b k (Claimed w u)

-- both boxes are node k's
pub record AreBoxesOf (b : Book) (k : ℕ) (a a' : Area) : Type 0 where
  pub first : a ≡ (node_at b.nodes k).area
  pub second : a' ≡ (node_at b.nodes k).area

-- worker w has claimed node k, and the licence is of the book's program
pub record MayBeSplit (b : Book) (w k : ℕ) (licence : NodeLicence) : Type 0 where
  pub claimed : IsClaimedBy b w k
  pub program : licence.program ≡ b.program

-- ... and the halves and the licence are of its box
pub record MayBeHalved (b : Book) (w k : ℕ) (h : Halved) (licence : NodeLicence) : Type 0 where
  pub split : MayBeSplit b w k licence
  pub boxes : AreBoxesOf b k h.area licence.area

-- there was this best value at the claim, and the licence's cutoff isn't as low
pub record IsOutdated (b : Book) (w k : ℕ) (licence : NodeLicence) (v : ℤ) : Type 0 where
  pub claimed : HasStatus b k (Claimed w (Some v))
  pub old : ¬ IsCurrent (Some v) (cutoff_of licence.cutoff)

-- ... and the licence's cutoff is as low as the best value at the claim
pub record MayBeHalvedNow (b : Book) (w k : ℕ) (h : Halved) (licence : NodeLicence) : Type 0 where
  pub halved : MayBeHalved b w k h licence
  pub best : Option ℤ
  pub claimed : HasStatus b k (Claimed w best)
  pub current : IsCurrent best (cutoff_of licence.cutoff)

-- so many nodes were made, and the limit has no place for two more
pub record IsFull (b : Book) (made : ℕ) : Type 0 where
  pub count : made ≡ length b.nodes
  pub full : b.limit < length b.nodes + 2

abbrev pub IsSplitFailure : Book → ℕ → ℕ → Halved → NodeLicence → SplitFail → Type 0
IsSplitFailure b w k h licence (split.NotYours kept) = IsUnclaimed b w k kept
IsSplitFailure b w k h licence split.OtherModel = IsClaimedBy b w k × (licence.program ≢ b.program)
IsSplitFailure b w k h licence split.OtherBox =
    MayBeSplit b w k licence × ¬ AreBoxesOf b k h.area licence.area
IsSplitFailure b w k h licence (split.OldCutoff kept) =
    MayBeHalved b w k h licence × IsOutdated b w k licence kept
IsSplitFailure b w k h licence (split.Full made why) =
    MayBeHalvedNow b w k h licence × IsFull b made × (why ≡ licence)

abbrev pub IsCloseFailure : Book → ℕ → ℕ → ClosedLeaf → CloseFail → Type 0
IsCloseFailure b w k leaf (close.NotYours kept) = IsUnclaimed b w k kept
IsCloseFailure b w k leaf close.OtherModel = IsClaimedBy b w k × (leaf.program ≢ b.program)
IsCloseFailure b w k leaf close.OtherBox =
    IsClaimedBy b w k × (leaf.program ≡ b.program) × (leaf.area ≢ (node_at b.nodes k).area)

-- a task is refused
abbrev pub IsTaskFailure : Book → ℕ → ℕ → TaskFail → Type 0
IsTaskFailure b w k (task.NotYours kept) = IsUnclaimed b w k kept
IsTaskFailure b w k task.Memory = Unit {0}
