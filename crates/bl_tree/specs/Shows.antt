-- Trusted. Why a point isn't shown to be bilevel feasible by an entry.
use Rattle.std.specs.Prelude.{◌≡◌, ◌≢◌, ◌<◌, ◌<ℤ◌, ℕ, ℤ, List, length}
use Rattle.bl_terms.specs.Points.{Meets}
use Rattle.bl_terms.specs.Programs.{Program, row_at, inequality, InBox, MeetsRows, link_of, follower_at}
use Rattle.bl_terms.specs.Responses.{Best}
use Rattle.bl_fproof.specs.Entries.{Admitted}
use Rattle.bl_fproof.specs.Steps.{entry_of}
use Rattle.bl_tree.specs.declared.incumbent.ShowFail.{ShowFail}
use Rattle.bl_tree.specs.declared.incumbent.ShowFail.TheVariants.{OtherModel, OutsideBox, OtherLink, BreaksRow, Dearer}
use Rattle.bl_tree.specs.declared.incumbent.ShowFail.TheVariants.{Memory}

-- the point lies in the program's box
pub record IsPlaced (p : Program) (z : List ℤ) (e : Admitted) : Type 0 where
  pub program : e.program ≡ p
  pub inside : InBox p z

-- ... and the entry is of its link
pub record IsOwnEntry (p : Program) (z : List ℤ) (e : Admitted) : Type 0 where
  pub placed : IsPlaced p z e
  pub link : e.link ≡ link_of p z

-- row i is the first that the point breaks
pub record IsFirstBroken (p : Program) (z : List ℤ) (i : ℕ) : Type 0 where
  pub row_in : i < length p.rows
  pub broken : ¬ Meets (inequality (row_at p.rows i)) z
  pub earlier : (k : ℕ) → k < i → Meets (inequality (row_at p.rows k)) z

-- the entry has a response of cost best, and the point costs the follower more
pub record IsDearer (p : Program) (z : List ℤ) (e : Admitted) (point best : ℤ) : Type 0 where
  pub response : (y : List ℤ) × (entry_of e.answered ≡ Best y best)
  pub cost : follower_at p z ≡ point
  pub more : best <ℤ point

-- the first test that fails: the entry is of another program; the point lies outside the box; the entry is of another
-- link; the point breaks a row; the point costs the follower more than the entry
abbrev pub IsShowFailure : Program → List ℤ → Admitted → ShowFail → Type 0
IsShowFailure p z e OtherModel = e.program ≢ p
IsShowFailure p z e OutsideBox = (e.program ≡ p) × ¬ InBox p z
IsShowFailure p z e OtherLink = IsPlaced p z e × (e.link ≢ link_of p z)
IsShowFailure p z e (BreaksRow row) = IsOwnEntry p z e × IsFirstBroken p z row
IsShowFailure p z e (Dearer point best) = IsOwnEntry p z e × MeetsRows p z × IsDearer p z e point best
IsShowFailure p z e Memory = Unit {0}
