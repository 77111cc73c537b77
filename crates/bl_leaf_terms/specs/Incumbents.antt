-- Trusted. Incumbents: bilevel feasible points that a solver keeps, each with the entry of its link, which shows it.
use Rattle.std.specs.Prelude.{◌≡◌, ◌↔◌, ◌≤ℤ◌, ℤ, List, Option, option_map, MatchOption}
use Rattle.bl_terms.specs.Programs.{Program, InBox, MeetsRows, link_of, cost_at, follower_at}
use Rattle.bl_terms.specs.Responses.{Entry, Best, NoResponse}
use Rattle.bl_terms.specs.Feasible.{BilevelFeasible}
use Rattle.bl_model.specs.View.{IsModel}
use Rattle.bl_fproof.specs.Entries.{Admitted, IsAdmitted}
use Rattle.bl_fproof.specs.Steps.{entry_of}

-- a point of a program, and an entry of the follower
pub record Incumbent : Type 0 where
  pub program : Program
  pub point : List ℤ
  pub entry : Admitted

-- the entry is true, and of the program and the link
pub record IsEntryFor (p : Program) (l : List ℤ) (e : Admitted) : Type 0 where
  pub admitted : IsAdmitted e
  pub program : e.program ≡ p
  pub link : e.link ≡ l

-- the point is bilevel feasible, and the entry is its link's
pub record IsIncumbent (f : Incumbent) : Type 0 where
  pub model : IsModel f.program
  pub feasible : BilevelFeasible f.program f.point
  pub entry : IsEntryFor f.program (link_of f.program f.point) f.entry

-- its cost to the leader
abbrev pub cost_of : Incumbent → ℤ
cost_of f = cost_at f.program f.point

-- what an incumbent sets as the cutoff, where there is one
abbrev pub cutoff_of : Option Incumbent → Option ℤ
cutoff_of best = option_map cost_of best

-- where there is one, it is an incumbent of the program
abbrev pub AreIncumbents : Program → Option Incumbent → Type 0
AreIncumbents p best = MatchOption best (Unit {0}) (λ f. (f.program ≡ p) × IsIncumbent f)

-- the entry has a response, and it costs the follower as much as z, or more
abbrev pub IsNoBetter : Program → List ℤ → Entry → Type 0
IsNoBetter p z (Best y v) = follower_at p z ≤ℤ v
IsNoBetter p z NoResponse = ⊥

-- THE LAW: with the entry of its link, a point is bilevel feasible exactly where it lies in the box, meets the rows and
-- the entry's response is no better for the follower
abbrev pub IncumbentLaw : Type 0
IncumbentLaw =
    (p : Program) (z : List ℤ) (e : Admitted) → IsModel p → IsEntryFor p (link_of p z) e
    → BilevelFeasible p z ↔ (InBox p z × MeetsRows p z × IsNoBetter p z (entry_of e.answered))
