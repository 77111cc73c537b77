-- What the end of a search answers.
use Rattle.std.proofs.Common.{◌≡◌, ℕ, sym, ◌∙◌, ap, subst, arith}
use Rattle.std.specs.Prelude.{ℤ}
use Rattle.std.proofs.lemmas.Int.{ints}
use Rattle.bl_terms.specs.Points.{Area, IsOnePoint}
use Rattle.bl_terms.specs.Trees.{CanSplit}
use Rattle.bl_leaf_terms.specs.Incumbents.{cutoff_of}
use Rattle.bl_leaf_terms.specs.Nodes.{NodeLicence, IsNodeLicence}
use Rattle.bl_book_terms.specs.Books.{Ledger, IsLive, IsCurrent}
use Rattle.bl_book_terms.proofs.ClaimLemmas.{claim_is_last}
use Rattle.bl_book_terms.proofs.RunLemmas.{finished_run_answers}
use Rattle.bl_core.specs.Accounts.{IsKept}
use Rattle.bl_core.specs.Outcomes.{IsCause, Answers, FullBookMayEnd}
use Rattle.bl_core.specs.declared.outcome.Ended.{Ended}
use Rattle.bl_core.specs.declared.outcome.Ended.TheVariants.{Done, Nodes, Follower}

pub cause_answers : (l : Ledger) (end : Ended) → IsKept l → IsCause l end → Answers l.book end
cause_answers l Done kept cause = finished_run_answers l kept.model kept.limit_least kept.run cause
cause_answers l (Nodes node why) kept cause = tt
cause_answers l (Follower spent) kept cause = tt

-- a box that can be split has several points
several_points : (a : Area) (j : ℕ) (v : ℤ) → CanSplit a j v → ¬ IsOnePoint a
several_points a j v can one =
    let same = one.fixed j can.column in
    let least = can.least in
    let below = can.below in
    omega (arith, ints)

pub full_book_may_end : FullBookMayEnd
full_book_may_end l w k h why back made kept can holds (may, full, same) =
    let area = may.halved.boxes.first in
    record {
      full = full.full;
      live = record { there = may.claimed.there; live = subst IsLive (sym may.claimed.status) tt };
      several = subst (λ (a : Area). ¬ IsOnePoint a) area (several_points h.area h.column h.at can);
      best = may.best;
      claimed = claim_is_last l k w may.best kept.run may.claimed;
      holds = subst IsNodeLicence (sym same) holds;
      program = ap (λ (x : NodeLicence). x.program) same ∙ may.halved.split.program;
      area = ap (λ (x : NodeLicence). x.area) same ∙ may.halved.boxes.second;
      current =
          subst (λ (x : NodeLicence). IsCurrent may.best (cutoff_of x.cutoff)) (sym same) may.current;
    }
