-- From the outcome of a search to what is said of it.
use Rattle.std.proofs.Common.{◌≡◌, ℕ, ◌∙◌, List, length, ap, arith, sym, subst}
use Rattle.std.specs.Prelude.{ℤ, Option, None, Some, MatchOption}
use Rattle.std.specs.Option.{option_map_or}
use Rattle.bl_raw.specs.declared.raw.RawColumn.{RawColumn}
use Rattle.bl_terms.specs.Programs.{Program, value_at}
use Rattle.bl_terms.specs.Feasible.{Optimal, Infeasible}
use Rattle.bl_leaf_terms.specs.Incumbents.{Incumbent}
use Rattle.bl_follower.specs.Exhausted.{Exhausted, IsExhausted}
use Rattle.bl_book_terms.specs.Books.{Book, Ledger}
use Rattle.bl_book_terms.specs.Laws.{IsSound}
use Rattle.bl_book_terms.proofs.RunLemmas.{every_run_is_sound}
use Rattle.bl_core.specs.declared.outcome.Ended.{Ended}
use Rattle.bl_core.specs.declared.outcome.Ended.TheVariants as ended
use Rattle.bl_core.specs.Accounts.{KeptBook, IsKept}
use Rattle.bl_core.specs.Outcomes as search
use Rattle.bl_cert_terms.specs.Certificates.{StatementHolds}
use Rattle.bl_cert_book.specs.BookCertificates.{stated_by}
use Rattle.bl_team.specs.Answers.{EndsWithin, IsOutcomeFor}
use Rattle.bl_run.specs.declared.status.Answer.{Answer}
use Rattle.bl_run.specs.declared.status.Failure.{Failure}
use Rattle.bl_run.specs.declared.status.Failure.TheVariants as failure
use Rattle.bl_run.specs.Words.{ModelWords}
use Rattle.bl_run.specs.Endings.{Ending, NoPoint, Done, FollowerSpent}
use Rattle.bl_run.specs.Promise.{EndsSpent}
use Rattle.bl_run.specs.Solve.{Outcome, ShowsSpent, IsSolved, settings_of, ending_at, ending_of}
use Rattle.bl_run.specs.Steps.{failure_ending, IsCertText, IsReport, IsReportOf, IsSpent, FailsToSolve}

-- ---- settings

-- ---- what an outcome states

best_right : (p : Program) (best : Option Incumbent)
    → MatchOption best (Infeasible p) (λ f. Optimal p f.point (value_at p f.point))
    → StatementHolds p (stated_by p best)
best_right p None h = h
best_right p (Some f) h = h

right_by : (b : Book) (end : Ended) → search.Answers b end → end ≡ ended.Done
    → StatementHolds b.program (stated_by b.program b.best)
right_by b ended.Done h e = best_right b.program b.best h
right_by b (ended.Nodes node why) h e = cc
right_by b (ended.Follower spent) h e = cc

-- the follower's tree of an end is one that is spent
abbrev pub Exhausts : Ended → Type 0
Exhausts ended.Done = Unit {0}
Exhausts (ended.Nodes node why) = Unit {0}
Exhausts (ended.Follower spent) = IsExhausted spent

shows_spent : (p : Program) (words : ModelWords) (l : Ledger) (end : Ended) → IsSound l.book
    → l.book.limit ≡ words.nodes → EndsWithin p words.nodes words.follower_nodes end → search.IsCause l end
    → Exhausts end → ShowsSpent words l.book end
shows_spent p words l ended.Done sound limit within cause left = tt
shows_spent p words l (ended.Nodes node why) sound limit within cause left =
    record { most = omega (arith, sound.few, limit); least = omega (arith, cause.full, limit) }
shows_spent p words l (ended.Follower spent) sound limit within cause left = (
  left,
  record { most = omega (arith, left.most, within.0); least = omega (arith, left.least, within.0) },
)

-- what the type of an outcome keeps is what is said of it
pub solved : (words : ModelWords) (o : Outcome)
    → IsOutcomeFor o.book.ledger.book.program 1 (settings_of words) o → IsKept o.book.ledger
    → search.IsCause o.book.ledger o.end → search.Answers o.book.ledger.book o.end → Exhausts o.end
    → IsSolved o.book.ledger.book.program words o
solved words o found kept cause answers left =
    let sound = every_run_is_sound o.book.ledger kept.model kept.limit_least kept.run in
    record {
      found = found;
      kept = kept;
      sound = sound;
      cause = cause;
      spent = shows_spent o.book.ledger.book.program words o.book.ledger o.end sound found.limit found.end cause left;
      right = right_by o.book.ledger.book o.end answers;
    }

-- ---- what is told of it

-- an answer spends no budget
pub answer_unspent : (best : Option Incumbent) → EndsSpent (option_map_or (λ f. Done) best NoPoint) → ⊥
answer_unspent None is = is
answer_unspent (Some f) is = is

-- a search that spent a budget isn't done
pub spent_undone : (words : ModelWords) (o : Outcome) (ending : Ending) → ending_of words o ≡ ending
    → EndsSpent ending → o.end ≡ ended.Done → ⊥
spent_undone words o ending same is done =
    let answers : ending ≡ option_map_or (λ f. Done) o.book.ledger.book.best NoPoint =
    sym same ∙ ap (λ (e : Ended). ending_at words o.book.ledger.book e) done in
    answer_unspent o.book.ledger.book.best (subst EndsSpent answers is)

-- a failure that ends with the follower's budget is one of the search
pub fails_spent : (p : Program) (words : ModelWords) (failure : Failure) (budget made : ℕ) (link : List ℤ)
    → failure_ending failure ≡ FollowerSpent budget made link → IsSpent p words (FollowerSpent budget made link)
    → FailsToSolve p words failure
fails_spent p words failure.Words budget made link e h = cc
fails_spent p words (failure.Text file fault) budget made link e h = cc
fails_spent p words (failure.NodesSpent limit count) budget made link e h = cc
fails_spent p words (failure.FollowerSpent limit count values) budget made link e h =
    subst (λ (ending : Ending). IsSpent p words ending) (sym e) h
fails_spent p words (failure.ReadFault file) budget made link e h = cc
fails_spent p words (failure.FileFault file) budget made link e h = cc
fails_spent p words failure.WriteFault budget made link e h = cc
fails_spent p words failure.Memory budget made link e h = tt
fails_spent p words (failure.NotAccepted file line rule) budget made link e h = cc
fails_spent p words (failure.Missing file) budget made link e h = cc

-- the parts of an outcome, as they are lent
module _ (words : ModelWords) (o : Outcome) (book : KeptBook) (end : Ended)
    (found : IsOutcomeFor o.book.ledger.book.program 1 (settings_of words) o) (book_is : book ≡ o.book)
    (kept : IsKept book.ledger) (cause : search.IsCause o.book.ledger o.end)
    (answers : search.Answers o.book.ledger.book o.end) (end_is : end ≡ o.end) where
  is_solved : Exhausts end → IsSolved o.book.ledger.book.program words o
  is_solved left =
      solved words o found (subst (λ (b : KeptBook). IsKept b.ledger) book_is kept) cause answers
      (subst Exhausts end_is left)

  -- the best incumbent of a search that is done answers the program
  pub done_right : end ≡ ended.Done
      → StatementHolds book.ledger.book.program (stated_by book.ledger.book.program book.ledger.book.best)
  done_right done =
      subst
      (λ (b : KeptBook). StatementHolds b.ledger.book.program (stated_by b.ledger.book.program b.ledger.book.best))
      (sym book_is) (right_by o.book.ledger.book o.end answers (sym end_is ∙ done))

  pub reports : (columns : List RawColumn) (answer : Answer) (text cert : List ℕ) → end ≡ ended.Done
      → IsReportOf columns book.ledger.book.program book.ledger.book.best answer text
      → IsCertText words.cert book.ledger.book cert
      → IsReport columns o.book.ledger.book.program words answer text cert
  reports columns answer text cert done r certificate =
      let told =
      subst (λ (b : KeptBook). IsReportOf columns b.ledger.book.program b.ledger.book.best answer text) book_is r in
      let is : o.end ≡ ended.Done = sym end_is ∙ done in
      record {
        outcome = o;
        solved = is_solved (subst Exhausts (sym done) tt);
        done = is;
        same = ap (λ (e : Ended). ending_at words o.book.ledger.book e) is ∙ told.same;
        spelled = told.spelled;
        certified = subst (λ (b : KeptBook). IsCertText words.cert b.ledger.book cert) book_is certificate;
      }

  pub spends : (ending : Ending) → Exhausts end → ending_at words book.ledger.book end ≡ ending
      → IsSpent o.book.ledger.book.program words ending
  spends ending left same = record {
    outcome = o;
    solved = is_solved left;
    same = ap (λ (b : KeptBook). ending_at words b.ledger.book o.end) (sym book_is)
        ∙ ap (λ (e : Ended). ending_at words book.ledger.book e) (sym end_is) ∙ same;
  }

  -- the follower's budget is spent
  pub fails : (failure : Failure) (spent : Exhausted) → end ≡ ended.Follower spent → IsExhausted spent
      → failure_ending failure ≡ FollowerSpent spent.budget (length spent.nodes) spent.link
      → FailsToSolve o.book.ledger.book.program words failure
  fails failure spent is left told =
      let p = o.book.ledger.book.program in
      let within : EndsWithin p words.nodes words.follower_nodes (ended.Follower spent) =
      subst (λ (e : Ended). EndsWithin p words.nodes words.follower_nodes e) (sym end_is ∙ is) found.end in
      let ending = FollowerSpent words.follower_nodes (length spent.nodes) spent.link in
      let same : failure_ending failure ≡ ending =
      told ∙ ap (λ (n : ℕ). FollowerSpent n (length spent.nodes) spent.link) within.0 in
      fails_spent p words failure words.follower_nodes (length spent.nodes) spent.link same
      (spends ending (subst Exhausts (sym is) left) (ap (λ (e : Ended). ending_at words book.ledger.book e) is))
