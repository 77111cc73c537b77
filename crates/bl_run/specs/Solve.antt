-- Trusted: one run of a command, step by step, and the cause of each ending.
use Rattle.std.specs.Prelude.{◌≡◌, ◌⊎◌, ◌+◌, ◌*◌, ◌≤◌, ℕ, pos, List, [], length, Option, Some, None, unwrap_or, ⊤}
use Rattle.std.specs.Option.{option_map_or}
use Rattle.bl_outer.specs.Files.{Files, Holds, IsAbsent, IfTold}
use Rattle.bl_raw.specs.declared.raw.RawMps.{RawMps}
use Rattle.bl_raw.specs.declared.raw.RawAux.{RawAux}
use Rattle.bl_model.specs.Build.{program_of}
use Rattle.bl_terms.specs.Programs.{Program, root}
use Rattle.bl_terms.specs.Trees.{point_count}
use Rattle.bl_terms.specs.FollowerProofs.{follower_box}
use Rattle.bl_follower.specs.Exhausted.{IsExhausted}
use Rattle.bl_book_terms.specs.Books.{Book}
use Rattle.bl_book_terms.specs.Laws.{IsSound}
use Rattle.bl_core.specs.Accounts.{IsKept}
use Rattle.bl_core.specs.declared.outcome.Ended.{Ended}
use Rattle.bl_core.specs.declared.outcome.Ended.TheVariants as ended
use Rattle.bl_core.specs.Outcomes as search
use Rattle.bl_cert_terms.specs.declared.stated.Statement.{Statement}
use Rattle.bl_cert_terms.specs.Certificates.{StatementHolds}
use Rattle.bl_cert_book.specs.BookCertificates.{stated_by}
use Rattle.bl_check_terms.specs.declared.rule.CertRule.{CertRule}
use Rattle.bl_check_terms.specs.Accepting.{Accepts, FirstRefusal}
use Rattle.bl_cert.specs.Written.{IsCertificateText}
use Rattle.bl_team.specs.declared.settings.Settings.{Settings}
use Rattle.bl_team.specs.Answers.{IsOutcomeFor}
use Rattle.bl_words.specs.declared.commands.Command.{Command}
use Rattle.bl_words.specs.declared.commands.Command.TheVariants.{Solve, Show, Check}
use Rattle.bl_run.specs.Words.{ModelWords}
use Rattle.bl_run.specs.Texts.{IsMpsText, IsMpsFault, IsAuxText, IsAuxFault, cert_rule}
use Rattle.bl_run.specs.Report.{report_of, accepted_report, show_text}
use Rattle.bl_run.specs.Endings.{Place, ToFile, ToOutput, Ending, Done, NoPoint, BadWords, BadText, NodesSpent}
use Rattle.bl_run.specs.Endings.{FollowerSpent, ReadFault, WriteFault, OutOfMemory, NotAccepted, Missing, ManyPoints}

-- a search that has ended: its book, and why it ended
abbrev pub Outcome : Type 0
Outcome = search.Ending

-- One run: its words, the texts of its files, what they say, the outcome of the search over them, the text of the
-- certificate that was written or read, and what one that was read and accepted states. All that is promised of a
-- command is said of one run. Of a run that ended early, what it didn't come to is left open.
pub record Run : Type 0 where
  pub words : ModelWords
  pub mps_text : List ℕ
  pub mps : RawMps
  pub aux_text : List ℕ
  pub aux : RawAux
  pub outcome : Outcome
  pub cert_text : List ℕ
  pub accepted : Statement

-- the program that the two texts make
abbrev pub program : Run → Program
program run = program_of run.mps run.aux

-- what the outcome states where its search is done
abbrev pub statement : Run → Statement
statement run = stated_by (program run) run.outcome.book.ledger.book.best

-- what the command prints: the report of the answer, or the texts
abbrev pub printed_by : Command → Run → List ℕ
printed_by Solve run = report_of run.mps.columns (program run) (statement run)
printed_by Show run = show_text run.mps run.aux (program run)
printed_by Check run = accepted_report run.mps.columns (program run) run.accepted

abbrev pub report : Run → List ℕ
report run = printed_by run.words.command run

-- the MPS file's text is this
abbrev pub HasMps : Option Files → Run → Type 0
HasMps files run = IfTold files (λ told. Holds told run.words.mps run.mps_text)

-- the auxiliary file's text is this
abbrev pub HasAux : Option Files → Run → Type 0
HasAux files run = IfTold files (λ told. Holds told run.words.aux run.aux_text)

-- the MPS file's text says the model
pub record ReadsMps (files : Option Files) (run : Run) : Type 0 where
  pub held : HasMps files run
  pub says : IsMpsText (pos run.words.default_upper) run.mps_text run.mps

-- both files' texts say the model and its follower
pub record ReadsBoth (files : Option Files) (run : Run) : Type 0 where
  pub mps : ReadsMps files run
  pub held : HasAux files run
  pub says : IsAuxText run.mps run.aux_text run.aux

-- the certificate's file, which `check` reads and `solve` writes where it is named
abbrev pub cert_file : Run → List ℕ
cert_file run = unwrap_or run.words.cert []

-- the certificate's text is this
abbrev pub HasCert : Option Files → Run → Type 0
HasCert files run = IfTold files (λ told. Holds told (cert_file run) run.cert_text)

-- the texts that the command reads are read: `check` reads the certificate too
abbrev pub ReadsCert : Command → Option Files → Run → Type 0
ReadsCert Solve files run = ⊤
ReadsCert Show files run = ⊤
ReadsCert Check files run = HasCert files run

-- the search of the words: one worker, and their budgets
abbrev pub settings_of : ModelWords → Settings
settings_of words = record { workers = 1; nodes = words.nodes; follower_nodes = words.follower_nodes }

-- a budget of nodes is spent: as many were made, or one less, since a split makes two
pub record AreSpent (budget made : ℕ) : Type 0 where
  pub most : made ≤ budget
  pub least : budget ≤ made + 1

-- what shows that a budget of the words is spent: the nodes of the tree; or those of the follower's tree at a link,
-- whose licences hold and of which a leaf of several points is left
abbrev pub ShowsSpent : ModelWords → Book → Ended → Type 0
ShowsSpent words b ended.Done = ⊤
ShowsSpent words b (ended.Nodes node why) = AreSpent words.nodes (length b.nodes)
ShowsSpent words b (ended.Follower spent) = IsExhausted spent × AreSpent words.follower_nodes (length spent.nodes)

-- The outcome is one of the program with one worker and the budgets of the words. Its journal has only steps that were
-- allowed, so that its nodes are a tree over the program's box, with a licence for each that is split and a proof for
-- each that is closed. Its end has its cause. Where the search is done, what it states is right.
pub record IsSolved (p : Program) (words : ModelWords) (o : Outcome) : Type 0 where
  pub found : IsOutcomeFor p 1 (settings_of words) o
  pub kept : IsKept o.book.ledger
  pub sound : IsSound o.book.ledger.book
  pub cause : search.IsCause o.book.ledger o.end
  pub spent : ShowsSpent words o.book.ledger.book o.end
  pub right : o.end ≡ ended.Done → StatementHolds p (stated_by p o.book.ledger.book.best)

-- a search that is done has a certificate, which is accepted, and this is its text where one is asked for
abbrev pub IsCertified : Run → Option (List ℕ) → Type 0
IsCertified run None = ⊤
IsCertified run (Some file) =
    run.outcome.end ≡ ended.Done → IsCertificateText run.outcome.book.ledger.book run.cert_text

-- what the command did with the program: `solve` searches, and `check` accepts what the certificate states, which
-- implies that it is true
abbrev pub IsWorked : Command → Run → Type 0
IsWorked Solve run = IsSolved (program run) run.words run.outcome × IsCertified run run.words.cert
IsWorked Show run = ⊤
IsWorked Check run =
    Accepts (program run) run.cert_text run.accepted × StatementHolds (program run) run.accepted

-- all texts are read, and the command did its work
pub record Finishes (files : Option Files) (run : Run) : Type 0 where
  pub reads : ReadsBoth files run
  pub cert : ReadsCert run.words.command files run
  pub worked : IsWorked run.words.command run

-- there is something to print: the search of `solve` is done
abbrev pub HasReport : Command → Run → Type 0
HasReport Solve run = run.outcome.end ≡ ended.Done
HasReport Show run = ⊤
HasReport Check run = ⊤

-- budgets that no search spends: each is at least twice the points of its box less one
abbrev pub IsAmple : Command → Run → Type 0
IsAmple Solve run = (2 * point_count (root (program run)) ≤ run.words.nodes + 1)
    × (2 * point_count (follower_box (program run)) ≤ run.words.follower_nodes + 1)
IsAmple Show run = ⊤
IsAmple Check run = ⊤

-- all that the command reads beside the two texts is there and right: `check` has a certificate that is accepted
abbrev pub IsProvided : Command → Option Files → Run → Type 0
IsProvided Solve files run = ⊤
IsProvided Show files run = ⊤
IsProvided Check files run = HasCert files run × Accepts (program run) run.cert_text run.accepted

-- the MPS text breaks the rule
pub record RefusesMps (files : Option Files) (run : Run) (file : List ℕ) (place : Place) (rule : List ℕ) : Type 0 where
  pub named : file ≡ run.words.mps
  pub held : HasMps files run
  pub fault : IsMpsFault (pos run.words.default_upper) run.mps_text place rule

-- the MPS text says a model, and the auxiliary text breaks the rule
pub record RefusesAux (files : Option Files) (run : Run) (file : List ℕ) (place : Place) (rule : List ℕ) : Type 0 where
  pub named : file ≡ run.words.aux
  pub mps : ReadsMps files run
  pub held : HasAux files run
  pub fault : IsAuxFault run.mps run.aux_text place rule

-- the first text that breaks a rule is this file's, at this place and by this rule
abbrev pub RefusesText : Option Files → Run → List ℕ → Place → List ℕ → Type 0
RefusesText files run file place rule =
    RefusesMps files run file place rule ⊎ RefusesAux files run file place rule

-- both texts are read, and the certificate that is to be checked is refused by the rule, first at this line
pub record RefusesCert (files : Option Files) (run : Run) (file : List ℕ) (line : ℕ) (rule : List ℕ) : Type 0 where
  pub checks : run.words.command ≡ Check
  pub named : run.words.cert ≡ Some file
  pub reads : ReadsBoth files run
  pub held : HasCert files run
  pub broken : CertRule
  pub refused : FirstRefusal (program run) run.cert_text line broken
  pub told : rule ≡ cert_rule broken

-- the certificate's file is to be read next: once both texts are read
pub record IsCertNext (files : Option Files) (run : Run) (file : List ℕ) : Type 0 where
  pub checks : run.words.command ≡ Check
  pub named : run.words.cert ≡ Some file
  pub reads : ReadsBoth files run

-- the file is the one that is to be read next: the MPS file, the auxiliary file once the MPS text is read, or the
-- certificate that is to be checked once both are
abbrev pub IsNext : Option Files → Run → List ℕ → Type 0
IsNext files run file =
    (file ≡ run.words.mps) ⊎ (((file ≡ run.words.aux) × ReadsMps files run) ⊎ IsCertNext files run file)

-- the certificate of an answer is to be written to the file
pub record WritesCert (files : Option Files) (run : Run) (file : List ℕ) : Type 0 where
  pub solves : run.words.command ≡ Solve
  pub named : run.words.cert ≡ Some file
  pub finishes : Finishes files run
  pub done : run.outcome.end ≡ ended.Done

-- the file that is to be read next isn't there
pub record IsMissing (files : Option Files) (run : Run) (file : List ℕ) : Type 0 where
  pub next : IsNext files run file
  pub absent : IfTold files (λ told. IsAbsent told file)

-- the ending of a search that ended so: with an answer, or with a budget of the words that was spent
abbrev pub ending_at : ModelWords → Book → Ended → Ending
ending_at words b ended.Done = option_map_or (λ f. Done) b.best NoPoint
ending_at words b (ended.Nodes node why) = NodesSpent words.nodes (length b.nodes)
ending_at words b (ended.Follower spent) = FollowerSpent words.follower_nodes (length spent.nodes) spent.link

abbrev pub ending_of : ModelWords → Outcome → Ending
ending_of words o = ending_at words o.book.ledger.book o.end

-- the ending of a command that did its work
abbrev pub ending_by : Command → Run → Ending
ending_by Solve run = ending_of run.words run.outcome
ending_by Show run = Done
ending_by Check run = Done

-- the command did its work, and this is its ending
pub record EndsSo (files : Option Files) (run : Run) (ending : Ending) : Type 0 where
  pub finishes : Finishes files run
  pub same : ending_by run.words.command run ≡ ending

-- why a run ended so. Want of memory comes freely; an ending that doesn't come yet has no cause.
abbrev pub IsCause : Option Files → Run → Ending → Type 0
IsCause files run Done = EndsSo files run Done
IsCause files run NoPoint = EndsSo files run NoPoint
IsCause files run BadWords = ⊥
IsCause files run (BadText file place rule) = RefusesText files run file place rule
IsCause files run (NodesSpent budget made) = EndsSo files run (NodesSpent budget made)
IsCause files run (FollowerSpent budget made link) = EndsSo files run (FollowerSpent budget made link)
IsCause files run (ReadFault file) = IsNext files run file
IsCause files run (WriteFault (ToFile name)) = WritesCert files run name
IsCause files run (WriteFault ToOutput) = Finishes files run × HasReport run.words.command run
IsCause files run OutOfMemory = ⊤
IsCause files run (NotAccepted file line rule) = RefusesCert files run file line rule
IsCause files run (Missing file) = IsMissing files run file
IsCause files run (ManyPoints file) = ⊥
