-- Internal: what the private calls of a command promise one another.
use Rattle.std.specs.Prelude.{Bool, true, false, ℤ, pos, ◌≤◌, ◌≡◌, ◌⊎◌, ℕ, ◌<◌, List, ◌++◌, length, Option, None, Some}
use Rattle.std.specs.Prelude.{Ok, Err, ⊤, codes}
use Rattle.std.specs.declared.result.Result.{Result}
use Rattle.std.specs.Fmt.{signed_decimal}
use Rattle.std.specs.List.{flat_map}
use Rattle.std.specs.Option.{option_map_or}
use Rattle.bl_outer.specs.Count.{Grew}
use Rattle.bl_outer.specs.Files.{Files, IfTold, Told, IsAbsent}
use Rattle.bl_outer.specs.Files as outer
use Rattle.bl_outer.specs.Shelf.{ShelfState, OnlyReads, OnlyWrites}
use Rattle.bl_outer.specs.Sink.{SinkState, Adds, AddsPrefix}
use Rattle.bl_raw.specs.declared.raw.RawColumn.{RawColumn}
use Rattle.bl_raw.specs.declared.raw.RawMps.{RawMps}
use Rattle.bl_raw.specs.Raw.{IsRawModel, FitsModel}
use Rattle.bl_model.specs.Build.{program_of}
use Rattle.bl_terms.specs.Programs.{Program}
use Rattle.bl_leaf_terms.specs.Incumbents.{Incumbent}
use Rattle.bl_book_terms.specs.Books.{Book}
use Rattle.bl_cert.specs.Written.{IsCertificateText}
use Rattle.bl_cert_book.specs.BookCertificates.{stated_by}
use Rattle.bl_cert_terms.specs.declared.stated.Statement.{Statement}
use Rattle.bl_cert_terms.specs.Certificates.{StatementHolds}
use Rattle.bl_check_terms.specs.declared.rule.CertRule.{CertRule}
use Rattle.bl_check_terms.specs.Accepting.{Accepts, FirstRefusal}
use Rattle.bl_run.specs.declared.status.Answer.{Answer}
use Rattle.bl_run.specs.declared.status.Answer.TheVariants as answer
use Rattle.bl_run.specs.declared.status.Failure.{Failure}
use Rattle.bl_run.specs.declared.status.Failure.TheVariants as failure
use Rattle.bl_run.specs.declared.read.Texts.{Texts}
use Rattle.bl_words.specs.declared.commands.Command.{Command}
use Rattle.bl_words.specs.declared.commands.Command.TheVariants.{Solve, Show, Check}
use Rattle.bl_words.specs.Items.{Said}
use Rattle.bl_run.specs.Words.{ModelWords}
use Rattle.bl_run.specs.declared.fault.TextFault.{TextFault}
use Rattle.bl_run.specs.declared.fault.Place as place
use Rattle.bl_run.specs.declared.fault.Place.TheVariants as variant
use Rattle.bl_run.specs.Endings.{Place, AtLine, AtColumn, AsWhole, ToFile, ToOutput, Ending, Done, NoPoint, BadWords}
use Rattle.bl_run.specs.Endings.{BadText, NodesSpent, FollowerSpent, ReadFault, WriteFault, OutOfMemory, NotAccepted}
use Rattle.bl_run.specs.Endings.{Missing, place_text, file_line, spent_text}
use Rattle.bl_run.specs.Report.{report_of, accepted_report}
use Rattle.bl_run.specs.Texts.{IsMpsText, IsMpsFault, IsAuxText, IsAuxFault, cert_rule}
use Rattle.bl_run.specs.Solve.{Outcome, Run, IsSolved, ending_of, IsCause}
use Rattle.bl_core.specs.declared.outcome.Ended.TheVariants as ended
use Rattle.bl_run.specs.Promise.{Outside, HasCause, ReadFaultsAt, MissesAt, Writes, WritesPrefix, Leaves}
use Rattle.bl_limits.specs.declared.TheConstants.{MAX_NUMBER, MAX_TEXT_BYTES, MAX_NODES}
use Rattle.bl_limits.specs.declared.TheConstants.{MAX_FOLLOWER_NODES}

-- the place of a fault
abbrev pub place_of : place.Place → Place
place_of (variant.Line line) = AtLine line
place_of (variant.Column column) = AtColumn column
place_of variant.Whole = AsWhole

-- the ending with an answer
abbrev pub answer_ending : Answer → Ending
answer_ending answer.Optimal = Done
answer_ending answer.Infeasible = NoPoint
answer_ending answer.Shown = Done
answer_ending answer.Accepted = Done

-- the ending with a failure
abbrev pub failure_ending : Failure → Ending
failure_ending failure.Words = BadWords
failure_ending (failure.Text file fault) = BadText file.now (place_of fault.place) fault.rule.now
failure_ending (failure.NodesSpent budget made) = NodesSpent budget made
failure_ending (failure.FollowerSpent budget made link) = FollowerSpent budget made link.items
failure_ending (failure.ReadFault file) = ReadFault file.now
failure_ending (failure.FileFault file) = WriteFault (ToFile file.now)
failure_ending failure.WriteFault = WriteFault ToOutput
failure_ending failure.Memory = OutOfMemory
failure_ending (failure.NotAccepted file line rule) = NotAccepted file.now line rule.now
failure_ending (failure.Missing file) = Missing file.now

-- the ending with what a command answers
abbrev pub result_ending : Result Answer Failure → Ending
result_ending (Ok answer) = answer_ending answer
result_ending (Err failure) = failure_ending failure

-- ---- lines on the error output

-- the rule that a text breaks, with its place and the end of its line
abbrev pub rule_line : TextFault → List ℕ
rule_line fault = place_text (place_of fault.place) ++ (fault.rule.now ++ codes "\n")

-- the line on a text that breaks a rule
abbrev pub fault_line : List ℕ → TextFault → List ℕ
fault_line file fault = file_line file (place_text (place_of fault.place) ++ fault.rule.now)

-- the line on a spent budget of nodes
abbrev pub nodes_line : ℕ → ℕ → List ℕ
nodes_line budget made = codes "mibs: node budget " ++ (spent_text budget made ++ codes "\n")

-- the line on a spent budget of the follower, up to the link
abbrev pub follower_head : ℕ → ℕ → List ℕ
follower_head budget made = codes "mibs: follower budget " ++ (spent_text budget made ++ codes " at link")

-- the values of a link
abbrev pub link_text : List ℤ → List ℕ
link_text link = flat_map (λ value. codes " " ++ signed_decimal value) link

-- a line was put, or some first bytes of it and the fault was counted
abbrev pub Puts : {T E : Type 0} → List ℕ → SinkState → SinkState → Result T E → Type 0
Puts line old new (Ok _) = Told (Adds line) old.bytes new.bytes × (new.faults ≡ old.faults)
Puts line old new (Err _) = Told (AddsPrefix line) old.bytes new.bytes × Grew old.faults new.faults

-- ---- the words of a command

-- what the words of a command ask for
abbrev pub asked_by : Command → Said → ModelWords
asked_by command said = record {
  command = command;
  mps = said.mps;
  aux = said.aux;
  cert = said.cert;
  default_upper = said.default_upper;
  nodes = said.nodes;
  follower_nodes = said.follower_nodes;
}

-- a default upper bound within its limit
abbrev pub IsDefaultUpper : ℕ → Type 0
IsDefaultUpper upper = upper ≤ MAX_NUMBER

-- budgets within their limits
pub record AreBudgets (nodes follower_nodes : ℕ) : Type 0 where
  pub nodes_least : 1 ≤ nodes
  pub nodes_most : nodes ≤ MAX_NODES
  pub follower_least : 1 ≤ follower_nodes
  pub follower_most : follower_nodes ≤ MAX_FOLLOWER_NODES

-- the commands that write no file
abbrev pub never_writes : Command → Bool
never_writes Solve = false
never_writes Show = true
never_writes Check = true

-- ---- reading

-- a call that only reads, with what it counts at an ending
pub record ReadsTo (ending : Ending) (old new : ShelfState) : Type 0 where
  pub reads : OnlyReads old new
  pub read_faults : ReadFaultsAt ending old new
  pub misses : MissesAt ending old.misses new.misses

-- a call that only reads: it counts the cause of its failure, and nothing where it succeeds
abbrev pub OnlyCounts : {T : Type 0} → ShelfState → ShelfState → Result T Failure → Type 0
OnlyCounts old new (Ok _) = ReadsTo Done old new
OnlyCounts old new (Err failure) = ReadsTo (failure_ending failure) old new

-- a file has a text of which P holds; where the files aren't told, some text is meant
pub record HasText (files : Option Files) (name : List ℕ) (P : List ℕ → Type 0) : Type 0 where
  pub text : List ℕ
  pub held : IfTold files (λ told. outer.Holds told name text)
  pub is : P text

-- why the file of this name isn't read, where a text is refused at a place and by a rule of which Bad holds
abbrev pub FailsToRead : Option Files → List ℕ → (List ℕ → Place → List ℕ → Type 0) → Failure → Type 0
FailsToRead files name Bad (failure.Text file fault) = (file.now ≡ name)
    × HasText files name (λ text. Bad text (place_of fault.place) fault.rule.now)
FailsToRead files name Bad (failure.ReadFault file) = file.now ≡ name
FailsToRead files name Bad failure.Memory = ⊤
FailsToRead files name Bad (failure.Missing file) = (file.now ≡ name) × IfTold files (λ told. IsAbsent told name)
FailsToRead files name Bad _ = ⊥

-- no text is refused
abbrev pub NoFault : List ℕ → Place → List ℕ → Type 0
NoFault text place rule = ⊥

-- the text has more bytes than are read
abbrev pub IsTooLong : List ℕ → Type 0
IsTooLong text = MAX_TEXT_BYTES < length text

-- what two texts say, within the limits of a model
pub record AreWithin (texts : Texts) : Type 0 where
  pub mps : IsRawModel texts.mps
  pub aux : FitsModel (length texts.mps.columns) (length texts.mps.rows) texts.aux

-- the program that they make
abbrev pub program_in : Texts → Program
program_in texts = program_of texts.mps texts.aux

-- the MPS file has a text that says the model
abbrev pub ReadsModel : Option Files → Said → RawMps → Type 0
ReadsModel files said mps = HasText files said.mps (λ text. IsMpsText (pos said.default_upper) text mps)

-- both files have texts that say this
pub record ReadsTexts (files : Option Files) (said : Said) (texts : Texts) : Type 0 where
  pub mps : ReadsModel files said texts.mps
  pub aux : HasText files said.aux (λ text. IsAuxText texts.mps text texts.aux)

-- why they aren't read: the MPS file isn't; or it is, and the auxiliary file isn't
abbrev pub FailsToReadTexts : Option Files → Said → Failure → Type 0
FailsToReadTexts files said failure =
    FailsToRead files said.mps (IsMpsFault (pos said.default_upper)) failure
    ⊎ ((mps : RawMps) × ReadsModel files said mps × FailsToRead files said.aux (IsAuxFault mps) failure)

-- ---- solving

-- the text of the book's certificate, where one is asked for
abbrev pub IsCertText : Option (List ℕ) → Book → List ℕ → Type 0
IsCertText None b text = ⊤
IsCertText (Some file) b text = IsCertificateText b text

-- the search over the program has this outcome, which is done, with this answer, this report and this certificate
pub record IsReport (columns : List RawColumn) (p : Program) (words : ModelWords) (answer : Answer)
    (text cert : List ℕ) : Type 0 where
  pub outcome : Outcome
  pub solved : IsSolved p words outcome
  pub done : outcome.end ≡ ended.Done
  pub same : ending_of words outcome ≡ answer_ending answer
  pub spelled : text ≡ report_of columns p (stated_by p outcome.book.ledger.book.best)
  pub certified : IsCertText words.cert outcome.book.ledger.book cert

-- the search over the program has an outcome with this ending
pub record IsSpent (p : Program) (words : ModelWords) (ending : Ending) : Type 0 where
  pub outcome : Outcome
  pub solved : IsSolved p words outcome
  pub same : ending_of words outcome ≡ ending

-- why a program has no report: a budget is spent, or there is no memory
abbrev pub FailsToSolve : Program → ModelWords → Failure → Type 0
FailsToSolve p words (failure.NodesSpent budget made) = IsSpent p words (NodesSpent budget made)
FailsToSolve p words (failure.FollowerSpent budget made link) = IsSpent p words (FollowerSpent budget made link.items)
FailsToSolve p words failure.Memory = ⊤
FailsToSolve p words _ = ⊥

-- the answer and its report for a best incumbent
pub record IsReportOf (columns : List RawColumn) (p : Program) (best : Option Incumbent) (answer : Answer)
    (text : List ℕ) : Type 0 where
  pub same : option_map_or (λ f. Done) best NoPoint ≡ answer_ending answer
  pub spelled : text ≡ report_of columns p (stated_by p best)

-- ---- writing a certificate

-- the file was written and holds the text; where none is named nothing is written
abbrev pub HasWritten : Option (List ℕ) → List ℕ → Option Files → Option Files → Type 0
HasWritten None text old new = new ≡ old
HasWritten (Some name) text old new = Told (Writes name text) old new

-- the file that is named was written, and no fault counted
pub record IsPut (file : Option (List ℕ)) (text : List ℕ) (old new : ShelfState) : Type 0 where
  pub files : HasWritten file text old.contents new.contents
  pub write_faults : new.write_faults ≡ old.write_faults
  pub writes : OnlyWrites old new

-- the writing of the file failed
pub record IsCutOff (name text : List ℕ) (old new : ShelfState) (failure : Failure) : Type 0 where
  pub ends : failure_ending failure ≡ WriteFault (ToFile name)
  pub files : Told (WritesPrefix name text) old.contents new.contents
  pub counted : Grew old.write_faults new.write_faults
  pub writes : OnlyWrites old new

-- the writing of the file that is named failed
abbrev pub CutsOff : Option (List ℕ) → List ℕ → ShelfState → ShelfState → Failure → Type 0
CutsOff None text old new failure = ⊥
CutsOff (Some name) text old new failure = IsCutOff name text old new failure

-- the file that is named was written, or its writing failed
abbrev pub PutsFile : {T : Type 0} → Option (List ℕ) → List ℕ → ShelfState → ShelfState → Result T Failure → Type 0
PutsFile file text old new (Ok _) = IsPut file text old new
PutsFile file text old new (Err failure) = CutsOff file text old new failure

-- ---- checking a certificate

-- the text is accepted, what it states is true, and this is printed of it
pub record IsAcceptedText (columns : List RawColumn) (p : Program) (cert text : List ℕ) : Type 0 where
  pub states : Statement
  pub accepts : Accepts p cert states
  pub holds : StatementHolds p states
  pub spelled : text ≡ accepted_report columns p states

-- the text is refused by the rule, first at this line
pub record IsRefused (p : Program) (cert : List ℕ) (line : ℕ) (rule : List ℕ) : Type 0 where
  pub broken : CertRule
  pub refused : FirstRefusal p cert line broken
  pub told : rule ≡ cert_rule broken

-- why nothing is printed of the text of this file: it is refused, or there is no memory
abbrev pub FailsToCheck : Program → List ℕ → List ℕ → Failure → Type 0
FailsToCheck p name cert (failure.NotAccepted file line rule) = (file.now ≡ name) × IsRefused p cert line rule.now
FailsToCheck p name cert failure.Memory = ⊤
FailsToCheck p name cert _ = ⊥

-- ---- the end of a command

-- a command was asked this, and ended so
pub record Ends (asked : ModelWords) (old new : Outside) (ending : Ending) : Type 0 where
  pub run : Run
  pub words : run.words ≡ asked
  pub cause : IsCause old.files.contents run ending
  pub leaves : Leaves run ending old new

-- a call that does these commands ended so
pub record EndsCommand (does : Command → Bool) (words : List (List ℕ)) (old new : Outside)
    (ending : Ending) : Type 0 where
  pub run : Run
  pub cause : HasCause does words old.files.contents run ending
  pub leaves : Leaves run ending old new
