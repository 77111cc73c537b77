-- Trusted: all that a top call promises of its words, its files and its outputs.
use Rattle.std.specs.Prelude.{◌≡◌, ◌⊎◌, ℕ, Bool, List, Option, None, Some, take, ⊤}
use Rattle.bl_outer.specs.Count.{Grew}
use Rattle.bl_outer.specs.Files.{Files, Holds, OthersStay, IfTold, Told}
use Rattle.bl_outer.specs.Shelf.{ShelfState, FaultsOn, NoReadFault}
use Rattle.bl_outer.specs.Sink.{SinkState, Adds, AddsPrefix}
use Rattle.bl_words.specs.declared.commands.Command.{Command}
use Rattle.bl_words.specs.declared.commands.Command.TheVariants.{Solve, Show, Check}
use Rattle.bl_run.specs.Words.{ModelWords, AreAsked, AreRefused}
use Rattle.bl_run.specs.Endings.{Place, ToFile, ToOutput, Ending, Done, NoPoint, BadWords, BadText, ReadFault}
use Rattle.bl_run.specs.Endings.{NodesSpent, FollowerSpent, WriteFault, OutOfMemory, NotAccepted, Missing, status_of}
use Rattle.bl_run.specs.Endings.{line_of}
use Rattle.bl_run.specs.Solve.{Run, report, ReadsBoth, IsAmple, IsProvided, RefusesText, RefusesCert, IsMissing}
use Rattle.bl_run.specs.Solve.{IsCause}

-- what a command works on: the files and the output
pub record Outside : Type 0 where
  pub files : ShelfState
  pub out : SinkState

-- why the command ended so. Want of memory comes freely, also where the words are read.
abbrev pub HasCause : (Command → Bool) → List (List ℕ) → Option Files → Run → Ending → Type 0
HasCause does words files run BadWords = AreRefused does words
HasCause does words files run OutOfMemory = ⊤
HasCause does words files run ending = AreAsked does words run.words × IsCause files run ending

-- a fault of reading or want of memory, which may come before what would come else
abbrev pub ComesFirst : Ending → Type 0
ComesFirst (ReadFault file) = ⊤
ComesFirst OutOfMemory = ⊤
ComesFirst _ = ⊥

-- an answer, or the fault of writing it
abbrev pub EndsInAnswer : Ending → Type 0
EndsInAnswer Done = ⊤
EndsInAnswer NoPoint = ⊤
EndsInAnswer (WriteFault target) = ⊤
EndsInAnswer _ = ⊥

-- a budget that was spent
abbrev pub EndsSpent : Ending → Type 0
EndsSpent (NodesSpent budget made) = ⊤
EndsSpent (FollowerSpent budget made link) = ⊤
EndsSpent _ = ⊥

-- a cause that stands in the files gives its ending: texts that are read are answered, and so is a certificate that is
-- accepted, or a budget is spent, which ample ones never are
pub record IsDue (does : Command → Bool) (words : List (List ℕ)) (ending : Ending) (files : Files) : Type 0 where
  pub refused : (run : Run) (file : List ℕ) (place : Place) (rule : List ℕ)
      → AreAsked does words run.words → RefusesText (Some files) run file place rule
      → (ending ≡ BadText file place rule) ⊎ ComesFirst ending
  pub not_accepted : (run : Run) (file : List ℕ) (line : ℕ) (rule : List ℕ)
      → AreAsked does words run.words → RefusesCert (Some files) run file line rule
      → (ending ≡ NotAccepted file line rule) ⊎ ComesFirst ending
  pub missing : (run : Run) (file : List ℕ)
      → AreAsked does words run.words → IsMissing (Some files) run file → (ending ≡ Missing file) ⊎ ComesFirst ending
  pub ended : (run : Run)
      → AreAsked does words run.words → ReadsBoth (Some files) run
      → IsProvided run.words.command (Some files) run → EndsInAnswer ending ⊎ (EndsSpent ending ⊎ ComesFirst ending)
  pub answered : (run : Run)
      → AreAsked does words run.words → ReadsBoth (Some files) run
      → IsProvided run.words.command (Some files) run → IsAmple run.words.command run
      → EndsInAnswer ending ⊎ ComesFirst ending

-- what the ending leaves on the output: the report, some first bytes of it, or nothing. Nothing is printed before the
-- certificate is written
abbrev pub Prints : Run → Ending → Option (List ℕ) → Option (List ℕ) → Type 0
Prints run Done old new = Told (Adds (report run)) old new
Prints run NoPoint old new = Told (Adds (report run)) old new
Prints run (WriteFault ToOutput) old new = Told (AddsPrefix (report run)) old new
Prints run _ old new = new ≡ old

-- a read fault is counted, and is of the file that is named; else none is
abbrev pub ReadFaultsAt : Ending → ShelfState → ShelfState → Type 0
ReadFaultsAt (ReadFault file) old new = FaultsOn file old new
ReadFaultsAt _ old new = NoReadFault old new

-- a missing file is counted; else none is
abbrev pub MissesAt : Ending → ℕ → ℕ → Type 0
MissesAt (Missing file) old new = Grew old new
MissesAt _ old new = new ≡ old

-- a write fault of a file is counted by the files, and one of the output by the output; else none is
abbrev pub WriteFaultsAt : Ending → Outside → Outside → Type 0
WriteFaultsAt (WriteFault (ToFile name)) old new = Grew old.files.write_faults new.files.write_faults
    × (new.out.faults ≡ old.out.faults)
WriteFaultsAt (WriteFault ToOutput) old new = Grew old.out.faults new.out.faults
    × (new.files.write_faults ≡ old.files.write_faults)
WriteFaultsAt _ old new = (new.files.write_faults ≡ old.files.write_faults) × (new.out.faults ≡ old.out.faults)

-- the file has the text, and every other file is as before
pub record Writes (name text : List ℕ) (old new : Files) : Type 0 where
  pub file : Holds new name text
  pub others : OthersStay name old new

-- nothing has changed, or the file has some first bytes of the text and every other file is as before
abbrev pub WritesPrefix : List ℕ → List ℕ → Files → Files → Type 0
WritesPrefix name text old new = (new ≡ old) ⊎ ((n : ℕ) × Writes name (take n text) old new)

-- the file that the command writes, where it is asked to: the certificate of `solve`
abbrev pub written_by : Command → ModelWords → Option (List ℕ)
written_by Solve words = words.cert
written_by Show words = None
written_by Check words = None

-- the certificate is written before the answer is printed; where writing it failed, some first bytes of it may be.
-- Every other file is as before
abbrev pub LeavesFile : List ℕ → List ℕ → Ending → Option Files → Option Files → Type 0
LeavesFile name text Done old new = Told (Writes name text) old new
LeavesFile name text NoPoint old new = Told (Writes name text) old new
LeavesFile name text (WriteFault ToOutput) old new = Told (Writes name text) old new
LeavesFile name text (WriteFault (ToFile file)) old new = Told (WritesPrefix name text) old new
LeavesFile name text _ old new = new ≡ old

-- without one every file is as before
abbrev pub LeavesFiles : Option (List ℕ) → List ℕ → Ending → Option Files → Option Files → Type 0
LeavesFiles None text ending old new = new ≡ old
LeavesFiles (Some name) text ending old new = LeavesFile name text ending old new

-- what an ending leaves outside: what is printed, what is counted, and the files
pub record Leaves (run : Run) (ending : Ending) (old new : Outside) : Type 0 where
  pub printed : Prints run ending old.out.bytes new.out.bytes
  pub read_faults : ReadFaultsAt ending old.files new.files
  pub misses : MissesAt ending old.files.misses new.files.misses
  pub write_faults : WriteFaultsAt ending old new
  pub files : LeavesFiles (written_by run.words.command run.words) run.cert_text ending old.files.contents
      new.files.contents

-- The line stands at the end, or some first bytes of it do and the count of faults rose. Without a line nothing
-- changed.
abbrev pub Tells : Option (List ℕ) → SinkState → SinkState → Type 0
Tells None old new = new ≡ old
Tells (Some line) old new =
    (Told (Adds line) old.bytes new.bytes × (new.faults ≡ old.faults))
    ⊎ (Told (AddsPrefix line) old.bytes new.bytes × Grew old.faults new.faults)

-- The promise of a top call that does these commands. There is one run, of which all the rest is said, and
-- one ending, whose status is answered and whose cause stands. Words that ask for nothing end so, unless
-- there is no memory; where the files are told, a cause that stands in them gives its ending. The rest is
-- what is left on the files and on the two outputs.
pub record Promise (does : Command → Bool) (words : List (List ℕ)) (old new : Outside) (old_err new_err : SinkState)
    (status : ℕ) : Type 0 where
  pub run : Run
  pub ending : Ending
  pub status_is : status ≡ status_of ending
  pub cause : HasCause does words old.files.contents run ending
  pub refused : AreRefused does words → (ending ≡ BadWords) ⊎ (ending ≡ OutOfMemory)
  pub due : IfTold old.files.contents (IsDue does words ending)
  pub leaves : Leaves run ending old new
  pub told : Tells (line_of ending) old_err new_err
