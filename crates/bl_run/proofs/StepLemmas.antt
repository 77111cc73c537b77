-- From the steps of a command to how it ended.
use Rattle.std.proofs.Common.{ap, ◌≡◌, ℕ, suc, ◌<◌, List, [], length, replicate, arith, refl, sym, subst, ◌∙◌}
use Rattle.std.proofs.Common.{inl, inr, ◌⊎◌, ⊎_elim}
use Rattle.std.specs.Prelude.{Bool, false, ℤ, true, nat_lt, pos, Option, None, Some, unwrap_or, codes}
use Rattle.std.proofs.lemmas.List.{length-replicate}
use Rattle.std.proofs.lemmas.Bool.Decides.{nat_tests}
use Rattle.bl_outer.specs.Count.{Grew}
use Rattle.bl_outer.specs.Files.{Files, IfTold, Holds, IsAbsent, Told}
use Rattle.bl_outer.specs.Shelf.{ShelfState, OnlyReads, OnlyWrites, NoReadFault}
use Rattle.bl_outer.specs.Text.{IsTruncated}
use Rattle.bl_outer.specs.Sink.{SinkState, Adds, AddsPrefix}
use Rattle.bl_limits.specs.declared.TheConstants.{MAX_TEXT_BYTES}
use Rattle.bl_raw.specs.declared.raw.RawMps.{RawMps}
use Rattle.bl_raw.specs.declared.raw.RawAux.{RawAux}
use Rattle.bl_aux.specs.declared.fault.AuxRule.TheVariants.{TooLong}
use Rattle.bl_aux.specs.Texts.{too_long}
use Rattle.bl_model.specs.Build.{program_of}
use Rattle.bl_core.specs.declared.outcome.Ended.TheVariants as ended
use Rattle.bl_mps_terms.specs.declared.fault.MpsRule.TheVariants as mps
use Rattle.bl_mps_terms.specs.Faults.{first_fault}
use Rattle.bl_cert_terms.specs.declared.stated.Statement.{Statement}
use Rattle.bl_cert_terms.specs.declared.stated.Statement.TheVariants.{Infeasible}
use Rattle.bl_run.specs.declared.status.Answer.{Answer}
use Rattle.bl_run.specs.declared.status.Answer.TheVariants as answer
use Rattle.bl_run.specs.declared.status.Failure.{Failure}
use Rattle.bl_run.specs.declared.status.Failure.TheVariants as failure
use Rattle.bl_run.specs.declared.read.Texts.{Texts}
use Rattle.bl_words.specs.declared.commands.Command.{Command}
use Rattle.bl_words.specs.declared.commands.Command.TheVariants.{Solve, Show, Check}
use Rattle.bl_words.specs.Items.{Said, AreModelWords}
use Rattle.bl_run.specs.Words.{ModelWords, AreAsked, AreRefused, each_command, show_alone, check_alone, said_of}
use Rattle.bl_run.specs.Texts.{IsMpsFault, IsAuxFault}
use Rattle.bl_run.specs.Endings.{Place, AsWhole, Ending, Done, NoPoint, BadWords, BadText, NodesSpent, FollowerSpent}
use Rattle.bl_run.specs.Endings.{ReadFault, WriteFault, OutOfMemory, NotAccepted, Missing, ManyPoints, ToFile, ToOutput}
use Rattle.bl_run.specs.Solve.{Outcome, Run, ReadsBoth, ReadsMps, HasReport, IsCertified, Finishes, report, ending_by}
use Rattle.bl_run.specs.Solve.{EndsSo, IsCause}
use Rattle.bl_run.specs.Promise.{Outside, HasCause, Prints, ReadFaultsAt, MissesAt, WriteFaultsAt, WritesPrefix}
use Rattle.bl_run.specs.Promise.{LeavesFiles, Leaves, EndsSpent, written_by}
use Rattle.bl_run.specs.Steps.{place_of, answer_ending, failure_ending, asked_by, never_writes, ReadsTo, HasText}
use Rattle.bl_run.specs.Steps.{FailsToRead}
use Rattle.bl_run.specs.Steps.{NoFault, IsTooLong, program_in, ReadsModel, ReadsTexts, FailsToReadTexts, IsCertText}
use Rattle.bl_run.specs.Steps.{IsReport, IsSpent, FailsToSolve, HasWritten, IsPut, IsCutOff, CutsOff, IsRefused}
use Rattle.bl_run.specs.Steps.{IsAcceptedText, FailsToCheck, Ends, EndsCommand}
use Rattle.bl_run.proofs.OutcomeLemmas.{spent_undone}

-- there is a longer text than any limit
some_longer : (limit : ℕ) → (text : List ℕ) × (limit < length text)
some_longer limit = (replicate (suc limit) 0, simp length-replicate (omega arith))

-- a file that was cut off has a text that is too long
pub cut_off : (files : Option Files) (name text : List ℕ) → IfTold files (IsTruncated name MAX_TEXT_BYTES text)
    → HasText files name IsTooLong
cut_off None name text h = record {
  text = (some_longer MAX_TEXT_BYTES).0;
  held = tt;
  is = (some_longer MAX_TEXT_BYTES).1;
}
cut_off (Some told) name text h = record { text = h.bytes; held = h.held; is = h.longer }

-- a text that is too long breaks that rule of an MPS text
too_long_mps : (default : ℤ) (text : List ℕ) → MAX_TEXT_BYTES < length text
    → first_fault default text ≡ Some (record { rule = mps.TooLong; line = 0; column = 0 })
unfolding first_fault
too_long_mps default text long =
    let yes : nat_lt MAX_TEXT_BYTES (length text) ≡ true = grind (arith, nat_tests) in rw yes refl

pub mps_too_long : (files : Option Files) (name : List ℕ) (default : ℤ) (place : Place) (rule : List ℕ)
    → place ≡ AsWhole → rule ≡ codes "TooLong" → HasText files name IsTooLong
    → HasText files name (λ text. IsMpsFault default text place rule)
mps_too_long files name default place rule at by_rule h = record {
  text = h.text;
  held = h.held;
  is = record {
    fault = record { rule = mps.TooLong; line = 0; column = 0 };
    first = too_long_mps default h.text h.is;
    at = at;
    by_rule = by_rule;
  };
}

-- a text that is too long breaks that rule of an auxiliary text
pub aux_too_long : (files : Option Files) (name : List ℕ) (mps : RawMps) (place : Place) (rule : List ℕ)
    → place ≡ AsWhole → rule ≡ codes "TooLong" → HasText files name IsTooLong
    → HasText files name (λ text. IsAuxFault mps text place rule)
aux_too_long files name mps place rule at by_rule h = record {
  text = h.text;
  held = h.held;
  is = record { fault = record { rule = TooLong; line = 0 }; first = too_long h.is refl; at = at; by_rule = by_rule };
}

-- what counts at an ending, after a part in which no reading failed
module _ (old middle new : ShelfState) (quiet : NoReadFault old middle) where
  unfaulted : NoReadFault middle new → NoReadFault old new
  unfaulted h = record { read_faults = h.read_faults ∙ quiet.read_faults; faulted = h.faulted ∙ quiet.faulted }

  counted_after : (ending : Ending) → ReadFaultsAt ending middle new → ReadFaultsAt ending old new
  counted_after (ReadFault file) h = record {
    counted = subst
        (λ (n : ℕ). Grew n new.read_faults) quiet.read_faults h.counted;
    named = h.named;
  }
  counted_after Done h = unfaulted h
  counted_after NoPoint h = unfaulted h
  counted_after BadWords h = unfaulted h
  counted_after (BadText file place rule) h = unfaulted h
  counted_after (NodesSpent budget made) h = unfaulted h
  counted_after (FollowerSpent budget made link) h = unfaulted h
  counted_after (WriteFault target) h = unfaulted h
  counted_after OutOfMemory h = unfaulted h
  counted_after (NotAccepted file line rule) h = unfaulted h
  counted_after (Missing file) h = unfaulted h
  counted_after (ManyPoints file) h = unfaulted h

-- two calls that only read, of which the first succeeded
pub reads_then : (old middle new : ShelfState) (ending : Ending) → ReadsTo Done old middle → ReadsTo ending middle new
    → ReadsTo ending old new
reads_then old middle new ending g h = record {
  reads = record {
    contents = h.reads.contents ∙ g.reads.contents;
    write_faults = h.reads.write_faults
        ∙ g.reads.write_faults;
  };
  read_faults = counted_after old middle new g.read_faults ending h.read_faults;
  misses = subst (λ (n : ℕ). MissesAt ending n new.misses) g.misses h.misses;
}

-- a call that counts nothing has nothing to count at a later ending
quietly : (old new : ShelfState) → ReadsTo Done old new → ReadsTo OutOfMemory old new
quietly old new h = record { reads = h.reads; read_faults = h.read_faults; misses = h.misses }

-- ---- files that aren't read

-- what holds at each ending of a file that isn't read, holds where it ends so
pub by_unread : (files : Option Files) (name : List ℕ) (Bad : List ℕ → Place → List ℕ → Type 0) (P : Ending → Type 0)
    → ((text : List ℕ) (place : Place) (rule : List ℕ) → IfTold files (λ told. Holds told name text)
    → Bad text place rule → P (BadText name place rule))
    → P (ReadFault name) → P OutOfMemory → (IfTold files (λ told. IsAbsent told name) → P (Missing name))
    → (failure : Failure) → FailsToRead files name Bad failure → P (failure_ending failure)
by_unread files name Bad P bad read memory missing failure.Words h = absurd h
by_unread files name Bad P bad read memory missing (failure.Text file fault) h =
    let place = place_of fault.place in
    let rule = fault.rule.now in
    subst (λ (n : List ℕ). P (BadText n place rule)) (sym h.0) (bad h.1.text place rule h.1.held h.1.is)
by_unread files name Bad P bad read memory missing (failure.NodesSpent budget made) h = absurd h
by_unread files name Bad P bad read memory missing (failure.FollowerSpent budget made link) h = absurd h
by_unread files name Bad P bad read memory missing (failure.ReadFault file) h =
    subst (λ (n : List ℕ). P (ReadFault n)) (sym h) read
by_unread files name Bad P bad read memory missing (failure.FileFault file) h = absurd h
by_unread files name Bad P bad read memory missing failure.WriteFault h = absurd h
by_unread files name Bad P bad read memory missing failure.Memory h = memory
by_unread files name Bad P bad read memory missing (failure.NotAccepted file line rule) h = absurd h
by_unread files name Bad P bad read memory missing (failure.Missing file) h =
    subst (λ (n : List ℕ). P (Missing n)) (sym h.0) (missing h.1)

-- ---- endings without a written byte

-- at this ending nothing was written
abbrev IsUnwritten : Ending → Type 0
IsUnwritten Done = ⊥
IsUnwritten NoPoint = ⊥
IsUnwritten (WriteFault target) = ⊥
IsUnwritten _ = Unit {0}

silent : (run : Run) (ending : Ending) → IsUnwritten ending → (bytes : Option (List ℕ)) → Prints run ending bytes bytes
silent run Done is bytes = absurd is
silent run NoPoint is bytes = absurd is
silent run BadWords is bytes = refl
silent run (BadText file place rule) is bytes = refl
silent run (NodesSpent budget made) is bytes = refl
silent run (FollowerSpent budget made link) is bytes = refl
silent run (ReadFault file) is bytes = refl
silent run (WriteFault target) is bytes = absurd is
silent run OutOfMemory is bytes = refl
silent run (NotAccepted file line rule) is bytes = refl
silent run (Missing file) is bytes = refl
silent run (ManyPoints file) is bytes = refl

abbrev outside : ShelfState → SinkState → Outside
outside files out = record { files = files; out = out }

no_write_fault : (ending : Ending) → IsUnwritten ending → (old new : ShelfState) (out : SinkState) → OnlyReads old new
    → WriteFaultsAt ending (outside old out) (outside new out)
no_write_fault Done is old new out h = absurd is
no_write_fault NoPoint is old new out h = absurd is
no_write_fault BadWords is old new out h = (h.write_faults, refl)
no_write_fault (BadText file place rule) is old new out h = (h.write_faults, refl)
no_write_fault (NodesSpent budget made) is old new out h = (h.write_faults, refl)
no_write_fault (FollowerSpent budget made link) is old new out h = (h.write_faults, refl)
no_write_fault (ReadFault file) is old new out h = (h.write_faults, refl)
no_write_fault (WriteFault target) is old new out h = absurd is
no_write_fault OutOfMemory is old new out h = (h.write_faults, refl)
no_write_fault (NotAccepted file line rule) is old new out h = (h.write_faults, refl)
no_write_fault (Missing file) is old new out h = (h.write_faults, refl)
no_write_fault (ManyPoints file) is old new out h = (h.write_faults, refl)

untouched : (file : Option (List ℕ)) (text : List ℕ) (ending : Ending) → IsUnwritten ending → (old new : Option Files)
    → new ≡ old → LeavesFiles file text ending old new
untouched None text ending is old new same = same
untouched (Some name) text Done is old new same = absurd is
untouched (Some name) text NoPoint is old new same = absurd is
untouched (Some name) text BadWords is old new same = same
untouched (Some name) text (BadText file place rule) is old new same = same
untouched (Some name) text (NodesSpent budget made) is old new same = same
untouched (Some name) text (FollowerSpent budget made link) is old new same = same
untouched (Some name) text (ReadFault file) is old new same = same
untouched (Some name) text (WriteFault target) is old new same = absurd is
untouched (Some name) text OutOfMemory is old new same = same
untouched (Some name) text (NotAccepted file line rule) is old new same = same
untouched (Some name) text (Missing file) is old new same = same
untouched (Some name) text (ManyPoints file) is old new same = same

left : (run : Run) (ending : Ending) → IsUnwritten ending → (old new : ShelfState) (out : SinkState)
    → ReadsTo ending old new → Leaves run ending (outside old out) (outside new out)
left run ending is old new out h = record {
  printed = silent run ending is out.bytes;
  read_faults = h.read_faults;
  misses = h.misses;
  write_faults = no_write_fault ending is old new out h.reads;
  files = untouched (written_by run.words.command run.words) run.cert_text ending is old.contents new.contents
      h.reads.contents;
}

-- a run ended so, and nothing was written
ended_by : (run : Run) (ending : Ending) → IsUnwritten ending → (old new : ShelfState) (out : SinkState)
    → IsCause old.contents run ending → ReadsTo ending old new
    → Ends run.words (outside old out) (outside new out) ending
ended_by run ending is old new out cause h = record {
  run = run;
  words = refl;
  cause = cause;
  leaves = left run ending is old new out h;
}

-- ---- runs, by how far they came

abbrev no_mps : RawMps
no_mps = record { maximise = false; objective = []; rows = []; columns = [] }

abbrev no_aux : RawAux
no_aux = record { columns = []; rows = []; costs = []; sense = pos 1 }

abbrev pub no_outcome : Outcome
no_outcome = record {
  book = record {
    ledger = record {
      book = record {
        program = program_of no_mps no_aux;
        workers = 0;
        limit = 0;
        nodes = [];
        best = None;
      };
      journal = [];
    };
    spare = 0;
  };
  end = ended.Done;
}

-- a run of which its words are known
abbrev run_of : ModelWords → Run
run_of asked = record {
  words = asked;
  mps_text = [];
  mps = no_mps;
  aux_text = [];
  aux = no_aux;
  outcome = no_outcome;
  cert_text = [];
  accepted = Infeasible;
}

-- the MPS file wasn't read
mps_stops : (command : Command) (said : Said) (old new : ShelfState) (out : SinkState) (failure : Failure)
    → FailsToRead old.contents said.mps (IsMpsFault (pos said.default_upper)) failure
    → ReadsTo (failure_ending failure) old new
    → Ends (asked_by command said) (outside old out) (outside new out) (failure_ending failure)
mps_stops command said old new out failure why =
    let run = run_of (asked_by command said) in
    by_unread old.contents said.mps (IsMpsFault (pos said.default_upper))
    (λ (e : Ending). ReadsTo e old new → Ends (asked_by command said) (outside old out) (outside new out) e)
    (λ text place rule held bad h. ended_by (record run { mps_text = text }) (BadText said.mps place rule) tt old new
    out (inl (record { named = refl; held = held; fault = bad })) h)
    (λ h. ended_by run (ReadFault said.mps) tt old new out (inl refl) h)
    (λ h. ended_by run OutOfMemory tt old new out tt h)
    (λ absent h. ended_by run (Missing said.mps) tt old new out (record { next = inl refl; absent = absent }) h)
    failure why

-- the MPS text was read, and the auxiliary file wasn't
module _ (command : Command) (said : Said) (old new : ShelfState) (out : SinkState) (mps : RawMps)
    (read : ReadsModel old.contents said mps) where
  abbrev read_run : Run
  read_run = record (run_of (asked_by command said)) { mps_text = read.text; mps = mps }

  reads_mps : ReadsMps old.contents read_run
  reads_mps = record { held = read.held; says = read.is }

  aux_stops : (failure : Failure) → FailsToRead old.contents said.aux (IsAuxFault mps) failure
      → ReadsTo (failure_ending failure) old new
      → Ends (asked_by command said) (outside old out) (outside new out) (failure_ending failure)
  aux_stops failure why =
      by_unread old.contents said.aux (IsAuxFault mps)
      (λ (e : Ending). ReadsTo e old new → Ends (asked_by command said) (outside old out) (outside new out) e)
      (λ text place rule held bad h. ended_by (record read_run { aux_text = text }) (BadText said.aux place rule) tt
      old new out (inr (record {
        named = refl;
        mps = record { held = read.held; says = read.is };
        held = held;
        fault = bad;
      })) h)
      (λ h. ended_by read_run (ReadFault said.aux) tt old new out (inr (inl (refl, reads_mps))) h)
      (λ h. ended_by read_run OutOfMemory tt old new out tt h)
      (λ absent h. ended_by read_run (Missing said.aux) tt old new out
      (record { next = inr (inl (refl, reads_mps)); absent = absent }) h)
      failure why

-- the texts weren't read
pub texts_stop : (command : Command) (said : Said) (old new : ShelfState) (out : SinkState) (failure : Failure)
    → FailsToReadTexts old.contents said failure → ReadsTo (failure_ending failure) old new
    → Ends (asked_by command said) (outside old out) (outside new out) (failure_ending failure)
texts_stop command said old new out failure why h =
    ⊎_elim (λ first. mps_stops command said old new out failure first h)
    (λ second. aux_stops command said old new out second.0 second.1 failure second.2 h) why

-- ---- what a command wrote

-- nothing was written, and no reading failed
pub put_nothing : (text : List ℕ) (old new : ShelfState) → ReadsTo Done old new → IsPut None text old new
put_nothing text old new h = record {
  files = h.reads.contents;
  write_faults = h.reads.write_faults;
  writes = record {
    read_faults = h.read_faults.read_faults;
    misses = h.misses;
    faulted = h.read_faults.faulted;
  };
}

written_after : (file : Option (List ℕ)) (text : List ℕ) (old middle new : Option Files) → middle ≡ old
    → HasWritten file text middle new → HasWritten file text old new
written_after file text old middle new same h = subst (λ (files : Option Files). HasWritten file text files new) same h

writes_after : (old middle new : ShelfState) → ReadsTo Done old middle → OnlyWrites middle new → OnlyWrites old new
writes_after old middle new quiet h = record {
  read_faults = h.read_faults ∙ quiet.read_faults.read_faults;
  misses = h.misses ∙ quiet.misses;
  faulted = h.faulted ∙ quiet.read_faults.faulted;
}

-- the file was written after the reading
pub put_after : (file : Option (List ℕ)) (text : List ℕ) (old middle new : ShelfState) → ReadsTo Done old middle
    → IsPut file text middle new → IsPut file text old new
put_after file text old middle new quiet h = record {
  files = written_after file text old.contents middle.contents new.contents quiet.reads.contents h.files;
  write_faults = h.write_faults ∙ quiet.reads.write_faults;
  writes = writes_after old middle new quiet h.writes;
}

-- a file whose writing failed is named
named_cut_off : (file : Option (List ℕ)) (text : List ℕ) (old new : ShelfState) (failure : Failure)
    → CutsOff file text old new failure
    → (name : List ℕ) × (file ≡ Some name) × IsCutOff name text old new failure
named_cut_off None text old new failure h = absurd h
named_cut_off (Some name) text old new failure h = (name, refl, h)

-- ---- the end of a command that did its work

written_done : (file : Option (List ℕ)) (text : List ℕ) (old new : Option Files) → HasWritten file text old new
    → LeavesFiles file text Done old new
written_done None text old new h = h
written_done (Some name) text old new h = h

written_no_point : (file : Option (List ℕ)) (text : List ℕ) (old new : Option Files) → HasWritten file text old new
    → LeavesFiles file text NoPoint old new
written_no_point None text old new h = h
written_no_point (Some name) text old new h = h

written_unprinted : (file : Option (List ℕ)) (text : List ℕ) (old new : Option Files) → HasWritten file text old new
    → LeavesFiles file text (WriteFault ToOutput) old new
written_unprinted None text old new h = h
written_unprinted (Some name) text old new h = h

module _ (run : Run) (old new : ShelfState) (out after : SinkState) (finishes : Finishes old.contents run)
    (put : IsPut (written_by run.words.command run.words) run.cert_text old new) where
  unfailed : NoReadFault old new
  unfailed = record { read_faults = put.writes.read_faults; faulted = put.writes.faulted }

  -- what it prints wasn't taken whole
  printing_stops : HasReport run.words.command run → Told (AddsPrefix (report run)) out.bytes after.bytes
      → Grew out.faults after.faults → Ends run.words (outside old out) (outside new after) (WriteFault ToOutput)
  printing_stops done printed grew = record {
    run = run;
    words = refl;
    cause = (finishes, done);
    leaves = record {
      printed = printed;
      read_faults = unfailed;
      misses = put.writes.misses;
      write_faults = (grew, put.write_faults);
      files = written_unprinted (written_by run.words.command run.words) run.cert_text old.contents new.contents
          put.files;
    };
  }

  -- what it prints was printed
  printed_done : ending_by run.words.command run ≡ Done → Told (Adds (report run)) out.bytes after.bytes
      → after.faults ≡ out.faults → Ends run.words (outside old out) (outside new after) Done
  printed_done same printed unfaulted = record {
    run = run;
    words = refl;
    cause = record { finishes = finishes; same = same };
    leaves = record {
      printed = printed;
      read_faults = unfailed;
      misses = put.writes.misses;
      write_faults = (put.write_faults, unfaulted);
      files = written_done (written_by run.words.command run.words) run.cert_text old.contents new.contents put.files;
    };
  }

  printed_no_point : ending_by run.words.command run ≡ NoPoint → Told (Adds (report run)) out.bytes after.bytes
      → after.faults ≡ out.faults → Ends run.words (outside old out) (outside new after) NoPoint
  printed_no_point same printed unfaulted = record {
    run = run;
    words = refl;
    cause = record { finishes = finishes; same = same };
    leaves = record {
      printed = printed;
      read_faults = unfailed;
      misses = put.writes.misses;
      write_faults = (put.write_faults, unfaulted);
      files = written_no_point (written_by run.words.command run.words) run.cert_text old.contents new.contents
          put.files;
    };
  }

  answered : (says : Answer) → ending_by run.words.command run ≡ answer_ending says
      → Told (Adds (report run)) out.bytes after.bytes → after.faults ≡ out.faults
      → Ends run.words (outside old out) (outside new after) (answer_ending says)
  answered answer.Optimal same printed unfaulted = printed_done same printed unfaulted
  answered answer.Infeasible same printed unfaulted = printed_no_point same printed unfaulted
  answered answer.Shown same printed unfaulted = printed_done same printed unfaulted
  answered answer.Accepted same printed unfaulted = printed_done same printed unfaulted

-- ---- commands that read both texts

module _ (command : Command) (said : Said) (texts : Texts) (old middle : ShelfState)
    (read : ReadsTexts old.contents said texts) (quiet : ReadsTo Done old middle) where
  abbrev run_with : Outcome → List ℕ → Statement → Run
  run_with outcome cert states = record {
    words = asked_by command said;
    mps_text = read.mps.text;
    mps = texts.mps;
    aux_text = read.aux.text;
    aux = texts.aux;
    outcome = outcome;
    cert_text = cert;
    accepted = states;
  }

  reads_both : (outcome : Outcome) (cert : List ℕ) (states : Statement)
      → ReadsBoth old.contents (run_with outcome cert states)
  reads_both outcome cert states = record {
    mps = record { held = read.mps.held; says = read.mps.is };
    held = read.aux.held;
    says = read.aux.is;
  }

  -- there was no memory for the rest
  pub memory_stops : (out : SinkState)
      → Ends (asked_by command said) (outside old out) (outside middle out) OutOfMemory
  memory_stops out =
      ended_by (run_with no_outcome [] Infeasible) OutOfMemory tt old middle out tt (quietly old middle quiet)

-- ---- `show`

module _ (said : Said) (texts : Texts) (old middle : ShelfState) (read : ReadsTexts old.contents said texts)
    (quiet : ReadsTo Done old middle) (out after : SinkState) (text : List ℕ) where
  abbrev show_run : Run
  show_run = run_with Show said texts old middle read quiet no_outcome [] Infeasible

  shows : Finishes old.contents show_run
  shows = record {
    reads = reads_both Show said texts old middle read quiet no_outcome [] Infeasible;
    cert = tt;
    worked = tt;
  }

  pub show_unprinted : text ≡ report show_run → Told (AddsPrefix text) out.bytes after.bytes
      → Grew out.faults after.faults
      → Ends (asked_by Show said) (outside old out) (outside middle after) (WriteFault ToOutput)
  show_unprinted spelled printed grew =
      printing_stops show_run old middle out after shows (put_nothing [] old middle quiet) tt
      (subst (λ (t : List ℕ). Told (AddsPrefix t) out.bytes after.bytes) spelled printed) grew

  pub show_printed : text ≡ report show_run → Told (Adds text) out.bytes after.bytes → after.faults ≡ out.faults
      → Ends (asked_by Show said) (outside old out) (outside middle after) Done
  show_printed spelled printed unfaulted =
      printed_done show_run old middle out after shows (put_nothing [] old middle quiet) refl
      (subst (λ (t : List ℕ). Told (Adds t) out.bytes after.bytes) spelled printed) unfaulted

-- ---- `solve`

-- where a budget is spent no certificate is asked for
uncertified : (run : Run) (cert : Option (List ℕ)) → (run.outcome.end ≡ ended.Done → ⊥) → IsCertified run cert
uncertified run None undone = tt
uncertified run (Some file) undone = λ done. absurd (undone done)

certified : (run : Run) (cert : Option (List ℕ))
    → IsCertText cert run.outcome.book.ledger.book run.cert_text → IsCertified run cert
certified run None h = tt
certified run (Some file) h = λ done. h

module _ (said : Said) (texts : Texts) (old middle : ShelfState) (read : ReadsTexts old.contents said texts)
    (quiet : ReadsTo Done old middle) where
  abbrev solve_run : Outcome → List ℕ → Run
  solve_run outcome cert = run_with Solve said texts old middle read quiet outcome cert Infeasible

  -- the search spent a budget
  spent : (ending : Ending) (why : IsSpent (program_in texts) (asked_by Solve said) ending) → EndsSpent ending
      → EndsSo old.contents (solve_run why.outcome []) ending
  spent ending why is = record {
    finishes = record {
      reads = reads_both Solve said texts old middle read quiet why.outcome [] Infeasible;
      cert = tt;
      worked = (
        why.solved,
        uncertified (solve_run why.outcome []) said.cert
            (spent_undone (asked_by Solve said) why.outcome ending why.same is),
      );
    };
    same = why.same;
  }

  -- the model wasn't solved
  pub solving_stops : (out : SinkState) (failure : Failure)
      → FailsToSolve (program_in texts) (asked_by Solve said) failure
      → Ends (asked_by Solve said) (outside old out) (outside middle out) (failure_ending failure)
  solving_stops out failure.Words why = absurd why
  solving_stops out (failure.Text file fault) why = absurd why
  solving_stops out (failure.NodesSpent budget made) why =
      ended_by (solve_run why.outcome []) (NodesSpent budget made) tt old middle out
      (spent (NodesSpent budget made) why tt)
      (record { reads = quiet.reads; read_faults = quiet.read_faults; misses = quiet.misses })
  solving_stops out (failure.FollowerSpent budget made link) why =
      ended_by (solve_run why.outcome []) (FollowerSpent budget made link.items) tt old middle out
      (spent (FollowerSpent budget made link.items) why tt)
      (record { reads = quiet.reads; read_faults = quiet.read_faults; misses = quiet.misses })
  solving_stops out (failure.ReadFault file) why = absurd why
  solving_stops out (failure.FileFault file) why = absurd why
  solving_stops out failure.WriteFault why = absurd why
  solving_stops out failure.Memory why = memory_stops Solve said texts old middle read quiet out
  solving_stops out (failure.NotAccepted file line rule) why = absurd why
  solving_stops out (failure.Missing file) why = absurd why

  -- the search is done
  module _ (new : ShelfState) (says : Answer) (text cert : List ℕ)
      (told : IsReport texts.mps.columns (program_in texts) (asked_by Solve said) says text cert) where
    abbrev told_run : Run
    told_run = solve_run told.outcome cert

    solves : Finishes old.contents told_run
    solves = record {
      reads = reads_both Solve said texts old middle read quiet told.outcome cert Infeasible;
      cert = tt;
      worked = (told.solved, certified told_run said.cert told.certified);
    }

    -- the certificate wasn't written whole
    cut_off_at : (name : List ℕ) (out : SinkState) → said.cert ≡ Some name → Grew middle.write_faults new.write_faults
        → Told (WritesPrefix name cert) middle.contents new.contents → OnlyWrites middle new
        → Ends (asked_by Solve said) (outside old out) (outside new out) (WriteFault (ToFile name))
    cut_off_at name out named grew files writes = record {
      run = told_run;
      words = refl;
      cause = record { solves = refl; named = named; finishes = solves; done = told.done };
      leaves = record {
        printed = refl;
        read_faults = record {
          read_faults = writes.read_faults ∙ quiet.read_faults.read_faults;
          faulted = writes.faulted ∙ quiet.read_faults.faulted;
        };
        misses = writes.misses ∙ quiet.misses;
        write_faults = (subst (λ (n : ℕ). Grew n new.write_faults) quiet.reads.write_faults grew, refl);
        files = subst
            (λ (file : Option (List ℕ)). LeavesFiles file cert (WriteFault (ToFile name)) old.contents new.contents)
            (sym named)
            (subst (λ (before : Option Files). Told (WritesPrefix name cert) before new.contents)
            quiet.reads.contents files);
      };
    }

    pub cert_cut_off : (out : SinkState) (failure : Failure) → CutsOff said.cert cert middle new failure
        → Ends (asked_by Solve said) (outside old out) (outside new out) (failure_ending failure)
    cert_cut_off out failure h =
        let at = named_cut_off said.cert cert middle new failure h in
        subst (λ (e : Ending). Ends (asked_by Solve said) (outside old out) (outside new out) e) (sym at.2.ends)
        (cut_off_at at.0 out at.1 at.2.counted at.2.files at.2.writes)

    -- it was, or none was asked for
    module _ (put : IsPut said.cert cert middle new) (out after : SinkState) where
      pub solve_unprinted : Told (AddsPrefix text) out.bytes after.bytes → Grew out.faults after.faults
          → Ends (asked_by Solve said) (outside old out) (outside new after) (WriteFault ToOutput)
      solve_unprinted printed grew =
          printing_stops told_run old new out after solves (put_after said.cert cert old middle new quiet put) told.done
          (subst (λ (t : List ℕ). Told (AddsPrefix t) out.bytes after.bytes) told.spelled printed) grew

      pub solve_printed : Told (Adds text) out.bytes after.bytes → after.faults ≡ out.faults
          → Ends (asked_by Solve said) (outside old out) (outside new after) (answer_ending says)
      solve_printed printed unfaulted =
          answered told_run old new out after solves (put_after said.cert cert old middle new quiet put) says told.same
          (subst (λ (t : List ℕ). Told (Adds t) out.bytes after.bytes) told.spelled printed) unfaulted

-- ---- `check`

-- the name of the certificate's file
named_file : (cert : Option (List ℕ)) (name : List ℕ) → cert ≡ Some name → unwrap_or cert [] ≡ name
named_file cert name e = ap (λ (c : Option (List ℕ)). unwrap_or c []) e

module _ (said : Said) (texts : Texts) (old middle : ShelfState) (read : ReadsTexts old.contents said texts)
    (quiet : ReadsTo Done old middle) (name : List ℕ) (named : said.cert ≡ Some name) where
  abbrev check_run : List ℕ → Statement → Run
  check_run cert states = run_with Check said texts old middle read quiet no_outcome cert states

  check_reads : (cert : List ℕ) (states : Statement) → ReadsBoth old.contents (check_run cert states)
  check_reads cert states = reads_both Check said texts old middle read quiet no_outcome cert states

  -- the certificate wasn't read
  pub cert_stops : (new : ShelfState) (out : SinkState) (failure : Failure)
      → FailsToRead middle.contents name NoFault failure → ReadsTo (failure_ending failure) middle new
      → Ends (asked_by Check said) (outside old out) (outside new out) (failure_ending failure)
  cert_stops new out failure why =
      let run = check_run [] Infeasible in
      let both = check_reads [] Infeasible in
      by_unread middle.contents name NoFault
      (λ (e : Ending). ReadsTo e middle new → Ends (asked_by Check said) (outside old out) (outside new out) e)
      (λ text place rule held bad h. absurd bad)
      (λ h. ended_by run (ReadFault name) tt old new out
      (inr (inr (record { checks = refl; named = named; reads = both })))
      (reads_then old middle new (ReadFault name) quiet h))
      (λ h. ended_by run OutOfMemory tt old new out tt (reads_then old middle new OutOfMemory quiet h))
      (λ absent h. ended_by run (Missing name) tt old new out
      (record {
        next = inr (inr (record { checks = refl; named = named; reads = both }));
        absent = subst (λ (files : Option Files). IfTold files (λ told. IsAbsent told name)) quiet.reads.contents
            absent;
      })
      (reads_then old middle new (Missing name) quiet h))
      failure why

  -- the certificate was read
  module _ (new : ShelfState) (cert : List ℕ) (held : IfTold middle.contents (λ told. Holds told name cert))
      (still : ReadsTo Done middle new) where
    cert_held : IfTold old.contents (λ told. Holds told (unwrap_or said.cert []) cert)
    cert_held =
        subst (λ (n : List ℕ). IfTold old.contents (λ told. Holds told n cert)) (sym (named_file said.cert name named))
        (subst (λ (files : Option Files). IfTold files (λ told. Holds told name cert)) quiet.reads.contents held)

    all_read : ReadsTo Done old new
    all_read = reads_then old middle new Done quiet still

    -- and is refused
    refused_at : (out : SinkState) (line : ℕ) (rule : List ℕ) → IsRefused (program_in texts) cert line rule
        → Ends (asked_by Check said) (outside old out) (outside new out) (NotAccepted name line rule)
    refused_at out line rule why =
        ended_by (check_run cert Infeasible) (NotAccepted name line rule) tt old new out
        (record {
          checks = refl;
          named = named;
          reads = check_reads cert Infeasible;
          held = cert_held;
          broken = why.broken;
          refused = why.refused;
          told = why.told;
        })
        (record { reads = all_read.reads; read_faults = all_read.read_faults; misses = all_read.misses })

    pub checking_stops : (out : SinkState) (failure : Failure) → FailsToCheck (program_in texts) name cert failure
        → Ends (asked_by Check said) (outside old out) (outside new out) (failure_ending failure)
    checking_stops out failure.Words why = absurd why
    checking_stops out (failure.Text file fault) why = absurd why
    checking_stops out (failure.NodesSpent budget made) why = absurd why
    checking_stops out (failure.FollowerSpent budget made link) why = absurd why
    checking_stops out (failure.ReadFault file) why = absurd why
    checking_stops out (failure.FileFault file) why = absurd why
    checking_stops out failure.WriteFault why = absurd why
    checking_stops out failure.Memory why =
        ended_by (check_run cert Infeasible) OutOfMemory tt old new out tt (quietly old new all_read)
    checking_stops out (failure.NotAccepted file line rule) why =
        subst (λ (n : List ℕ). Ends (asked_by Check said) (outside old out) (outside new out)
        (NotAccepted n line rule.now)) (sym why.0) (refused_at out line rule.now why.1)
    checking_stops out (failure.Missing file) why = absurd why

    -- and is accepted
    module _ (text : List ℕ) (is : IsAcceptedText texts.mps.columns (program_in texts) cert text)
        (out after : SinkState) where
      abbrev accepted_run : Run
      accepted_run = check_run cert is.states

      checks : Finishes old.contents accepted_run
      checks = record {
        reads = check_reads cert is.states;
        cert = cert_held;
        worked = (is.accepts, is.holds);
      }

      pub check_unprinted : Told (AddsPrefix text) out.bytes after.bytes → Grew out.faults after.faults
          → Ends (asked_by Check said) (outside old out) (outside new after) (WriteFault ToOutput)
      check_unprinted printed grew =
          printing_stops accepted_run old new out after checks (put_nothing cert old new all_read) tt
          (subst (λ (t : List ℕ). Told (AddsPrefix t) out.bytes after.bytes) is.spelled printed) grew

      pub check_printed : Told (Adds text) out.bytes after.bytes → after.faults ≡ out.faults
          → Ends (asked_by Check said) (outside old out) (outside new after) Done
      check_printed printed unfaulted =
          printed_done accepted_run old new out after checks (put_nothing cert old new all_read) refl
          (subst (λ (t : List ℕ). Told (Adds t) out.bytes after.bytes) is.spelled printed) unfaulted

-- ---- words

-- no run, of which nothing is known
no_run : Run
no_run = run_of (record {
  command = Show;
  mps = [];
  aux = [];
  cert = None;
  default_upper = 0;
  nodes = 0;
  follower_nodes = 0;
})

unchanged : (files : ShelfState) → NoReadFault files files
unchanged files = record { read_faults = refl; faulted = refl }

nothing_left : (ending : Ending) → IsUnwritten ending → (at : Outside) → ReadFaultsAt ending at.files at.files
    → MissesAt ending at.files.misses at.files.misses → Leaves no_run ending at at
nothing_left ending is at reads misses =
    left no_run ending is at.files at.files at.out
    (record { reads = record { contents = refl; write_faults = refl }; read_faults = reads; misses = misses })

-- the words ask for nothing
pub no_command : (does : Command → Bool) (words : List (List ℕ)) (at : Outside) → AreRefused does words
    → EndsCommand does words at at BadWords
no_command does words at none =
    record { run = no_run; cause = none; leaves = nothing_left BadWords tt at (unchanged at.files) refl }

-- there was no memory to read the words
pub no_memory : (does : Command → Bool) (words : List (List ℕ)) (at : Outside)
    → EndsCommand does words at at OutOfMemory
no_memory does words at =
    record { run = no_run; cause = tt; leaves = nothing_left OutOfMemory tt at (unchanged at.files) refl }

-- no words are those of the command
abbrev AreNone : Command → List (List ℕ) → Type 0
AreNone command words = (said : Said) → AreModelWords command words said → ⊥

-- a call that does one command alone does nothing else
pub alone : (does : Command → Bool) (only : Command) (words : List (List ℕ))
    → ((c : Command) → does c ≡ true → c ≡ only) → AreNone only words → AreRefused does words
alone does only words one none asked h =
    none (said_of asked)
    (subst (λ (c : Command). AreModelWords c words (said_of asked)) (one asked.command h.0) h.1)

show_is : (c : Command) → show_alone c ≡ true → c ≡ Show
show_is Solve e = absurd cc
show_is Show e = refl
show_is Check e = absurd cc

check_is : (c : Command) → check_alone c ≡ true → c ≡ Check
check_is Solve e = absurd cc
check_is Show e = absurd cc
check_is Check e = refl

pub unshown : (words : List (List ℕ)) → AreNone Show words → AreRefused show_alone words
unshown words none = alone show_alone Show words show_is none

pub unchecked : (words : List (List ℕ)) → AreNone Check words → AreRefused check_alone words
unchecked words none = alone check_alone Check words check_is none

-- one more command is done, which the words don't ask for
module _ (does wider : Command → Bool) (more : Command) (words : List (List ℕ))
    (widens : (c : Command) → does c ≡ true → wider c ≡ true)
    (splits : (c : Command) → wider c ≡ true → (c ≡ more) ⊎ (does c ≡ true)) (none : AreNone more words) where
  still_refused : AreRefused does words → AreRefused wider words
  still_refused refused asked h =
      ⊎_elim
      (λ e. none (said_of asked) (subst (λ (c : Command). AreModelWords c words (said_of asked)) e h.1))
      (λ d. refused asked (d, h.1)) (splits asked.command h.0)

  still_asked : (asked : ModelWords) → AreAsked does words asked → AreAsked wider words asked
  still_asked asked h = (widens asked.command h.0, h.1)

  widened : (files : Option Files) (run : Run) (ending : Ending) → HasCause does words files run ending
      → HasCause wider words files run ending
  widened files run BadWords h = still_refused h
  widened files run OutOfMemory h = tt
  widened files run Done h = (still_asked run.words h.0, h.1)
  widened files run NoPoint h = (still_asked run.words h.0, h.1)
  widened files run (BadText file place rule) h = (still_asked run.words h.0, h.1)
  widened files run (NodesSpent budget made) h = (still_asked run.words h.0, h.1)
  widened files run (FollowerSpent budget made link) h = (still_asked run.words h.0, h.1)
  widened files run (ReadFault file) h = (still_asked run.words h.0, h.1)
  widened files run (WriteFault target) h = (still_asked run.words h.0, h.1)
  widened files run (NotAccepted file line rule) h = (still_asked run.words h.0, h.1)
  widened files run (Missing file) h = (still_asked run.words h.0, h.1)
  widened files run (ManyPoints file) h = (still_asked run.words h.0, h.1)

  wider_ends : (old new : Outside) (ending : Ending) → EndsCommand does words old new ending
      → EndsCommand wider words old new ending
  wider_ends old new ending h = record {
    run = h.run;
    cause = widened old.files.contents h.run ending h.cause;
    leaves = h.leaves;
  }

check_widens : (c : Command) → check_alone c ≡ true → never_writes c ≡ true
check_widens Solve e = absurd cc
check_widens Show e = refl
check_widens Check e = refl

check_splits : (c : Command) → never_writes c ≡ true → (c ≡ Show) ⊎ (check_alone c ≡ true)
check_splits Solve e = absurd cc
check_splits Show e = inl refl
check_splits Check e = inr refl

-- what `check` alone does with words that don't ask for `show`
pub check_ends : (words : List (List ℕ)) (old new : Outside) (ending : Ending) → AreNone Show words
    → EndsCommand check_alone words old new ending → EndsCommand never_writes words old new ending
check_ends words old new ending none h =
    wider_ends check_alone never_writes Show words check_widens check_splits none old new ending h

reading_splits : (c : Command) → each_command c ≡ true → (c ≡ Solve) ⊎ (never_writes c ≡ true)
reading_splits Solve e = inl refl
reading_splits Show e = inr refl
reading_splits Check e = inr refl

-- what the commands that write no file do with words that don't ask for `solve`
pub reading_ends : (words : List (List ℕ)) (old new : Outside) (ending : Ending) → AreNone Solve words
    → EndsCommand never_writes words old new ending → EndsCommand each_command words old new ending
reading_ends words old new ending none h =
    wider_ends never_writes each_command Solve words (λ c e. refl) reading_splits none old new ending h
