-- That a cause excludes the others, and from how a command ended to its promise.
use Rattle.std.proofs.Common.{◌≡◌, ℕ, ◌+◌, ◌*◌, ◌≤◌, List, arith, refl, sym, ap, subst, ◌∙◌, ◌⊎◌, inl, inr, ⊎_elim, []}
use Rattle.std.specs.Prelude.{Bool, ℤ, pos, Option, None, Some, unwrap_or}
use Rattle.bl_outer.specs.Files.{Files, IsAbsent, IfTold}
use Rattle.bl_outer.specs.Sink.{SinkState}
use Rattle.bl_raw.specs.declared.raw.RawMps.{RawMps}
use Rattle.bl_raw.specs.declared.raw.RawAux.{RawAux}
use Rattle.bl_model.specs.Build.{program_of}
use Rattle.bl_mps.proofs.OneModel.{has_one_reading}
use Rattle.bl_mps_terms.specs.declared.fault.MpsFault.{MpsFault}
use Rattle.bl_words.specs.declared.commands.Command.{Command}
use Rattle.bl_words.specs.declared.commands.Command.TheVariants.{Solve, Show, Check}
use Rattle.bl_words.specs.Items.{Said, AreModelWords}
use Rattle.bl_aux.proofs.Meanings.{tells_one}
use Rattle.bl_aux.specs.declared.fault.AuxFault.{AuxFault}
use Rattle.bl_terms.specs.Programs.{Program, root}
use Rattle.bl_terms.specs.Trees.{point_count}
use Rattle.bl_terms.specs.FollowerProofs.{follower_box}
use Rattle.bl_book_terms.specs.Books.{Book}
use Rattle.bl_core.specs.declared.outcome.Ended.{Ended}
use Rattle.bl_core.specs.declared.outcome.Ended.TheVariants as ended
use Rattle.bl_check_terms.specs.declared.rule.CertRule.{CertRule}
use Rattle.bl_check_terms.specs.Accepting.{Accepts, FirstRefusal}
use Rattle.bl_check_terms.proofs.Verdict.{have_one_verdict}
use Rattle.bl_team.specs.Answers.{EndsWithin}
use Rattle.bl_run.specs.Words.{ModelWords, AreAsked, AreRefused, said_of}
use Rattle.bl_run.specs.Texts.{IsMpsText, IsMpsFault, IsAuxText, IsAuxFault, sizes, mps_rule, mps_place}
use Rattle.bl_run.specs.Texts.{aux_rule, line_place, cert_rule}
use Rattle.bl_run.specs.Endings.{Place, Ending, Done, NoPoint, BadWords, BadText, NodesSpent, FollowerSpent}
use Rattle.bl_run.specs.Endings.{ReadFault, WriteFault, OutOfMemory, NotAccepted, Missing, ManyPoints, ToFile, ToOutput}
use Rattle.bl_run.specs.Endings.{status_of, line_of}
use Rattle.bl_run.specs.Solve.{HasAux, HasMps, HasCert, cert_file, ReadsCert, IsMissing, ReadsBoth, ReadsMps}
use Rattle.bl_run.specs.Solve.{RefusesAux, RefusesMps, RefusesText, RefusesCert, Run, program, IsWorked}
use Rattle.bl_run.specs.Solve.{Finishes, IsProvided, IsAmple, ending_at, ending_of, ending_by, EndsSo}
use Rattle.bl_run.specs.Promise.{Outside, HasCause, ComesFirst, EndsInAnswer, EndsSpent, IsDue, Tells, Promise}
use Rattle.bl_run.specs.Steps.{asked_by, EndsCommand}
use Rattle.bl_run.proofs.WordsLemmas.{says_once, one_name}
use Rattle.bl_run.proofs.OutcomeLemmas.{answer_unspent}

-- the words ask for one thing
one_command : (does : Command → Bool) (words : List (List ℕ)) (a b : ModelWords)
    → AreAsked does words a → AreAsked does words b → a ≡ b
one_command does words a b these those =
    let command = one_name a.command b.command words (said_of a) (said_of b) these.1 those.1 in
    let moved = subst (λ (c : Command). AreModelWords c words (said_of b)) (sym command) those.1 in
    let said = says_once a.command words (said_of a) (said_of b) these.1 moved in
    ap (λ (c : Command). asked_by c (said_of a)) command ∙ ap (λ (s : Said). asked_by b.command s) said

some_is : (x y : List ℕ) → Some x ≡ Some y → x ≡ y
some_is x y e = cc

-- a text says one model
one_model : (default : ℤ) (text : List ℕ) (a b : RawMps)
    → IsMpsText default text a → IsMpsText default text b → a ≡ b
one_model default text a b these those = (has_one_reading default text).one a b these those

-- and is refused in one way
some_fault : (f g : MpsFault) → Some f ≡ Some g → f ≡ g
some_fault f g e = cc

mps_once : (default : ℤ) (text : List ℕ) (place place' : Place) (rule rule' : List ℕ)
    → IsMpsFault default text place rule → IsMpsFault default text place' rule' → (place ≡ place') × (rule ≡ rule')
mps_once default text place place' rule rule' h k =
    let same = some_fault h.fault k.fault (sym h.first ∙ k.first) in (
      h.at ∙ ap mps_place same ∙ sym k.at,
      h.by_rule ∙ ap (λ (f : MpsFault). mps_rule f.rule) same ∙ sym k.by_rule,
    )

-- an auxiliary text is refused in one way
aux_once : (mps : RawMps) (text : List ℕ) (place place' : Place) (rule rule' : List ℕ)
    → IsAuxFault mps text place rule → IsAuxFault mps text place' rule' → (place ≡ place') × (rule ≡ rule')
aux_once mps text place place' rule rule' h k =
    let same = tells_one.fault (sizes mps) text h.fault k.fault h.first k.first in (
      h.at ∙ ap (λ (f : AuxFault). line_place f.line) same ∙ sym k.at,
      h.by_rule
          ∙ ap (λ (f : AuxFault). aux_rule f.rule) same ∙ sym k.by_rule,
    )

-- ---- budgets

-- budgets of which no search over the program spends one
abbrev AreAmple : Program → ModelWords → Type 0
AreAmple p words = (2 * point_count (root p) ≤ words.nodes + 1)
    × (2 * point_count (follower_box p) ≤ words.follower_nodes + 1)

ample_of : (c : Command) (run : Run) → c ≡ Solve → IsAmple c run → AreAmple (program run) run.words
ample_of Solve run e h = h
ample_of Show run e h = absurd cc
ample_of Check run e h = absurd cc

ample_unspent : (p : Program) (words : ModelWords) (b : Book) (end : Ended)
    → EndsWithin p words.nodes words.follower_nodes end → AreAmple p words → EndsSpent (ending_at words b end) → ⊥
ample_unspent p words b ended.Done within ample spent = answer_unspent b.best spent
ample_unspent p words b (ended.Nodes node why) within ample spent = omega (arith, within, ample.0)
ample_unspent p words b (ended.Follower s) within ample spent = omega (arith, within.1, ample.1)

-- a command that spends a budget searches
spends_solving : (c : Command) (run : Run) (ending : Ending) → ending_by c run ≡ ending → EndsSpent ending → c ≡ Solve
spends_solving Solve run ending e spent = refl
spends_solving Show run ending e spent = absurd (subst EndsSpent (sym e) spent)
spends_solving Check run ending e spent = absurd (subst EndsSpent (sym e) spent)

-- ---- files

-- two runs of the same words over the same files
module _ (files : Files) (run other : Run) (same : run.words ≡ other.words) where
  same_mps_name : run.words.mps ≡ other.words.mps
  same_mps_name = ap (λ (w : ModelWords). w.mps) same

  same_aux_name : run.words.aux ≡ other.words.aux
  same_aux_name = ap (λ (w : ModelWords). w.aux) same

  one_mps_text : HasMps (Some files) run → HasMps (Some files) other → run.mps_text ≡ other.mps_text
  one_mps_text h k = let e = same_mps_name in cc

  one_aux_text : HasAux (Some files) run → HasAux (Some files) other → run.aux_text ≡ other.aux_text
  one_aux_text h k = let e = same_aux_name in cc

  same_command : run.words.command ≡ other.words.command
  same_command = ap (λ (w : ModelWords). w.command) same

  same_cert : run.words.cert ≡ other.words.cert
  same_cert = ap (λ (w : ModelWords). w.cert) same

  one_cert_text : HasCert (Some files) run → HasCert (Some files) other → run.cert_text ≡ other.cert_text
  one_cert_text h k =
      let e : cert_file run ≡ cert_file other = ap (λ (c : Option (List ℕ)). unwrap_or c []) same_cert in cc

  mps_absent : (file : List ℕ) → HasMps (Some files) run → file ≡ other.words.mps → IsAbsent files file → ⊥
  mps_absent file h named k = let e = same_mps_name in cc

  aux_absent : (file : List ℕ) → HasAux (Some files) run → file ≡ other.words.aux → IsAbsent files file → ⊥
  aux_absent file h named k = let e = same_aux_name in cc

  cert_absent : (file : List ℕ) → HasCert (Some files) run → other.words.cert ≡ Some file → IsAbsent files file → ⊥
  cert_absent file h named k =
      let e : cert_file run ≡ file = ap (λ (c : Option (List ℕ)). unwrap_or c []) (same_cert ∙ named) in cc

  same_default : run.words.default_upper ≡ other.words.default_upper
  same_default = ap (λ (w : ModelWords). w.default_upper) same

  mps_says : ReadsMps (Some files) run → HasMps (Some files) other
      → IsMpsText (pos other.words.default_upper) other.mps_text run.mps
  mps_says h held =
      subst (λ (u : ℕ). IsMpsText (pos u) other.mps_text run.mps) same_default
      (subst (λ (text : List ℕ). IsMpsText (pos run.words.default_upper) text run.mps) (one_mps_text h.held held)
      h.says)

  one_mps : ReadsMps (Some files) run → ReadsMps (Some files) other → run.mps ≡ other.mps
  one_mps h k =
      one_model (pos other.words.default_upper) other.mps_text run.mps other.mps (mps_says h k.held) k.says

  aux_says : ReadsBoth (Some files) run → ReadsMps (Some files) other → HasAux (Some files) other
      → IsAuxText other.mps other.aux_text run.aux
  aux_says h read held =
      subst (λ (mps : RawMps). IsAuxText mps other.aux_text run.aux) (one_mps h.mps read)
      (subst (λ (text : List ℕ). IsAuxText run.mps text run.aux) (one_aux_text h.held held) h.says)

  one_aux : ReadsBoth (Some files) run → ReadsBoth (Some files) other → run.aux ≡ other.aux
  one_aux h k =
      tells_one.follower (sizes other.mps) other.aux_text run.aux other.aux (aux_says h k.mps k.held) k.says

  one_program : ReadsBoth (Some files) run → ReadsBoth (Some files) other → program run ≡ program other
  one_program h k =
      ap (λ (mps : RawMps). program_of mps run.aux) (one_mps h.mps k.mps)
      ∙ ap (λ (aux : RawAux). program_of other.mps aux) (one_aux h k)

  -- a budget that was spent wasn't ample
  spent_scarce : (ending : Ending) → EndsSo (Some files) run ending → EndsSpent ending → ReadsBoth (Some files) other
      → IsAmple other.words.command other → ⊥
  spent_scarce ending h is k ample =
      let solves = spends_solving run.words.command run ending h.same is in
      let worked : IsWorked Solve run = subst (λ (c : Command). IsWorked c run) solves h.finishes.worked in
      let ends : ending_of run.words run.outcome ≡ ending =
      subst (λ (c : Command). ending_by c run ≡ ending) solves h.same in
      let large : AreAmple (program other) other.words =
      ample_of other.words.command other (sym same_command ∙ solves) ample in
      let these : AreAmple (program other) run.words =
      subst (λ (w : ModelWords). AreAmple (program other) w) (sym same) large in
      ample_unspent (program run) run.words run.outcome.book.ledger.book run.outcome.end worked.0.found.end
      (subst (λ (p : Program). AreAmple p run.words) (sym (one_program h.finishes.reads k)) these)
      (subst EndsSpent (sym ends) is)

  mps_unrefused : (file : List ℕ) (place : Place) (rule : List ℕ) → ReadsMps (Some files) run
      → RefusesMps (Some files) other file place rule → ⊥
  mps_unrefused file place rule h k =
      (has_one_reading (pos other.words.default_upper) other.mps_text).never_both run.mps k.fault.fault
      (mps_says h k.held) k.fault.first

  aux_unrefused : (file : List ℕ) (place : Place) (rule : List ℕ) → ReadsBoth (Some files) run
      → RefusesAux (Some files) other file place rule → ⊥
  aux_unrefused file place rule h k =
      tells_one.apart (sizes other.mps) other.aux_text run.aux k.fault.fault (aux_says h k.mps k.held) k.fault.first

  -- texts that are read aren't refused
  unrefused : (file : List ℕ) (place : Place) (rule : List ℕ) → ReadsBoth (Some files) run
      → RefusesText (Some files) other file place rule → ⊥
  unrefused file place rule h k =
      ⊎_elim (mps_unrefused file place rule h.mps) (aux_unrefused file place rule h) k

  -- nor is a certificate that is accepted
  cert_unrefused : (file : List ℕ) (line : ℕ) (rule : List ℕ) → ReadsBoth (Some files) run → HasCert (Some files) run
      → Accepts (program run) run.cert_text run.accepted → RefusesCert (Some files) other file line rule → ⊥
  cert_unrefused file line rule reads held h k =
      let p = one_program reads k.reads in
      let text = one_cert_text held k.held in
      (have_one_verdict (program other) other.cert_text).never_both run.accepted line k.broken
      (subst (λ (t : List ℕ). Accepts (program other) t run.accepted) text
      (subst (λ (q : Program). Accepts q run.cert_text run.accepted) p h)) k.refused

  -- where the command did its work, no certificate is refused
  work_unrefused : (file : List ℕ) (line : ℕ) (rule : List ℕ) → Finishes (Some files) run
      → RefusesCert (Some files) other file line rule → ⊥
  work_unrefused file line rule h k =
      let checks : run.words.command ≡ Check = same_command ∙ k.checks in
      let held : HasCert (Some files) run = subst (λ (c : Command). ReadsCert c (Some files) run) checks h.cert in
      let worked : IsWorked Check run = subst (λ (c : Command). IsWorked c run) checks h.worked in
      cert_unrefused file line rule h.reads held worked.0 k

  -- nor where all that it reads is there and right
  provided_unrefused : (file : List ℕ) (line : ℕ) (rule : List ℕ) → ReadsBoth (Some files) run
      → IsProvided run.words.command (Some files) run → RefusesCert (Some files) other file line rule → ⊥
  provided_unrefused file line rule reads h k =
      let right : IsProvided Check (Some files) run =
      subst (λ (c : Command). IsProvided c (Some files) run) (same_command ∙ k.checks) h in
      cert_unrefused file line rule reads right.0 right.1 k

  -- files that are read aren't missing
  unmissed : (file : List ℕ) → ReadsBoth (Some files) run → (other.words.command ≡ Check → HasCert (Some files) run)
      → IsMissing (Some files) other file → ⊥
  unmissed file h cert k =
      ⊎_elim (λ named. mps_absent file h.mps.held named k.absent)
      (λ later. ⊎_elim (λ aux. aux_absent file h.held aux.0 k.absent)
      (λ last. cert_absent file (cert last.checks) last.named k.absent) later) k.next

  work_unmissed : (file : List ℕ) → Finishes (Some files) run → IsMissing (Some files) other file → ⊥
  work_unmissed file h k =
      unmissed file h.reads
      (λ checks. subst (λ (c : Command). ReadsCert c (Some files) run) (same_command ∙ checks) h.cert) k

  provided_held : IsProvided run.words.command (Some files) run → other.words.command ≡ Check
      → HasCert (Some files) run
  provided_held h checks =
      let right : IsProvided Check (Some files) run =
      subst (λ (c : Command). IsProvided c (Some files) run) (same_command ∙ checks) h in
      right.0

  -- where a text is refused, no file is missing
  refused_unmissed : (file file' : List ℕ) (place : Place) (rule : List ℕ)
      → RefusesText (Some files) run file place rule → IsMissing (Some files) other file' → ⊥
  refused_unmissed file file' place rule h k =
      ⊎_elim (λ first. mps_refused first) (λ second. aux_refused second) h
    where
      mps_refused_read : RefusesMps (Some files) run file place rule → ReadsMps (Some files) other → ⊥
      mps_refused_read first read =
          (has_one_reading (pos run.words.default_upper) run.mps_text).never_both other.mps first.fault.fault
          (subst (λ (u : ℕ). IsMpsText (pos u) run.mps_text other.mps) (sym same_default)
          (subst (λ (text : List ℕ). IsMpsText (pos other.words.default_upper) text other.mps)
          (sym (one_mps_text first.held read.held)) read.says))
          first.fault.first

      mps_refused : RefusesMps (Some files) run file place rule → ⊥
      mps_refused first =
          ⊎_elim (λ named. mps_absent file' first.held named k.absent)
          (λ later. ⊎_elim (λ aux. mps_refused_read first aux.1) (λ last. mps_refused_read first last.reads.mps) later)
          k.next

      aux_refused_read : RefusesAux (Some files) run file place rule → ReadsBoth (Some files) other → ⊥
      aux_refused_read second read =
          tells_one.apart (sizes run.mps) run.aux_text other.aux second.fault.fault
          (subst (λ (mps : RawMps). IsAuxText mps run.aux_text other.aux) (sym (one_mps second.mps read.mps))
          (subst (λ (text : List ℕ). IsAuxText other.mps text other.aux) (sym (one_aux_text second.held read.held))
          read.says))
          second.fault.first

      aux_refused : RefusesAux (Some files) run file place rule → ⊥
      aux_refused second =
          ⊎_elim (λ named. mps_absent file' second.mps.held named k.absent)
          (λ later. ⊎_elim (λ aux. aux_absent file' second.held aux.0 k.absent)
          (λ last. aux_refused_read second last.reads) later)
          k.next

-- the first cause is one
same_refusal : (file file' : List ℕ) (place place' : Place) (rule rule' : List ℕ) → file ≡ file'
    → (place ≡ place') × (rule ≡ rule') → BadText file place rule ≡ BadText file' place' rule'
same_refusal file file' place place' rule rule' e h =
    let p = h.0 in
    let r = h.1 in
    cc

module _ (files : Files) (run other : Run) (same : run.words ≡ other.words) (file file' : List ℕ)
    (place place' : Place) (rule rule' : List ℕ) where
  one_refusal : RefusesText (Some files) run file place rule → RefusesText (Some files) other file' place' rule'
      → BadText file place rule ≡ BadText file' place' rule'
  one_refusal h k = ⊎_elim (λ first. at_mps first k) (λ second. at_aux second k) h
    where
      mps_name : file ≡ run.words.mps → file' ≡ other.words.mps → file ≡ file'
      mps_name h k = h ∙ (same_mps_name files run other same ∙ sym k)

      aux_name : file ≡ run.words.aux → file' ≡ other.words.aux → file ≡ file'
      aux_name h k = h ∙ (same_aux_name files run other same ∙ sym k)

      one_mps_fault : RefusesMps (Some files) run file place rule → RefusesMps (Some files) other file' place' rule'
          → (place ≡ place') × (rule ≡ rule')
      one_mps_fault first mps =
          mps_once (pos other.words.default_upper) other.mps_text place place' rule rule'
          (subst (λ (u : ℕ). IsMpsFault (pos u) other.mps_text place rule) (same_default files run other same)
          (subst (λ (text : List ℕ). IsMpsFault (pos run.words.default_upper) text place rule)
          (one_mps_text files run other same first.held mps.held) first.fault))
          mps.fault

      one_aux_fault : RefusesAux (Some files) run file place rule → RefusesAux (Some files) other file' place' rule'
          → (place ≡ place') × (rule ≡ rule')
      one_aux_fault second aux =
          let model = one_mps files run other same second.mps aux.mps in
          let text = one_aux_text files run other same second.held aux.held in
          aux_once other.mps other.aux_text place place' rule rule'
          (subst (λ (mps : RawMps). IsAuxFault mps other.aux_text place rule) model
          (subst (λ (t : List ℕ). IsAuxFault run.mps t place rule) text second.fault)) aux.fault

      at_mps : RefusesMps (Some files) run file place rule → RefusesText (Some files) other file' place' rule'
          → BadText file place rule ≡ BadText file' place' rule'
      at_mps first k =
          ⊎_elim (λ mps. same_refusal file file' place place' rule rule' (mps_name first.named mps.named)
          (one_mps_fault first mps))
          (λ aux. absurd (mps_unrefused files other run (sym same) file place rule aux.mps first)) k

      at_aux : RefusesAux (Some files) run file place rule → RefusesText (Some files) other file' place' rule'
          → BadText file place rule ≡ BadText file' place' rule'
      at_aux second k =
          ⊎_elim (λ mps. absurd (mps_unrefused files run other same file' place' rule' second.mps mps))
          (λ aux. same_refusal file file' place place' rule rule' (aux_name second.named aux.named)
          (one_aux_fault second aux)) k

-- a certificate is refused in one way
same_unaccepted : (file file' : List ℕ) (line line' : ℕ) (rule rule' : List ℕ) → file ≡ file' → line ≡ line'
    → rule ≡ rule' → NotAccepted file line rule ≡ NotAccepted file' line' rule'
same_unaccepted file file' line line' rule rule' e l r = cc

one_unaccepted : (files : Files) (run other : Run) → run.words ≡ other.words → (file file' : List ℕ) (line line' : ℕ)
    (rule rule' : List ℕ) → RefusesCert (Some files) run file line rule
    → RefusesCert (Some files) other file' line' rule' → NotAccepted file line rule ≡ NotAccepted file' line' rule'
one_unaccepted files run other same file file' line line' rule rule' h k =
    let there : FirstRefusal (program other) other.cert_text line h.broken =
    subst (λ (t : List ℕ). FirstRefusal (program other) t line h.broken)
    (one_cert_text files run other same h.held k.held)
    (subst (λ (p : Program). FirstRefusal p run.cert_text line h.broken)
    (one_program files run other same h.reads k.reads) h.refused) in
    let one = have_one_verdict (program other) other.cert_text in
    let rules = one.one_rule line line' h.broken k.broken there k.refused in
    same_unaccepted file file' line line' rule rule'
    (some_is file file' (sym h.named ∙ same_cert files run other same ∙ k.named))
    (one.one_line line line' h.broken k.broken there k.refused)
    (h.told ∙ ap (λ (r : CertRule). cert_rule r) rules ∙ sym k.told)

-- one file is missing
module _ (files : Files) (run other : Run) (same : run.words ≡ other.words) (file file' : List ℕ)
    (h : IsMissing (Some files) run file) (k : IsMissing (Some files) other file') where
  from_mps : file ≡ run.words.mps → file ≡ file'
  from_mps named =
      ⊎_elim (λ mps. named ∙ same_mps_name files run other same ∙ sym mps)
      (λ later. ⊎_elim (λ aux. absurd (mps_absent files other run (sym same) file aux.1.held named h.absent))
      (λ last. absurd (mps_absent files other run (sym same) file last.reads.mps.held named h.absent)) later) k.next

  from_aux : file ≡ run.words.aux → ReadsMps (Some files) run → file ≡ file'
  from_aux named reads =
      ⊎_elim (λ mps. absurd (mps_absent files run other same file' reads.held mps k.absent))
      (λ later. ⊎_elim (λ aux. named ∙ same_aux_name files run other same ∙ sym aux.0)
      (λ last. absurd (aux_absent files other run (sym same) file last.reads.held named h.absent)) later) k.next

  from_cert : run.words.cert ≡ Some file → ReadsBoth (Some files) run → file ≡ file'
  from_cert named reads =
      ⊎_elim (λ mps. absurd (mps_absent files run other same file' reads.mps.held mps k.absent))
      (λ later. ⊎_elim (λ aux. absurd (aux_absent files run other same file' reads.held aux.0 k.absent))
      (λ last. some_is file file' (sym named ∙ same_cert files run other same ∙ last.named)) later) k.next

  one_missing : file ≡ file'
  one_missing =
      ⊎_elim (λ mps. from_mps mps)
      (λ later. ⊎_elim (λ aux. from_aux aux.0 aux.1) (λ last. from_cert last.named last.reads) later) h.next

-- what is due where a cause stands
module _ (does : Command → Bool) (words : List (List ℕ)) (files : Files) where
  due_answer : (run : Run) (ending : Ending) → EndsInAnswer ending → AreAsked does words run.words
      → Finishes (Some files) run → IsDue does words ending files
  due_answer run ending is asked h = record {
    refused = λ other file place rule named cause. absurd (unrefused files run other
        (one_command does words run.words other.words asked named) file place rule h.reads cause);
    not_accepted = λ other file line rule named cause. absurd (work_unrefused files run other
        (one_command does words run.words other.words asked named) file line rule h cause);
    missing = λ other file named cause. absurd (work_unmissed files run other
        (one_command does words run.words other.words asked named) file h cause);
    ended = λ other named read right. inl is;
    answered = λ other named read right ample. inl is;
  }

  due_spent : (run : Run) (ending : Ending) → EndsSpent ending → AreAsked does words run.words
      → EndsSo (Some files) run ending → IsDue does words ending files
  due_spent run ending is asked h = record {
    refused = λ other file place rule named cause. absurd (unrefused files run other
        (one_command does words run.words other.words asked named) file place rule h.finishes.reads cause);
    not_accepted = λ other file line rule named cause. absurd (work_unrefused files run other
        (one_command does words run.words other.words asked named) file line rule h.finishes cause);
    missing = λ other file named cause. absurd (work_unmissed files run other
        (one_command does words run.words other.words asked named) file h.finishes cause);
    ended = λ other named read right. inr (inl is);
    answered = λ other named read right ample. absurd (spent_scarce files run other
        (one_command does words run.words other.words asked named) ending h is read ample);
  }

  due_first : (ending : Ending) → ComesFirst ending → IsDue does words ending files
  due_first ending is = record {
    refused = λ other file place rule named cause. inr is;
    not_accepted = λ other file line rule named cause. inr is;
    missing = λ other file named cause. inr is;
    ended = λ other named read right. inr (inr is);
    answered = λ other named read right ample. inr is;
  }

  due_none : (ending : Ending) → AreRefused does words → IsDue does words ending files
  due_none ending none = record {
    refused = λ other file place rule named cause. absurd (none other.words named);
    not_accepted = λ other file line rule named cause. absurd (none other.words named);
    missing = λ other file named cause. absurd (none other.words named);
    ended = λ other named read right. absurd (none other.words named);
    answered = λ other named read right ample. absurd (none other.words named);
  }

  due_refusal : (run : Run) (file : List ℕ) (place : Place) (rule : List ℕ) → AreAsked does words run.words
      → RefusesText (Some files) run file place rule → IsDue does words (BadText file place rule) files
  due_refusal run file place rule asked h = record {
    refused = λ other file' place' rule' named cause. inl (one_refusal files run other
        (one_command does words run.words other.words asked named) file file' place place' rule rule' h cause);
    not_accepted = λ other file' line rule' named cause. absurd (unrefused files other run
        (one_command does words other.words run.words named asked) file place rule cause.reads h);
    missing = λ other file' named cause. absurd (refused_unmissed files run other
        (one_command does words run.words other.words asked named) file file' place rule h cause);
    ended = λ other named read right. absurd (unrefused files other run
        (one_command does words other.words run.words named asked) file place rule read h);
    answered = λ other named read right ample. absurd (unrefused files other run
        (one_command does words other.words run.words named asked) file place rule read h);
  }

  due_unaccepted : (run : Run) (file : List ℕ) (line : ℕ) (rule : List ℕ) → AreAsked does words run.words
      → RefusesCert (Some files) run file line rule → IsDue does words (NotAccepted file line rule) files
  due_unaccepted run file line rule asked h = record {
    refused = λ other file' place rule' named cause. absurd (unrefused files run other
        (one_command does words run.words other.words asked named) file' place rule' h.reads cause);
    not_accepted = λ other file' line' rule' named cause. inl (one_unaccepted files run other
        (one_command does words run.words other.words asked named) file file' line line' rule rule' h cause);
    missing = λ other file' named cause. absurd (unmissed files run other
        (one_command does words run.words other.words asked named) file' h.reads (λ checks. h.held) cause);
    ended = λ other named read right. absurd (provided_unrefused files other run
        (one_command does words other.words run.words named asked) file line rule read right h);
    answered = λ other named read right ample. absurd (provided_unrefused files other run
        (one_command does words other.words run.words named asked) file line rule read right h);
  }

  due_missing : (run : Run) (file : List ℕ) → AreAsked does words run.words → IsMissing (Some files) run file
      → IsDue does words (Missing file) files
  due_missing run file asked h = record {
    refused = λ other file' place rule named cause. absurd (refused_unmissed files other run
        (one_command does words other.words run.words named asked) file' file place rule cause h);
    not_accepted = λ other file' line rule named cause. absurd (unmissed files other run
        (one_command does words other.words run.words named asked) file cause.reads (λ checks. cause.held) h);
    missing = λ other file' named cause. inl (ap (λ (name : List ℕ). Missing name)
        (one_missing files run other (one_command does words run.words other.words asked named) file file' h cause));
    ended = λ other named read right. absurd (missing_unprovided other named read right);
    answered = λ other named read right ample. absurd (missing_unprovided other named read right);
  }
    where
      missing_unprovided : (other : Run) → AreAsked does words other.words → ReadsBoth (Some files) other
          → IsProvided other.words.command (Some files) other → ⊥
      missing_unprovided other named read right =
          let same = one_command does words other.words run.words named asked in
          unmissed files other run same file read (provided_held files other run same right) h

  due_at : (run : Run) (ending : Ending) → HasCause does words (Some files) run ending → IsDue does words ending files
  due_at run Done h = due_answer run Done tt h.0 h.1.finishes
  due_at run NoPoint h = due_answer run NoPoint tt h.0 h.1.finishes
  due_at run BadWords h = due_none BadWords h
  due_at run (BadText file place rule) h = due_refusal run file place rule h.0 h.1
  due_at run (NodesSpent budget made) h = due_spent run (NodesSpent budget made) tt h.0 h.1
  due_at run (FollowerSpent budget made link) h = due_spent run (FollowerSpent budget made link) tt h.0 h.1
  due_at run (ReadFault file) h = due_first (ReadFault file) tt
  due_at run (WriteFault (ToFile name)) h = due_answer run (WriteFault (ToFile name)) tt h.0 h.1.finishes
  due_at run (WriteFault ToOutput) h = due_answer run (WriteFault ToOutput) tt h.0 h.1.0
  due_at run OutOfMemory h = due_first OutOfMemory tt
  due_at run (NotAccepted file line rule) h = due_unaccepted run file line rule h.0 h.1
  due_at run (Missing file) h = due_missing run file h.0 h.1
  due_at run (ManyPoints file) h = absurd h.1

due : (does : Command → Bool) (words : List (List ℕ)) (files : Option Files) (run : Run) (ending : Ending)
    → HasCause does words files run ending
    → IfTold files (IsDue does words ending)
due does words None run ending h = tt
due does words (Some files) run ending h = due_at does words files run ending h

-- words that ask for nothing end so, or there is no memory
refused : (does : Command → Bool) (words : List (List ℕ)) (files : Option Files) (run : Run) (ending : Ending)
    → HasCause does words files run ending → AreRefused does words → (ending ≡ BadWords) ⊎ (ending ≡ OutOfMemory)
refused does words files run BadWords h none = inl refl
refused does words files run Done h none = absurd (none run.words h.0)
refused does words files run NoPoint h none = absurd (none run.words h.0)
refused does words files run (BadText file place rule) h none = absurd (none run.words h.0)
refused does words files run (NodesSpent budget made) h none = absurd (none run.words h.0)
refused does words files run (FollowerSpent budget made link) h none = absurd (none run.words h.0)
refused does words files run (ReadFault file) h none = absurd (none run.words h.0)
refused does words files run (WriteFault target) h none = absurd (none run.words h.0)
refused does words files run OutOfMemory h none = inr refl
refused does words files run (NotAccepted file line rule) h none = absurd (none run.words h.0)
refused does words files run (Missing file) h none = absurd (none run.words h.0)
refused does words files run (ManyPoints file) h none = absurd (none run.words h.0)

-- from how a command ended to its promise
pub promised : (does : Command → Bool) (words : List (List ℕ)) (old new : Outside) (old_err new_err : SinkState)
    (ending : Ending) (status : ℕ)
    → EndsCommand does words old new ending → status ≡ status_of ending → Tells (line_of ending) old_err new_err
    → Promise does words old new old_err new_err status
promised does words old new old_err new_err ending status ends is told = record {
  run = ends.run;
  ending = ending;
  status_is = is;
  cause = ends.cause;
  refused = refused does words old.files.contents ends.run ending ends.cause;
  due = due does words old.files.contents ends.run ending ends.cause;
  leaves = ends.leaves;
  told = told;
}
