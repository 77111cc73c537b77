-- What clap finds of words that are a command's.
use Rattle.std.proofs.Common.{◌≡◌, ℕ, List, [], ◌∷◌, Option, Some, None, refl, true, false, sym, ap, subst}
use Rattle.std.proofs.Common.{◌∙◌, codes, is_some}
use Rattle.std.specs.Prelude.{slice_get}
use Rattle.std.specs.Option.{option_to_list}
use Rattle.clap.specs.Walk.{Walk, Row, finished}
use Rattle.clap.specs.Takes.{is_valid}
use Rattle.clap.specs.Words.{takes, matches_of, first_of}
use Rattle.bl_words.specs.declared.commands.Command.{Command}
use Rattle.bl_words.specs.declared.commands.Command.TheVariants.{Solve, Show, Check}
use Rattle.bl_words.specs.declared.commands.Choice.{Choice}
use Rattle.bl_words.specs.declared.commands.Choice.TheVariants.{DefaultUpper, Nodes, FollowerNodes, Cert}
use Rattle.bl_words.specs.declared.commands.Limits.{Limits}
use Rattle.bl_words.specs.Commands.{name_of, upper_limits, node_limits, follower_limits}
use Rattle.bl_words.specs.Items.{Item, IsNumber, Said, AreSpelled, AreModelItems, AreModelWords, HasCert, texts_of}
use Rattle.bl_command_line.specs.Apps.{id_of, model_app}
use Rattle.bl_command_line.proofs.Rows.{Text, Entry, IsOnce, rows, texts_named, value_of, first-is, given-is, once-one}
use Rattle.bl_command_line.proofs.Rows.{first-one, once-first}
use Rattle.bl_command_line.proofs.Shapes.{shape, has-mps, has-aux, has-cert, finished-are, valid, found-at, taken-at}
use Rattle.bl_command_line.proofs.Texts.{all, third, files_of, files-values, mps-texts, aux-texts, given-texts}
use Rattle.bl_command_line.proofs.Texts.{cert-texts}
use Rattle.bl_command_line.proofs.Turns.{held_of, idle_at}
use Rattle.bl_command_line.proofs.Walks.{AreNext, Arrives, arrives}

-- the first values of clap's entries are what the words say
pub record HasEntries (first : Text → Option Text) (said : Said) : Type 0 where
  pub mps : first (codes "mps") ≡ Some said.mps
  pub aux : first (codes "aux") ≡ Some said.aux
  pub cert : first (codes "cert") ≡ said.cert
  pub upper : IsNumber upper_limits (option_to_list (first (id_of DefaultUpper))) said.default_upper
  pub nodes : IsNumber node_limits (option_to_list (first (id_of Nodes))) said.nodes
  pub follower_nodes : IsNumber follower_limits (option_to_list (first (id_of FollowerNodes))) said.follower_nodes

-- ---- the end of a walk

-- clap takes the words, and holds these entries
record IsRead (command : Command) (words : List Text) (entries : List Entry) : Type 0 where
  pub taken : takes (model_app command) words ≡ true
  pub found : matches_of (model_app command) words ≡ rows entries

read-at_end : (command : Command) (first : Text) (words : List Text) (cert : Option Text) (entries : List Entry)
    (once : (choice : Choice) → IsOnce (texts_named (id_of choice) entries)) → HasCert command cert
    → is_some (value_of (codes "mps") entries) ≡ true → is_some (value_of (codes "aux") entries) ≡ true
    → value_of (codes "cert") entries ≡ cert → Arrives command entries once (idle_at (held_of []) 1) words
    → IsRead command (first ∷ words) entries
read-at_end command first words cert entries once has m a c there =
    let finish = finished-are command there.held entries there.stands in
    record {
      taken = taken-at command first words there.held there.position there.walks.ends there.walks.passes
          there.stands.passes
          (ap (λ (rs : List Row). is_valid (shape command) rs false) finish
          ∙ valid command cert (rows entries) has (given-is (codes "mps") entries ∙ m)
          (given-is (codes "aux") entries ∙ a)
          (given-is (codes "cert") entries ∙ ap (λ (o : Option Text). is_some o) c));
      found = found-at command first words
          ∙ ap (λ (w : Walk). finished (shape command).rules w.held) there.walks.ends ∙ finish;
    }

-- ---- words that are a command's

number-once : (limits : Limits) (texts : List Text) (value : ℕ) → IsNumber limits texts value → IsOnce texts
number-once limits [] value h = tt
number-once limits (text ∷ []) value h = tt
number-once limits (text ∷ other ∷ texts) value h = absurd h

third-next : (command : Command) (cert : Option Text) (entries : List Entry)
    (once : (choice : Choice) → IsOnce (texts_named (id_of choice) entries))
    → AreNext command entries once 3 (third command cert)
third-next Solve cert entries once = tt
third-next Show cert entries once = tt
third-next Check None entries once = tt
third-next Check (Some cert) entries once = (has-cert, once Cert, tt)

module _ (command : Command) (items : List Item) (said : Said) (says : AreModelItems command items said) where
  abbrev files : List Entry
  files = files_of command said.mps said.aux said.cert

  abbrev entries : List Entry
  entries = all command items said.mps said.aux said.cert

  mps-is : texts_named (codes "mps") entries ≡ said.mps ∷ []
  mps-is = mps-texts command items said.mps said.aux said.cert

  aux-is : texts_named (codes "aux") entries ≡ said.aux ∷ []
  aux-is = aux-texts command items said.mps said.aux said.cert

  cert-is : texts_named (codes "cert") entries ≡ option_to_list said.cert
  cert-is = cert-texts command items said.mps said.aux said.cert says.files

  upper-is : texts_named (id_of DefaultUpper) entries ≡ texts_of (Some DefaultUpper) items
  upper-is = given-texts command items said.mps said.aux said.cert DefaultUpper refl

  nodes-are : texts_named (id_of Nodes) entries ≡ texts_of (Some Nodes) items
  nodes-are = given-texts command items said.mps said.aux said.cert Nodes refl

  follower_nodes-are : texts_named (id_of FollowerNodes) entries ≡ texts_of (Some FollowerNodes) items
  follower_nodes-are = given-texts command items said.mps said.aux said.cert FollowerNodes refl

  -- each name is given once
  once-by : (id : Text) (texts : List Text) → texts_named id entries ≡ texts → IsOnce texts
      → IsOnce (texts_named id entries)
  once-by id texts e once = subst (λ (ts : List Text). IsOnce ts) (sym e) once

  each-once : (choice : Choice) → IsOnce (texts_named (id_of choice) entries)
  each-once DefaultUpper = once-by _ _ upper-is (number-once upper_limits _ said.default_upper says.default_upper)
  each-once Nodes = once-by _ _ nodes-are (number-once node_limits _ said.nodes says.node_budget)
  each-once FollowerNodes =
      once-by _ _ follower_nodes-are (number-once follower_limits _ said.follower_nodes says.follower_budget)
  each-once Cert = once-by _ _ cert-is (once-one said.cert)

  arrives-there : (words : List Text) → AreSpelled command items words
      → Arrives command entries each-once (idle_at (held_of []) 1) words
  arrives-there words spelled =
      arrives command entries each-once items words files spelled (
        has-mps command,
        once-by _ _ mps-is tt,
        (has-aux command, once-by _ _ aux-is tt, third-next command said.cert entries each-once),
      )
      (says.files.files ∙ files-values command said.mps said.aux said.cert) refl

  value-by : (id : Text) (texts : List Text) → texts_named id entries ≡ texts → value_of id entries ≡ slice_get texts 0
  value-by id texts e = ap (λ (ts : List Text). slice_get ts 0) e

  items-read : (first : Text) (words : List Text) → AreSpelled command items words
      → IsRead command (first ∷ words) entries
  items-read first words spelled =
      read-at_end command first words said.cert entries each-once says.files.has
      (ap (λ (o : Option Text). is_some o) (value-by _ _ mps-is))
      (ap (λ (o : Option Text). is_some o) (value-by _ _ aux-is)) (value-by _ _ cert-is ∙ first-one said.cert)
      (arrives-there words spelled)

  number-by : (found : Option Text) (limits : Limits) (id : Text) (texts : List Text) (value : ℕ)
      → found ≡ value_of id entries → texts_named id entries ≡ texts → IsNumber limits texts value
      → IsNumber limits (option_to_list found) value
  number-by found limits id texts value f e h =
      subst (λ (ts : List Text). IsNumber limits ts value)
      (sym (ap (λ (o : Option Text). option_to_list o) (f ∙ value-by id texts e)
      ∙ once-first texts (number-once limits texts value h))) h

  items-found : (first : Text → Option Text) → ((id : Text) → first id ≡ value_of id entries) → HasEntries first said
  items-found first f = record {
    mps = f (codes "mps") ∙ value-by _ _ mps-is;
    aux = f (codes "aux") ∙ value-by _ _ aux-is;
    cert = f (codes "cert") ∙ value-by _ _ cert-is ∙ first-one said.cert;
    upper = number-by _ upper_limits (id_of DefaultUpper) _ said.default_upper (f (id_of DefaultUpper)) upper-is
        says.default_upper;
    nodes = number-by _ node_limits (id_of Nodes) _ said.nodes (f (id_of Nodes)) nodes-are says.node_budget;
    follower_nodes = number-by _ follower_limits (id_of FollowerNodes) _ said.follower_nodes (f (id_of FollowerNodes))
        follower_nodes-are says.follower_budget;
  }

words-read : (command : Command) (words : List Text) (said : Said) (w : AreModelWords command words said)
    → IsRead command words (entries command w.items said w.says)
words-read command words said w =
    subst (λ (ws : List Text). IsRead command ws (entries command w.items said w.says)) (sym w.begins)
    (items-read command w.items said w.says (name_of command) w.rest w.spelled)

pub words-taken : (command : Command) (words : List Text) (said : Said) → AreModelWords command words said
    → takes (model_app command) words ≡ true
words-taken command words said w = (words-read command words said w).taken

pub words-found : (command : Command) (words : List Text) (said : Said) → AreModelWords command words said
    → (first : Text → Option Text) → ((id : Text) → first id ≡ first_of id (matches_of (model_app command) words))
    → HasEntries first said
words-found command words said w first f =
    let es = entries command w.items said w.says in
    items-found command w.items said w.says first
    (λ id. f id ∙ ap (first_of id) (words-read command words said w).found ∙ first-is id es)
