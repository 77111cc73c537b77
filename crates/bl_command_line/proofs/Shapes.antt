-- The commands as clap builds them.
use Rattle.std.proofs.Common.{◌≡◌, ℕ, Bool, true, false, List, [], ◌∷◌, Option, Some, None, refl, ap, ◌∙◌, codes}
use Rattle.std.proofs.Common.{◌&&◌, cond, fold, is_some}
use Rattle.std.specs.List.{list_all}
use Rattle.clap.specs.Walk.{Walk, Held, Row, Rule, default_rows, finished, has_row, nothing_held, reading_by}
use Rattle.clap.specs.Walk.{walk_from, walked, with_default}
use Rattle.clap.specs.Takes.{default_passes, entered_passes, is_given, is_valid, settle_passes, walk_passes}
use Rattle.clap.specs.Simple.{Shape, built, entered}
use Rattle.clap.specs.Words.{takes, matches_of, is_simple}
use Rattle.clap.proofs.OnLiterals.{clap_on_literals}
use Rattle.bl_words.specs.declared.commands.Command.{Command}
use Rattle.bl_words.specs.declared.commands.Command.TheVariants.{Solve, Show, Check}
use Rattle.bl_words.specs.declared.commands.Choice.{Choice}
use Rattle.bl_words.specs.declared.commands.Choice.TheVariants.{DefaultUpper}
use Rattle.bl_words.specs.Commands.{takes as has_choice}
use Rattle.bl_words.specs.Items.{HasCert}
use Rattle.bl_command_line.specs.Apps.{id_of, model_app}
use Rattle.bl_command_line.proofs.Rows.{Text, Entry, rows}
use Rattle.bl_command_line.proofs.Turns.{HasFile, HasOption, Stands, and-both, idle_at}

abbrev pub shape : Command → Shape
shape command = (built (model_app command)).top

pub simple : (command : Command) → is_simple (model_app command) ≡ true
unfolding clap_on_literals
simple Solve = refl
simple _ = refl

-- ---- arguments

pub has-mps : (command : Command) → HasFile (shape command) (codes "mps") 1
has-mps Solve = record { by_id = refl; by_index = refl }
has-mps _ = record { by_id = refl; by_index = refl }

pub has-aux : (command : Command) → HasFile (shape command) (codes "aux") 2
has-aux Solve = record { by_id = refl; by_index = refl }
has-aux _ = record { by_id = refl; by_index = refl }

pub has-cert : HasFile (shape Check) (codes "cert") 3
has-cert = record { by_id = refl; by_index = refl }

pub has-option : (command : Command) (choice : Choice) → has_choice command choice ≡ true
    → HasOption (shape command) (id_of choice)
has-option Solve DefaultUpper t = record { by_id = refl; by_long = refl }
has-option Solve _ t = record { by_id = refl; by_long = refl }
has-option Show DefaultUpper t = record { by_id = refl; by_long = refl }
has-option Check DefaultUpper t = record { by_id = refl; by_long = refl }
has-option _ _ t = absurd cc

-- ---- the end of a walk

cond-same : {X : Type 0} (b : Bool) (x : X) → cond b x x ≡ x
cond-same true x = refl
cond-same false x = refl

no-default : (found : List Row) (a : Rule) → a.defaults ≡ [] → with_default found a ≡ found
no-default found a e =
    ap (λ (ds : List Text). cond (has_row a.id found) found (default_rows a.id (reading_by a) ds found)) e
    ∙ cond-same (has_row a.id found) found

-- no argument has a default value
abbrev NoDefaults : List Rule → Type 0
NoDefaults [] = Unit {0}
NoDefaults (a ∷ more) = (a.defaults ≡ []) × NoDefaults more

no-defaults : (as' : List Rule) (found : List Row) → NoDefaults as' → fold with_default found as' ≡ found
no-defaults [] found n = refl
no-defaults (a ∷ more) found n =
    ap (λ (rs : List Row). fold with_default rs more) (no-default found a n.0) ∙ no-defaults more found n.1

have-no_defaults : (command : Command) → NoDefaults (shape command).rules
have-no_defaults Solve = (refl, (refl, (refl, (refl, (refl, (refl, tt))))))
have-no_defaults Show = (refl, (refl, (refl, tt)))
have-no_defaults Check = (refl, (refl, (refl, (refl, tt))))

pub finished-are : (command : Command) (held : Held) (entries : List Entry) → Stands (shape command) held entries
    → finished (shape command).rules held ≡ rows entries
finished-are command held entries s =
    ap (λ (h : Held). fold with_default h.rows (shape command).rules) s.settles
    ∙ no-defaults (shape command).rules (rows entries) (have-no_defaults command)

-- what is required is there
pub valid : (command : Command) (cert : Option Text) (found : List Row) → HasCert command cert
    → is_given (codes "mps") found ≡ true → is_given (codes "aux") found ≡ true
    → is_given (codes "cert") found ≡ is_some cert → is_valid (shape command) found false ≡ true
valid Solve cert found has m a c = and-both _ _ m (and-both _ _ a refl)
valid Show cert found has m a c = and-both _ _ m (and-both _ _ a refl)
valid Check None found has m a c = absurd cc
valid Check (Some cert) found has m a c = and-both _ _ m (and-both _ _ a (and-both _ _ c refl))

-- ---- a command whose words walk to an end where nothing is missing

-- whether a parse passes that ends its walk so
abbrev passes_at : Command → List Text → Walk → Bool
passes_at command words end =
    entered_passes (built (model_app command)) end.stopped
    && (walk_passes (shape command) [] (walk_from nothing_held) words
    && (settle_passes (shape command).rules (shape command).args_override_self end.held
    && (list_all default_passes (shape command).rules
    && is_valid (shape command) (finished (shape command).rules end.held)
    (is_some (entered (built (model_app command)) end.stopped)))))

takes-at : (command : Command) (first : Text) (words : List Text)
    → takes (model_app command) (first ∷ words)
    ≡ passes_at command words (fold (walked (shape command).rules []) (walk_from nothing_held) words)
unfolding clap_on_literals
takes-at Solve first words = refl
takes-at _ first words = refl

pub found-at : (command : Command) (first : Text) (words : List Text)
    → matches_of (model_app command) (first ∷ words)
    ≡ finished (shape command).rules (fold (walked (shape command).rules []) (walk_from nothing_held) words).held
found-at Solve first words = refl
found-at _ first words = refl

all-passes : (command : Command) (words : List Text) (held : Held) (position : ℕ)
    → walk_passes (shape command) [] (walk_from nothing_held) words ≡ true
    → settle_passes (shape command).rules (shape command).args_override_self held ≡ true
    → is_valid (shape command) (finished (shape command).rules held) false ≡ true
    → passes_at command words (idle_at held position) ≡ true
unfolding clap_on_literals
all-passes Solve words held position w s v =
    and-both _ _ refl (and-both _ _ w (and-both _ _ s (and-both _ _ refl v)))
all-passes _ words held position w s v =
    and-both _ _ refl (and-both _ _ w (and-both _ _ s (and-both _ _ refl v)))

-- clap takes words that walk to such an end
pub taken-at : (command : Command) (first : Text) (words : List Text) (held : Held) (position : ℕ)
    → fold (walked (shape command).rules []) (walk_from nothing_held) words ≡ idle_at held position
    → walk_passes (shape command) [] (walk_from nothing_held) words ≡ true
    → settle_passes (shape command).rules (shape command).args_override_self held ≡ true
    → is_valid (shape command) (finished (shape command).rules held) false ≡ true
    → takes (model_app command) (first ∷ words) ≡ true
taken-at command first words held position e w s v =
    takes-at command first words ∙ ap (passes_at command words) e ∙ all-passes command words held position w s v
