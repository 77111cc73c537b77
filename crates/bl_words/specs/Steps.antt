-- Internal. The items as they are read word by word.
use Rattle.std.specs.Prelude.{ℕ, ◌≡◌, drop, Bool, ◌==◌, List, [], ◌∷◌, ◌++◌, Option, None, Some, if◌then◌else◌, codes}
use Rattle.std.specs.List.{before_first, after_first}
use Rattle.std.specs.Str.{bytes_eq}
use Rattle.std.specs.Option.{option_and_then, option_to_list}
use Rattle.bl_words.specs.declared.commands.Command.{Command}
use Rattle.bl_words.specs.declared.commands.Choice.{Choice}
use Rattle.bl_words.specs.declared.commands.Choice.TheVariants.{DefaultUpper, Nodes, FollowerNodes, Cert}
use Rattle.bl_words.specs.Commands.{takes, is_plain}
use Rattle.bl_words.specs.Items.{Item, texts_of, own_files, cert_values, HasCert}

-- what a word adds, and the option that waits for its value
abbrev pub Step : Type 0
Step = Option Item × Option Choice

abbrev pub is_equals : ℕ → Bool
is_equals byte = byte == 61

-- the option of this word
abbrev pub choice_by : List ℕ → Option Choice
choice_by word =
    if bytes_eq word (codes "--default-upper") then Some DefaultUpper
    else (if bytes_eq word (codes "--nodes") then Some Nodes
    else (if bytes_eq word (codes "--follower-nodes") then Some FollowerNodes
    else (if bytes_eq word (codes "--cert") then Some Cert else None)))

abbrev pub taken : Command → Choice → Option Choice
taken command choice = if takes command choice then Some choice else None

-- the command's option of this word
abbrev pub choice_of : Command → List ℕ → Option Choice
choice_of command word = option_and_then (taken command) (choice_by word)

abbrev pub texted : Option Choice → List ℕ → Option Step
texted choice text = if is_plain text then Some (Some (record { choice = choice; text = text }), None) else None

abbrev pub joined : Option Choice → List ℕ → Option Step
joined (Some choice) text = texted (Some choice) text
joined None text = None

abbrev pub named : Option Choice → Command → List ℕ → Option Step
named (Some choice) command word = Some (None, Some choice)
named None command word = joined (choice_of command (before_first is_equals word)) (after_first is_equals word)

unfoldable pub step : Command → Option Choice → List ℕ → Option Step
step command (Some choice) word = texted (Some choice) word
step command None word = if is_plain word then texted None word else named (choice_of command word) command word

abbrev pub ended : List Item → Option Choice → Option (List Item)
ended items None = Some items
ended items (Some choice) = None

unfoldable pub walk : Command → List Item → Option Choice → List (List ℕ) → Option (List Item)
walk command items pending [] = ended items pending
walk command items pending (word ∷ words) =
    option_and_then (λ s. walk command (items ++ option_to_list s.0) s.1 words) (step command pending word)

-- the certificate's file behind the two files, or by its option, as the command may name it
pub record NamesCert (command : Command) (items : List Item) (cert : Option (List ℕ)) : Type 0 where
  pub files : drop 2 (texts_of None items) ≡ drop 2 (own_files command [] [] cert)
  pub values : texts_of (Some Cert) items ≡ cert_values command cert
  pub has : HasCert command cert
