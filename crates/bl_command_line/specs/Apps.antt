-- Internal. The commands that clap reads the words by.
use Rattle.std.specs.Prelude.{ℕ, List, Some, true, codes}
use Rattle.clap.specs.Words.{App, Rule, new_app, new_rule, with_rule}
use Rattle.bl_words.specs.declared.commands.Command.{Command}
use Rattle.bl_words.specs.declared.commands.Command.TheVariants.{Solve, Show, Check}
use Rattle.bl_words.specs.declared.commands.Choice.{Choice}
use Rattle.bl_words.specs.declared.commands.Choice.TheVariants.{DefaultUpper, Nodes, FollowerNodes, Cert}
use Rattle.bl_words.specs.Commands.{name_of}

-- a file, which is required
abbrev pub file_rule : List ℕ → Rule
file_rule id = record (new_rule id) { required = true }

-- an option's name: its word without the dashes
abbrev pub id_of : Choice → List ℕ
id_of DefaultUpper = codes "default-upper"
id_of Nodes = codes "nodes"
id_of FollowerNodes = codes "follower-nodes"
id_of Cert = codes "cert"

-- an option, which has a value
abbrev pub option_rule : Choice → Rule
option_rule choice = record (new_rule (id_of choice)) { long = Some (id_of choice) }

abbrev pub without_help : App → App
without_help app = record app { top = record app.top { disable_help_flag = true } }

-- a command over two files with a default upper bound
abbrev pub files_app : List ℕ → App
files_app name =
    with_rule (with_rule (with_rule (without_help (new_app name)) (file_rule (codes "mps"))) (file_rule (codes "aux")))
    (option_rule DefaultUpper)

-- each command with its files and options
abbrev pub model_app : Command → App
model_app Solve =
    with_rule (with_rule (with_rule (files_app (name_of Solve)) (option_rule Nodes)) (option_rule FollowerNodes))
    (option_rule Cert)
model_app Show = files_app (name_of Show)
model_app Check = with_rule (files_app (name_of Check)) (file_rule (codes "cert"))
