-- Trusted. The commands and their options: a row for each.
use Rattle.std.specs.Prelude.{ℕ, unsigned_abs, Bool, true, false, List, [], ◌∷◌, codes, not, ◌==◌}
use Rattle.bl_limits.specs.declared.TheConstants.{MAX_NUMBER, MAX_NODES, MAX_FOLLOWER_NODES, DEFAULT_UPPER}
use Rattle.bl_limits.specs.declared.TheConstants.{DEFAULT_NODES, DEFAULT_FOLLOWER_NODES}
use Rattle.bl_words.specs.declared.commands.Command.{Command}
use Rattle.bl_words.specs.declared.commands.Command.TheVariants.{Solve, Show, Check}
use Rattle.bl_words.specs.declared.commands.Choice.{Choice}
use Rattle.bl_words.specs.declared.commands.Limits.{Limits}
use Rattle.bl_words.specs.declared.commands.Choice.TheVariants.{DefaultUpper, Nodes, FollowerNodes, Cert}

-- the command's word
abbrev pub name_of : Command → List ℕ
name_of Solve = codes "solve"
name_of Show = codes "show"
name_of Check = codes "check"

-- the option's word
abbrev pub word_of : Choice → List ℕ
word_of DefaultUpper = codes "--default-upper"
word_of Nodes = codes "--nodes"
word_of FollowerNodes = codes "--follower-nodes"
word_of Cert = codes "--cert"

-- the command has this option
abbrev pub takes : Command → Choice → Bool
takes Solve DefaultUpper = true
takes Solve Nodes = true
takes Solve FollowerNodes = true
takes Solve Cert = true
takes Show DefaultUpper = true
takes Show Nodes = false
takes Show FollowerNodes = false
takes Show Cert = false
takes Check DefaultUpper = true
takes Check Nodes = false
takes Check FollowerNodes = false
takes Check Cert = false

-- the numbers that the options take
abbrev pub upper_limits : Limits
upper_limits = record { least = 0; greatest = MAX_NUMBER; usual = unsigned_abs DEFAULT_UPPER }

abbrev pub node_limits : Limits
node_limits = record { least = 1; greatest = MAX_NODES; usual = DEFAULT_NODES }

abbrev pub follower_limits : Limits
follower_limits = record { least = 1; greatest = MAX_FOLLOWER_NODES; usual = DEFAULT_FOLLOWER_NODES }

-- a file word or a value isn't empty and doesn't begin with `-`
abbrev pub is_plain : List ℕ → Bool
is_plain [] = false
is_plain (byte ∷ rest) = not (byte == 45)
