-- Trusted: what the program is asked to do.
use Rattle.std.specs.Prelude.{◌≡◌, ℕ, Bool, true, false, List, Option}
use Rattle.bl_words.specs.declared.commands.Command.{Command}
use Rattle.bl_words.specs.declared.commands.Command.TheVariants.{Solve, Show, Check}
use Rattle.bl_words.specs.Items.{AreModelWords, Said}

-- a command over a model: the names of its two files, and of the certificate's where there is one; the upper bound of
-- an integer column that no bound line names; and the budgets of nodes of the branch-and-bound tree and of each
-- follower's tree
pub record ModelWords : Type 0 where
  pub command : Command
  pub mps : List ℕ
  pub aux : List ℕ
  pub cert : Option (List ℕ)
  pub default_upper : ℕ
  pub nodes : ℕ
  pub follower_nodes : ℕ

-- what the words of the command say
abbrev pub said_of : ModelWords → Said
said_of asked = record {
  mps = asked.mps;
  aux = asked.aux;
  cert = asked.cert;
  default_upper = asked.default_upper;
  nodes = asked.nodes;
  follower_nodes = asked.follower_nodes;
}

-- the commands that a top call does: each, or `show` alone, or `check` alone
abbrev pub each_command : Command → Bool
each_command command = true

abbrev pub show_alone : Command → Bool
show_alone Solve = false
show_alone Show = true
show_alone Check = false

abbrev pub check_alone : Command → Bool
check_alone Solve = false
check_alone Show = false
check_alone Check = true

-- the words ask for this, by a command that the call does
abbrev pub AreAsked : (Command → Bool) → List (List ℕ) → ModelWords → Type 0
AreAsked does words asked = (does asked.command ≡ true) × AreModelWords asked.command words (said_of asked)

-- the words ask for nothing that the call does
abbrev pub AreRefused : (Command → Bool) → List (List ℕ) → Type 0
AreRefused does words = (asked : ModelWords) → ¬ AreAsked does words asked
