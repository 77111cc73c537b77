-- Trusted. What the words of a command say.
use Rattle.std.specs.Prelude.{◌≡◌, ◌≢◌, ◌⊎◌, ℕ, ◌≤◌, Bool, true, false, List, [], ◌∷◌, ◌++◌, Option, None}
use Rattle.std.specs.Prelude.{Some, IsSome, ⊤, if◌then◌else◌}
use Rattle.std.specs.Option.{option_to_list}
use Rattle.std.specs.Fmt.{decimal}
use Rattle.std.specs.List.{filter_map}
use Rattle.bl_words.specs.declared.commands.Command.{Command}
use Rattle.bl_words.specs.declared.commands.Command.TheVariants.{Solve, Show, Check}
use Rattle.bl_words.specs.declared.commands.Choice.{Choice}
use Rattle.bl_words.specs.declared.commands.Limits.{Limits}
use Rattle.bl_words.specs.declared.commands.Choice.TheVariants.{DefaultUpper, Nodes, FollowerNodes, Cert}
use Rattle.bl_words.specs.Commands.{name_of, word_of, takes, is_plain, upper_limits, node_limits}
use Rattle.bl_words.specs.Commands.{follower_limits}

-- a file, or the value of an option
pub record Item : Type 0 where
  pub choice : Option Choice
  pub text : List ℕ

-- The words spell the item: a file by itself, an option by its word and the value, apart or joined by `=`.
abbrev pub IsSpelled : Command → Option Choice → List ℕ → List (List ℕ) → Type 0
IsSpelled command None text words = words ≡ text ∷ []
IsSpelled command (Some choice) text words =
    (takes command choice ≡ true)
    × ((words ≡ word_of choice ∷ text ∷ []) ⊎ (words ≡ (word_of choice ++ 61 ∷ text) ∷ []))

-- the words spell the items in order, and each text may be a file's or a value's
abbrev pub AreSpelled : Command → List Item → List (List ℕ) → Type 0
AreSpelled command [] words = words ≡ []
AreSpelled command (item ∷ items) words =
    (front : List (List ℕ)) × ((back : List (List ℕ)) × (words ≡ front ++ back)
    × IsSpelled command item.choice item.text front × (is_plain item.text ≡ true) × AreSpelled command items back)

-- both are files, or both are values of one option
abbrev pub is_same : Option Choice → Option Choice → Bool
is_same None None = true
is_same (Some DefaultUpper) (Some DefaultUpper) = true
is_same (Some Nodes) (Some Nodes) = true
is_same (Some FollowerNodes) (Some FollowerNodes) = true
is_same (Some Cert) (Some Cert) = true
is_same _ _ = false

-- the files, or the values of an option, in order
abbrev pub texts_of : Option Choice → List Item → List (List ℕ)
texts_of choice items = filter_map (λ item. if is_same choice item.choice then Some item.text else None) items

-- the number of an option with these values: it is given once at most, in plain digits and within its limits, or else
-- the usual one
abbrev pub IsNumber : Limits → List (List ℕ) → ℕ → Type 0
IsNumber limits [] value = value ≡ limits.usual
IsNumber limits (text ∷ []) value = (limits.least ≤ value) × (value ≤ limits.greatest) × (text ≡ decimal value)
IsNumber limits (text ∷ other ∷ texts) value = ⊥

-- what the words of a command say: the MPS file, the auxiliary file and the certificate's, where there is one; the
-- upper bound of an integer column that no bound line names; the budgets of nodes of the branch-and-bound tree and of
-- each follower's tree
pub record Said : Type 0 where
  pub mps : List ℕ
  pub aux : List ℕ
  pub cert : Option (List ℕ)
  pub default_upper : ℕ
  pub nodes : ℕ
  pub follower_nodes : ℕ

-- the files that stand by themselves: `check` names the certificate so
abbrev pub own_files : Command → List ℕ → List ℕ → Option (List ℕ) → List (List ℕ)
own_files Solve mps aux cert = mps ∷ aux ∷ []
own_files Show mps aux cert = mps ∷ aux ∷ []
own_files Check mps aux cert = mps ∷ aux ∷ option_to_list cert

-- the values of `--cert`: `solve` names the certificate so
abbrev pub cert_values : Command → Option (List ℕ) → List (List ℕ)
cert_values Solve cert = option_to_list cert
cert_values Show cert = []
cert_values Check cert = []

-- whether there is a certificate: `show` has none, and `check` needs one
abbrev pub HasCert : Command → Option (List ℕ) → Type 0
HasCert Solve cert = ⊤
HasCert Show cert = cert ≡ None
HasCert Check cert = IsSome cert

-- no two files are the same
abbrev pub AreApart : List ℕ → List ℕ → Option (List ℕ) → Type 0
AreApart mps aux None = mps ≢ aux
AreApart mps aux (Some cert) = (mps ≢ aux) × (mps ≢ cert) × (aux ≢ cert)

-- the items name these files, which are all different
pub record AreFiles (command : Command) (items : List Item) (mps aux : List ℕ) (cert : Option (List ℕ)) : Type 0 where
  pub files : texts_of None items ≡ own_files command mps aux cert
  pub values : texts_of (Some Cert) items ≡ cert_values command cert
  pub has : HasCert command cert
  pub apart : AreApart mps aux cert

-- the items say this
pub record AreModelItems (command : Command) (items : List Item) (said : Said) : Type 0 where
  pub files : AreFiles command items said.mps said.aux said.cert
  pub default_upper : IsNumber upper_limits (texts_of (Some DefaultUpper) items) said.default_upper
  pub node_budget : IsNumber node_limits (texts_of (Some Nodes) items) said.nodes
  pub follower_budget : IsNumber follower_limits (texts_of (Some FollowerNodes) items) said.follower_nodes

-- The words are this command's and say this. An option that the command doesn't have has its usual number.
pub record AreModelWords (command : Command) (words : List (List ℕ)) (said : Said) : Type 0 where
  pub rest : List (List ℕ)
  pub items : List Item
  pub begins : words ≡ name_of command ∷ rest
  pub spelled : AreSpelled command items rest
  pub says : AreModelItems command items said
