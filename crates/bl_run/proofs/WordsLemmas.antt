-- Words ask a command for one thing at most, and its numbers are within their limits.
use Rattle.std.proofs.Common.{◌≡◌, ℕ, ◌<◌, ◌≤◌, ◌^◌, List, [], ◌∷◌, arith, sym, ap, subst, ◌∙◌, refl, get_or}
use Rattle.std.specs.Prelude.{Option, None, Some}
use Rattle.std.specs.Option.{option_to_list}
use Rattle.std.proofs.lemmas.Fmt.{decimal_injective}
use Rattle.std.proofs.lemmas.Int.{ints}
use Rattle.bl_words.specs.declared.commands.Command.{Command}
use Rattle.bl_words.specs.declared.commands.Command.TheVariants.{Solve, Show, Check}
use Rattle.bl_words.specs.declared.commands.Choice.TheVariants.{DefaultUpper, Nodes, FollowerNodes}
use Rattle.bl_words.specs.declared.commands.Limits.{Limits}
use Rattle.bl_words.specs.Commands.{name_of, upper_limits, node_limits, follower_limits}
use Rattle.bl_words.specs.Items.{Item, Said, texts_of, IsNumber, AreSpelled, AreFiles, AreModelItems, AreModelWords}
use Rattle.bl_words.proofs.Spellings.{read_spelled}

-- ---- limits

-- the number of an option is within its limits, where the usual one is
within : (limits : Limits) → limits.least ≤ limits.usual → limits.usual ≤ limits.greatest → (texts : List (List ℕ))
    (n : ℕ) → IsNumber limits texts n → (limits.least ≤ n) × (n ≤ limits.greatest)
within limits least most [] n h = (omega (arith, h, least), omega (arith, h, most))
within limits least most (text ∷ []) n h = (h.0, h.1)
within limits least most (text ∷ other ∷ texts) n h = absurd h

-- ---- one meaning

same_rest : (name : List ℕ) (a b : List (List ℕ)) → name ∷ a ≡ name ∷ b → a ≡ b
same_rest name a b e = cc

same_items : (a b : List Item) → Some a ≡ Some b → a ≡ b
same_items a b e = cc

-- the number of an option is one
same_number : (limits : Limits) → limits.greatest < 2 ^ 64 → (texts : List (List ℕ)) (m n : ℕ)
    → IsNumber limits texts m → IsNumber limits texts n → m ≡ n
same_number limits below [] m n g h = g ∙ sym h
same_number limits below (text ∷ []) m n g h =
    decimal_injective m n (omega (arith, g.1, below)) (omega (arith, h.1, below)) (sym g.2 ∙ h.2)
same_number limits below (text ∷ other ∷ texts) m n g h = absurd g

-- the files that the items name are one each
record SameFiles (m n a b : List ℕ) (c d : Option (List ℕ)) : Type 0 where
  mps : m ≡ n
  aux : a ≡ b
  cert : c ≡ d

same_list : (c d : Option (List ℕ)) → option_to_list c ≡ option_to_list d → c ≡ d
same_list None None e = refl
same_list None (Some y) e = absurd cc
same_list (Some x) None e = absurd cc
same_list (Some x) (Some y) e = cc

same_files : (m n a b : List ℕ) (c d : Option (List ℕ)) (r s : List (List ℕ)) → m ∷ a ∷ r ≡ n ∷ b ∷ s → c ≡ d
    → SameFiles m n a b c d
same_files m n a b c d r s e cert = record { mps = cc; aux = cc; cert = cert }

behind_two : (m n a b : List ℕ) (r s : List (List ℕ)) → m ∷ a ∷ r ≡ n ∷ b ∷ s → r ≡ s
behind_two m n a b r s e = cc

one_files : (command : Command) (items : List Item) (m n a b : List ℕ) (c d : Option (List ℕ))
    → AreFiles command items m a c → AreFiles command items n b d → SameFiles m n a b c d
one_files Solve items m n a b c d g h =
    same_files m n a b c d [] [] (sym g.files ∙ h.files) (same_list c d (sym g.values ∙ h.values))
one_files Show items m n a b c d g h =
    same_files m n a b c d [] [] (sym g.files ∙ h.files) (g.has ∙ sym h.has)
one_files Check items m n a b c d g h =
    let files : m ∷ a ∷ option_to_list c ≡ n ∷ b ∷ option_to_list d = sym g.files ∙ h.files in
    same_files m n a b c d (option_to_list c) (option_to_list d) files
    (same_list c d (behind_two m n a b (option_to_list c) (option_to_list d) files))

abbrev said_by : List ℕ → List ℕ → Option (List ℕ) → ℕ → ℕ → ℕ → Said
said_by mps aux cert upper nodes follower_nodes = record {
  mps = mps;
  aux = aux;
  cert = cert;
  default_upper = upper;
  nodes = nodes;
  follower_nodes = follower_nodes;
}

same_said : (s t : Said) → SameFiles s.mps t.mps s.aux t.aux s.cert t.cert → s.default_upper ≡ t.default_upper
    → s.nodes ≡ t.nodes → s.follower_nodes ≡ t.follower_nodes → s ≡ t
same_said s t files upper nodes follower_nodes =
    ap (λ (n : List ℕ). said_by n s.aux s.cert s.default_upper s.nodes s.follower_nodes) files.mps
    ∙ ap (λ (n : List ℕ). said_by t.mps n s.cert s.default_upper s.nodes s.follower_nodes) files.aux
    ∙ ap (λ (c : Option (List ℕ)). said_by t.mps t.aux c s.default_upper s.nodes s.follower_nodes) files.cert
    ∙ ap (λ (u : ℕ). said_by t.mps t.aux t.cert u s.nodes s.follower_nodes) upper
    ∙ ap (λ (k : ℕ). said_by t.mps t.aux t.cert t.default_upper k s.follower_nodes) nodes
    ∙ ap (λ (k : ℕ). said_by t.mps t.aux t.cert t.default_upper t.nodes k) follower_nodes

-- items say one thing
one_said : (command : Command) (items : List Item) (s t : Said) → AreModelItems command items s
    → AreModelItems command items t → s ≡ t
one_said command items s t g h =
    same_said s t (one_files command items s.mps t.mps s.aux t.aux s.cert t.cert g.files h.files)
    (same_number upper_limits (omega (arith, ints)) (texts_of (Some DefaultUpper) items) s.default_upper
    t.default_upper g.default_upper h.default_upper)
    (same_number node_limits (omega arith) (texts_of (Some Nodes) items) s.nodes t.nodes g.node_budget h.node_budget)
    (same_number follower_limits (omega arith) (texts_of (Some FollowerNodes) items) s.follower_nodes t.follower_nodes
    g.follower_budget h.follower_budget)

-- so do the words of a command
pub says_once : (command : Command) (words : List (List ℕ)) (s t : Said) → AreModelWords command words s
    → AreModelWords command words t → s ≡ t
says_once command words s t these those =
    let rest : these.rest ≡ those.rest =
    same_rest (name_of command) these.rest those.rest (sym these.begins ∙ those.begins) in
    let spelled = subst (λ (r : List (List ℕ)). AreSpelled command these.items r) rest these.spelled in
    let items : these.items ≡ those.items =
    same_items these.items those.items
    (sym (read_spelled command these.items those.rest spelled)
    ∙ read_spelled command those.items those.rest those.spelled) in
    one_said command those.items s t
    (subst (λ (is : List Item). AreModelItems command is s) items these.says) those.says

-- the names of the commands differ in their third letters
first_word : (a b : List ℕ) (r t : List (List ℕ)) → a ∷ r ≡ b ∷ t → a ≡ b
first_word a b r t e = cc

same_third : (c d : Command) (words : List (List ℕ)) (s t : Said) → AreModelWords c words s → AreModelWords d words t
    → get_or (name_of c) 2 0 ≡ get_or (name_of d) 2 0
same_third c d words s t these those =
    ap (λ (word : List ℕ). get_or word 2 0)
    (first_word (name_of c) (name_of d) these.rest those.rest (sym these.begins ∙ those.begins))

-- words are those of one command
pub one_name : (c d : Command) (words : List (List ℕ)) (s t : Said) → AreModelWords c words s
    → AreModelWords d words t → c ≡ d
one_name Solve Solve words s t these those = refl
one_name Solve Show words s t these those = absurd (omega (arith, same_third Solve Show words s t these those))
one_name Solve Check words s t these those = absurd (omega (arith, same_third Solve Check words s t these those))
one_name Show Solve words s t these those = absurd (omega (arith, same_third Show Solve words s t these those))
one_name Show Show words s t these those = refl
one_name Show Check words s t these those = absurd (omega (arith, same_third Show Check words s t these those))
one_name Check Solve words s t these those = absurd (omega (arith, same_third Check Solve words s t these those))
one_name Check Show words s t these those = absurd (omega (arith, same_third Check Show words s t these those))
one_name Check Check words s t these those = refl
