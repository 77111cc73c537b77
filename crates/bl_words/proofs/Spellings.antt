-- The words that spell items are read as these items, and only such words are.
use Rattle.std.proofs.Common.{◌≡◌, ℕ, Bool, true, false, cond, List, [], ◌∷◌, ◌++◌, length, get_or, Option, Some, None}
use Rattle.std.proofs.Common.{refl, sym, ap, subst, ◌∙◌, inl, inr, append_assoc, ◌⊎◌}
use Rattle.std.specs.List.{before_first, after_first, position_or_len}
use Rattle.std.specs.Str.{bytes_eq}
use Rattle.std.specs.Option.{option_and_then, option_to_list}
use Rattle.std.proofs.lemmas.List.{append-nil, take_all}
use Rattle.std.proofs.lemmas.List.Sums.{split_at_first}
use Rattle.std.proofs.lemmas.List.Sums.{passes_at_first}
use Rattle.std.proofs.lemmas.Slice.Eq.{bytes_eq-Decides}
use Rattle.std.proofs.lemmas.Bool.{cases_lt, eqb-true}
use Rattle.bl_words.specs.declared.commands.Command.{Command}
use Rattle.bl_words.specs.declared.commands.Command.TheVariants.{Solve, Show, Check}
use Rattle.bl_words.specs.declared.commands.Choice.{Choice}
use Rattle.bl_words.specs.declared.commands.Choice.TheVariants.{DefaultUpper, Nodes, FollowerNodes, Cert}
use Rattle.bl_words.specs.Commands.{word_of, takes, is_plain}
use Rattle.bl_words.specs.Items.{Item, IsSpelled, AreSpelled}
use Rattle.bl_words.specs.Steps.{Step, is_equals, choice_by, choice_of, taken, texted, joined, named, step, walk}

abbrev item_of : Option Choice → List ℕ → Item
item_of choice text = record { choice = choice; text = text }

texted-plain : (choice : Option Choice) (text : List ℕ) → is_plain text ≡ true
    → texted choice text ≡ Some (Some (item_of choice text), None)
texted-plain choice text h = rw h refl

-- ---- what is spelled is read

step-file : (command : Command) (text : List ℕ) → is_plain text ≡ true
    → step command None text ≡ Some (Some (item_of None text), None)
unfolding step
step-file command text h = rw h refl

step-word : (command : Command) (choice : Choice) → takes command choice ≡ true
    → step command None (word_of choice) ≡ Some (None, Some choice)
unfolding step
step-word Solve DefaultUpper h = refl
step-word Solve Nodes h = refl
step-word Solve FollowerNodes h = refl
step-word Show DefaultUpper h = refl
step-word Show Nodes h = absurd cc
step-word Show FollowerNodes h = absurd cc
step-word Solve Cert h = refl
step-word Show Cert h = absurd cc
step-word Check DefaultUpper h = refl
step-word Check Nodes h = absurd cc
step-word Check FollowerNodes h = absurd cc
step-word Check Cert h = absurd cc

step-value : (command : Command) (choice : Choice) (text : List ℕ) → is_plain text ≡ true
    → step command (Some choice) text ≡ Some (Some (item_of (Some choice) text), None)
unfolding step
step-value command choice text h = rw h refl

step-joined : (command : Command) (choice : Choice) (text : List ℕ) → takes command choice ≡ true
    → is_plain text ≡ true
    → step command None (word_of choice ++ 61 ∷ text) ≡ Some (Some (item_of (Some choice) text), None)
unfolding step
step-joined Solve DefaultUpper text t h = texted-plain (Some DefaultUpper) text h
step-joined Solve Nodes text t h = texted-plain (Some Nodes) text h
step-joined Solve FollowerNodes text t h = texted-plain (Some FollowerNodes) text h
step-joined Show DefaultUpper text t h = texted-plain (Some DefaultUpper) text h
step-joined Show Nodes text t h = absurd cc
step-joined Show FollowerNodes text t h = absurd cc
step-joined Solve Cert text t h = texted-plain (Some Cert) text h
step-joined Show Cert text t h = absurd cc
step-joined Check DefaultUpper text t h = texted-plain (Some DefaultUpper) text h
step-joined Check Nodes text t h = absurd cc
step-joined Check FollowerNodes text t h = absurd cc
step-joined Check Cert text t h = absurd cc

walk-step : (command : Command) (items : List Item) (pending : Option Choice) (word : List ℕ) (words : List (List ℕ))
    (added : Option Item) (next : Option Choice) → step command pending word ≡ Some (added, next)
    → walk command items pending (word ∷ words) ≡ walk command (items ++ option_to_list added) next words
unfolding walk
walk-step command items pending word words added next e = rw e refl

walk-front : (command : Command) (done : List Item) (choice : Option Choice) (text : List ℕ)
    (front back : List (List ℕ)) → IsSpelled command choice text front → is_plain text ≡ true
    → walk command done None (front ++ back) ≡ walk command (done ++ item_of choice text ∷ []) None back
walk-front command done None text front back s h =
    ap (λ (f : List (List ℕ)). walk command done None (f ++ back)) s
    ∙ walk-step command done None text back (Some (item_of None text)) None (step-file command text h)
walk-front command done (Some choice) text front back (t, inl s) h =
    ap (λ (f : List (List ℕ)). walk command done None (f ++ back)) s
    ∙ walk-step command done None (word_of choice) (text ∷ back) None (Some choice) (step-word command choice t)
    ∙ ap (λ (d : List Item). walk command d (Some choice) (text ∷ back)) (append-nil done)
    ∙ walk-step command done (Some choice) text back (Some (item_of (Some choice) text)) None
    (step-value command choice text h)
walk-front command done (Some choice) text front back (t, inr s) h =
    ap (λ (f : List (List ℕ)). walk command done None (f ++ back)) s
    ∙ walk-step command done None (word_of choice ++ 61 ∷ text) back (Some (item_of (Some choice) text)) None
    (step-joined command choice text t h)

walk-spelled : (command : Command) (done items : List Item) (words : List (List ℕ)) → AreSpelled command items words
    → walk command done None words ≡ Some (done ++ items)
unfolding walk
walk-spelled command done [] words s = rw s (ap (λ (d : List Item). Some d) (sym (append-nil done)))
walk-spelled command done (item ∷ items) words s =
    ap (walk command done None) s.1.1
    ∙ walk-front command done item.choice item.text s.0 s.1.0 s.1.2 s.1.3
    ∙ walk-spelled command (done ++ item ∷ []) items s.1.0 s.1.4
    ∙ ap (λ (d : List Item). Some d) (append_assoc done (item ∷ []) items)

pub read_spelled : (command : Command) (items : List Item) (words : List (List ℕ)) → AreSpelled command items words
    → walk command [] None words ≡ Some items
read_spelled command items words s = walk-spelled command [] items words s

-- ---- what is read is spelled

bind-some : {A B : Type 0} (o : Option A) (f : A → Option B) (y : B) → option_and_then f o ≡ Some y
    → (x : A) × (o ≡ Some x) × (f x ≡ Some y)
bind-some (Some x) f y e = (x, refl, e)
bind-some None f y e = absurd cc

cond-some : (test : Bool) (this choice : Choice) → cond test (Some this) None ≡ Some choice
    → (test ≡ true) × (this ≡ choice)
cond-some true this choice e = (refl, cc)
cond-some false this choice e = absurd cc

cond-choice : (test : Bool) (this : Choice) (other : Option Choice) (choice : Choice)
    → cond test (Some this) other ≡ Some choice → ((test ≡ true) × (this ≡ choice)) ⊎ (other ≡ Some choice)
cond-choice true this other choice e = inl (refl, cc)
cond-choice false this other choice e = inr e

is-word : (word : List ℕ) (this choice : Choice)
    → (bytes_eq word (word_of this) ≡ true) × (this ≡ choice) → word ≡ word_of choice
is-word word this choice h = (bytes_eq-Decides word (word_of this)).0 h.0 ∙ ap word_of h.1

choice-by : (word : List ℕ) (choice : Choice) → choice_by word ≡ Some choice → word ≡ word_of choice
choice-by word choice e =
    elim (cond-choice (bytes_eq word (word_of DefaultUpper)) DefaultUpper _ choice e) [
      | inl h ↦ is-word word DefaultUpper choice h
      | inr f ↦
          elim (cond-choice (bytes_eq word (word_of Nodes)) Nodes _ choice f) [
            | inl h ↦ is-word word Nodes choice h
            | inr g ↦
                elim (cond-choice (bytes_eq word (word_of FollowerNodes)) FollowerNodes _ choice g) [
                  | inl h ↦ is-word word FollowerNodes choice h
                  | inr i ↦
                      is-word word Cert choice (cond-some (bytes_eq word (word_of Cert)) Cert choice i)
                ]
          ]
    ]

-- the word is the option's, and the command has it
record IsChoice (command : Command) (word : List ℕ) (choice : Choice) : Type 0 where
  is_word : word ≡ word_of choice
  is_taken : takes command choice ≡ true

choice-is : (command : Command) (word : List ℕ) (choice : Choice) → choice_of command word ≡ Some choice
    → IsChoice command word choice
choice-is command word choice e =
    let found = bind-some (choice_by word) (taken command) choice e in
    let some = cond-some (takes command found.0) found.0 choice found.2 in
    record {
      is_word = choice-by word found.0 found.1 ∙ ap word_of some.1;
      is_taken = ap (takes command) (sym some.1) ∙ some.0;
    }

pair-is : (s t : Step) → Some s ≡ Some t → s ≡ t
pair-is s t e = cc

record IsTexted (choice : Option Choice) (text : List ℕ) (added : Option Item) (next : Option Choice) : Type 0 where
  is_added : added ≡ Some (item_of choice text)
  is_next : next ≡ None
  plain : is_plain text ≡ true

texted-is : (choice : Option Choice) (text : List ℕ) (test : Bool) (added : Option Item) (next : Option Choice)
    → is_plain text ≡ test → texted choice text ≡ Some (added, next) → IsTexted choice text added next
texted-is choice text true added next p e =
    let same = pair-is (Some (item_of choice text), None) (added, next) (sym (texted-plain choice text p) ∙ e) in
    record { is_added = sym (ap (λ (s : Step). s.0) same); is_next = sym (ap (λ (s : Step). s.1) same); plain = p }
texted-is choice text false added next p e =
    let none : texted choice text ≡ None = rw p refl in
    absurd cc

-- what a word without a waiting option adds
data Adds (command : Command) (word : List ℕ) (added : Option Item) (next : Option Choice) : Type 0 where
  a_file : IsTexted None word added next → Adds command word added next
  a_word : (choice : Choice) → IsChoice command word choice → added ≡ None → next ≡ Some choice
      → Adds command word added next
  a_pair : (choice : Choice) (text : List ℕ) → takes command choice ≡ true → word ≡ word_of choice ++ 61 ∷ text
      → IsTexted (Some choice) text added next → Adds command word added next

parted : (command : Command) (word : List ℕ) (choice : Choice) → choice_of command word ≡ None
    → choice_of command (before_first is_equals word) ≡ Some choice
    → word ≡ before_first is_equals word ++ 61 ∷ after_first is_equals word
parted command word choice none some =
    elim (cases_lt (position_or_len is_equals word) (length word)) [
      | inl within ↦
          let split = split_at_first is_equals word 0 within in
          let equals : get_or word (position_or_len is_equals word) 0 ≡ 61 =
          eqb-true _ 61 (passes_at_first is_equals word 0 within) in
          split ∙ ap (λ (b : ℕ). before_first is_equals word ++ b ∷ after_first is_equals word) equals
      | inr past ↦
          let whole : before_first is_equals word ≡ word = take_all (position_or_len is_equals word) word past in
          let there : choice_of command word ≡ Some choice = ap (choice_of command) (sym whole) ∙ some in
          absurd cc
    ]

adds-joined : (command : Command) (word : List ℕ) (choice : Option Choice) (added : Option Item) (next : Option Choice)
    → choice_of command word ≡ None → choice_of command (before_first is_equals word) ≡ choice
    → joined choice (after_first is_equals word) ≡ Some (added, next) → Adds command word added next
adds-joined command word None added next none c e = absurd cc
adds-joined command word (Some choice) added next none c e =
    let is = choice-is command (before_first is_equals word) choice c in
    let text = after_first is_equals word in
    a_pair choice text is.is_taken
    (parted command word choice none c ∙ ap (λ (f : List ℕ). f ++ 61 ∷ text) is.is_word)
    (texted-is (Some choice) text (is_plain text) added next refl e)

adds-named : (command : Command) (word : List ℕ) (choice : Option Choice) (added : Option Item) (next : Option Choice)
    → choice_of command word ≡ choice → named choice command word ≡ Some (added, next) → Adds command word added next
adds-named command word (Some choice) added next c e =
    let same = pair-is (None, Some choice) (added, next) e in
    a_word choice (choice-is command word choice c) (sym (ap (λ (s : Step). s.0) same))
    (sym (ap (λ (s : Step). s.1) same))
adds-named command word None added next c e =
    adds-joined command word (choice_of command (before_first is_equals word)) added next c refl e

step-by : (command : Command) (word : List ℕ) (plain : Bool) {s : Step} → is_plain word ≡ plain
    → step command None word ≡ Some s
    → cond plain (texted None word) (named (choice_of command word) command word) ≡ Some s
unfolding step
step-by command word plain p e =
    ap (λ (b : Bool). cond b (texted None word) (named (choice_of command word) command word)) (sym p) ∙ e

adds : (command : Command) (word : List ℕ) (plain : Bool) (added : Option Item) (next : Option Choice)
    → is_plain word ≡ plain → step command None word ≡ Some (added, next) → Adds command word added next
adds command word true added next p e =
    let there : texted None word ≡ Some (added, next) = step-by command word true p e in
    a_file (texted-is None word true added next p there)
adds command word false added next p e =
    let there : named (choice_of command word) command word ≡ Some (added, next) = step-by command word false p e in
    adds-named command word (choice_of command word) added next refl there

-- the items behind those that are done, spelled by these words
record Spells (command : Command) (done items : List Item) (words : List (List ℕ)) : Type 0 where
  more : List Item
  whole : items ≡ done ++ more
  spelled : AreSpelled command more words

spells-more : (command : Command) (done items : List Item) (choice : Option Choice) (text : List ℕ)
    (front back : List (List ℕ)) → IsSpelled command choice text front → is_plain text ≡ true
    → Spells command (done ++ item_of choice text ∷ []) items back → Spells command done items (front ++ back)
spells-more command done items choice text front back s p more = record {
  more = item_of choice text ∷ more.more;
  whole = more.whole ∙ append_assoc done (item_of choice text ∷ []) more.more;
  spelled = (front, (back, refl, s, p, more.spelled));
}

some-items : (done items : List Item) → Some done ≡ Some items → items ≡ done
some-items done items e = cc

walk-at : (command : Command) (done : List Item) (words : List (List ℕ)) (added : Option Item) (next : Option Choice)
    (item : Option Item) (waiting : Option Choice) → added ≡ item → next ≡ waiting → (items : List Item)
    → walk command (done ++ option_to_list added) next words ≡ Some items
    → walk command (done ++ option_to_list item) waiting words ≡ Some items
walk-at command done words added next item waiting a n items e =
    ap (λ (i : Option Item). walk command (done ++ option_to_list i) waiting words) (sym a)
    ∙ ap (λ (w : Option Choice). walk command (done ++ option_to_list added) w words) (sym n)
    ∙ e

-- the word of an option that waits for its value
abbrev Waits : Command → Option Choice → List (List ℕ) → Type 0
Waits command None before = before ≡ []
Waits command (Some choice) before = (word : List ℕ) × (before ≡ word ∷ []) × IsChoice command word choice

-- what these words are read as, they spell with the word that waits
abbrev Reads : Command → List (List ℕ) → Type 0
Reads command words = (pending : Option Choice) (before : List (List ℕ)) (done items : List Item)
    → Waits command pending before → walk command done pending words ≡ Some items
    → Spells command done items (before ++ words)

reads-adds : (command : Command) (word : List ℕ) (words : List (List ℕ)) → Reads command words
    → (done items : List Item) (added : Option Item) (next : Option Choice) → Adds command word added next
    → walk command (done ++ option_to_list added) next words ≡ Some items → Spells command done items (word ∷ words)
reads-adds command word words more done items added next (a_file t) e =
    let there = walk-at command done words added next _ _ t.is_added t.is_next items e in
    spells-more command done items None word (word ∷ []) words refl t.plain
    (more None [] (done ++ item_of None word ∷ []) items refl there)
reads-adds command word words more done items added next (a_word choice is n m) e =
    let there : walk command done (Some choice) words ≡ Some items =
    ap (λ (d : List Item). walk command d (Some choice) words) (sym (append-nil done))
    ∙ walk-at command done words added next None (Some choice) n m items e in
    more (Some choice) (word ∷ []) done items (word, refl, is) there
reads-adds command word words more done items added next (a_pair choice text t w is) e =
    let there = walk-at command done words added next _ _ is.is_added is.is_next items e in
    spells-more command done items (Some choice) text (word ∷ []) words
    (t, inr (ap (λ (x : List ℕ). x ∷ []) w)) is.plain
    (more None [] (done ++ item_of (Some choice) text ∷ []) items refl there)

reads-value : (command : Command) (text : List ℕ) (words : List (List ℕ)) → Reads command words
    → (choice : Choice) (word : List ℕ) (done items : List Item) (added : Option Item) (next : Option Choice)
    → IsChoice command word choice → IsTexted (Some choice) text added next
    → walk command (done ++ option_to_list added) next words ≡ Some items
    → Spells command done items (word ∷ text ∷ words)
reads-value command text words more choice word done items added next is t e =
    let there = walk-at command done words added next _ _ t.is_added t.is_next items e in
    spells-more command done items (Some choice) text (word ∷ text ∷ []) words
    (is.is_taken, inl (ap (λ (x : List ℕ). x ∷ text ∷ []) is.is_word)) t.plain
    (more None [] (done ++ item_of (Some choice) text ∷ []) items refl there)

reads-none : (command : Command) (before : List (List ℕ)) (done items : List Item) → before ≡ []
    → walk command done None [] ≡ Some items → Spells command done items (before ++ [])
unfolding walk
reads-none command before done items b e = record {
  more = [];
  whole = some-items done items e ∙ sym (append-nil done);
  spelled = append-nil before ∙ b;
}

reads : (command : Command) (words : List (List ℕ)) → Reads command words
unfolding walk step
reads command [] None before done items b e = reads-none command before done items b e
reads command [] (Some choice) before done items b e = absurd cc
reads command (word ∷ words) None before done items b e =
    let s = bind-some (step command None word) (λ s. walk command (done ++ option_to_list s.0) s.1 words) items e in
    subst (λ (front : List (List ℕ)). Spells command done items (front ++ word ∷ words)) (sym b)
    (reads-adds command word words (reads command words) done items s.0.0 s.0.1
    (adds command word (is_plain word) s.0.0 s.0.1 refl s.1) s.2)
reads command (word ∷ words) (Some choice) before done items b e =
    let s = bind-some (step command (Some choice) word)
    (λ s. walk command (done ++ option_to_list s.0) s.1 words) items e in
    subst (λ (front : List (List ℕ)). Spells command done items (front ++ word ∷ words)) (sym b.1)
    (reads-value command word words (reads command words) choice b.0 done items s.0.0 s.0.1 b.2
    (texted-is (Some choice) word (is_plain word) s.0.0 s.0.1 refl s.1) s.2)

pub spelled_read : (command : Command) (items : List Item) (words : List (List ℕ))
    → walk command [] None words ≡ Some items → AreSpelled command items words
spelled_read command items words e =
    let s = reads command words None [] [] items refl e in
    subst (λ (is : List Item). AreSpelled command is words) (sym s.whole) s.spelled
