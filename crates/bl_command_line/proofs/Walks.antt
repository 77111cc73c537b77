-- The walk over words that spell a command's files, and each option once at most.
use Rattle.std.proofs.Common.{◌≡◌, ◌⊎◌, ℕ, ◌+◌, min, true, false, List, [], ◌∷◌, ◌++◌, map, Option, Some, None, sym}
use Rattle.std.proofs.Common.{ap, subst, ◌∙◌, inl, inr}
use Rattle.std.proofs.lemmas.List.{append-nil, append_assoc}
use Rattle.clap.specs.Lexer.{usize_max}
use Rattle.clap.specs.Walk.{Walk, Held, has_row}
use Rattle.bl_words.specs.declared.commands.Command.{Command}
use Rattle.bl_words.specs.declared.commands.Choice.{Choice}
use Rattle.bl_words.specs.Commands.{word_of, takes, is_plain}
use Rattle.bl_words.specs.Items.{Item, IsSpelled, AreSpelled, texts_of}
use Rattle.bl_command_line.specs.Apps.{id_of}
use Rattle.bl_command_line.proofs.Rows.{Text, Entry, rows, with, texts_named, IsOnce, fresh}
use Rattle.bl_command_line.proofs.Shapes.{shape, has-option}
use Rattle.bl_command_line.proofs.Turns.{HasFile, Stands, Walks, idle_at, held_of, pending_of, held-stands}
use Rattle.bl_command_line.proofs.Turns.{pending-stands, walks-none, walks-file, walks-apart, walks-joined}

abbrev pub entry_then : Option Choice → Text → (List Entry → List Entry) → List Entry → List Entry
entry_then (Some choice) text rest files = (id_of choice, text) ∷ rest files
entry_then None text rest [] = rest []
entry_then None text rest (file ∷ files) = file ∷ rest files

-- the entries of the items in their order, where these are the files'
abbrev pub entries_of : List Item → List Entry → List Entry
entries_of [] files = files
entries_of (item ∷ items) files = entry_then item.choice item.text (entries_of items) files

abbrev pub values : List Entry → List Text
values entries = map (λ (e : Entry). e.1) entries

heads : (x y : Text) (xs ys : List Text) → x ∷ xs ≡ y ∷ ys → x ≡ y
heads x y xs ys e = cc

tails : (x y : Text) (xs ys : List Text) → x ∷ xs ≡ y ∷ ys → xs ≡ ys
tails x y xs ys e = cc

none-left : (x : Text) (xs : List Text) → x ∷ xs ≡ [] → ⊥
none-left x xs e = cc

-- a walk at whose end clap holds all the entries, where each name is given once
module _ (command : Command) (all : List Entry)
    (once : (choice : Choice) → IsOnce (texts_named (id_of choice) all)) where
  -- the files are the command's positionals from this place on
  abbrev pub AreNext : ℕ → List Entry → Type 0
  AreNext position [] = Unit {0}
  AreNext position (file ∷ files) =
      HasFile (shape command) file.0 position × IsOnce (texts_named file.0 all)
      × AreNext (min (position + 1) usize_max) files

  pub record Arrives (from : Walk) (words : List Text) : Type 0 where
    pub held : Held
    pub position : ℕ
    pub walks : Walks (shape command) from words (idle_at held position)
    pub stands : Stands (shape command) held all

  -- the walk over the words of items, where the entries before them are held and these files are left
  abbrev Reaches : List Item → Type 0
  Reaches items = (words : List Text) (position : ℕ) (held : Held) (before files : List Entry)
      → AreSpelled command items words → Stands (shape command) held before → AreNext position files
      → texts_of None items ≡ values files → before ++ entries_of items files ≡ all
      → Arrives (idle_at held position) words

  further : (from after : Walk) (words front back : List Text) → words ≡ front ++ back
      → ((end : Walk) → Walks (shape command) after back end → Walks (shape command) from (front ++ back) end)
      → Arrives after back → Arrives from words
  further from after words front back e step there = record {
    held = there.held;
    position = there.position;
    walks = subst (λ (ws : List Text). Walks (shape command) from ws (idle_at there.held there.position)) (sym e)
        (step (idle_at there.held there.position) there.walks);
    stands = there.stands;
  }

  no-items : Reaches []
  no-items words position held before [] e stands follows f whole = record {
    held = held;
    position = position;
    walks = subst (λ (ws : List Text). Walks (shape command) (idle_at held position) ws (idle_at held position)) (sym e)
        (walks-none (shape command) (idle_at held position));
    stands = subst (λ (es : List Entry). Stands (shape command) held es) (sym (append-nil before) ∙ whole) stands;
  }
  no-items words position held before (file ∷ files) e stands follows f whole =
      absurd (none-left file.1 (values files) (sym f))

  -- an entry whose name is given once is a new one
  is-new : (before rest : List Entry) (id text : Text) → before ++ (id, text) ∷ rest ≡ all
      → IsOnce (texts_named id all) → has_row id (rows before) ≡ false
  is-new before rest id text whole h =
      fresh before rest id text (subst (λ (es : List Entry). IsOnce (texts_named id es)) (sym whole) h)

  moved : (before rest : List Entry) (id text : Text) → before ++ (id, text) ∷ rest ≡ all
      → with before id text ++ rest ≡ all
  moved before rest id text whole = append_assoc before ((id, text) ∷ []) rest ∙ whole

  file-reaches : (items : List Item) → Reaches items → (words : List Text) (position : ℕ) (held : Held)
      (before files : List Entry) (text : Text) (back : List Text) → words ≡ text ∷ back → is_plain text ≡ true
      → AreSpelled command items back → Stands (shape command) held before → AreNext position files
      → text ∷ texts_of None items ≡ values files → before ++ entry_then None text (entries_of items) files ≡ all
      → Arrives (idle_at held position) words
  file-reaches items more words position held before [] text back e plain spelled stands follows f whole =
      absurd (none-left text (texts_of None items) f)
  file-reaches items more words position held before (file ∷ files) text back e plain spelled stands follows f whole =
      let same : text ≡ file.1 = heads text file.1 (texts_of None items) (values files) f in
      further _ _ words (file.1 ∷ []) back (e ∙ ap (λ (x : Text). x ∷ back) same)
      (λ end walks. walks-file (shape command) held before file.0 file.1 position back end follows.0
      (subst (λ (x : Text). is_plain x ≡ true) same plain) stands walks)
      (more back (min (position + 1) usize_max) (pending_of before file.0 file.1) (with before file.0 file.1) files
      spelled
      (pending-stands (shape command) before file.0 file.1 None (Some position) true follows.0.by_id
      (is-new before (entries_of items files) file.0 file.1 whole follows.1))
      follows.2 (tails text file.1 (texts_of None items) (values files) f)
      (moved before (entries_of items files) file.0 file.1 whole))

  abbrev IsPair : Choice → Text → List Text → Type 0
  IsPair own text front = (front ≡ word_of own ∷ text ∷ []) ⊎ (front ≡ (word_of own ++ 61 ∷ text) ∷ [])

  option-reaches : (items : List Item) → Reaches items → (words : List Text) (position : ℕ) (held : Held)
      (before files : List Entry) (own : Choice) (text : Text) (front back : List Text) → words ≡ front ++ back
      → takes command own ≡ true → IsPair own text front → is_plain text ≡ true → AreSpelled command items back
      → Stands (shape command) held before → AreNext position files → texts_of None items ≡ values files
      → before ++ (id_of own, text) ∷ entries_of items files ≡ all → Arrives (idle_at held position) words
  option-reaches items more words position held before files own text front back e t pair plain spelled stands follows
      f whole =
      let has = has-option command own t in
      let none = is-new before (entries_of items files) (id_of own) text whole (once own) in
      let rest = moved before (entries_of items files) (id_of own) text whole in
      elim pair [
        | inl h ↦
            further _ _ words (word_of own ∷ text ∷ []) back (e ∙ ap (λ (x : List Text). x ++ back) h)
            (λ end walks. walks-apart (shape command) own held before text position back end has plain stands walks)
            (more back position (pending_of before (id_of own) text) (with before (id_of own) text) files spelled
            (pending-stands (shape command) before (id_of own) text (Some (id_of own)) None false has.by_id none)
            follows f rest)
        | inr h ↦
            further _ _ words ((word_of own ++ 61 ∷ text) ∷ []) back (e ∙ ap (λ (x : List Text). x ++ back) h)
            (λ end walks. walks-joined (shape command) own held before text position back end has none stands walks)
            (more back position (held_of (with before (id_of own) text)) (with before (id_of own) text) files spelled
            (held-stands (shape command) (with before (id_of own) text)) follows f rest)
      ]

  item-reaches : (items : List Item) → Reaches items → (words : List Text) (position : ℕ) (held : Held)
      (before files : List Entry) (choice : Option Choice) (text : Text) (front back : List Text)
      → words ≡ front ++ back → IsSpelled command choice text front → is_plain text ≡ true
      → AreSpelled command items back → Stands (shape command) held before → AreNext position files
      → texts_of None (record { choice = choice; text = text } ∷ items) ≡ values files
      → before ++ entry_then choice text (entries_of items) files ≡ all → Arrives (idle_at held position) words
  item-reaches items more words position held before files None text front back e is plain spelled stands follows f
      whole =
      file-reaches items more words position held before files text back (e ∙ ap (λ (x : List Text). x ++ back) is)
      plain spelled stands follows f whole
  item-reaches items more words position held before files (Some own) text front back e is plain spelled stands follows
      f whole =
      option-reaches items more words position held before files own text front back e is.0 is.1 plain spelled stands
      follows f whole

  reaches : (items : List Item) → Reaches items
  reaches [] = no-items
  reaches (item ∷ items) = λ words position held before files spelled stands follows f whole.
      item-reaches items (reaches items) words position held before files item.choice item.text spelled.0 spelled.1.0
      spelled.1.1 spelled.1.2 spelled.1.3 spelled.1.4 stands follows f whole

  -- the walk over all the words
  pub arrives : (items : List Item) (words : List Text) (files : List Entry) → AreSpelled command items words
      → AreNext 1 files → texts_of None items ≡ values files → entries_of items files ≡ all
      → Arrives (idle_at (held_of []) 1) words
  arrives items words files spelled follows f whole =
      reaches items words 1 (held_of []) [] files spelled (held-stands (shape command) []) follows f whole
