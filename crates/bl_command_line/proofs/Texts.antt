-- Which values the entries of a command's items have.
use Rattle.std.proofs.Common.{◌≡◌, Bool, true, false, cond, List, [], ◌∷◌, ◌++◌, Option, Some, None, refl, sym, ap}
use Rattle.std.proofs.Common.{ap₂, ◌∙◌, codes}
use Rattle.std.specs.List.{flat_map, cons_option}
use Rattle.std.specs.Option.{option_to_list}
use Rattle.std.specs.Str.{bytes_eq}
use Rattle.bl_words.specs.declared.commands.Command.{Command}
use Rattle.bl_words.specs.declared.commands.Command.TheVariants.{Solve, Show, Check}
use Rattle.bl_words.specs.declared.commands.Choice.{Choice}
use Rattle.bl_words.specs.declared.commands.Choice.TheVariants.{DefaultUpper, Nodes, FollowerNodes, Cert}
use Rattle.bl_words.specs.Items.{Item, AreFiles, is_same, own_files, texts_of}
use Rattle.bl_command_line.specs.Apps.{id_of}
use Rattle.bl_command_line.proofs.Rows.{Text, Entry, one_if, named, texts_named}
use Rattle.bl_command_line.proofs.Walks.{entries_of, entry_then, values}

-- ---- the values of the options of a name

abbrev is_named : Text → Option Choice → Bool
is_named id None = false
is_named id (Some choice) = bytes_eq (id_of choice) id

abbrev option_texts : Text → List Item → List Text
option_texts id items = flat_map (λ (item : Item). one_if (is_named id item.choice) item.text) items

both-nil : (xs ys : List Text) → xs ++ ys ≡ [] → (xs ≡ []) × (ys ≡ [])
both-nil [] ys e = (refl, e)
both-nil (x ∷ xs) ys e = absurd cc

options-then : (id : Text) (choice : Option Choice) (text : Text) (items : List Item) (files : List Entry)
    → ((files : List Entry) → texts_named id files ≡ []
    → texts_named id (entries_of items files) ≡ option_texts id items)
    → texts_named id files ≡ []
    → texts_named id (entry_then choice text (entries_of items) files)
    ≡ one_if (is_named id choice) text ++ option_texts id items
options-then id (Some choice) text items files more none =
    ap (λ (ts : List Text). one_if (is_named id (Some choice)) text ++ ts) (more files none)
options-then id None text items [] more none = more [] refl
options-then id None text items (file ∷ files) more none =
    let h = both-nil (named id file) (texts_named id files) none in
    ap₂ (λ (a b : List Text). a ++ b) h.0 (more files h.1)

-- of a name that no file has
of-option : (id : Text) (items : List Item) (files : List Entry) → texts_named id files ≡ []
    → texts_named id (entries_of items files) ≡ option_texts id items
of-option id [] files none = none
of-option id (item ∷ items) files none =
    options-then id item.choice item.text items files (of-option id items) none

files-then : (id : Text) (choice : Option Choice) (text : Text) (items : List Item) (files : List Entry)
    → ((files : List Entry) → option_texts id items ≡ []
    → texts_named id (entries_of items files) ≡ texts_named id files)
    → one_if (is_named id choice) text ++ option_texts id items ≡ []
    → texts_named id (entry_then choice text (entries_of items) files) ≡ texts_named id files
files-then id (Some choice) text items files more none =
    let h = both-nil (one_if (is_named id (Some choice)) text) (option_texts id items) none in
    ap₂ (λ (a b : List Text). a ++ b) h.0 (more files h.1)
files-then id None text items [] more none = more [] none
files-then id None text items (file ∷ files) more none =
    ap (λ (ts : List Text). named id file ++ ts) (more files none)

-- of a name that no option has
of-file : (id : Text) (items : List Item) (files : List Entry) → option_texts id items ≡ []
    → texts_named id (entries_of items files) ≡ texts_named id files
of-file id [] files none = refl
of-file id (item ∷ items) files none = files-then id item.choice item.text items files (of-file id items) none

-- ---- the values of each option

-- options differ by their names
same-name : (choice : Choice) (of : Option Choice) → is_named (id_of choice) of ≡ is_same (Some choice) of
same-name DefaultUpper (Some DefaultUpper) = refl
same-name Nodes (Some DefaultUpper) = refl
same-name FollowerNodes (Some DefaultUpper) = refl
same-name Cert (Some DefaultUpper) = refl
same-name _ _ = refl

one-more : (b : Bool) (text : Text) (texts : List Text)
    → one_if b text ++ texts ≡ cons_option (cond b (Some text) None) texts
one-more true text texts = refl
one-more false text texts = refl

option-texts : (choice : Choice) (items : List Item)
    → option_texts (id_of choice) items ≡ texts_of (Some choice) items
option-texts choice [] = refl
option-texts choice (item ∷ items) =
    ap₂ (λ (b : Bool) (ts : List Text). one_if b item.text ++ ts) (same-name choice item.choice)
    (option-texts choice items)
    ∙ one-more (is_same (Some choice) item.choice) item.text (texts_of (Some choice) items)

-- ---- the files

mps-apart : (of : Option Choice) → is_named (codes "mps") of ≡ false
mps-apart (Some DefaultUpper) = refl
mps-apart _ = refl

aux-apart : (of : Option Choice) → is_named (codes "aux") of ≡ false
aux-apart (Some DefaultUpper) = refl
aux-apart _ = refl

no-option : (id : Text) → ((of : Option Choice) → is_named id of ≡ false) → (items : List Item)
    → option_texts id items ≡ []
no-option id apart [] = refl
no-option id apart (item ∷ items) =
    ap₂ (λ (b : Bool) (ts : List Text). one_if b item.text ++ ts) (apart item.choice) (no-option id apart items)

-- the entry of the third file
abbrev pub third : Command → Option Text → List Entry
third Solve cert = []
third Show cert = []
third Check None = []
third Check (Some cert) = (codes "cert", cert) ∷ []

abbrev pub files_of : Command → Text → Text → Option Text → List Entry
files_of command mps aux cert = (codes "mps", mps) ∷ (codes "aux", aux) ∷ third command cert

pub files-values : (command : Command) (mps aux : Text) (cert : Option Text)
    → own_files command mps aux cert ≡ values (files_of command mps aux cert)
files-values Solve mps aux cert = refl
files-values Show mps aux cert = refl
files-values Check mps aux None = refl
files-values Check mps aux (Some cert) = refl

third-apart : (id : Text) → bytes_eq (codes "cert") id ≡ false → (command : Command) (cert : Option Text)
    → texts_named id (third command cert) ≡ []
third-apart id apart Solve cert = refl
third-apart id apart Show cert = refl
third-apart id apart Check None = refl
third-apart id apart Check (Some cert) = ap (λ (b : Bool). one_if b cert ++ []) apart

-- ---- what the entries have

module _ (command : Command) (items : List Item) (mps aux : Text) (cert : Option Text) where
  abbrev pub all : List Entry
  all = entries_of items (files_of command mps aux cert)

  pub mps-texts : texts_named (codes "mps") all ≡ mps ∷ []
  mps-texts =
      of-file (codes "mps") items (files_of command mps aux cert) (no-option (codes "mps") mps-apart items)
      ∙ ap (λ (ts : List Text). mps ∷ ts) (third-apart (codes "mps") refl command cert)

  pub aux-texts : texts_named (codes "aux") all ≡ aux ∷ []
  aux-texts =
      of-file (codes "aux") items (files_of command mps aux cert) (no-option (codes "aux") aux-apart items)
      ∙ ap (λ (ts : List Text). aux ∷ ts) (third-apart (codes "aux") refl command cert)

  -- of an option whose name is no file's
  pub given-texts : (choice : Choice) → bytes_eq (codes "cert") (id_of choice) ≡ false
      → texts_named (id_of choice) all ≡ texts_of (Some choice) items
  given-texts DefaultUpper apart =
      of-option (id_of DefaultUpper) items (files_of command mps aux cert)
      (third-apart (id_of DefaultUpper) apart command cert) ∙ option-texts DefaultUpper items
  given-texts choice apart =
      of-option (id_of choice) items (files_of command mps aux cert) (third-apart (id_of choice) apart command cert)
      ∙ option-texts choice items

third-text : (cert : Option Text) → texts_named (codes "cert") (third Check cert) ≡ option_to_list cert
third-text None = refl
third-text (Some cert) = refl

-- the certificate's file has one entry, by whichever way it is named
pub cert-texts : (command : Command) (items : List Item) (mps aux : Text) (cert : Option Text)
    → AreFiles command items mps aux cert
    → texts_named (codes "cert") (all command items mps aux cert) ≡ option_to_list cert
cert-texts Solve items mps aux cert h =
    of-option (codes "cert") items (files_of Solve mps aux cert) refl ∙ option-texts Cert items ∙ h.values
cert-texts Show items mps aux cert h =
    of-option (codes "cert") items (files_of Show mps aux cert) refl ∙ option-texts Cert items ∙ h.values
    ∙ sym (ap (λ (c : Option Text). option_to_list c) h.has)
cert-texts Check items mps aux cert h =
    of-file (codes "cert") items (files_of Check mps aux cert) (option-texts Cert items ∙ h.values) ∙ third-text cert
