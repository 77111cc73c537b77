-- What clap makes of one word, or of an option and its value, in a command of this shape.
use Rattle.std.proofs.Common.{◌≡◌, ℕ, ◌+◌, min, Bool, true, false, cond, eqb, List, [], ◌∷◌, ◌++◌, Option, Some, None}
use Rattle.std.proofs.Common.{refl, sym, ap, subst, ◌∙◌, not, ◌&&◌, ◌||◌, fold}
use Rattle.std.specs.Prelude.{nat_lt}
use Rattle.std.specs.Option.{option_map_or}
use Rattle.std.specs.Str.{bytes_eq}
use Rattle.std.proofs.lemmas.Slice.Eq.{bytes_eq-Decides}
use Rattle.clap.specs.Lexer.{long_of, short_of, usize_max}
use Rattle.clap.specs.Walk.{Walk, Held, Step, Row, Rule, idle, option, value, walked, settled, to_positional}
use Rattle.clap.specs.Walk.{arg_by_index, arg_by_id, arg_by_long, option_word, long_met, after_flag, after_step}
use Rattle.clap.specs.Walk.{has_row, with_values, without, pushed, used_by_id}
use Rattle.clap.specs.declared.parser.matches.ValueSource.TheVariants.{CommandLine}
use Rattle.clap.specs.declared.builder.action.ArgAction.TheVariants.{Set}
use Rattle.clap.specs.declared.builder.value_parser.Reading.TheVariants.{AsWritten}
use Rattle.clap.specs.declared.builder.value_parser.ValueParser.TheVariants as vp
use Rattle.clap.proofs.OnLiterals.{clap_on_literals}
use Rattle.clap.specs.Takes.{turn_passes, step_passes, walk_passes, settle_passes, use_passes, long_passes}
use Rattle.clap.specs.Takes.{option_passes, positional_passes}
use Rattle.clap.specs.Simple.{Shape, new_rule}
use Rattle.bl_words.specs.declared.commands.Choice.{Choice}
use Rattle.bl_words.specs.declared.commands.Choice.TheVariants.{DefaultUpper}
use Rattle.bl_words.specs.Commands.{word_of, is_plain}
use Rattle.bl_command_line.specs.Apps.{id_of}
use Rattle.bl_command_line.proofs.Rows.{Text, Entry, rows, with, adds-row}

pub and-both : (a b : Bool) → a ≡ true → b ≡ true → (a && b) ≡ true
and-both true b e f = f
and-both false b e f = absurd cc

-- ---- arguments

-- an argument that has one value, as clap builds it
abbrev pub argument : Text → Option Text → Option ℕ → Bool → Rule
argument id long index required = record (new_rule id) {
  long = long;
  index = index;
  action = Some Set;
  range = Some (record { start_inclusive = 1; end_inclusive = 1 });
  parser = Some vp.String;
  required = required;
}

abbrev file_argument : Text → ℕ → Rule
file_argument id position = argument id None (Some position) true

abbrev option_argument : Text → Rule
option_argument id = argument id (Some id) None false

-- the command has this file as its positional of this number
pub record HasFile (s : Shape) (id : Text) (position : ℕ) : Type 0 where
  pub by_id : arg_by_id s.rules id ≡ Some (file_argument id position)
  pub by_index : arg_by_index s.rules position ≡ Some (file_argument id position)

-- the command has this option
pub record HasOption (s : Shape) (id : Text) : Type 0 where
  pub by_id : arg_by_id s.rules id ≡ Some (option_argument id)
  pub by_long : arg_by_long s.rules id ≡ Some (option_argument id)

-- ---- what is held

abbrev held_with : List Row → Held
held_with rs = record { rows = rs; pending = None; skip = 0 }

abbrev pub held_of : List Entry → Held
held_of entries = held_with (rows entries)

-- an argument with its value waits to be settled
abbrev pub pending_of : List Entry → Text → Text → Held
pending_of entries id text = record { rows = rows entries; pending = Some (id, text ∷ []); skip = 0 }

-- an option waits for its value
abbrev opened : Text → Held → Held
opened id held = record held { pending = Some (id, []) }

-- an argument is used with its value
abbrev use_row : Text → Text → List Row → List Row
use_row id text rs = with_values id AsWritten CommandLine (text ∷ []) (without id rs)

abbrev used_in : Text → Text → Held → Held
used_in id text held = record held { rows = use_row id text held.rows; pending = None }

first-passes : (has again : Bool) → has ≡ false → ((not has || again) && true) ≡ true
first-passes true again none = absurd cc
first-passes false again none = refl

-- ---- walks

-- a walk that no option and no `--` holds up
abbrev pub idle_at : Held → ℕ → Walk
idle_at held position = record {
  held = held;
  waiting = idle;
  position = position;
  is_trailing = false;
  stopped = None;
}

-- a walk in which an option waits for its value
abbrev waiting_at : Held → ℕ → Text → Walk
waiting_at held position id = record (idle_at held position) { waiting = option id }

-- ---- words

not-false : (b : Bool) → not b ≡ true → b ≡ false
not-false true e = absurd cc
not-false false e = refl

and-false : (b : Bool) → (b && false) ≡ false
and-false true = refl
and-false false = refl

or-right : (a b : Bool) → b ≡ true → (a || b) ≡ true
or-right true b e = refl
or-right false b e = e

-- a word that isn't an option's
not_dashes : (b : ℕ) (bs : Text) → eqb b 45 ≡ false → bytes_eq (b ∷ bs) (45 ∷ 45 ∷ []) ≡ false
not_dashes b bs h = rw h refl

not_long : (b : ℕ) (bs : Text) → eqb b 45 ≡ false → long_of (b ∷ bs) ≡ None
not_long b bs h = rw h refl

not_short : (b : ℕ) (bs : Text) → eqb b 45 ≡ false → short_of (b ∷ bs) ≡ None
not_short b bs h = rw h refl

-- an option's word, with the value where it is joined
record IsLong (word id : Text) (joined : Option Text) : Type 0 where
  dashes : bytes_eq word (45 ∷ 45 ∷ []) ≡ false
  long : long_of word ≡ Some (id, joined)

apart-is_long : (choice : Choice) → IsLong (word_of choice) (id_of choice) None
unfolding clap_on_literals
apart-is_long DefaultUpper = record { dashes = refl; long = refl }
apart-is_long _ = record { dashes = refl; long = refl }

joined-is_long : (choice : Choice) (text : Text) → IsLong (word_of choice ++ 61 ∷ text) (id_of choice) (Some text)
unfolding clap_on_literals
joined-is_long DefaultUpper text = record { dashes = refl; long = refl }
joined-is_long _ text = record { dashes = refl; long = refl }

module _ (s : Shape) where
  -- what is held comes to these entries, and clap takes it
  pub record Stands (held : Held) (entries : List Entry) : Type 0 where
    pub settles : settled s.rules held ≡ held_of entries
    pub passes : settle_passes s.rules s.args_override_self held ≡ true

  pub held-stands : (entries : List Entry) → Stands (held_of entries) entries
  held-stands entries = record { settles = refl; passes = refl }

  pub pending-stands : (entries : List Entry) (id text : Text) (long : Option Text) (index : Option ℕ) (required : Bool)
      → arg_by_id s.rules id ≡ Some (argument id long index required) → has_row id (rows entries) ≡ false
      → Stands (pending_of entries id text) (with entries id text)
  pending-stands entries id text long index required found none = record {
    settles = ap (λ (a : Option Rule). held_with (used_by_id a (text ∷ []) (rows entries))) found
        ∙ ap held_with (adds-row id text entries none);
    passes = ap (λ (a : Option Rule). option_map_or
        (λ (a : Rule). use_passes s.args_override_self a (text ∷ []) (rows entries)) a true) found
        ∙ first-passes _ _ none;
  }

  -- the walk over the words ends so, and clap takes each of them
  pub record Walks (from : Walk) (words : List Text) (end : Walk) : Type 0 where
    pub ends : fold (walked s.rules []) from words ≡ end
    pub passes : walk_passes s [] from words ≡ true

  pub walks-none : (from : Walk) → Walks from [] from
  unfolding walk_passes
  walks-none from = record { ends = refl; passes = refl }

  walks-word : (from after : Walk) (word : Text) (words : List Text) (end : Walk)
      → walked s.rules [] from word ≡ after → turn_passes s [] from word ≡ true → Walks after words end
      → Walks from (word ∷ words) end
  unfolding walk_passes
  walks-word from after word words end e p more = record {
    ends = ap (λ (w : Walk). fold (walked s.rules []) w words) e ∙ more.ends;
    passes = and-both _ _ p (ap (λ (w : Walk). walk_passes s [] w words) e ∙ more.passes);
  }

  -- ---- files

  file-walked : (held : Held) (position b : ℕ) (bs : Text) → eqb b 45 ≡ false
      → walked s.rules [] (idle_at held position) (b ∷ bs)
      ≡ to_positional s.rules (arg_by_index s.rules position) (b ∷ bs) (idle_at held position) held
  unfolding walked
  file-walked held position b bs h = rw (not_dashes b bs h, not_long b bs h, not_short b bs h) refl

  file-passes : (held : Held) (position b : ℕ) (bs : Text) → eqb b 45 ≡ false
      → turn_passes s [] (idle_at held position) (b ∷ bs) ≡ step_passes s position held value
  file-passes held position b bs h = rw (not_dashes b bs h, not_long b bs h, not_short b bs h) refl

  filed : (id : Text) (position : ℕ) (text : Text) (held : Held) (entries : List Entry) → HasFile s id position
      → Stands held entries
      → to_positional s.rules (arg_by_index s.rules position) text (idle_at held position) held
      ≡ idle_at (pending_of entries id text) (min (position + 1) usize_max)
  filed id position text held entries has stands =
      ap (λ (a : Option Rule). to_positional s.rules a text (idle_at held position) held) has.by_index
      ∙ ap (λ (again : Bool). idle_at (pushed id text (cond again held (settled s.rules held)))
      (min (position + 1) usize_max)) (and-false _)
      ∙ ap (λ (h : Held). idle_at (pushed id text h) (min (position + 1) usize_max)) stands.settles

  filing-passes : (id : Text) (position : ℕ) (held : Held) (entries : List Entry) → HasFile s id position
      → Stands held entries → step_passes s position held value ≡ true
  filing-passes id position held entries has stands =
      ap (λ (a : Option Rule). option_map_or
      (λ (a : Rule). positional_passes s.rules s.args_override_self a held) a false) has.by_index
      ∙ or-right _ _ stands.passes

  -- a word is the file of the next positional
  pub walks-file : (held : Held) (entries : List Entry) (id text : Text) (position : ℕ) (words : List Text) (end : Walk)
      → HasFile s id position → is_plain text ≡ true → Stands held entries
      → Walks (idle_at (pending_of entries id text) (min (position + 1) usize_max)) words end
      → Walks (idle_at held position) (text ∷ words) end
  walks-file held entries id [] position words end has h stands more = absurd cc
  walks-file held entries id (b ∷ bs) position words end has h stands more =
      let plain = not-false (eqb b 45) h in
      walks-word _ _ (b ∷ bs) words end
      (file-walked held position b bs plain ∙ filed id position (b ∷ bs) held entries has stands)
      (file-passes held position b bs plain ∙ filing-passes id position held entries has stands) more

  -- ---- values of options

  -- after a value's word
  abbrev valued : Held → ℕ → Text → Text → Option Rule → Walk
  valued held position id text a = record (idle_at held position) {
    held = (option_word a id text held).0;
    waiting = (option_word a id text held).1;
  }

  value-walked : (held : Held) (position : ℕ) (id : Text) (b : ℕ) (bs : Text) → eqb b 45 ≡ false
      → walked s.rules [] (waiting_at held position id) (b ∷ bs)
      ≡ valued held position id (b ∷ bs) (arg_by_id s.rules id)
  unfolding walked
  value-walked held position id b bs h = rw (not_dashes b bs h, not_long b bs h, not_short b bs h) refl

  value-passes : (held : Held) (position : ℕ) (id : Text) (b : ℕ) (bs : Text) → eqb b 45 ≡ false
      → turn_passes s [] (waiting_at held position id) (b ∷ bs) ≡ true
  value-passes held position id b bs h = rw (not_dashes b bs h, not_long b bs h, not_short b bs h) refl

  value-taken : (entries : List Entry) (position : ℕ) (id text : Text)
      → valued (opened id (held_of entries)) position id text (Some (option_argument id))
      ≡ idle_at (pending_of entries id text) position
  value-taken entries position id text =
      ap (λ (b : Bool). record (idle_at (pending_of entries id text) position) {
        waiting = cond (nat_lt (cond b 1 0) 1) (option id) idle;
      }) ((bytes_eq-Decides id id).1 refl)

  walks-value : (entries : List Entry) (id text : Text) (position : ℕ) (words : List Text) (end : Walk)
      → HasOption s id → is_plain text ≡ true → Walks (idle_at (pending_of entries id text) position) words end
      → Walks (waiting_at (opened id (held_of entries)) position id) (text ∷ words) end
  walks-value entries id [] position words end has h more = absurd cc
  walks-value entries id (b ∷ bs) position words end has h more =
      let plain = not-false (eqb b 45) h in
      walks-word _ _ (b ∷ bs) words end
      (value-walked (opened id (held_of entries)) position id b bs plain
      ∙ ap (valued (opened id (held_of entries)) position id (b ∷ bs)) has.by_id
      ∙ value-taken entries position id (b ∷ bs))
      (value-passes (opened id (held_of entries)) position id b bs plain) more

  -- ---- options

  abbrev long_turn : Held → Text → Option Text → Option Rule → Held × Step
  long_turn held word joined a =
      after_flag s.rules idle word (long_met s.rules a joined held).0 (long_met s.rules a joined held).1

  -- after an option's word
  abbrev after_long : Held → ℕ → Text → Option Text → Option Rule → Walk
  after_long held position word joined a =
      after_step s.rules word (idle_at held position) (long_turn held word joined a).0 (long_turn held word joined a).1

  long-walked : (held : Held) (position : ℕ) (word id : Text) (joined : Option Text) → IsLong word id joined
      → walked s.rules [] (idle_at held position) word
      ≡ after_long held position word joined (arg_by_long s.rules id)
  unfolding walked
  long-walked held position word id joined is = rw (is.dashes, is.long) refl

  abbrev long_turn_passes : Held → ℕ → Text → Option Text → Option Rule → Bool
  long_turn_passes held position word joined a =
      long_passes s.rules s.args_override_self a joined held
      && step_passes s position (long_turn held word joined a).0 (long_turn held word joined a).1

  long-passes : (held : Held) (position : ℕ) (word id : Text) (joined : Option Text) → IsLong word id joined
      → turn_passes s [] (idle_at held position) word
      ≡ long_turn_passes held position word joined (arg_by_long s.rules id)
  long-passes held position word id joined is = rw (is.dashes, is.long) refl

  option-is_step : (held : Held) (position : ℕ) (word id : Text) (joined : Option Text)
      → step_passes s position (long_turn held word joined (Some (option_argument id))).0
      (long_turn held word joined (Some (option_argument id))).1 ≡ true
  option-is_step held position word id None = refl
  option-is_step held position word id (Some text) = refl

  walks-long : (held : Held) (position : ℕ) (word id : Text) (joined : Option Text) (words : List Text) (end : Walk)
      → IsLong word id joined → HasOption s id
      → option_passes s.rules s.args_override_self (option_argument id) joined held ≡ true
      → Walks (after_long held position word joined (Some (option_argument id))) words end
      → Walks (idle_at held position) (word ∷ words) end
  walks-long held position word id joined words end is has passes more =
      walks-word _ _ word words end
      (long-walked held position word id joined is ∙ ap (after_long held position word joined) has.by_long)
      (long-passes held position word id joined is ∙ ap (long_turn_passes held position word joined) has.by_long
      ∙ and-both _ _ passes (option-is_step held position word id joined)) more

  -- an option and its value, as two words
  pub walks-apart : (choice : Choice) (held : Held) (entries : List Entry) (text : Text) (position : ℕ)
      (words : List Text) (end : Walk) → HasOption s (id_of choice) → is_plain text ≡ true → Stands held entries
      → Walks (idle_at (pending_of entries (id_of choice) text) position) words end
      → Walks (idle_at held position) (word_of choice ∷ text ∷ words) end
  walks-apart choice held entries text position words end has h stands more =
      let id = id_of choice in
      walks-long held position (word_of choice) id None (text ∷ words) end (apart-is_long choice) has stands.passes
      (subst (λ (x : Held). Walks (waiting_at (opened id x) position id) (text ∷ words) end) (sym stands.settles)
      (walks-value entries id text position words end has h more))

  -- and joined in one
  pub walks-joined : (choice : Choice) (held : Held) (entries : List Entry) (text : Text) (position : ℕ)
      (words : List Text) (end : Walk) → HasOption s (id_of choice) → has_row (id_of choice) (rows entries) ≡ false
      → Stands held entries → Walks (idle_at (held_of (with entries (id_of choice) text)) position) words end
      → Walks (idle_at held position) ((word_of choice ++ 61 ∷ text) ∷ words) end
  walks-joined choice held entries text position words end has none stands more =
      let id = id_of choice in
      walks-long held position (word_of choice ++ 61 ∷ text) id (Some text) words end (joined-is_long choice text) has
      (and-both _ _ stands.passes
      (first-passes _ _ (ap (λ (x : Held). has_row id x.rows) stands.settles ∙ none)))
      (subst (λ (x : Held). Walks (idle_at (used_in id text x) position) words end) (sym stands.settles)
      (subst (λ (rs : List Row). Walks (idle_at (held_with rs) position) words end)
      (sym (adds-row id text entries none)) more))
