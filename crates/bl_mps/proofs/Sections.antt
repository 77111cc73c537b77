-- The sections that have begun, and the leader's sense.
use Rattle.std.proofs.Common.{◌≡◌, ℕ, suc, ◌+◌, ◌<◌, ◌≤◌, Bool, true, false, cond, not, ◌||◌, ◌&&◌, eqb, ltb, List, []}
use Rattle.std.proofs.Common.{◌∷◌, ◌++◌, length, take, drop, Option, Some, None, is_some, is_none, Result, Ok, Err}
use Rattle.std.proofs.Common.{refl, sym, ap, subst, ◌∙◌, arith}
use Rattle.std.specs.Prelude.{unwrap_or}
use Rattle.std.specs.Option.{ok_or}
use Rattle.std.specs.List.{list_any}
use Rattle.std.proofs.lemmas.Bool.{false≢true, eqb-true, ltb-true}
use Rattle.std.proofs.lemmas.List.{append-nil, length_push}
use Rattle.std.proofs.lemmas.List.Folds.{list_any-append}
use Rattle.bl_mps_terms.specs.declared.fault.MpsRule.{MpsRule}
use Rattle.bl_mps_terms.specs.declared.fault.MpsRule.TheVariants as rules
use Rattle.bl_mps_terms.specs.declared.words.Section.{Section}
use Rattle.bl_mps_terms.specs.declared.words.Section.TheVariants.{Name, ObjSense, Rows, Columns, RightSides, Ranges}
use Rattle.bl_mps_terms.specs.declared.words.Section.TheVariants.{Bounds, End}
use Rattle.bl_mps_terms.specs.Words.{Bytes, maximises}
use Rattle.bl_mps_terms.specs.Parts.{field, is_same, is_in, has}
use Rattle.bl_mps_terms.specs.Rules.{first_of, unless}
use Rattle.bl_mps_terms.specs.Lines.{sense_fault}
use Rattle.bl_mps_terms.specs.Faults.{may_begin, has_good_sense}
use Rattle.bl_mps_terms.specs.Meaning.{is_maximum}
use Rattle.bl_mps_read.specs.declared.sections.Sections.{Sections}
use Rattle.bl_mps_read.specs.Fields.{only_in}
use Rattle.bl_mps_read.specs.Reader.{heading_sense, sense_behind, sense_read}
use Rattle.bl_mps_read.specs.Sections.{next_may_be, with_section}
use Rattle.bl_mps_read.specs.Stops.{◌>>=◌}
use Rattle.bl_mps.proofs.Agrees.{Read, Agrees, agrees_ok, agrees_then, agrees_last, agrees_unless, agrees_more}
use Rattle.bl_mps.proofs.Names.{bool_false}

-- ---- which sections have begun

pub record SectionsHold (sections : List Section) (present : Option Section) (kept : Sections) : Type 0 where
  pub is_present : kept.present ≡ present
  pub any : is_none kept.present ≡ eqb (length sections) 0
  pub sense : kept.sense ≡ has ObjSense sections
  pub rows : kept.rows ≡ has Rows sections
  pub columns : kept.columns ≡ has Columns sections
  pub right_sides : kept.right_sides ≡ has RightSides sections
  pub ranges : kept.ranges ≡ has Ranges sections
  pub bounds : kept.bounds ≡ has Bounds sections

pub sections_none : SectionsHold [] None
    (record {
      present = None;
      sense = false;
      rows = false;
      columns = false;
      right_sides = false;
      ranges = false;
      bounds = false;
    })
sections_none = record {
  is_present = refl;
  any = refl;
  sense = refl;
  rows = refl;
  columns = refl;
  right_sides = refl;
  ranges = refl;
  bounds = refl;
}

-- a section may begin exactly where the ones that were seen let it
pub may_same : (sections : List Section) (present : Option Section) (kept : Sections)
    → SectionsHold sections present kept → (section : Section) → next_may_be kept section ≡ may_begin sections section
may_same sections present kept h Name = h.any
may_same sections present kept h ObjSense = rw (h.sense, h.rows) refl
may_same sections present kept h Rows = rw (h.rows) refl
may_same sections present kept h Columns = rw (h.rows, h.columns) refl
may_same sections present kept h RightSides = rw (h.columns, h.right_sides) refl
may_same sections present kept h Ranges = rw (h.columns, h.ranges) refl
may_same sections present kept h Bounds = rw (h.columns, h.bounds) refl
may_same sections present kept h End = h.columns

or_nothing : (a : Bool) → (a || (false || false)) ≡ a
or_nothing true = refl
or_nothing false = refl

or_all : (a : Bool) → (a || (true || false)) ≡ true
or_all true = refl
or_all false = refl

pub has-push : (other section : Section) (sections : List Section)
    → has other (sections ++ section ∷ []) ≡ (has other sections || (is_same other section || false))
has-push other section sections = list_any-append (is_same other) sections (section ∷ [])

pub has_kept : (other section : Section) (sections : List Section) → is_same other section ≡ false
    → has other (sections ++ section ∷ []) ≡ has other sections
has_kept other section sections e = has-push other section sections ∙ rw e (or_nothing (has other sections))

pub has_new : (other section : Section) (sections : List Section) → is_same other section ≡ true
    → has other (sections ++ section ∷ []) ≡ true
has_new other section sections e = has-push other section sections ∙ rw e (or_all (has other sections))

not_empty : (sections : List Section) (section : Section) → eqb (length (sections ++ section ∷ [])) 0 ≡ false
not_empty sections section = bool_false _ (λ e. omega (arith, eqb-true _ _ e, length_push sections section))

pub section_more : (sections : List Section) (present : Option Section) (kept : Sections)
    → SectionsHold sections present kept → (section : Section)
    → SectionsHold (sections ++ section ∷ []) (Some section) (with_section kept section)
section_more sections present kept h Name = record {
  is_present = refl;
  any = sym (not_empty sections Name);
  sense = h.sense ∙ sym (has_kept ObjSense Name sections refl);
  rows = h.rows ∙ sym (has_kept Rows Name sections refl);
  columns = h.columns ∙ sym (has_kept Columns Name sections refl);
  right_sides = h.right_sides ∙ sym (has_kept RightSides Name sections refl);
  ranges = h.ranges ∙ sym (has_kept Ranges Name sections refl);
  bounds = h.bounds ∙ sym (has_kept Bounds Name sections refl);
}
section_more sections present kept h ObjSense = record {
  is_present = refl;
  any = sym (not_empty sections ObjSense);
  sense = sym (has_new ObjSense ObjSense sections refl);
  rows = h.rows ∙ sym (has_kept Rows ObjSense sections refl);
  columns = h.columns ∙ sym (has_kept Columns ObjSense sections refl);
  right_sides = h.right_sides ∙ sym (has_kept RightSides ObjSense sections refl);
  ranges = h.ranges ∙ sym (has_kept Ranges ObjSense sections refl);
  bounds = h.bounds ∙ sym (has_kept Bounds ObjSense sections refl);
}
section_more sections present kept h Rows = record {
  is_present = refl;
  any = sym (not_empty sections Rows);
  sense = h.sense ∙ sym (has_kept ObjSense Rows sections refl);
  rows = sym (has_new Rows Rows sections refl);
  columns = h.columns ∙ sym (has_kept Columns Rows sections refl);
  right_sides = h.right_sides ∙ sym (has_kept RightSides Rows sections refl);
  ranges = h.ranges ∙ sym (has_kept Ranges Rows sections refl);
  bounds = h.bounds ∙ sym (has_kept Bounds Rows sections refl);
}
section_more sections present kept h Columns = record {
  is_present = refl;
  any = sym (not_empty sections Columns);
  sense = h.sense ∙ sym (has_kept ObjSense Columns sections refl);
  rows = h.rows ∙ sym (has_kept Rows Columns sections refl);
  columns = sym (has_new Columns Columns sections refl);
  right_sides = h.right_sides ∙ sym (has_kept RightSides Columns sections refl);
  ranges = h.ranges ∙ sym (has_kept Ranges Columns sections refl);
  bounds = h.bounds ∙ sym (has_kept Bounds Columns sections refl);
}
section_more sections present kept h RightSides = record {
  is_present = refl;
  any = sym (not_empty sections RightSides);
  sense = h.sense ∙ sym (has_kept ObjSense RightSides sections refl);
  rows = h.rows ∙ sym (has_kept Rows RightSides sections refl);
  columns = h.columns ∙ sym (has_kept Columns RightSides sections refl);
  right_sides = sym (has_new RightSides RightSides sections refl);
  ranges = h.ranges ∙ sym (has_kept Ranges RightSides sections refl);
  bounds = h.bounds ∙ sym (has_kept Bounds RightSides sections refl);
}
section_more sections present kept h Ranges = record {
  is_present = refl;
  any = sym (not_empty sections Ranges);
  sense = h.sense ∙ sym (has_kept ObjSense Ranges sections refl);
  rows = h.rows ∙ sym (has_kept Rows Ranges sections refl);
  columns = h.columns ∙ sym (has_kept Columns Ranges sections refl);
  right_sides = h.right_sides ∙ sym (has_kept RightSides Ranges sections refl);
  ranges = sym (has_new Ranges Ranges sections refl);
  bounds = h.bounds ∙ sym (has_kept Bounds Ranges sections refl);
}
section_more sections present kept h Bounds = record {
  is_present = refl;
  any = sym (not_empty sections Bounds);
  sense = h.sense ∙ sym (has_kept ObjSense Bounds sections refl);
  rows = h.rows ∙ sym (has_kept Rows Bounds sections refl);
  columns = h.columns ∙ sym (has_kept Columns Bounds sections refl);
  right_sides = h.right_sides ∙ sym (has_kept RightSides Bounds sections refl);
  ranges = h.ranges ∙ sym (has_kept Ranges Bounds sections refl);
  bounds = sym (has_new Bounds Bounds sections refl);
}
section_more sections present kept h End = record {
  is_present = refl;
  any = sym (not_empty sections End);
  sense = h.sense ∙ sym (has_kept ObjSense End sections refl);
  rows = h.rows ∙ sym (has_kept Rows End sections refl);
  columns = h.columns ∙ sym (has_kept Columns End sections refl);
  right_sides = h.right_sides ∙ sym (has_kept RightSides End sections refl);
  ranges = h.ranges ∙ sym (has_kept Ranges End sections refl);
  bounds = h.bounds ∙ sym (has_kept Bounds End sections refl);
}

-- ---- the order of sections

pub record IsOrdered (sections : List Section) (present : Option Section) (senses : List Bytes)
    (columns right_sides ranges bounds : List (List Bytes)) : Type 0 where
  pub no_columns : has Columns sections ≡ false → columns ≡ []
  pub no_right_sides : has Columns sections ≡ false → right_sides ≡ []
  pub no_ranges : has Columns sections ≡ false → ranges ≡ []
  pub no_bounds : has Columns sections ≡ false → bounds ≡ []
  pub no_senses : has ObjSense sections ≡ false → senses ≡ []
  pub needs_rows : has Rows sections ≡ false → has Columns sections ≡ false
  pub in_senses : present ≡ Some ObjSense → has ObjSense sections ≡ true
  pub in_rows : present ≡ Some Rows → has Columns sections ≡ false
  pub in_columns : present ≡ Some Columns → (has Columns sections ≡ true) × (bounds ≡ [])
  pub in_right_sides : present ≡ Some RightSides → has Columns sections ≡ true
  pub in_ranges : present ≡ Some Ranges → has Columns sections ≡ true
  pub in_bounds : present ≡ Some Bounds → has Columns sections ≡ true

pub ordered_none : IsOrdered [] None [] [] [] [] []
ordered_none = record {
  no_columns = λ e. refl;
  no_right_sides = λ e. refl;
  no_ranges = λ e. refl;
  no_bounds = λ e. refl;
  no_senses = λ e. refl;
  needs_rows = λ e. refl;
  in_senses = λ e. absurd cc;
  in_rows = λ e. absurd cc;
  in_columns = λ e. absurd cc;
  in_right_sides = λ e. absurd cc;
  in_ranges = λ e. absurd cc;
  in_bounds = λ e. absurd cc;
}

and_left : (a b : Bool) → (a && b) ≡ true → a ≡ true
and_left true b e = refl
and_left false b e = absurd (false≢true e)

and_right : (a b : Bool) → (a && b) ≡ true → b ≡ true
and_right true b e = e
and_right false b e = absurd (false≢true e)

not_true : (a : Bool) → not a ≡ true → a ≡ false
not_true true e = absurd (false≢true e)
not_true false e = refl

-- the word of a section line
abbrev pub heading_senses : Section → List Bytes → List Bytes
heading_senses section line = cond (is_in ObjSense (Some section)) (take 1 (drop 1 line)) []

module _ (sections : List Section) (present : Option Section) (senses : List Bytes)
    (columns right_sides ranges bounds : List (List Bytes))
    (h : IsOrdered sections present senses columns right_sides ranges bounds) where
  pub ordered_more : (section : Section) (line : List Bytes) → may_begin sections section ≡ true
      → IsOrdered (sections ++ section ∷ []) (Some section)
      (senses ++ heading_senses section line) columns right_sides ranges bounds
  ordered_more Name line may = record {
    no_columns = λ e. h.no_columns (sym (has_kept Columns Name sections refl) ∙ e);
    no_right_sides = λ e. h.no_right_sides (sym (has_kept Columns Name sections refl) ∙ e);
    no_ranges = λ e. h.no_ranges (sym (has_kept Columns Name sections refl) ∙ e);
    no_bounds = λ e. h.no_bounds (sym (has_kept Columns Name sections refl) ∙ e);
    no_senses = λ e. append-nil senses ∙ h.no_senses (sym (has_kept ObjSense Name sections refl) ∙ e);
    needs_rows = λ e. has_kept Columns Name sections refl ∙ h.needs_rows (sym (has_kept Rows Name sections refl) ∙ e);
    in_senses = λ e. absurd cc;
    in_rows = λ e. absurd cc;
    in_columns = λ e. absurd cc;
    in_right_sides = λ e. absurd cc;
    in_ranges = λ e. absurd cc;
    in_bounds = λ e. absurd cc;
  }
  ordered_more ObjSense line may = record {
    no_columns = λ e. h.no_columns (sym (has_kept Columns ObjSense sections refl) ∙ e);
    no_right_sides = λ e. h.no_right_sides (sym (has_kept Columns ObjSense sections refl) ∙ e);
    no_ranges = λ e. h.no_ranges (sym (has_kept Columns ObjSense sections refl) ∙ e);
    no_bounds = λ e. h.no_bounds (sym (has_kept Columns ObjSense sections refl) ∙ e);
    no_senses = λ e. absurd (false≢true (sym e ∙ has_new ObjSense ObjSense sections refl));
    needs_rows = λ e. has_kept Columns ObjSense sections refl
        ∙ h.needs_rows (sym (has_kept Rows ObjSense sections refl) ∙ e);
    in_senses = λ e. has_new ObjSense ObjSense sections refl;
    in_rows = λ e. absurd cc;
    in_columns = λ e. absurd cc;
    in_right_sides = λ e. absurd cc;
    in_ranges = λ e. absurd cc;
    in_bounds = λ e. absurd cc;
  }
  ordered_more Rows line may = record {
    no_columns = λ e. h.no_columns (sym (has_kept Columns Rows sections refl) ∙ e);
    no_right_sides = λ e. h.no_right_sides (sym (has_kept Columns Rows sections refl) ∙ e);
    no_ranges = λ e. h.no_ranges (sym (has_kept Columns Rows sections refl) ∙ e);
    no_bounds = λ e. h.no_bounds (sym (has_kept Columns Rows sections refl) ∙ e);
    no_senses = λ e. append-nil senses ∙ h.no_senses (sym (has_kept ObjSense Rows sections refl) ∙ e);
    needs_rows = λ e. absurd (false≢true (sym e ∙ has_new Rows Rows sections refl));
    in_senses = λ e. absurd cc;
    in_rows = λ e. has_kept Columns Rows sections refl ∙ h.needs_rows (not_true (has Rows sections) may);
    in_columns = λ e. absurd cc;
    in_right_sides = λ e. absurd cc;
    in_ranges = λ e. absurd cc;
    in_bounds = λ e. absurd cc;
  }
  ordered_more Columns line may = record {
    no_columns = λ e. absurd (false≢true (sym e ∙ has_new Columns Columns sections refl));
    no_right_sides = λ e. absurd (false≢true (sym e ∙ has_new Columns Columns sections refl));
    no_ranges = λ e. absurd (false≢true (sym e ∙ has_new Columns Columns sections refl));
    no_bounds = λ e. absurd (false≢true (sym e ∙ has_new Columns Columns sections refl));
    no_senses = λ e. append-nil senses ∙ h.no_senses (sym (has_kept ObjSense Columns sections refl) ∙ e);
    needs_rows = λ e. absurd
        (false≢true (sym (sym (has_kept Rows Columns sections refl) ∙ e)
        ∙ and_left (has Rows sections) (not (has Columns sections)) may));
    in_senses = λ e. absurd cc;
    in_rows = λ e. absurd cc;
    in_columns = λ e. (
      has_new Columns Columns sections refl,
      h.no_bounds (not_true (has Columns sections) (and_right (has Rows sections) (not (has Columns sections)) may)),
    );
    in_right_sides = λ e. absurd cc;
    in_ranges = λ e. absurd cc;
    in_bounds = λ e. absurd cc;
  }
  ordered_more RightSides line may = record {
    no_columns = λ e. h.no_columns (sym (has_kept Columns RightSides sections refl) ∙ e);
    no_right_sides = λ e. h.no_right_sides (sym (has_kept Columns RightSides sections refl) ∙ e);
    no_ranges = λ e. h.no_ranges (sym (has_kept Columns RightSides sections refl) ∙ e);
    no_bounds = λ e. h.no_bounds (sym (has_kept Columns RightSides sections refl) ∙ e);
    no_senses = λ e. append-nil senses ∙ h.no_senses (sym (has_kept ObjSense RightSides sections refl) ∙ e);
    needs_rows = λ e. has_kept Columns RightSides sections refl
        ∙ h.needs_rows (sym (has_kept Rows RightSides sections refl) ∙ e);
    in_senses = λ e. absurd cc;
    in_rows = λ e. absurd cc;
    in_columns = λ e. absurd cc;
    in_right_sides = λ e. has_kept Columns RightSides sections refl
        ∙ and_left (has Columns sections) (not (has RightSides sections)) may;
    in_ranges = λ e. absurd cc;
    in_bounds = λ e. absurd cc;
  }
  ordered_more Ranges line may = record {
    no_columns = λ e. h.no_columns (sym (has_kept Columns Ranges sections refl) ∙ e);
    no_right_sides = λ e. h.no_right_sides (sym (has_kept Columns Ranges sections refl) ∙ e);
    no_ranges = λ e. h.no_ranges (sym (has_kept Columns Ranges sections refl) ∙ e);
    no_bounds = λ e. h.no_bounds (sym (has_kept Columns Ranges sections refl) ∙ e);
    no_senses = λ e. append-nil senses ∙ h.no_senses (sym (has_kept ObjSense Ranges sections refl) ∙ e);
    needs_rows = λ e. has_kept Columns Ranges sections refl
        ∙ h.needs_rows (sym (has_kept Rows Ranges sections refl) ∙ e);
    in_senses = λ e. absurd cc;
    in_rows = λ e. absurd cc;
    in_columns = λ e. absurd cc;
    in_right_sides = λ e. absurd cc;
    in_ranges = λ e. has_kept Columns Ranges sections refl
        ∙ and_left (has Columns sections) (not (has Ranges sections)) may;
    in_bounds = λ e. absurd cc;
  }
  ordered_more Bounds line may = record {
    no_columns = λ e. h.no_columns (sym (has_kept Columns Bounds sections refl) ∙ e);
    no_right_sides = λ e. h.no_right_sides (sym (has_kept Columns Bounds sections refl) ∙ e);
    no_ranges = λ e. h.no_ranges (sym (has_kept Columns Bounds sections refl) ∙ e);
    no_bounds = λ e. h.no_bounds (sym (has_kept Columns Bounds sections refl) ∙ e);
    no_senses = λ e. append-nil senses ∙ h.no_senses (sym (has_kept ObjSense Bounds sections refl) ∙ e);
    needs_rows = λ e. has_kept Columns Bounds sections refl
        ∙ h.needs_rows (sym (has_kept Rows Bounds sections refl) ∙ e);
    in_senses = λ e. absurd cc;
    in_rows = λ e. absurd cc;
    in_columns = λ e. absurd cc;
    in_right_sides = λ e. absurd cc;
    in_ranges = λ e. absurd cc;
    in_bounds = λ e. has_kept Columns Bounds sections refl
        ∙ and_left (has Columns sections) (not (has Bounds sections)) may;
  }
  ordered_more End line may = record {
    no_columns = λ e. h.no_columns (sym (has_kept Columns End sections refl) ∙ e);
    no_right_sides = λ e. h.no_right_sides (sym (has_kept Columns End sections refl) ∙ e);
    no_ranges = λ e. h.no_ranges (sym (has_kept Columns End sections refl) ∙ e);
    no_bounds = λ e. h.no_bounds (sym (has_kept Columns End sections refl) ∙ e);
    no_senses = λ e. append-nil senses ∙ h.no_senses (sym (has_kept ObjSense End sections refl) ∙ e);
    needs_rows = λ e. has_kept Columns End sections refl ∙ h.needs_rows (sym (has_kept Rows End sections refl) ∙ e);
    in_senses = λ e. absurd cc;
    in_rows = λ e. absurd cc;
    in_columns = λ e. absurd cc;
    in_right_sides = λ e. absurd cc;
    in_ranges = λ e. absurd cc;
    in_bounds = λ e. absurd cc;
  }

-- ---- the leader's sense

pub record SenseHolds (senses : List Bytes) (sense : Option Bool) : Type 0 where
  pub none : is_none sense ≡ eqb (length senses) 0
  pub maximum : unwrap_or sense false ≡ list_any is_maximum senses

pub sense_none : SenseHolds [] None
sense_none = record { none = refl; maximum = refl }

or_false : (a : Bool) → (a || false) ≡ a
or_false true = refl
or_false false = refl

sense_one : (word : Bytes) (sense : Bool) → maximises word ≡ Some sense → SenseHolds (word ∷ []) (Some sense)
sense_one word sense e =
    record { none = refl; maximum = sym (or_false (is_maximum word) ∙ ap (λ (o : Option Bool). unwrap_or o false) e) }

word_read : (word : Bytes) (o : Option Bool) → maximises word ≡ o
    → Agrees (unless (is_some o) rules.BadObjSense) (ok_or o rules.BadObjSense >>= λ sense. Ok (Some sense))
    (SenseHolds (word ∷ []))
word_read word None e = refl
word_read word (Some sense) e = record { value = Some sense; is = refl; holds = sense_one word sense e }

not_short : (n : ℕ) → ltb (suc (suc n)) 2 ≡ false
not_short n = bool_false _ (λ e. omega (arith, ltb-true _ _ e))

-- the sense of a section line of OBJSENSE
sense_of_heading : (name : Bytes) (rest : List Bytes)
    → Agrees (unless (has_good_sense ObjSense (name ∷ rest)) rules.BadObjSense) (heading_sense rest)
    (SenseHolds (take 1 rest))
sense_of_heading name [] = record { value = None; is = refl; holds = sense_none }
sense_of_heading name (word ∷ more) = rw (not_short (length more)) (word_read word (maximises word) refl)

-- the sense behind a section line
pub sense_heading : (sections : List Section) (senses : List Bytes) (sense : Option Bool) → SenseHolds senses sense
    → (has ObjSense sections ≡ false → senses ≡ []) → (section : Section) (name : Bytes) (rest : List Bytes)
    → may_begin sections section ≡ true
    → Agrees (unless (has_good_sense section (name ∷ rest)) rules.BadObjSense) (sense_behind section sense rest)
    (SenseHolds (senses ++ heading_senses section (name ∷ rest)))
sense_heading sections senses sense h none ObjSense name rest may =
    let first : senses ≡ [] =
    none (not_true (has ObjSense sections)
    (and_left (not (has ObjSense sections)) (not (has Rows sections)) may)) in
    rw first (sense_of_heading name rest)
sense_heading sections senses sense h none Name name rest may =
    record { value = sense; is = refl; holds = rw (append-nil senses) h }
sense_heading sections senses sense h none Rows name rest may =
    record { value = sense; is = refl; holds = rw (append-nil senses) h }
sense_heading sections senses sense h none Columns name rest may =
    record { value = sense; is = refl; holds = rw (append-nil senses) h }
sense_heading sections senses sense h none RightSides name rest may =
    record { value = sense; is = refl; holds = rw (append-nil senses) h }
sense_heading sections senses sense h none Ranges name rest may =
    record { value = sense; is = refl; holds = rw (append-nil senses) h }
sense_heading sections senses sense h none Bounds name rest may =
    record { value = sense; is = refl; holds = rw (append-nil senses) h }
sense_heading sections senses sense h none End name rest may =
    record { value = sense; is = refl; holds = rw (append-nil senses) h }

only_two : (n : ℕ) → eqb (suc (suc n)) 1 ≡ false
only_two n = bool_false _ (λ e. omega (arith, eqb-true _ _ e))

only_read : (line : List Bytes)
    → Agrees (unless (eqb (length line) 1) rules.BadFields) (ok_or (only_in line) rules.BadFields)
    (λ word. line ≡ word ∷ [])
only_read [] = refl
only_read (a ∷ []) = record { value = a; is = refl; holds = refl }
only_read (a ∷ b ∷ more) = rw (only_two (length more)) refl

none_length : (senses : List Bytes) → eqb (length senses) 0 ≡ true → senses ≡ []
none_length [] e = refl
none_length (x ∷ xs) e = absurd (omega (arith, eqb-true _ _ e))

given_step : (sense : Option Bool) (none : Bool) (senses : List Bytes) (word : Bytes) → is_none sense ≡ none
    → (none ≡ true → senses ≡ [])
    → Agrees (first_of (unless (none && is_some (maximises word)) rules.BadObjSense ∷ []))
    (cond (is_some sense) (Err rules.BadObjSense) (ok_or (maximises word) rules.BadObjSense >>= λ s. Ok (Some s)))
    (SenseHolds (senses ++ word ∷ []))
given_step (Some s) true senses word e f = absurd (false≢true e)
given_step (Some s) false senses word e f = refl
given_step None true senses word e f =
    rw (f refl) (agrees_last (unless (is_some (maximises word)) rules.BadObjSense) _ (SenseHolds (word ∷ []))
    (word_read word (maximises word) refl))
given_step None false senses word e f = absurd (false≢true (sym e))

-- One data line under OBJSENSE.
pub sense_step : (senses : List Bytes) (sense : Option Bool) → SenseHolds senses sense → (line : List Bytes)
    → Agrees (sense_fault senses line) (sense_read sense line) (SenseHolds (senses ++ take 1 line))
sense_step senses sense h line =
    agrees_then (unless (eqb (length line) 1) rules.BadFields)
    (unless (eqb (length senses) 0 && is_some (maximises (field 0 line))) rules.BadObjSense ∷ [])
    (ok_or (only_in line) rules.BadFields) (λ word. line ≡ word ∷ [])
    (λ word. cond (is_some sense) (Err rules.BadObjSense)
    (ok_or (maximises word) rules.BadObjSense >>= λ s. Ok (Some s))) (SenseHolds (senses ++ take 1 line))
    (only_read line)
    (λ word e. rw e (given_step sense (eqb (length senses) 0) senses word h.none (none_length senses)))
