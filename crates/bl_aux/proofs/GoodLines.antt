-- Lines that break no rule give a follower.
use Rattle.std.proofs.Common.{◌≡◌, ℕ, Bool, true, false, List, [], ◌∷◌, ◌++◌, length, Option, Some, None, Ok, Err}
use Rattle.std.proofs.Common.{Result, refl, sym, ap, subst, ◌∙◌, arith, append_assoc, length-append, ℤ}
use Rattle.std.proofs.lemmas.List.{append-nil}
use Rattle.std.proofs.lemmas.List.Elements.{All-nil}
use Rattle.bl_num.specs.declared.fault.NumFault.{NumFault}
use Rattle.bl_num.specs.declared.fault.NumFault.TheVariants.{NotNumber, NotWhole, TooLarge as NumTooLarge}
use Rattle.bl_num.specs.Numbers.{read_of}
use Rattle.bl_raw.specs.Raw.{IsSmall, IsSense}
use Rattle.bl_text.specs.Fields.{fields_of}
use Rattle.bl_text.specs.Lines.{lines_of}
use Rattle.bl_aux.specs.declared.keys.Key.{Key}
use Rattle.bl_aux.specs.declared.line.Entry.{Entry}
use Rattle.bl_aux.specs.declared.fault.AuxRule.{AuxRule}
use Rattle.bl_aux.specs.declared.fault.AuxRule.TheVariants.{Unsupported, TooLarge}
use Rattle.bl_aux.specs.Lines.{is_large, is_unsupported, sized, numbered, keyed, key_of, two_fields, said}
use Rattle.bl_aux.specs.Given.{Sizes, entries_of, given_by, said_rule, fields_rule, line_rule}
use Rattle.bl_aux.specs.Texts.{KeepsRules}
use Rattle.bl_aux.specs.Drafts.{Holding}
use Rattle.bl_aux.specs.Laws.{SaysFollowers}
use Rattle.bl_aux.proofs.EntryLaws.{held-nothing, held-entry}
use Rattle.bl_aux.proofs.FaultLaws.{Lines, rule_at-seam}
use Rattle.bl_aux.proofs.Followers.{IsGood, good-entry, fits}

ok-is : (x y : Entry) (r : Result Entry AuxRule) → r ≡ Ok x → r ≡ Ok y → x ≡ y
ok-is x y r e f = cc

sized-small : (key : Key) (number : ℤ) (large : Bool) (entry : Entry) → is_large key number ≡ large
    → sized key number ≡ Ok entry → is_large entry.key entry.number ≡ false
sized-small key number true entry l e = let broken : sized key number ≡ Err TooLarge = rw l refl in absurd cc
sized-small key number false entry l e =
    let fine : sized key number ≡ Ok (record { key = key; number = number }) = rw l refl in
    let is = ok-is (record { key = key; number = number }) entry (sized key number) fine e in
    ap (λ (x : Entry). is_large x.key x.number) (sym is) ∙ l

numbered-small : (key : Key) (read : Result ℤ NumFault) (entry : Entry) → numbered key read ≡ Ok entry
    → is_large entry.key entry.number ≡ false
numbered-small key (Ok number) entry e = sized-small key number (is_large key number) entry refl e
numbered-small key (Err NotNumber) entry e = absurd cc
numbered-small key (Err NotWhole) entry e = absurd cc
numbered-small key (Err (NumTooLarge negative)) entry e = absurd cc

keyed-small : (key : Option Key) (number : List ℕ) (entry : Entry) → keyed key number ≡ Ok entry
    → is_large entry.key entry.number ≡ false
keyed-small (Some key) number entry e = numbered-small key (read_of number) entry e
keyed-small None number entry e = absurd cc

fields-small : (fields : List (List ℕ)) (entry : Entry) → two_fields fields ≡ Ok entry
    → is_large entry.key entry.number ≡ false
fields-small [] entry e = absurd cc
fields-small (word ∷ []) entry e = absurd cc
fields-small (word ∷ number ∷ []) entry e = keyed-small (key_of word) number entry e
fields-small (word ∷ number ∷ more ∷ rest) entry e = absurd cc

said-small-by : (first : List ℕ) (fields : List (List ℕ)) (other : Bool) (entry : Entry) → is_unsupported first ≡ other
    → said (first ∷ fields) ≡ Ok entry → is_large entry.key entry.number ≡ false
unfolding said
said-small-by first fields true entry u e = let broken : said (first ∷ fields) ≡ Err Unsupported = rw u refl in
    absurd cc
said-small-by first fields false entry u e =
    let fine : said (first ∷ fields) ≡ two_fields (first ∷ fields) = rw u refl in
    fields-small (first ∷ fields) entry (sym fine ∙ e)

-- one more line
good-said : (sizes : Sizes) (lines : Lines) (line : List ℕ) (field : List ℕ) (fields : Lines)
    (result : Result Entry AuxRule) → fields_of line ≡ field ∷ fields → said (field ∷ fields) ≡ result
    → IsGood sizes (given_by (entries_of lines)) → said_rule sizes (given_by (entries_of lines)) result ≡ None
    → IsGood sizes (given_by (entries_of (lines ++ line ∷ [])))
good-said sizes lines line field fields (Err rule) f e good none = absurd cc
good-said sizes lines line field fields (Ok entry) f e good none =
    let small = said-small-by field fields (is_unsupported field) entry refl e in
    subst (λ (h : Holding). IsGood sizes h.given) (held-entry sizes lines line field fields entry f e)
    (good-entry sizes (given_by (entries_of lines)) entry.key entry.number good none small)

good-fields : (sizes : Sizes) (lines : Lines) (line : List ℕ) (fields : Lines) → fields_of line ≡ fields
    → IsGood sizes (given_by (entries_of lines)) → fields_rule sizes (given_by (entries_of lines)) fields ≡ None
    → IsGood sizes (given_by (entries_of (lines ++ line ∷ [])))
good-fields sizes lines line [] f good none =
    subst (λ (h : Holding). IsGood sizes h.given) (held-nothing sizes lines line f) good
good-fields sizes lines line (field ∷ fields) f good none =
    good-said sizes lines line field fields (said (field ∷ fields)) f refl good none

good-line : (sizes : Sizes) (lines : Lines) (line : List ℕ) → IsGood sizes (given_by (entries_of lines))
    → line_rule sizes lines line ≡ None → IsGood sizes (given_by (entries_of (lines ++ line ∷ [])))
unfolding line_rule
good-line sizes lines line good none = good-fields sizes lines line (fields_of line) refl good none

good-lines : (sizes : Sizes) (done lines : Lines) → IsGood sizes (given_by (entries_of done))
    → KeepsRules sizes (done ++ lines) → IsGood sizes (given_by (entries_of (done ++ lines)))
good-lines sizes done [] good kept = rw (append-nil done) good
good-lines sizes done (line ∷ lines) good kept =
    let here : line_rule sizes done line ≡ None =
    sym (rule_at-seam sizes done line lines)
    ∙ kept (length done) (omega (arith, length-append done (line ∷ lines))) in
    let whole : (done ++ line ∷ []) ++ lines ≡ done ++ line ∷ lines = append_assoc done (line ∷ []) lines in
    subst (λ (ls : Lines). IsGood sizes (given_by (entries_of ls))) whole
    (good-lines sizes (done ++ line ∷ []) lines (good-line sizes done line good here)
    (subst (KeepsRules sizes) (sym whole) kept))

good_none : {sizes : Sizes} → IsGood sizes (given_by [])
good_none = record {
  columns_are = record { each_below = All-nil _; distinct = λ i j d ij lt. absurd (omega arith) };
  rows_are = record { each_below = All-nil _; distinct = λ i j d ij lt. absurd (omega arith) };
  costs_small = All-nil IsSmall;
  senses_are = All-nil IsSense;
}

pub good_of : (sizes : Sizes) (lines : Lines) → KeepsRules sizes lines → IsGood sizes (given_by (entries_of lines))
good_of sizes lines kept = good-lines sizes [] lines good_none kept

pub says_followers : SaysFollowers
says_followers sizes text aux s =
    fits sizes (given_by (entries_of (lines_of text))) aux (good_of sizes (lines_of text) s.kept) s.counts s.given
