use Rattle.std.proofs.Common.{ℕ, List, Some, sym, ap, subst, ◌∙◌, string_bytes, not}
use Rattle.std.specs.Option.{option_map}
use Rattle.std.specs.Str.{bytes_eq}
use Rattle.bl_words.specs.Commands.{name_of}
use Rattle.bl_words.specs.Items.{Item, AreModelItems}
use Rattle.bl_words.proofs.Readings.{words-begin, model-words, said-by, if_some-says, if_none-refuses, none-read}
use Rattle.bl_words.proofs.Readings.{some-read}
use Rattle.bl_words.proofs.words.model_words.Goals as goal

pub returns-in_default-2-clause-refused : goal.returns-in_default-2-clause-refused
returns-in_default-2-clause-refused c said w =
    let begins = words-begin string_bytes c.args.words.now c.first-item.result c.as_str.result.now
    (name_of c.args.command) c.ne.result c.in-len1-up.len_at_least c.first-item.is c.as_str.ensures.value
    (c.ne.ensures ∙ ap (λ (name : List ℕ). not (bytes_eq c.as_str.result.now name)) c.name.ensures) c.if-ne.false in
    let s = said-by c.args.command _ _ _ _ said begins c.in_ok-items.ensures w in
    none-read _ s.0 (ap (option_map (λ items. items.items)) c.in_default-2.is) s.1

pub returns-clause-found : goal.returns-clause-found
returns-clause-found c =
    let begins = words-begin string_bytes c.args.words.now c.first-item.result c.as_str.result.now
    (name_of c.args.command) c.ne.result c.in-len1-up.len_at_least c.first-item.is c.as_str.ensures.value
    (c.ne.ensures ∙ ap (λ (name : List ℕ). not (bytes_eq c.as_str.result.now name)) c.name.ensures) c.if-ne.false in
    let read = ap (λ (items : List Item). Some items) c.deref.ensures.value
    ∙ ap (option_map (λ items. items.items)) (sym c.in-Some.is) ∙ c.in_ok-items.ensures in
    if_some-says c.items_words.result _ _
    (λ said says. model-words c.args.command _ _ c.deref.result.now said begins read says) c.items_words.ensures.found

pub returns-clause-refused : goal.returns-clause-refused
returns-clause-refused c =
    let begins = words-begin string_bytes c.args.words.now c.first-item.result c.as_str.result.now
    (name_of c.args.command) c.ne.result c.in-len1-up.len_at_least c.first-item.is c.as_str.ensures.value
    (c.ne.ensures ∙ ap (λ (name : List ℕ). not (bytes_eq c.as_str.result.now name)) c.name.ensures) c.if-ne.false in
    let read = ap (λ (items : List Item). Some items) c.deref.ensures.value
    ∙ ap (option_map (λ items. items.items)) (sym c.in-Some.is) ∙ c.in_ok-items.ensures in
    if_none-refuses c.items_words.result _ _
    (λ no said w.
    let s = said-by c.args.command _ _ _ (Some c.deref.result.now) said begins read w in
    no said
    (subst (λ (items : List Item). AreModelItems c.args.command items said)
    (some-read c.deref.result.now s.0 s.1) s.2))
    c.items_words.ensures.refused
