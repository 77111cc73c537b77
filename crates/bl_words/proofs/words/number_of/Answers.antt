use Rattle.std.proofs.Common.{List, ℕ, sym, subst, ap, ◌∙◌}
use Rattle.std.specs.Prelude.{IfNone}
use Rattle.std.specs.Option.{option_map, option_to_list}
use Rattle.bl_words.specs.Items.{IsNumber}
use Rattle.bl_words.proofs.words.number_of.Goals as goal

pub returns-in-Some-clause-refused : goal.returns-in-Some-clause-refused
returns-in-Some-clause-refused c =
    subst (λ (texts : List (List ℕ)). IfNone c.number_in.result
    ((number : ℕ) → IsNumber c.args.limits texts number → ⊥))
    (sym (c.in_ok-text.ensures.found
    ∙ ap (λ o. option_to_list (option_map (λ text. text.now) o)) c.in-Some.is)) c.number_in.ensures.refused
