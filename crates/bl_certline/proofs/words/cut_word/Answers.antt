use Rattle.std.proofs.Common.{ℕ, List, ◌∷◌, take, sym, ap, ◌∙◌}
use Rattle.std.proofs.lemmas.List.{take_rest}
use Rattle.bl_certline.specs.SplitWords.{split_words}
use Rattle.bl_certline.proofs.SplitWords.{split_words-cut, split_words-whole}
use Rattle.bl_certline.proofs.words.cut_word.Goals as goal

pub returns-in-Some : goal.returns-in-Some
returns-in-Some c =
    split_words-cut c.args.left.now c.in-Some.end c.in-Some.ensures
    ∙ ap (λ (left : List ℕ). take c.in-Some.end c.args.left.now ∷ split_words left) (sym (take_rest c.args.left.now _))

pub returns-in-None : goal.returns-in-None
returns-in-None c = split_words-whole c.args.left.now c.in-None.ensures
