use Rattle.std.proofs.Common.{arith}
use Rattle.bl_words.specs.Items.{texts_of}
use Rattle.bl_words.proofs.Readings.{only-text, none-third}
use Rattle.bl_words.proofs.words.only.Goals as goal

pub returns-clause-found : goal.returns-clause-found
returns-clause-found c =
    only-text (texts_of c.args.choice c.args.items.now) c.args.place _ _ c.text_at-text.ensures (omega arith)
    (none-third c.text_at-behind.result (λ text. text.now) c.is_some.result _ c.text_at-behind.ensures
    c.is_some.ensures c.if-is_some.false)
