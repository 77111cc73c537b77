use Rattle.std.proofs.Common.{◌≡◌, drop}
use Rattle.std.specs.Prelude.{slice_get}
use Rattle.bl_words.specs.Items.{texts_of}
use Rattle.bl_words.proofs.items.text_at.Given as goal

abbrev pub invariant-loop-item : goal.invariant-loop-item
invariant-loop-item l =
    slice_get (texts_of l.choice l.items) l.place ≡ slice_get (texts_of l.choice (drop l.item-index l.items)) l.left
