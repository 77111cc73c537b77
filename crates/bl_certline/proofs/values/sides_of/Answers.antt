use Rattle.std.proofs.Common.{◌≡◌, List, ℕ, [], ◌∷◌, ◌++◌, sym, ap, ◌∙◌, rules}
use Rattle.bl_certline.specs.LineValues.{sides_of}
use Rattle.bl_certline.proofs.Lists.{sides_of-step, with_front}
use Rattle.bl_certline.proofs.values.sides_of.Goals as goal

pub loop-lo-preserved : goal.loop-lo-preserved
loop-lo-preserved c =
    let front = c.loop-lo.sides.items in
    let side = c.in-Some-side_of.side in
    let items : c.push.new.self.items ≡ front ++ side ∷ [] = search rules in
    let second = c.next-in-Some in
    rw items
    (sym (sides_of-step front c.in-Some.lo.now second.result c.next.new.self second.new.self side second.ensures.steps
    c.in-Some-side_of.ensures)
    ∙ ap (λ (words : List (List ℕ)). with_front front (sides_of words)) (sym c.in-Some.ensures.steps)
    ∙ c.loop-lo.invariant)
