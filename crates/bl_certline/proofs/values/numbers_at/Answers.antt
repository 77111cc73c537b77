use Rattle.std.proofs.Common.{◌≡◌, ℕ, ◌-◌, ◌+◌, suc, [], ◌∷◌, ◌++◌, sym, ap, ◌∙◌, arith, rules}
use Rattle.bl_certline.specs.LineValues.{numbers_at}
use Rattle.bl_certline.proofs.Lists.{numbers_at-done, numbers_at-fails, numbers_at-more, with_numbers}
use Rattle.bl_certline.proofs.Lists.{with_numbers-none}
use Rattle.bl_certline.proofs.values.numbers_at.Goals as goal

pub loop-place-init : goal.loop-place-init
loop-place-init c =
    let all : c.args.count - 0 ≡ c.args.count = omega arith in
    rw c.new-numbers.ensures.items
    (ap (λ (n : ℕ). with_numbers [] (numbers_at n c.args.words)) all
    ∙ with_numbers-none (numbers_at c.args.count c.args.words))

pub returns-in_default : goal.returns-in_default
returns-in_default c =
    let left = c.args.count - c.loop-place._place in
    let less : left ≡ suc (c.args.count - (c.loop-place._place + 1)) = omega arith in
    sym (numbers_at-fails c.loop-place.numbers.items left _ c.loop-place.words less c.in_default.ensures)
    ∙ c.loop-place.invariant

pub loop-place-preserved : goal.loop-place-preserved
loop-place-preserved c =
    let left = c.args.count - c.loop-place._place in
    let less : left ≡ suc (c.args.count - (c.loop-place._place + 1)) = omega arith in
    let front = c.loop-place.numbers.items in
    let items : c.push.new.self.items ≡ front ++ c.in-Some.number ∷ [] = search rules in
    rw items
    (sym (numbers_at-more front left _ c.loop-place.words c.in-Some.rest c.in-Some.number less c.in-Some.ensures)
    ∙ c.loop-place.invariant)

pub returns : goal.returns
returns c =
    let left = c.args.count - c.loop-place._place in
    let none : left ≡ 0 = omega arith in
    rw c.new.ensures (sym (numbers_at-done c.loop-place.numbers.items left c.loop-place.words none)
    ∙ c.loop-place.invariant)
