use Rattle.std.proofs.Common.{◌≡◌, ◌-◌}
use Rattle.bl_certline.specs.LineValues.{numbers_at}
use Rattle.bl_certline.proofs.Lists.{with_numbers}
use Rattle.bl_certline.proofs.values.numbers_at.Given as goal

abbrev pub invariant-loop-place : goal.invariant-loop-place
invariant-loop-place l =
    with_numbers l.numbers.items (numbers_at (l.count - l._place) l.words) ≡ numbers_at l.count l.initial.words
