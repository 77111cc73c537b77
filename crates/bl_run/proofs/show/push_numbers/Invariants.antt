use Rattle.std.proofs.Common.{◌≡◌, ℕ, ◌++◌, take, codes}
use Rattle.std.specs.Fmt.{decimal}
use Rattle.std.specs.List.{flat_map}
use Rattle.bl_run.proofs.show.push_numbers.Given as goal

-- the numbers so far stand at the end
abbrev pub invariant-loop-number : goal.invariant-loop-number
invariant-loop-number l =
    l.text.items
    ≡ l.initial.text.items ++ flat_map (λ (number : ℕ). codes " " ++ decimal number) (take l.number-index l.numbers)
