use Rattle.std.proofs.Common.{◌≡◌, map, take}
use Rattle.bl_whole.specs.Sums.{component}
use Rattle.bl_model.proofs.join.row_coefficients.Given as goal

abbrev pub invariant-loop-numbers : goal.invariant-loop-numbers
invariant-loop-numbers l = l.coef.items ≡ map (λ numbers. component numbers l.row) (take l.numbers-index l.dense)
