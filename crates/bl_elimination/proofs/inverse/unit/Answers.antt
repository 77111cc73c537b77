use Rattle.std.proofs.Common.{ap, sym, ◌∙◌}
use Rattle.bl_elimination.specs.Elimination.{nonzeros}
use Rattle.bl_elimination.proofs.Units.{unit_numbers_at, unit_numbers_none, range_of_row}
use Rattle.bl_elimination.proofs.inverse.unit.Goals as goal
use Rattle.bl_elimination.proofs.inverse.unit.Goals.{in-Some+in_ok-pairs-in-Some, in-None}

pub returns : goal.returns
returns c =
    let a = c.args in
    elim c.match-place_of.branch [
      | in-Some+in_ok-pairs-in-Some w ↦
          c.new.ensures ∙ ap (λ v. v.items) w.pairs-is ∙ w.in_ok-pairs-in-Some.ensures
          ∙ ap (nonzeros 0) (range_of_row a.numbers.now w.in-Some.i a.places
          ∙ sym (unit_numbers_at a.columns.now a.numbers.now a.places a.column w.in-Some.i w.in-Some.ensures))
      | in-None w ↦
          c.new.ensures ∙ ap (λ v. v.items) w.pairs-is ∙ w.new-pairs.ensures.items
          ∙ ap (nonzeros 0) (sym (unit_numbers_none a.columns.now a.numbers.now a.places a.column w.in-None.ensures))
    ]
