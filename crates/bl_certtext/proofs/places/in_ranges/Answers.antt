use Rattle.std.proofs.Common.{rules, ◌≡◌, ◌≤ℤ◌, ◌∙◌, ap, length, arith, false, pos}
use Rattle.std.specs.Prelude.{slice_index, slice_index_or, FitsSigned, int_lt}
use Rattle.std.specs.Int.{w64}
use Rattle.std.proofs.lemmas.Int.{to_z-of_z, ints}
use Rattle.bl_whole.specs.Sums.{component}
use Rattle.bl_certtext.proofs.Elements.{one_more}
use Rattle.bl_certtext.proofs.places.in_ranges.Goals as goal

pub bounds-lo-column : goal.bounds-lo-column
bounds-lo-column c =
    rw c.lo-lo.ensures.lo (c.requires c.loop-j.j 0 c.loop-j-test.true)

pub bounds-hi-column : goal.bounds-hi-column
bounds-hi-column c =
    rw (ap length c.hi-hi.ensures.hi ∙ c.lo-lo.ensures.model.sound.box.sides)
    (c.requires c.loop-j.j 0 c.loop-j-test.true)

pub loop-j-preserved : goal.loop-j-preserved
loop-j-preserved c =
    let p = c.args.model.now in
    let j = c.loop-j.j in
    let column = slice_index_or c.args.places.now j 0 in
    let value : FitsSigned w64 (slice_index_or c.args.values.now j (pos 0)) = search rules in
    let low : FitsSigned w64 (slice_index_or c.lo-lo.result.now column (pos 0)) = search rules in
    let high : FitsSigned w64 (slice_index_or c.hi-hi.result.now column (pos 0)) = search rules in
    let least : int_lt (component c.args.values.now j) (component p.lo column) ≡ false =
    rw (to_z-of_z, to_z-of_z, c.lo-lo.ensures.lo) at c.if-values-j.false in
    let most : int_lt (component p.hi column) (component c.args.values.now j) ≡ false =
    rw (to_z-of_z, to_z-of_z, c.hi-hi.ensures.hi) at c.if-hi-column.false in
    record {
      least = one_more (λ k. component p.lo (slice_index c.args.places.now k) ≤ℤ component c.args.values.now k) j
          c.loop-j.invariant.least (omega (arith, ints));
      most = one_more (λ k. component c.args.values.now k ≤ℤ component p.hi (slice_index c.args.places.now k)) j
          c.loop-j.invariant.most (omega (arith, ints));
    }
