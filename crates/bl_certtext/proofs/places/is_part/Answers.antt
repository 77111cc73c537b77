use Rattle.std.proofs.Common.{rules, ◌≡◌, ◌≤ℤ◌, arith, false, pos}
use Rattle.std.specs.Prelude.{slice_index_or, FitsSigned, int_lt}
use Rattle.std.specs.Int.{w64}
use Rattle.std.proofs.lemmas.Int.{to_z-of_z, ints}
use Rattle.bl_whole.specs.Sums.{component}
use Rattle.bl_certtext.specs.Places.{side_at}
use Rattle.bl_certtext.proofs.Elements.{one_more}
use Rattle.bl_certtext.proofs.places.is_part.Goals as goal

pub loop-column-preserved : goal.loop-column-preserved
loop-column-preserved c =
    let p = c.args.model.now in
    let sides = c.args.sides.now in
    let j = c.loop-column.column in
    let low : FitsSigned w64 (side_at sides j).0 = search rules in
    let high : FitsSigned w64 (side_at sides j).1 = search rules in
    let lowest : FitsSigned w64 (slice_index_or c.lo-lo.result.now j (pos 0)) = search rules in
    let highest : FitsSigned w64 (slice_index_or c.hi-hi.result.now j (pos 0)) = search rules in
    let least : int_lt (side_at sides j).0 (component p.lo j) ≡ false =
    rw (to_z-of_z, to_z-of_z, c.lo-lo.ensures.lo) at c.if-low-lo.false in
    let ordered : int_lt (side_at sides j).1 (side_at sides j).0 ≡ false =
    rw (to_z-of_z, to_z-of_z) at c.if-high-low.false in
    let most : int_lt (component p.hi j) (side_at sides j).1 ≡ false =
    rw (to_z-of_z, to_z-of_z, c.hi-hi.ensures.hi) at c.if-hi-column.false in
    record {
      least = one_more (λ k. component p.lo k ≤ℤ (side_at sides k).0) j c.loop-column.invariant.least
          (omega (arith, ints));
      ordered = one_more (λ k. (side_at sides k).0 ≤ℤ (side_at sides k).1) j c.loop-column.invariant.ordered
          (omega (arith, ints));
      most = one_more (λ k. (side_at sides k).1 ≤ℤ component p.hi k) j c.loop-column.invariant.most
          (omega (arith, ints));
    }
