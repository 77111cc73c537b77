use Rattle.std.proofs.Common.{rules, ◌≡◌, ℕ, ◌+◌, ◌<◌, ◌≤ℤ◌, ◌∙◌, ap, sym, subst, length, arith, false, pos, inl, inr}
use Rattle.std.proofs.lemmas.Bool.{cases_lt}
use Rattle.std.specs.Prelude.{slice_index, slice_index_or, FitsSigned, int_lt}
use Rattle.std.specs.Int.{w64}
use Rattle.std.proofs.lemmas.Int.{to_z-of_z, ints}
use Rattle.bl_whole.specs.Sums.{component}
use Rattle.bl_fproof.proofs.Problems.{link_places}
use Rattle.bl_fproof.proofs.link.is_link.Goals as goal

pub bounds-lo-column : goal.bounds-lo-column
bounds-lo-column c =
    let model = c.links-links.ensures.model in
    let below = link_places c.args.model.now c.lo-lo.result.now model (ap length c.lo-lo.ensures.lo) in
    rw (c.links-links.ensures.links)
    (below c.loop-j.j 0 (rw (c.links-links.ensures.links) at c.loop-j-test.true))

pub bounds-hi-column : goal.bounds-hi-column
bounds-hi-column c =
    let model = c.links-links.ensures.model in
    let size = ap length c.hi-hi.ensures.hi ∙ model.sound.box.sides in
    let below = link_places c.args.model.now c.hi-hi.result.now model size in
    rw (c.links-links.ensures.links)
    (below c.loop-j.j 0 (rw (c.links-links.ensures.links) at c.loop-j-test.true))

-- what holds below j and at j holds below j + 1
one_more : (P : ℕ → Type 0) (j : ℕ) → ((k : ℕ) → k < j → P k) → P j → (k : ℕ) → k < j + 1 → P k
one_more P j before here k b = elim (cases_lt k j) [
  | inl c ↦ before k c
  | inr c ↦ let same : j ≡ k = omega arith in subst P same here
]

pub loop-j-preserved : goal.loop-j-preserved
loop-j-preserved c =
    let p = c.args.model.now in
    let j = c.loop-j.j in
    let column = slice_index_or c.links-links.result.now j 0 in
    let value : FitsSigned w64 (slice_index_or c.args.link.now j (pos 0)) = search rules in
    let low : FitsSigned w64 (slice_index_or c.lo-lo.result.now column (pos 0)) = search rules in
    let high : FitsSigned w64 (slice_index_or c.hi-hi.result.now column (pos 0)) = search rules in
    let least : int_lt (component c.args.link.now j) (component p.lo (slice_index p.links j)) ≡ false =
    rw (to_z-of_z, to_z-of_z, c.lo-lo.ensures.lo, c.links-links.ensures.links) at c.if-link-j.false in
    let most : int_lt (component p.hi (slice_index p.links j)) (component c.args.link.now j) ≡ false =
    rw (to_z-of_z, to_z-of_z, c.hi-hi.ensures.hi, c.links-links.ensures.links) at c.if-hi-column.false in
    record {
      least = one_more (λ k. component p.lo (slice_index p.links k) ≤ℤ component c.args.link.now k) j
          c.loop-j.invariant.least (omega (arith, ints));
      most = one_more (λ k. component c.args.link.now k ≤ℤ component p.hi (slice_index p.links k)) j
          c.loop-j.invariant.most (omega (arith, ints));
    }
