use Rattle.std.proofs.Common.{◌≡◌, ℕ, suc, ◌-◌, ◌<◌, ◌∷◌, List, drop, length, ap, sym, ◌∙◌, arith, rules, pos}
use Rattle.std.specs.Prelude.{ℤ, FitsSigned, slice_index_or}
use Rattle.std.specs.Int.{w64}
use Rattle.std.proofs.lemmas.Int.{to_z-of_z}
use Rattle.std.proofs.Math.Seq.{drop-length, drop-cons}
use Rattle.bl_bound.proofs.PlainLaws.{zeros-replicate}
use Rattle.bl_check_rules.specs.Numbers.{numbers_of, with_number}
use Rattle.bl_check_rules.proofs.listed.listed_numbers.Goals as goal

pub loop-left-init : goal.loop-left-init
loop-left-init c = record {
  numbers = c.in_ok-numbers.ensures.items_if_clones_equal (λ y e. e) ∙ zeros-replicate c.args.count
      ∙ ap (numbers_of c.args.count) (sym (drop-length c.args.pairs.now));
  within = omega arith;
}

pub loop-left-preserved : goal.loop-left-preserved
loop-left-preserved c =
    let pairs = c.args.pairs.now in
    let i = c.loop-left.left - 1 in
    let pair = slice_index_or pairs i (pos 0, pos 0) in
    let index : FitsSigned w64 (slice_index_or pairs i (pos 0, pos 0)).0 = search rules in
    let number : FitsSigned w64 (slice_index_or pairs i (pos 0, pos 0)).1 = search rules in
    let put = rw (to_z-of_z, to_z-of_z) at c.put.ensures in
    let below : i < length pairs = omega arith in
    let next : suc i ≡ c.loop-left.left = omega arith in
    let split = drop-cons pairs i (pos 0, pos 0) below ∙ ap (λ (k : ℕ). pair ∷ drop k pairs) next in
    record {
      numbers = put ∙ ap (λ (xs : List ℤ). with_number xs pair.0 pair.1) c.loop-left.invariant.numbers
          ∙ sym (ap (numbers_of c.args.count) split);
      within = omega arith;
    }
