use Rattle.std.proofs.Common.{rules, ◌∙◌, ℕ, ℤ, length, arith, FitsSigned}
use Rattle.std.specs.Int.{w64}
use Rattle.std.proofs.lemmas.Int.{to_z-of_z}
use Rattle.bl_limits.specs.declared.TheConstants.{MAX_PROBLEM_COEFFICIENT}
use Rattle.bl_whole.specs.Sums.{component, sum_below}
use Rattle.bl_terms.specs.Bounds.{linear_at}
use Rattle.bl_cut_proof.proofs.RowLemmas.{sums_more, small_more, sums_too_large, sums_small, all_sums}
use Rattle.bl_cut_proof.proofs.sums.column_sums.Goals as goal

pub returns-in-None : goal.returns-in-None
returns-in-None c =
    let f : ℕ → ℤ = λ j. sum_below (length c.args.rows.now) (λ i. component (linear_at c.args.rows.now i).coef j) in
    sums_too_large c.args.columns f c.loop-column.column MAX_PROBLEM_COEFFICIENT c.loop-column-test.true
    c.in-None.ensures

pub loop-column-preserved : goal.loop-column-preserved
loop-column-preserved c =
    let f : ℕ → ℤ = λ j. sum_below (length c.args.rows.now) (λ i. component (linear_at c.args.rows.now i).coef j) in
    let fits : FitsSigned w64 c.in-Some.sum = search rules in
    record {
      sums = sums_more c.args.columns f c.loop-column.sums.items c.push.new.list.items c.loop-column.column _
          c.loop-column-test.true c.loop-column.invariant.sums (to_z-of_z w64 _ fits ∙ c.in-Some.ensures.0)
          c.in_ok-push-in-Some.ensures;
      small = small_more c.args.columns f MAX_PROBLEM_COEFFICIENT c.loop-column.column c.loop-column-test.true
          c.loop-column.invariant.small c.in-Some.ensures.1;
    }

pub returns : goal.returns
returns c =
    let f : ℕ → ℤ = λ j. sum_below (length c.args.rows.now) (λ i. component (linear_at c.args.rows.now i).coef j) in (
      all_sums c.args.columns f c.loop-column.sums.items c.loop-column.column c.loop-column-test.false
          c.loop-column.invariant.sums,
      sums_small c.args.columns f MAX_PROBLEM_COEFFICIENT
          (λ j b. c.loop-column.invariant.small j (omega (arith, b, c.loop-column-test.false))),
    )
