use Rattle.std.proofs.Common.{rules, ◌≡◌, ℕ, ◌+◌, ◌<◌, ◌≤◌, pos, length, to_z, of_z, FitsSigned, ◌∙◌, sym, ap, subst}
use Rattle.std.proofs.Common.{arith}
use Rattle.std.specs.Prelude.{slice_index_or, ◌+ℤ◌, ◌*ℤ◌}
use Rattle.std.specs.Int.{w64, w128}
use Rattle.std.proofs.lemmas.Int.{to_z-of_z}
use Rattle.bl_whole.specs.Sums.{component}
use Rattle.bl_terms.specs.Bounds.{linear_at}
use Rattle.bl_bound.specs.Sums.{rows_part, rhs_part}
use Rattle.bl_bound.proofs.SumSteps.{row_read, column_more, rhs_more}
use Rattle.bl_bound.proofs.proof.add_rows.Goals as goal
use Rattle.bl_bound.proofs.proof.add_rows.Goals.{After-index-rows-i}

factor_is : (c : After-index-rows-i)
    → to_z w64 (of_z w64 (slice_index_or c.as_slice-mult.result.now c.loop-i.i (pos 0)))
    ≡ component c.args.proof.now.mult c.loop-i.i
factor_is c =
    let fits : FitsSigned w64 (slice_index_or c.as_slice-mult.result.now c.loop-i.i (pos 0)) = search rules in
    to_z-of_z w64 _ fits
    ∙ ap (λ xs. component xs c.loop-i.i) (c.as_slice-mult.ensures ∙ ap (λ w. w.mult) c.proof.view_is)

row_is : (c : After-index-rows-i) → c.index-rows-i.result ≡ linear_at c.args.problem.now.rows c.loop-i.i
row_is c = row_read c.rows-rows.result.now c.loop-i.i _ c.loop-i-test.true c.index-rows-i.is
    ∙ ap (λ rows. linear_at rows c.loop-i.i) c.rows-rows.ensures.value

within : (c : After-index-rows-i) → c.loop-i.i + 1 ≤ length c.args.problem.now.rows
within c = omega (arith, ap length c.rows-rows.ensures.value)

width : (c : After-index-rows-i) → length c.index-rows-i.result.coef ≡ length c.args.problem.now.area.lo
width c = ap (λ r. length r.coef) (row_is c)
    ∙ c.rows-rows.ensures.shape.row_columns c.loop-i.i (let w = within c in omega arith)

columns_are : (c : After-index-rows-i) (j : ℕ) → j < length c.args.problem.now.area.lo
    → component c.loop-i.sums j +ℤ to_z w64 (of_z w64 (slice_index_or c.as_slice-mult.result.now c.loop-i.i (pos 0)))
    *ℤ component c.index-rows-i.result.coef j ≡ rows_part c.args.problem.now c.args.proof.now (c.loop-i.i + 1) j
columns_are c j h = column_more c.args.problem.now c.args.proof.now _ _ c.index-rows-i.result c.loop-i.i j
    (c.loop-i.invariant.columns j h) (factor_is c) (row_is c)

rhs_is : (c : After-index-rows-i)
    → to_z w128 c.loop-i.rhs-bits +ℤ to_z w64 (of_z w64 (slice_index_or c.as_slice-mult.result.now c.loop-i.i (pos 0)))
    *ℤ c.index-rows-i.result.rhs ≡ rhs_part c.args.problem.now c.args.proof.now (c.loop-i.i + 1)
rhs_is c = rhs_more c.args.problem.now c.args.proof.now _ _ c.index-rows-i.result c.loop-i.i c.loop-i.invariant.rhs
    (factor_is c) (row_is c)

pub add_row-rhs-requires-clause-fits : goal.add_row-rhs-requires-clause-fits
add_row-rhs-requires-clause-fits c =
    λ j h. subst (FitsSigned w128) (sym (columns_are c j (let w = width c in omega arith)))
    (c.requires.fits.rows_part j (c.loop-i.i + 1) (within c))

pub add_row-rhs-requires-clause-rhs_fits : goal.add_row-rhs-requires-clause-rhs_fits
add_row-rhs-requires-clause-rhs_fits c =
    subst (FitsSigned w128) (sym (rhs_is c)) (c.requires.fits.rhs_part (c.loop-i.i + 1) (within c))

pub loop-i-preserved : goal.loop-i-preserved
loop-i-preserved c =
    let b = c.before.before in
    let fits : FitsSigned w128 c.add_row-rhs.result = search rules in
    record {
      columns = λ j h. c.add_row-rhs.ensures.columns j (let w = width b in omega arith) ∙ columns_are b j h;
      rhs = to_z-of_z w128 _ fits ∙ c.add_row-rhs.ensures.rhs ∙ rhs_is b;
    }

pub returns-clause-columns : goal.returns-clause-columns
returns-clause-columns c =
    let last : c.loop-i.i ≡ length c.args.problem.now.rows = omega (arith, ap length c.rows-rows.ensures.value) in
    λ j h. c.loop-i.invariant.columns j h ∙ ap (λ n. rows_part c.args.problem.now c.args.proof.now n j) last

pub returns-clause-rhs : goal.returns-clause-rhs
returns-clause-rhs c =
    let last : c.loop-i.i ≡ length c.args.problem.now.rows = omega (arith, ap length c.rows-rows.ensures.value) in
    c.loop-i.invariant.rhs ∙ ap (rhs_part c.args.problem.now c.args.proof.now) last
