use Rattle.std.proofs.Common.{rules, ◌≡◌, ◌<◌, ◌^◌, List, length, ℤ, pos, ◌-ℤ◌, to_z, of_z, unsigned_abs, sym, ap, ◌∙◌}
use Rattle.std.proofs.Common.{subst, arith}
use Rattle.std.specs.Int.{w128}
use Rattle.bl_whole.specs.Within.{PartialDotsFit}
use Rattle.bl_terms.specs.Bounds.{linear_at}
use Rattle.bl_simplex.specs.Dictionaries.{columns, opening_number}
use Rattle.bl_simplex.specs.Fractions.{whole_fraction}
use Rattle.bl_tableau.specs.Opening.{Appends}
use Rattle.bl_tableau.proofs.OpeningSteps.{appends_one, row_number, slack_value, difference_narrow, read128, starts_fit}
use Rattle.bl_tableau.proofs.OpeningSteps.{right_of_row, read_row, narrow_fits}
use Rattle.bl_tableau.proofs.opening.push_row.Goals as goal
use Rattle.std.specs.Prelude.{slice_index_or}

pub loop-j-preserved : goal.loop-j-preserved
loop-j-preserved c =
    let q = c.args.problem.now in
    let i = c.args.i in
    let fits = c.requires.problem_fits in
    let cs = (linear_at q.rows i).coef in
    let row = read_row q i c.index-rows-i.result c.requires.row_in
    (c.index-rows-i.is ∙ ap (λ rs. slice_index_or rs i c.index-rows-i.result) c.rows.ensures.value) in
    let coef : c.coef-coef.result.now ≡ cs = c.coef-coef.ensures ∙ ap (λ r. r.coef) row in
    let j = c.loop-j.j in
    let in_columns : j < columns q = omega (arith, ap length c.cost-cost.ensures.value, fits.shape.cost_columns) in
    appends_one c.args.cells.now.items c.loop-j.cells.items c.push.new.self.items j
    (opening_number q i) c.whole.result c.loop-j.invariant c.in_ok-push.ensures.items
    (row_number q i j c.coef-coef.result.now c.cost-cost.result.now c.signed.result c.whole.result fits
    c.requires.row_in in_columns coef c.cost-cost.ensures.value c.whole.ensures c.signed.ensures) (search rules)

pub dot_product-requires-clause-fits : goal.dot_product-requires-clause-fits
dot_product-requires-clause-fits c =
    let q = c.args.problem.now in
    let i = c.args.i in
    let fits = c.requires.problem_fits in
    let cs = (linear_at q.rows i).coef in
    let row = read_row q i c.index-rows-i.result c.requires.row_in
    (c.index-rows-i.is ∙ ap (λ rs. slice_index_or rs i c.index-rows-i.result) c.rows.ensures.value) in
    let coef : c.coef-coef.result.now ≡ cs = c.coef-coef.ensures ∙ ap (λ r. r.coef) row in
    let Fit : List ℤ → Type 0 = λ xs. PartialDotsFit w128 xs c.args.starts.now in
    subst Fit (sym coef)
    (starts_fit q cs c.args.starts.now c.requires.starts
    (fits.shape.row_columns i c.requires.row_in) fits.few_columns (fits.coefs i c.requires.row_in))

pub minus-slack-requires : goal.minus-slack-requires
minus-slack-requires c =
    let q = c.args.problem.now in
    let i = c.args.i in
    let fits = c.requires.problem_fits in
    let cs = (linear_at q.rows i).coef in
    let row = read_row q i c.index-rows-i.result c.requires.row_in
    (c.index-rows-i.is ∙ ap (λ rs. slice_index_or rs i c.index-rows-i.result) c.rows.ensures.value) in
    let coef : c.coef-coef.result.now ≡ cs = c.coef-coef.ensures ∙ ap (λ r. r.coef) row in
    let told = slack_value q i c.coef-coef.result.now c.args.starts.now c.rhs.result c.from.result c.dot_product.result
    (pos 0) fits c.requires.row_in c.requires.starts coef
    (c.rhs.ensures ∙ ap (λ r. r.rhs) row) c.from.ensures c.dot_product.ensures in
    let small = difference_narrow c.from.result c.dot_product.result told.2 told.3 in
    let first = read128 c.from.result (omega (arith, told.2)) in
    let second = read128 c.dot_product.result (omega (arith, told.3)) in
    let written : to_z w128 (of_z w128 c.from.result) -ℤ to_z w128 (of_z w128 c.dot_product.result) ≡ c.from.result
    -ℤ c.dot_product.result =
    ap (λ z. z -ℤ to_z w128 (of_z w128 c.dot_product.result)) first ∙ ap (λ z. c.from.result -ℤ z) second in
    narrow_fits _ (subst (λ z. unsigned_abs z < 2 ^ 127) (sym written) small)

pub fraction_of-requires : goal.fraction_of-requires
fraction_of-requires c =
    let q = c.args.problem.now in
    let i = c.args.i in
    let fits = c.requires.problem_fits in
    let cs = (linear_at q.rows i).coef in
    let row = read_row q i c.index-rows-i.result c.requires.row_in
    (c.index-rows-i.is ∙ ap (λ rs. slice_index_or rs i c.index-rows-i.result) c.rows.ensures.value) in
    let coef : c.coef-coef.result.now ≡ cs = c.coef-coef.ensures ∙ ap (λ r. r.coef) row in
    let told = slack_value q i c.coef-coef.result.now c.args.starts.now c.rhs.result c.from.result c.dot_product.result
    (pos 0) fits c.requires.row_in c.requires.starts coef
    (c.rhs.ensures ∙ ap (λ r. r.rhs) row) c.from.ensures c.dot_product.ensures in
    let small = difference_narrow c.from.result c.dot_product.result told.2 told.3 in
    let first = read128 c.from.result (omega (arith, told.2)) in
    let second = read128 c.dot_product.result (omega (arith, told.3)) in
    let written : to_z w128 (of_z w128 c.from.result) -ℤ to_z w128 (of_z w128 c.dot_product.result) ≡ c.from.result
    -ℤ c.dot_product.result =
    ap (λ z. z -ℤ to_z w128 (of_z w128 c.dot_product.result)) first ∙ ap (λ z. c.from.result -ℤ z) second in
    let value : c.minus-slack.result ≡ c.from.result -ℤ c.dot_product.result = c.minus-slack.ensures ∙ written in
    let back : to_z w128 (of_z w128 c.minus-slack.result) ≡ c.from.result -ℤ c.dot_product.result =
    ap (λ z. to_z w128 (of_z w128 z)) value ∙ read128 (c.from.result -ℤ c.dot_product.result) small in
    subst (λ z. unsigned_abs z < 2 ^ 127) (sym back) small

pub returns : goal.returns
returns c =
    let q = c.args.problem.now in
    let i = c.args.i in
    let fits = c.requires.problem_fits in
    let cs = (linear_at q.rows i).coef in
    let row = read_row q i c.index-rows-i.result c.requires.row_in
    (c.index-rows-i.is ∙ ap (λ rs. slice_index_or rs i c.index-rows-i.result) c.rows.ensures.value) in
    let coef : c.coef-coef.result.now ≡ cs = c.coef-coef.ensures ∙ ap (λ r. r.coef) row in
    let told = slack_value q i c.coef-coef.result.now c.args.starts.now c.rhs.result c.from.result c.dot_product.result
    (pos 0) fits c.requires.row_in c.requires.starts coef
    (c.rhs.ensures ∙ ap (λ r. r.rhs) row) c.from.ensures c.dot_product.ensures in
    let small = difference_narrow c.from.result c.dot_product.result told.2 told.3 in
    let first = read128 c.from.result (omega (arith, told.2)) in
    let second = read128 c.dot_product.result (omega (arith, told.3)) in
    let written : to_z w128 (of_z w128 c.from.result) -ℤ to_z w128 (of_z w128 c.dot_product.result) ≡ c.from.result
    -ℤ c.dot_product.result =
    ap (λ z. z -ℤ to_z w128 (of_z w128 c.dot_product.result)) first ∙ ap (λ z. c.from.result -ℤ z) second in
    let value : c.minus-slack.result ≡ c.from.result -ℤ c.dot_product.result = c.minus-slack.ensures ∙ written in
    let back : to_z w128 (of_z w128 c.minus-slack.result) ≡ c.from.result -ℤ c.dot_product.result =
    ap (λ z. to_z w128 (of_z w128 z)) value ∙ read128 (c.from.result -ℤ c.dot_product.result) small in
    let whole : c.loop-j.j ≡ columns q = omega (arith, ap length c.cost-cost.ensures.value, fits.shape.cost_columns) in
    let slack : c.from.result -ℤ c.dot_product.result ≡ opening_number q i (columns q) =
    ap (λ z. z -ℤ c.dot_product.result) told.0 ∙ ap (λ z. (linear_at q.rows i).rhs -ℤ z) told.1
    ∙ sym (right_of_row q i c.requires.row_in) in
    let all : Appends c.args.cells.now.items c.loop-j.cells.items (columns q) (opening_number q i) =
    subst (λ n. Appends c.args.cells.now.items c.loop-j.cells.items n (opening_number q i)) whole
    c.loop-j.invariant in
    appends_one c.args.cells.now.items c.loop-j.cells.items c.push-2.new.self.items (columns q)
    (opening_number q i) c.fraction_of.result all c.in_ok-push-2.ensures.items
    (c.fraction_of.ensures ∙ ap whole_fraction (back ∙ slack)) (search rules)
