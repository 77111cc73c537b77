use Rattle.std.proofs.Common.{rules, ◌≡◌, ◌<◌, ◌^◌, List, length, ℤ, unsigned_abs, sym, ap, ◌∙◌, subst, arith}
use Rattle.std.specs.Int.{w128}
use Rattle.bl_whole.specs.Sums.{dot}
use Rattle.bl_whole.specs.Within.{PartialDotsFit}
use Rattle.bl_simplex.specs.Dictionaries.{columns, cost_row, opening_number}
use Rattle.bl_simplex.specs.Fractions.{whole_fraction}
use Rattle.bl_tableau.specs.Opening.{Appends}
use Rattle.bl_tableau.proofs.OpeningSteps.{appends_one, cost_number, dot_starts, starts_fit, right_of_cost, dot_within}
use Rattle.bl_tableau.proofs.OpeningSteps.{read128, costs_within}
use Rattle.bl_tableau.proofs.opening.push_cost.Goals as goal

pub loop-number-preserved : goal.loop-number-preserved
loop-number-preserved c =
    let q = c.args.problem.now in
    let j = c.loop-number.number-index in
    let fits = c.requires.problem_fits in
    let in_columns : j < columns q = omega (arith, ap length c.cost-cost.ensures.value, fits.shape.cost_columns) in
    appends_one c.args.cells.now.items c.loop-number.cells.items c.push.new.self.items j
    (opening_number q (cost_row q)) c.whole.result c.loop-number.invariant c.in_ok-push.ensures.items
    (cost_number q j c.cost-cost.result.now c.abs.result c.whole.result fits in_columns c.cost-cost.ensures.value
    c.whole.ensures c.abs.ensures.value) (search rules)

pub dot_product-requires-clause-fits : goal.dot_product-requires-clause-fits
dot_product-requires-clause-fits c =
    let q = c.args.problem.now in
    let fits = c.requires.problem_fits in
    let Fit : List ℤ → Type 0 = λ xs. PartialDotsFit w128 xs c.args.starts.now in
    subst Fit (sym c.cost-cost.ensures.value)
    (starts_fit q q.cost c.args.starts.now c.requires.starts fits.shape.cost_columns fits.few_columns
    (costs_within q fits))

pub fraction_of-requires : goal.fraction_of-requires
fraction_of-requires c =
    let q = c.args.problem.now in
    let fits = c.requires.problem_fits in
    let value : c.dot_product.result ≡ dot q.cost c.args.starts.now =
    c.dot_product.ensures ∙ ap (λ xs. dot xs c.args.starts.now) c.cost-cost.ensures.value in
    let bound = dot_within q q.cost c.args.starts.now c.requires.starts fits.shape.cost_columns fits.few_columns
    (costs_within q fits) in
    let small : unsigned_abs c.dot_product.result < 2 ^ 127 =
    subst (λ z. unsigned_abs z < 2 ^ 127) (sym value) (omega (arith, bound)) in
    subst (λ z. unsigned_abs z < 2 ^ 127) (sym (read128 c.dot_product.result small)) small

pub returns : goal.returns
returns c =
    let q = c.args.problem.now in
    let fits = c.requires.problem_fits in
    let value : c.dot_product.result ≡ dot q.cost c.args.starts.now =
    c.dot_product.ensures ∙ ap (λ xs. dot xs c.args.starts.now) c.cost-cost.ensures.value in
    let bound = dot_within q q.cost c.args.starts.now c.requires.starts fits.shape.cost_columns fits.few_columns
    (costs_within q fits) in
    let small : unsigned_abs c.dot_product.result < 2 ^ 127 =
    subst (λ z. unsigned_abs z < 2 ^ 127) (sym value) (omega (arith, bound)) in
    let back = read128 c.dot_product.result small ∙ value
    ∙ dot_starts q q.cost c.args.starts.now c.requires.starts fits.shape.cost_columns ∙ sym (right_of_cost q) in
    let whole : c.loop-number.number-index ≡ columns q =
    omega (arith, ap length c.cost-cost.ensures.value, fits.shape.cost_columns) in
    let f = opening_number q (cost_row q) in
    let all : Appends c.args.cells.now.items c.loop-number.cells.items (columns q) f =
    subst (λ n. Appends c.args.cells.now.items c.loop-number.cells.items n f) whole c.loop-number.invariant in
    appends_one c.args.cells.now.items c.loop-number.cells.items c.push-2.new.self.items
    (columns q) f c.fraction_of.result all c.in_ok-push-2.ensures.items
    (c.fraction_of.ensures ∙ ap whole_fraction back) (search rules)
