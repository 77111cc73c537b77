use Rattle.std.proofs.Common.{rules, ◌≡◌, ◌+◌, ◌<◌, length, ap, ◌∙◌, subst, arith}
use Rattle.bl_simplex.specs.Dictionaries.{columns, opening_number}
use Rattle.bl_tableau.specs.Opening.{Appends}
use Rattle.bl_tableau.proofs.OpeningSteps.{appends_one, range_number, range_right, flag_number}
use Rattle.bl_tableau.proofs.opening.push_range.Goals as goal

pub loop-j-preserved : goal.loop-j-preserved
loop-j-preserved c =
    let q = c.args.problem.now in
    let j = c.loop-j.j in
    let in_columns : j < columns q = omega (arith, ap length c.lo-lo.ensures.value) in
    appends_one c.args.cells.now.items c.loop-j.cells.items c.push.new.self.items j
    (opening_number q (length q.rows + c.args.k)) c.whole.result c.loop-j.invariant c.in_ok-push.ensures.items
    (range_number q c.args.k j c.from.result c.whole.result c.requires.column_in in_columns c.whole.ensures
    (c.from.ensures ∙ flag_number j c.args.k)) (search rules)

pub returns : goal.returns
returns c =
    let q = c.args.problem.now in
    let whole : c.loop-j.j ≡ columns q = omega (arith, ap length c.lo-lo.ensures.value) in
    let f = opening_number q (length q.rows + c.args.k) in
    let all : Appends c.args.cells.now.items c.loop-j.cells.items (columns q) f =
    subst (λ n. Appends c.args.cells.now.items c.loop-j.cells.items n f) whole c.loop-j.invariant in
    appends_one c.args.cells.now.items c.loop-j.cells.items c.push-2.new.self.items
    (columns q) f c.whole-2.result all c.in_ok-push-2.ensures.items
    (range_right q c.args.k c.hi-hi.result.now c.lo-lo.result.now c.minus.result c.whole-2.result
    c.requires.problem_fits c.requires.column_in c.hi-hi.ensures.value c.lo-lo.ensures.value c.whole-2.ensures
    c.minus.ensures) (search rules)
