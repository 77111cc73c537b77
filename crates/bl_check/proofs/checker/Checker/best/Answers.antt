use Rattle.std.proofs.Common.{List, of_z, rules, subst, to_z}
use Rattle.std.specs.Prelude.{ℤ, FitsSigned}
use Rattle.std.specs.Int.{w64}
use Rattle.std.proofs.lemmas.Int.{to_z-of_z}
use Rattle.bl_check.proofs.StatedLines.{IsAnswered, best_at_hand, best_line}
use Rattle.bl_check.proofs.checker.Checker.best.Goals as goal

pub unreachable-requires : goal.unreachable-requires
unreachable-requires c =
    best_at_hand c.args.model.now c.args.self.now c.args.value c.args.response c.lo-columns.ensures.model
    c.requires.asked c.in_default.is

pub returns : goal.returns
returns c =
    let p = c.args.model.now in
    let old = c.args.self.now in
    let held = c.in-Some.entry in
    let new = c.answer.new.self in
    let answers = c.answer.new.answers in
    let kept = c.in_ok-kept.kept in
    let number : ℤ = to_z w64 (of_z w64 c.args.value) in
    let fits : FitsSigned w64 c.args.value = search rules in
    best_line p old held new answers c.args.value c.args.response kept c.unless.result c.lo-columns.ensures.model
    c.in-Some.is c.unless.ensures
    (subst (λ (v : ℤ). IsAnswered p held new old.said.answers answers v c.args.response kept)
    (to_z-of_z w64 c.args.value fits)
    (subst (λ (y : List ℤ). IsAnswered p held new old.said.answers answers number y kept) c.as_slice.ensures
    c.in_ok-kept.ensures))
