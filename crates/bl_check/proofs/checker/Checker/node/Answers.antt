use Rattle.std.proofs.Common.{List, length, of_z, rules, subst, sym, to_z}
use Rattle.std.specs.Prelude.{ℤ, ◌↔◌, FitsSigned, IsTrue}
use Rattle.std.specs.Arc.{arc_value}
use Rattle.std.specs.Int.{w64}
use Rattle.std.proofs.lemmas.Int.{to_z-of_z}
use Rattle.std.proofs.lemmas.Result.{IfOk-weaker}
use Rattle.bl_terms.specs.Points.{Area}
use Rattle.bl_cert_terms.specs.Certificates.{IsUnanswered}
use Rattle.bl_certline.specs.declared.line.CertLine.{CertLine}
use Rattle.bl_certtext.specs.Places.{IsLeaf}
use Rattle.bl_check_walk.specs.declared.site.Site.TheVariants.{Tree}
use Rattle.bl_check.specs.Keeping.{IsAsked, IsJudged}
use Rattle.bl_check.proofs.NodeLines.{LeafTest, close_line, close_ready, close_there, closes_none, tree_split}
use Rattle.bl_check.proofs.NodeLines.{unanswered_line}
use Rattle.bl_check.proofs.checker.Checker.node.Goals as goal

pub close-requires-clause-ready : goal.close-requires-clause-ready
close-requires-clause-ready c =
    close_ready c.args.model.now c.args.self.now c.args.area c.args.line c.lo-columns.ensures.model c.requires.asked

pub close-requires-clause-leaf : goal.close-requires-clause-leaf
close-requires-clause-leaf c =
    let p = c.args.model.now in
    let old = c.args.self.now in
    let n = length old.said.cuts.cuts.items in
    subst (λ (pairs : List (ℤ × ℤ)). IsLeaf p n c.in-Close.value_row c.as_slice.result.now pairs)
    (sym c.as_slice-in-Close.ensures)
    (subst (λ (cited : List ℤ). IsLeaf p n c.in-Close.value_row cited c.in-Close.mult) (sym c.as_slice.ensures)
    (close_there p old c.args.area c.in-Close.den c.in-Close.value_row c.in-Close.count c.in-Close.cuts c.in-Close.mult
    (subst (IsAsked p old (Tree c.args.area)) c.in-Close.is c.requires.asked)))

pub returns-in-Close : goal.returns-in-Close
returns-in-Close c =
    let p = c.args.model.now in
    let old = c.args.self.now in
    let a = arc_value c.args.area in
    let uses = c.in-Close.value_row in
    let cuts = c.in-Close.cuts in
    let mult = c.in-Close.mult in
    let listed = c.as_slice-in-Close.result.now in
    let number : ℤ = to_z w64 (of_z w64 c.in-Close.den) in
    let fits : FitsSigned w64 c.in-Close.den = search rules in
    IfOk-weaker c.close.result _ _
    (λ broken test.
    subst (λ (line : CertLine). IsJudged p old (Tree c.args.area) line broken old) (sym c.in-Close.is)
    (close_line p old c.args.area c.in-Close.den uses c.in-Close.count cuts mult broken
    (λ d said.
    subst (λ (den : ℤ). LeafTest p d a den uses cuts mult broken)
    (to_z-of_z w64 c.in-Close.den fits)
    (subst (λ (pairs : List (ℤ × ℤ)). LeafTest p d a number uses cuts pairs broken) c.as_slice-in-Close.ensures
    (subst (λ (cited : List ℤ). LeafTest p d a number uses cited listed broken) c.as_slice.ensures
    (subst (λ (x : Area). LeafTest p d x number uses c.as_slice.result.now listed broken)
    c.deref.ensures (test d said)))))))
    c.close.ensures

pub returns-in-NoAnswer : goal.returns-in-NoAnswer
returns-in-NoAnswer c =
    let p = c.args.model.now in
    let old = c.args.self.now in
    let kept = c.in_ok-kept-in-NoAnswer.kept in
    subst (λ (line : CertLine). IsJudged p old (Tree c.args.area) line c.unless.result old) (sym c.in-NoAnswer.is)
    (unanswered_line p old c.args.area kept c.unless.result c.unless.ensures
    (λ d said.
    subst (λ (x : Area). IsTrue kept ↔ IsUnanswered p d x) c.deref-in-NoAnswer.ensures
    (c.in_ok-kept-in-NoAnswer.ensures d said)))

pub returns : goal.returns
returns c =
    tree_split c.args.model.now c.args.self.now c.args.area c.args.line
    (closes_none c.args.line c.in_default.not-NoAnswer c.in_default.not-Close)
