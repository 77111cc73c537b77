use Rattle.std.proofs.Common.{List, of_z, rules, subst, sym, to_z}
use Rattle.std.specs.Prelude.{ℤ, FitsSigned}
use Rattle.std.specs.Arc.{arc_value}
use Rattle.std.specs.Int.{w64}
use Rattle.std.proofs.lemmas.Int.{to_z-of_z}
use Rattle.bl_terms.specs.Points.{Area}
use Rattle.bl_certline.specs.declared.line.CertLine.{CertLine}
use Rattle.bl_check_walk.specs.declared.site.Site.TheVariants.{FollowerTree}
use Rattle.bl_check.specs.Keeping.{IsAsked, IsJudged}
use Rattle.bl_check.proofs.NodeLines.{ProofTest, follower_split, other_node, proof_at_hand, proof_line}
use Rattle.bl_check.proofs.checker.Checker.follower_node.Goals as goal

pub returns-in_default : goal.returns-in_default
returns-in_default c =
    follower_split c.args.model.now c.args.self.now c.args.area c.args.line
    (other_node c.args.line c.in_default.not-Proof)

pub unreachable-requires : goal.unreachable-requires
unreachable-requires c =
    let p = c.args.model.now in
    let old = c.args.self.now in
    proof_at_hand p old c.args.area c.in-Proof.den c.in-Proof.mult c.lo-columns.ensures.model
    (subst (IsAsked p old (FollowerTree c.args.area)) c.in-Proof.is c.requires.asked) c.in_default-entry.is

pub returns : goal.returns
returns c =
    let p = c.args.model.now in
    let old = c.args.self.now in
    let held = c.in-Some.entry in
    let kept = c.in_ok-kept.kept in
    let den = c.in-Proof.den in
    let mult = c.in-Proof.mult in
    let number : ℤ = to_z w64 (of_z w64 den) in
    let fits : FitsSigned w64 c.in-Proof.den = search rules in
    subst (λ (line : CertLine). IsJudged p old (FollowerTree c.args.area) line c.unless.result old) (sym c.in-Proof.is)
    (proof_line p old c.args.area held den mult kept c.unless.result c.in-Some.is c.unless.ensures
    (subst (λ (d : ℤ). ProofTest p held kept (arc_value c.args.area) d mult) (to_z-of_z w64 c.in-Proof.den fits)
    (subst (λ (pairs : List (ℤ × ℤ)). ProofTest p held kept (arc_value c.args.area) number pairs) c.as_slice.ensures
    (subst (λ (a : Area). ProofTest p held kept a number c.as_slice.result.now) c.deref.ensures c.in_ok-kept.ensures))))
