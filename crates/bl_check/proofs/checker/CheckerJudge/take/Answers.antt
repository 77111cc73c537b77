use Rattle.std.proofs.Common.{Option, Result, subst, sym}
use Rattle.std.specs.Prelude.{IfOk}
use Rattle.bl_terms.specs.Programs.{Program}
use Rattle.bl_certline.specs.declared.line.CertLine.{CertLine}
use Rattle.bl_check_terms.specs.declared.rule.CertRule.{CertRule}
use Rattle.bl_check_walk.specs.declared.site.Site.{Site}
use Rattle.bl_check.specs.declared.checker.Checker.{Checker}
use Rattle.bl_check.specs.Keeping.{IsJudged}
use Rattle.bl_check.proofs.checker.CheckerJudge.take.Goals as goal

-- a verdict on the line at the site
abbrev Answers : {E : Type 0} → Program → Checker → Checker → CertLine → Result (Option CertRule) E → Site → Type 0
Answers p old new line result site = IfOk result (λ broken. IsJudged p old site line broken new)

pub returns-in-FollowerTree : goal.returns-in-FollowerTree
returns-in-FollowerTree c =
    subst (Answers c.args.model.now c.args.self.now c.args.self.now c.args.line c.follower_node.result)
    (sym c.in-FollowerTree.is) c.follower_node.ensures

pub returns-in-Tree : goal.returns-in-Tree
returns-in-Tree c =
    subst (Answers c.args.model.now c.args.self.now c.args.self.now c.args.line c.node.result) (sym c.in-Tree.is)
    c.node.ensures

pub returns-in-Elsewhere : goal.returns-in-Elsewhere
returns-in-Elsewhere c =
    subst (Answers c.args.model.now c.args.self.now c.plain_line.new.self c.args.line c.plain_line.result)
    (sym c.in-Elsewhere.is) c.plain_line.ensures
