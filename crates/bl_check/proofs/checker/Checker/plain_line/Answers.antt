use Rattle.std.proofs.Common.{None, Option, Result, rules, subst, sym, ◌∙◌, ap}
use Rattle.std.specs.Prelude.{ℤ, FitsSigned, IfOk}
use Rattle.std.specs.Int.{w64}
use Rattle.std.proofs.lemmas.Int.{to_z-of_z}
use Rattle.std.proofs.lemmas.Result.{IfOk-weaker}
use Rattle.bl_terms.specs.Programs.{Program}
use Rattle.bl_certline.specs.declared.line.CertLine.{CertLine}
use Rattle.bl_certline.specs.declared.line.CertLine.TheVariants.{StatesOptimal, Best, Inverse}
use Rattle.bl_check_terms.specs.declared.rule.CertRule.{CertRule}
use Rattle.bl_check_walk.specs.declared.site.Site.TheVariants.{Elsewhere}
use Rattle.bl_check.specs.declared.checker.Checker.{Checker}
use Rattle.bl_check.specs.Keeping.{IsJudged}
use Rattle.bl_check.proofs.PlainLines.{is_plain, plain_line}
use Rattle.bl_check.proofs.checker.Checker.plain_line.Goals as goal

-- a verdict on the line, written otherwise
abbrev Judges : Program → Checker → Checker → Option CertRule → CertLine → Type 0
Judges p old new broken line = IsJudged p old Elsewhere line broken new

abbrev Answers : {E : Type 0} → Program → Checker → Checker → Result (Option CertRule) E → CertLine → Type 0
Answers p old new result line = IfOk result (λ broken. IsJudged p old Elsewhere line broken new)

pub returns-in-StatesOptimal : goal.returns-in-StatesOptimal
returns-in-StatesOptimal c =
    let p = c.args.model.now in
    let value = c.in-StatesOptimal.value in
    let fits : FitsSigned w64 c.in-StatesOptimal.value = search rules in
    subst (Judges p c.args.self.now c.optimal.new.self None)
    (ap (λ (v : ℤ). StatesOptimal v) (to_z-of_z w64 value fits) ∙ sym c.in-StatesOptimal.is) (c.optimal.ensures p)

pub returns-in-Point : goal.returns-in-Point
returns-in-Point c =
    subst (Judges c.args.model.now c.args.self.now c.point.new.self c.point.result) (sym c.in-Point.is) c.point.ensures

pub returns-in-EntryHead : goal.returns-in-EntryHead
returns-in-EntryHead c =
    subst (Answers c.args.model.now c.args.self.now c.entry_head.new.self c.entry_head.result) (sym c.in-EntryHead.is)
    c.entry_head.ensures

pub returns-in-Best : goal.returns-in-Best
returns-in-Best c =
    let fits : FitsSigned w64 c.in-Best.value = search rules in
    subst (Answers c.args.model.now c.args.self.now c.best.new.self c.best.result)
    (ap (λ (v : ℤ). Best v c.in-Best.response) (to_z-of_z w64 c.in-Best.value fits) ∙ sym c.in-Best.is) c.best.ensures

pub returns-in-CutCount : goal.returns-in-CutCount
returns-in-CutCount c =
    let p = c.args.model.now in
    let old = c.args.self.now in
    IfOk-weaker c.cut_count.result _ _
    (λ broken h. subst (Judges p old old broken) (sym c.in-CutCount.is) (h c.in-CutCount.count)) c.cut_count.ensures

pub returns-in-Area : goal.returns-in-Area
returns-in-Area c =
    subst (Answers c.args.model.now c.args.self.now c.area.new.self c.area.result) (sym c.in-Area.is) c.area.ensures

pub returns-in-TightList : goal.returns-in-TightList
returns-in-TightList c =
    subst (Answers c.args.model.now c.args.self.now c.tight.new.self c.tight.result) (sym c.in-TightList.is)
    c.tight.ensures

pub returns-in-Inverse : goal.returns-in-Inverse
returns-in-Inverse c =
    let fits : FitsSigned w64 c.in-Inverse.den = search rules in
    subst (Judges c.args.model.now c.args.self.now c.inverse.new.self None)
    (ap (λ (d : ℤ). Inverse d) (to_z-of_z w64 c.in-Inverse.den fits) ∙ sym c.in-Inverse.is) c.inverse.ensures

pub returns-in-Unit : goal.returns-in-Unit
returns-in-Unit c =
    subst (Answers c.args.model.now c.args.self.now c.unit.new.self c.unit.result) (sym c.in-Unit.is) c.unit.ensures

pub returns-in-At : goal.returns-in-At
returns-in-At c =
    subst (Answers c.args.model.now c.args.self.now c.at.new.self c.at.result) (sym c.in-At.is) c.at.ensures

pub returns-in-Response : goal.returns-in-Response
returns-in-Response c =
    subst (Answers c.args.model.now c.args.self.now c.args.self.now c.response.result) (sym c.in-Response.is)
    c.response.ensures

pub returns-in_default : goal.returns-in_default
returns-in_default c =
    let n = c.in_default in
    plain_line c.args.model.now c.args.self.now c.keeps_sense.result c.unless.result c.args.line
    (is_plain c.args.line n.not-StatesOptimal n.not-Point n.not-EntryHead n.not-Best n.not-CutCount n.not-Area
    n.not-TightList n.not-Inverse n.not-Unit n.not-At n.not-Response) c.unless.ensures c.keeps_sense.ensures
