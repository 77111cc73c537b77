use Rattle.std.proofs.Common.{ap, sym, ◌∙◌, subst}
use Rattle.std.specs.Prelude.{Option}
use Rattle.std.proofs.lemmas.Result.{err_from_is_err_and}
use Rattle.bl_elimination.specs.Elimination.{Kept, kept_with}
use Rattle.bl_elimination.specs.Keeping.{IsTaken}
use Rattle.bl_elimination.proofs.Candidates.{taken_at_err, after_reduced}
use Rattle.bl_elimination.proofs.kept.Kept.take.Goals as goal

pub returns-in_err-row-clause-taken : goal.returns-in_err-row-clause-taken
returns-in_err-row-clause-taken c =
    let p = err_from_is_err_and c.from_residual.result c.from_residual.ensures.1 in
    rw (p.1, p.2)
    (taken_at_err c.args.self.now c.args.self.now c.args.number c.args.coef.now _ c.in_err-row.ensures.reduced)

pub returns-in-Some-clause-taken : goal.returns-in-Some-clause-taken
returns-in-Some-clause-taken c =
    let P : Option Kept → Type 0 = λ o. IsTaken o c.args.number c.keep.result c.keep.new.self in
    subst P
    (ap (kept_with c.args.self.now c.args.number c.in_ok-row.row) c.in-Some.ensures.value
    ∙ sym (after_reduced c.args.self.now c.args.number c.args.coef.now c.in_ok-row.row c.in_ok-row.ensures.reduced))
    c.keep.ensures.kept

pub returns-in-None-clause-taken : goal.returns-in-None-clause-taken
returns-in-None-clause-taken c =
    after_reduced c.args.self.now c.args.number c.args.coef.now c.in_ok-row.row c.in_ok-row.ensures.reduced
    ∙ ap (kept_with c.args.self.now c.args.number c.in_ok-row.row) (sym c.in-None.ensures.value)
