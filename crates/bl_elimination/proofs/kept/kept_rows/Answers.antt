use Rattle.std.proofs.Common.{◌≡◌, ◌≢◌, ◌+◌, ap, sym, ◌∙◌, subst, drop, length, arith}
use Rattle.std.proofs.Math.Seq.{drop-length}
use Rattle.std.proofs.lemmas.List.{get_or_read}
use Rattle.std.proofs.lemmas.Result.{err_from_is_err_and}
use Rattle.bl_terms.specs.Bounds.{no_linear}
use Rattle.bl_elimination.specs.Elimination.{eliminated}
use Rattle.std.specs.Prelude.{Err}
use Rattle.bl_elimination.specs.declared.basis.NoBasis.TheVariants.{NotUnique}
use Rattle.bl_elimination.specs.Keeping.{HasShape}
use Rattle.bl_elimination.proofs.Candidates.{eliminated_done, eliminated_short, eliminated_more, eliminated_err}
use Rattle.bl_elimination.proofs.kept.kept_rows.Goals as goal

pub returns-then-len-columns-clause-exact : goal.returns-then-len-columns-clause-exact
returns-then-len-columns-clause-exact c =
    c.loop-i.invariant.rest ∙ eliminated_done c.args.columns c.loop-i.kept c.loop-i.i _ (omega (arith, c.len.ensures))

pub returns-in_err-take-clause-exact : goal.returns-in_err-take-clause-exact
returns-in_err-take-clause-exact c =
    let p = err_from_is_err_and c.from_residual.result c.from_residual.ensures.1 in
    let rows = c.args.rows.now in
    let i = c.loop-i.i in
    let other : length c.loop-i.kept.rows ≢ c.args.columns = omega (arith, c.len.ensures) in
    let is = c.coef.ensures
    ∙ ap (λ r. r.coef) (get_or_read rows i c.index-rows-i.result (omega arith) c.index-rows-i.is no_linear) in
    rw (p.1, p.2)
    (eliminated_err c.args.columns c.loop-i.kept c.loop-i.kept rows i _ _ _
    (omega arith) other is c.in_err-take.ensures.taken
    c.loop-i.invariant.rest)

pub loop-i-preserved : goal.loop-i-preserved
loop-i-preserved c =
    let rows = c.args.rows.now in
    let i = c.loop-i.i in
    let other : length c.loop-i.kept.rows ≢ c.args.columns = omega (arith, c.len.ensures) in
    let is = c.coef.ensures
    ∙ ap (λ r. r.coef) (get_or_read rows i c.index-rows-i.result (omega arith) c.index-rows-i.is no_linear) in
    record {
      rest = c.loop-i.invariant.rest
          ∙ eliminated_more c.args.columns c.loop-i.kept c.take.new.self rows i _ (omega arith) other is
          c.in_ok-take.ensures.taken;
      shape = subst (λ n. HasShape (n + n) c.take.new.self) (ap length is ∙ c.requires.sizes i no_linear (omega arith))
          c.in_ok-take.ensures.shape;
      count = let h = c.in_ok-take.ensures.count in let k = c.loop-i.invariant.count in omega arith;
    }

pub returns-then-len-columns-2-clause-exact : goal.returns-then-len-columns-2-clause-exact
returns-then-len-columns-2-clause-exact c =
    let rows = c.args.rows.now in
    let last : c.loop-i.i ≡ length rows = omega arith in
    let other : length c.loop-i.kept.rows ≢ c.args.columns = omega (arith, c.len-2.ensures) in
    c.loop-i.invariant.rest
    ∙ ap (eliminated c.args.columns c.loop-i.kept c.loop-i.i) (ap (λ k. drop k rows) last ∙ drop-length rows)
    ∙ eliminated_short c.args.columns c.loop-i.kept c.loop-i.i other
    ∙ ap (λ n. Err (NotUnique n)) (sym c.len-then-len-columns-2.ensures)

pub returns-clause-exact : goal.returns-clause-exact
returns-clause-exact c =
    c.loop-i.invariant.rest
    ∙ eliminated_done c.args.columns c.loop-i.kept c.loop-i.i _ (omega (arith, c.len-2.ensures))
