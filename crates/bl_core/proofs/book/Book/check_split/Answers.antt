use Rattle.std.proofs.Common.{◌≡◌, sym, ◌∙◌, ap, subst, rules, w64}
use Rattle.std.specs.Prelude.{ℤ, Option, Some, FitsSigned}
use Rattle.std.proofs.lemmas.Bool.{true≢false}
use Rattle.std.proofs.lemmas.Int.{to_z-of_z}
use Rattle.bl_leaf_terms.specs.Incumbents.{Incumbent, cutoff_of}
use Rattle.bl_book_terms.specs.Books.{Claimed, HasStatus, IsCurrent}
use Rattle.bl_core.specs.Refusals.{MayBeHalved}
use Rattle.bl_core.proofs.book.Book.check_split.Goals as goal

pub returns-clause-err : goal.returns-clause-err
returns-clause-err c =
    let fits : FitsSigned w64 c.in-Some.kept = search rules in
    let kept = to_z-of_z w64 c.in-Some.kept fits in
    let may : MayBeHalved c.args.self.now.ledger.book c.args.worker c.args.node c.args.halves.now c.args.why.now =
    search rules in
    let low = rw kept at c.if-not-reaches.ensures in
    rw kept (
      may,
      record {
        claimed = rw (← c.in-Some.is) c.in_ok-best.ensures.ok;
        old = λ current. true≢false (sym (low.1 (rw c.cutoff.ensures.value current)));
      },
    )
