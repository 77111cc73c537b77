use Rattle.std.proofs.Common.{List, ℕ, subst, sym}
use Rattle.std.specs.Prelude.{All}
use Rattle.bl_certline.specs.declared.line.TightItem.{TightItem}
use Rattle.bl_certtext.specs.Places.{IsThere}
use Rattle.bl_check.proofs.CutLines.{SizeTest, tight_begun, tight_line, tight_there}
use Rattle.bl_check.proofs.checker.Checker.tight.Goals as goal

pub size-requires-clause-begun : goal.size-requires-clause-begun
size-requires-clause-begun c =
    tight_begun c.args.model.now c.args.self.now c.args.items c.lo-columns.ensures.model c.requires.asked

pub size-requires-clause-there : goal.size-requires-clause-there
size-requires-clause-there c =
    subst (λ (items : List TightItem). (place : ℕ) × All (IsThere c.args.model.now place) items)
    (sym c.as_slice.ensures) (tight_there c.args.model.now c.args.self.now c.args.items c.requires.asked)

pub returns : goal.returns
returns c =
    let p = c.args.model.now in
    let old = c.args.self.now in
    let kept = c.in_ok-kept.kept in
    tight_line p old c.size.new.held c.args.items kept c.unless.result c.unless.ensures
    (subst (SizeTest p old.said.cuts c.size.new.held kept) c.as_slice.ensures c.in_ok-kept.ensures)
