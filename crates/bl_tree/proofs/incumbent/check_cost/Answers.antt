use Rattle.std.proofs.Common.{◌∙◌, ap, sym, arith, rules, false}
use Rattle.std.specs.Prelude.{FitsSigned, int_lt, ◌≡◌, ◌≤ℤ◌}
use Rattle.std.specs.Int.{w64}
use Rattle.std.proofs.lemmas.Int.{ints, to_z-of_z}
use Rattle.bl_terms.specs.Programs.{follower_at}
use Rattle.bl_fproof.specs.Steps.{entry_of}
use Rattle.bl_tree.proofs.Incumbents.{answered_there, shown_by}
use Rattle.bl_tree.proofs.incumbent.check_cost.Goals as goal

pub unreachable-requires : goal.unreachable-requires
unreachable-requires c =
    answered_there c.args.model.now c.args.point.now c.args.entry.now c.answered.ensures.admitted c.requires.own
    c.requires.rows (ap entry_of (sym c.answered.ensures.value ∙ c.in-NoResponse.is))

pub returns-clause-ok : goal.returns-clause-ok
returns-clause-ok c =
    let low : FitsSigned w64 c.in-Best.value = search rules in
    let high : FitsSigned w64 c.follower_of-cost.result = search rules in
    let cost = c.follower_of-cost.ensures in
    let test : int_lt c.in-Best.value c.follower_of-cost.result ≡ false =
    rw (to_z-of_z w64 _ low, to_z-of_z w64 _ high) at c.if-value-cost.false in
    let no_more : follower_at c.args.model.now c.args.point.now ≤ℤ c.in-Best.value = omega (arith, ints) in
    shown_by c.args.model.now c.args.point.now c.args.entry.now c.in-Best.response c.in-Best.value
    c.answered.ensures.admitted c.requires.own c.requires.rows
    (ap entry_of (sym c.answered.ensures.value ∙ c.in-Best.is)) no_more
