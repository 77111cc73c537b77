use Rattle.std.proofs.Common.{true≢false, sym, ◌∙◌, length, ◌+◌, arith}
use Rattle.std.specs.Int.{w64}
use Rattle.std.proofs.lemmas.Int.{to_z-of_z}
use Rattle.bl_check_leaf.proofs.LeafRules.{cites_is, proves_is}
use Rattle.bl_check_leaf.proofs.closing.close.Goals as goal

pub returns-then-not-cites_rightly : goal.returns-then-not-cites_rightly
returns-then-not-cites_rightly c =
    λ cert is rightly.
    let cites =
    cites_is c.args.model.now c.args.said.now cert c.args.area.now c.args.value_row c.deref.result.now c.args.cited.now
    c.in_ok-value.value c.cites_rightly.result c.deref.ensures.value c.cites_rightly.ensures is c.requires.leaf.there
    c.in_ok-value.ensures in
    true≢false (sym (cites.1 rightly) ∙ c.if-not-cites_rightly.true)

pub returns-then-not-proves : goal.returns-then-not-proves
returns-then-not-proves c =
    λ cert is.
    let p = c.args.model.now in
    let n = length p.rows + 1 + length c.args.cited.now in
    let cites =
    cites_is p c.args.said.now cert c.args.area.now c.args.value_row c.deref.result.now c.args.cited.now
    c.in_ok-value.value c.cites_rightly.result c.deref.ensures.value c.cites_rightly.ensures is c.requires.leaf.there
    c.in_ok-value.ensures in
    let proves =
    proves_is p c.args.said.now cert c.args.area.now n _ c.args.den c.args.mult.now c.args.value_row c.args.cited.now
    c.in_ok-value.value c.in_ok-proves.proves (to_z-of_z w64 c.args.den c.ranges.den) c.in_ok-proves.ensures is
    c.in_ok-value.ensures (c.cites_rightly.ensures.0 c.if-not-cites_rightly.false).1 (omega arith)
    c.requires.leaf.value in
    (cites.0 c.if-not-cites_rightly.false, λ h. true≢false (sym (proves.1 h) ∙ c.if-not-proves.true))

pub returns : goal.returns
returns c =
    λ cert is.
    let p = c.args.model.now in
    let n = length p.rows + 1 + length c.args.cited.now in
    let cites =
    cites_is p c.args.said.now cert c.args.area.now c.args.value_row c.deref.result.now c.args.cited.now
    c.in_ok-value.value c.cites_rightly.result c.deref.ensures.value c.cites_rightly.ensures is c.requires.leaf.there
    c.in_ok-value.ensures in
    let proves =
    proves_is p c.args.said.now cert c.args.area.now n _ c.args.den c.args.mult.now c.args.value_row c.args.cited.now
    c.in_ok-value.value c.in_ok-proves.proves (to_z-of_z w64 c.args.den c.ranges.den) c.in_ok-proves.ensures is
    c.in_ok-value.ensures (c.cites_rightly.ensures.0 c.if-not-cites_rightly.false).1 (omega arith)
    c.requires.leaf.value in
    (cites.0 c.if-not-cites_rightly.false, proves.0 c.if-not-proves.false)
