use Rattle.std.proofs.Common.{sym, ◌∙◌, ◌%◌}
use Rattle.std.proofs.Math.Nat.{mul_comm}
use Rattle.bl_frac.proofs.Ratios.{ratios_by_quotients, ratios_by_rests, ratios_at_zero}
use Rattle.bl_frac.proofs.order.+compare_ratios.Goals as goal

pub returns-then-left-right : goal.returns-then-left-right
returns-then-left-right t c =
    let a = c.args in
    c.cmp.ensures ∙ ratios_by_quotients a.p a.q a.r a.s c.requires.left c.requires.right c.if-left-right.true

pub returns-then-left-eq0 : goal.returns-then-left-eq0
returns-then-left-eq0 t c =
    let a = c.args in
    c.cmp-then-left-eq0.ensures
    ∙ ratios_at_zero (a.p % a.q) (a.r % a.s) a.q a.s c.requires.left c.requires.right c.then-left-eq0.either
    ∙ sym (ratios_by_rests a.p a.q a.r a.s c.if-left-right.false)

pub returns : goal.returns
returns t c =
    let a = c.args in
    let e = ratios_by_rests a.p a.q a.r a.s c.if-left-right.false in
    let first = mul_comm a.s (a.p % a.q) in
    let second = mul_comm a.q (a.r % a.s) in
    cc
