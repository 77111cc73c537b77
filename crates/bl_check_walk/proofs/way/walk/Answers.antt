use Rattle.std.proofs.Common.{◌≡◌, ◌<◌, [], length, arith, rules}
use Rattle.std.proofs.lemmas.Bool.Decides.{nat_tests}
use Rattle.bl_certtext.specs.Texts.{start}
use Rattle.bl_check_walk.specs.Walks.{IsAdvance}
use Rattle.bl_check_walk.proofs.ReadLines.{advance-shorter, known-top, none-left, reached-end, reached-more}
use Rattle.bl_check_walk.proofs.ReadLines.{reached-none, reached-refused, reached-tail, top-sound}
use Rattle.bl_check_walk.proofs.Verdicts.{advanced, refused}
use Rattle.bl_check_walk.proofs.way.walk.Given.{Over}
use Rattle.bl_check_walk.proofs.way.walk.Goals as goal

pub loop-part-init : goal.loop-part-init
loop-part-init g c =
    let p = c.args.model.now in
    let e : c.push.new.self.items ≡ start = search rules in
    reached-none (g.J.Judge.says c.args.judge.now p) p c.args.bytes.now c.push.new.self.items e c.requires

pub advance-requires-clause-sound : goal.advance-requires-clause-sound
advance-requires-clause-sound g c =
    let p = c.args.model.now in
    top-sound (g.J.Judge.says c.loop-part.judge p) p c.args.bytes.now c.loop-part.number c.loop-part.stack.items
    c.pop.new.self.items c.in-Some.part c.loop-part.rest.now c.loop-part.invariant c.in-Some.ensures.items

pub advance-requires-clause-known : goal.advance-requires-clause-known
advance-requires-clause-known g c =
    let p = c.args.model.now in
    known-top (g.J.Judge.says c.loop-part.judge p) p c.args.bytes.now c.loop-part.number c.loop-part.stack.items
    c.pop.new.self.items c.in-Some.part c.loop-part.rest.now c.loop-part.invariant c.in-Some.ensures.items

-- the next line is right
right : (g : Over) (c : goal.In-Ok g)
    → IsAdvance (g.J.Judge.says c.loop-part.judge c.args.model.now)
    (g.J.Judge.says c.advance.new.judge c.args.model.now)
    c.args.model.now c.in-Some.part c.loop-part.rest.now c.in-Ok.behind.now c.pop.new.self.items
    c.advance.new.stack.items
right g c =
    let p = c.args.model.now in
    advanced (g.J.Judge.says c.loop-part.judge p) (g.J.Judge.says c.advance.new.judge p) p c.in-Some.part
    c.loop-part.rest.now c.pop.new.self.items c.advance.new.stack.items c.in_ok-behind.field-0 c.in-Ok.behind
    c.in_ok-behind.ensures c.in-Ok.is

pub loop-part-preserved : goal.loop-part-preserved
loop-part-preserved g c =
    let p = c.args.model.now in
    reached-more (g.J.Judge.says c.loop-part.judge p) (g.J.Judge.says c.advance.new.judge p) p c.args.bytes.now
    c.loop-part.number c.loop-part.stack.items c.pop.new.self.items c.in-Some.part c.loop-part.rest.now
    c.in-Ok.behind.now c.advance.new.stack.items c.lo-columns.ensures.model c.loop-part.invariant
    c.in-Some.ensures.items (right g c)

pub loop-part-smaller : goal.loop-part-smaller
loop-part-smaller g c =
    let p = c.args.model.now in
    let k =
    known-top (g.J.Judge.says c.loop-part.judge p) p c.args.bytes.now c.loop-part.number c.loop-part.stack.items
    c.pop.new.self.items c.in-Some.part c.loop-part.rest.now c.loop-part.invariant c.in-Some.ensures.items in
    advance-shorter (g.J.Judge.says c.loop-part.judge p) (g.J.Judge.says c.advance.new.judge p) p k.0 c.in-Some.part
    c.loop-part.rest.now c.in-Ok.behind.now c.pop.new.self.items c.advance.new.stack.items k.1 (right g c)

pub returns-in-Err : goal.returns-in-Err
returns-in-Err g c =
    let p = c.args.model.now in
    reached-refused (g.J.Judge.says c.loop-part.judge p) p c.args.bytes.now c.loop-part.number c.loop-part.stack.items
    c.pop.new.self.items c.in-Some.part c.loop-part.rest.now c.in-Err.rule c.loop-part.invariant
    c.in-Some.ensures.items
    (refused (g.J.Judge.says c.loop-part.judge p) (g.J.Judge.says c.advance.new.judge p) p c.in-Some.part
    c.loop-part.rest.now c.pop.new.self.items c.advance.new.stack.items c.in_ok-behind.field-0 c.in-Err.rule
    c.in_ok-behind.ensures c.in-Err.is)

pub returns-then-not-is_empty : goal.returns-then-not-is_empty
returns-then-not-is_empty g c =
    let p = c.args.model.now in
    let e : c.loop-part.stack.items ≡ [] = search rules in
    let some : 0 < length c.loop-part.rest.now = grind (arith, nat_tests) in
    reached-tail (g.J.Judge.says c.loop-part.judge p) p c.args.bytes.now c.loop-part.number c.loop-part.stack.items
    c.loop-part.rest.now c.loop-part.invariant e some

pub returns : goal.returns
returns g c =
    let p = c.args.model.now in
    let e : c.loop-part.stack.items ≡ [] = search rules in
    let size : length c.loop-part.rest.now ≡ 0 = grind (arith, nat_tests) in
    reached-end (g.J.Judge.says c.loop-part.judge p) p c.args.bytes.now c.loop-part.number c.loop-part.stack.items
    c.loop-part.rest.now c.loop-part.invariant e (none-left c.loop-part.rest.now size)
