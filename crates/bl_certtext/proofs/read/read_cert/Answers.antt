use Rattle.std.proofs.Common.{◌≡◌, [], ◌∷◌, ◌++◌, rules}
use Rattle.bl_certtext.proofs.Walks.{reached_step}
use Rattle.bl_certtext.proofs.read.read_cert.Goals as goal

pub loop-part-preserved : goal.loop-part-preserved
loop-part-preserved c =
    let lines = c.loop-part.lines.items in
    let pushed : c.push-in-Some.new.self.items ≡ lines ++ c.in-Some-2.line ∷ [] = search rules in
    reached_step c.args.model.now c.args.bytes.now lines c.push-in-Some.new.self.items c.loop-part.stack.items
    c.pop.new.self.items c.in-Some.part c.loop-part.rest.now c.in_ok-line.field-0 c.in-Some-2.line c.in-Some-2.behind
    c.advance.new.stack.items c.loop-part.invariant c.in-Some.ensures.items c.in_ok-line.ensures c.in-Some-2.is pushed
