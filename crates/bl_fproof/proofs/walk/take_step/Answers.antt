use Rattle.std.proofs.Common.{rules, ◌≡◌, ◌∙◌, ap, subst, sym, List, [], ◌∷◌, ◌++◌, true, Some, ℤ}
use Rattle.std.specs.Prelude.{FitsSigned}
use Rattle.std.specs.Int.{w64}
use Rattle.std.proofs.lemmas.Int.{to_z-of_z}
use Rattle.bl_terms.specs.Points.{Area}
use Rattle.bl_terms.specs.Trees.{Split}
use Rattle.bl_fproof.specs.Steps.{node_of}
use Rattle.bl_fproof.specs.Stacks.{IsPart, IsStepTaken, AreHalves}
use Rattle.bl_fproof.proofs.Walks.{step_split}
use Rattle.bl_fproof.proofs.walk.take_step.Goals as goal

pub returns-in_ok-push-in-Split-2 : goal.returns-in_ok-push-in-Split-2
returns-in_ok-push-in-Split-2 c =
    let rest = c.pop.new.self.items in
    let old : c.args.stack.now.items ≡ rest ++ c.in-Some.part ∷ [] = c.in-Some.ensures.items in
    let one : c.push.new.self.items ≡ rest ++ c.in-Some-2.high ∷ [] = c.in_ok-push-in-Split.ensures.items in
    let two : c.push-in-Split.new.self.items ≡ c.push.new.self.items ++ c.in-Some-2.low ∷ [] =
    c.in_ok-push-in-Split-2.ensures.items in
    let at : FitsSigned w64 c.in-Split.at = search rules in
    let halves : AreHalves c.in-Some.part c.in-Split.column c.in-Split.at (c.in-Some-2.low, c.in-Some-2.high) =
    rw to_z-of_z at (rw (c.in-Some-2.is) at c.in_ok-low-in-Split.ensures) in
    let all = rw old at c.requires in
    rw (c.in-Split.is, old, two, one)
    (step_split c.args.rows.now c.args.cutoff c.in-Split.column c.in-Split.at c.in-Some.part c.in-Some-2.low
    c.in-Some-2.high rest all halves)
