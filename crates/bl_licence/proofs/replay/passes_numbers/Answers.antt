use Rattle.std.proofs.Common.{rules, ◌≡◌, length, inl, inr, refl, sym, ◌∙◌}
use Rattle.std.proofs.lemmas.Bool.{false≢true}
use Rattle.bl_licence.proofs.Limits.{numbers_from, numbers_to}
use Rattle.bl_licence.proofs.replay.passes_numbers.Goals as goal

pub returns-then-closing : goal.returns-then-closing
returns-then-closing c =
    let steps = c.take_steps.ensures.steps.0 (search rules) in
    let took = c.take_steps.ensures.taken (search rules) in
    let closing = c.in_ok-closing.ensures.0 (search rules) in (
      λ _. numbers_from c.args.problem.now c.args.cutoff
          (length c.args.pivots.now) c.in_ok-tableau.tableau c.take_steps.new.tableau c.args.pivots.now
          c.in_ok-tableau.ensures steps took (inl closing),
      λ _. refl,
    )

pub returns : goal.returns
returns c =
    let q = c.args.problem.now in
    let u = c.args.cutoff in
    let ps = c.args.pivots.now in
    let steps = c.take_steps.ensures.steps.0 (search rules) in
    let took = c.take_steps.ensures.taken (search rules) in (
      λ t. numbers_from q u
          (length ps) c.in_ok-tableau.tableau c.take_steps.new.tableau ps c.in_ok-tableau.ensures steps took
          (inr (c.in_ok-past.ensures.0 t)),
      λ h.
          elim (numbers_to q u
          (length ps) c.in_ok-tableau.tableau c.take_steps.new.tableau ps c.in_ok-tableau.ensures took h) [
            | inl closing ↦ absurd (false≢true (sym c.if-closing.false ∙ c.in_ok-closing.ensures.1 closing))
            | inr point ↦ c.in_ok-past.ensures.1 point
          ],
    )
