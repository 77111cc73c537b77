use Rattle.std.proofs.Common.{ℕ, Option, sym, subst, ◌∙◌, inl, inr, rules, arith, pos}
use Rattle.std.specs.Prelude.{IfNone, [], ◌∷◌, ◌<ℤ◌, ℤ}
use Rattle.bl_words.specs.Items.{IsNumber}
use Rattle.bl_words.proofs.Readings.{no-number, small-fits}
use Rattle.bl_words.proofs.words.number_in.Goals as goal
use Rattle.bl_words.proofs.words.number_in.Goals.{then-number-from-via-then-number-from}
use Rattle.bl_words.proofs.words.number_in.Goals.{then-number-from-via-else-number-from+then-number-from-2}

pub returns-in_err-number-clause-refused : goal.returns-in_err-number-clause-refused
returns-in_err-number-clause-refused c =
    subst (λ (o : Option ℕ). IfNone o ((number : ℕ) → IsNumber c.args.limits (c.args.text.now ∷ []) number → ⊥))
    (sym c.from_residual.ensures)
    (λ number h. c.in_err-number.ensures.none (pos number)
    (small-fits number (omega (arith, c.requires, h.1))) (c.as_bytes.ensures.value ∙ h.2))

pub returns-then-number-from-clause-refused : goal.returns-then-number-from-clause-refused
returns-then-number-from-clause-refused c =
    no-number c.args.limits c.args.text.now c.in_ok-number.number
    (sym c.as_bytes.ensures.value ∙ c.in_ok-number.ensures.some)
    (search rules)
    c.requires
    (elim c.then-number-from.branch [
      | then-number-from-via-then-number-from w ↦ inl (search rules)
      | then-number-from-via-else-number-from+then-number-from-2 w ↦ inr (search rules)
    ])
