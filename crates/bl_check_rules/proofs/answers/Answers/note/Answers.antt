use Rattle.std.proofs.Common.{◌∙◌, ap, List, Some}
use Rattle.std.specs.Prelude.{ℤ, if◌then◌else◌}
use Rattle.std.specs.Cmp.Lexicographic.{pointwise}
use Rattle.std.specs.Ordering.{int_eq}
use Rattle.bl_check_rules.specs.Answers.{answer_in}
use Rattle.bl_check_rules.proofs.Insertions.{said-of}
use Rattle.bl_check_rules.proofs.answers.Answers.note.Goals as goal

pub returns : goal.returns
returns c =
    λ l.
    rw (c.in_ok-insert.ensures.entries)
    (said-of l c.args.self.now.answers.entries c.in_ok-key.key c.args.value
    ∙ ap (λ (m : List ℤ). if pointwise int_eq l m then Some c.args.value else answer_in c.args.self.now l)
    c.in_ok-key.ensures.items)
