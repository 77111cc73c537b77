-- Trusted. What is said of a link.
use Rattle.std.specs.Prelude.{ℤ, List, Option}
use Rattle.std.specs.Cmp.Lexicographic.{pointwise}
use Rattle.std.specs.Map.{lookup}
use Rattle.std.specs.Ordering.{int_eq}
use Rattle.bl_check_rules.specs.declared.answers.Answers.{Answers as Kept}

-- what is said of the link, number for number
abbrev pub answer_in : Kept → List ℤ → Option (Option ℤ)
answer_in kept link = lookup (λ k. pointwise int_eq link k.items) kept.answers.entries
