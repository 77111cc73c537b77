-- Internal. What a checker keeps of the certificate that was said so far, what it is asked of a line, and its verdict.
use Rattle.std.specs.Prelude.{◌≡◌, ℤ, Bool, List, [], Option, Some, None, if◌then◌else◌}
use Rattle.std.specs.Cmp.Lexicographic.{pointwise}
use Rattle.std.specs.Ordering.{int_eq}
use Rattle.bl_terms.specs.Programs.{Program}
use Rattle.bl_cert_terms.specs.Certificates.{ProvedEntry, Certificate}
use Rattle.bl_certline.specs.declared.line.CertLine.{CertLine}
use Rattle.bl_fproof.specs.Entries.{whole_problem}
use Rattle.bl_check_rules.specs.declared.answers.Answers.{Answers}
use Rattle.bl_check_rules.specs.Answers.{answer_in}
use Rattle.bl_check_terms.specs.declared.rule.CertRule.{CertRule}
use Rattle.bl_check_terms.specs.Reading.{last_entry}
use Rattle.bl_check_terms.specs.Rules.{cutoff_of_entry}
use Rattle.bl_check_walk.specs.declared.site.Site.{Site}
use Rattle.bl_check_walk.specs.Judges.{Stands, IsVerdict}
use Rattle.bl_check_state.specs.Saying.{IsSaid}
use Rattle.bl_check.specs.declared.entry.OpenEntry.{OpenEntry}
use Rattle.bl_check.specs.declared.checker.Checker.{Checker}

-- ---- the entry that is being read

-- this is said of it, and the rows are the follower's problem of its link
pub record IsOpenAs (p : Program) (held : OpenEntry) (e : ProvedEntry) : Type 0 where
  pub link : held.link.items ≡ e.link
  pub value : held.value ≡ cutoff_of_entry e.entry
  pub rows : held.rows ≡ whole_problem p e.link

-- the last of the entries is at hand, where there is one
abbrev pub IsAtHand : Program → Option OpenEntry → List ProvedEntry → Type 0
IsAtHand p None entries = entries ≡ []
IsAtHand p (Some held) entries = IsOpenAs p held (last_entry entries)

-- this is said of the link in place of what was said of it, and nothing else changes
abbrev pub IsNoted : Answers → Answers → List ℤ → Option ℤ → Type 0
IsNoted old new link value =
    (other : List ℤ) → answer_in new other ≡ (if pointwise int_eq other link then Some value else answer_in old other)

-- ---- the whole

-- this was said
pub record IsKept (p : Program) (checker : Checker) (c : Certificate) : Type 0 where
  pub said : IsSaid p checker.said c
  pub entry : IsAtHand p checker.entry c.entries

-- ---- lines

-- the line stands where it was said what the checker keeps
abbrev pub IsAsked : Program → Checker → Site → CertLine → Type 0
IsAsked p old site line = Stands (IsKept p old) p site line

-- the verdict on the line, and what the checker keeps then
abbrev pub IsJudged : Program → Checker → Site → CertLine → Option CertRule → Checker → Type 0
IsJudged p old site line broken new = IsVerdict (IsKept p old) (IsKept p new) p site line broken

-- the rule is told where it isn't kept
abbrev pub IsUnless : Bool → CertRule → Option CertRule → Type 0
IsUnless kept rule broken = broken ≡ (if kept then None else Some rule)
