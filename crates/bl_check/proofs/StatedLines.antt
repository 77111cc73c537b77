-- The verdicts on lines of what is stated and of what entries say.
use Rattle.std.proofs.Common.{◌≡◌, ◌-◌, Bool, List, [], ◌∷◌, ◌++◌, Option, None, Some, refl, sym, ap, subst, ◌∙◌}
use Rattle.std.specs.Prelude.{ℤ, ◌↔◌, IsTrue}
use Rattle.bl_terms.specs.Programs.{Program, MeetsRows, value_at}
use Rattle.bl_terms.specs.Responses.{Best, IsResponse, response_cost}
use Rattle.bl_model.specs.View.{IsModel}
use Rattle.bl_cert_terms.specs.declared.stated.Statement.{Statement}
use Rattle.bl_cert_terms.specs.declared.stated.Statement.TheVariants.{Optimal, Infeasible}
use Rattle.bl_cert_terms.specs.Certificates.{ProvedEntry, Certificate}
use Rattle.bl_certline.specs.declared.line.CertLine.TheVariants as lines
use Rattle.bl_certtext.specs.declared.part.Part.TheVariants as parts
use Rattle.bl_certtext.specs.Grammar.{entries_from}
use Rattle.bl_check_rules.specs.declared.answers.Answers.{Answers}
use Rattle.bl_check_terms.specs.declared.rule.CertRule.{CertRule}
use Rattle.bl_check_terms.specs.declared.rule.CertRule.TheVariants as rules
use Rattle.bl_check_terms.specs.Reading.{entry_of_link, last_entry, stated_value, with_answer, with_line}
use Rattle.bl_check_terms.specs.Reading.{with_point}
use Rattle.bl_check_terms.specs.Rules.{HasFollower, KeepsAll}
use Rattle.bl_check_terms.proofs.EntrySteps.{step_entries}
use Rattle.bl_check_terms.proofs.Lasts.{changed_last, last_entry-push}
use Rattle.bl_check_terms.proofs.Readings.{all_rules}
use Rattle.bl_check_terms.proofs.Standing.{AnswerStands, IsStatedPoint, Stands}
use Rattle.bl_check_walk.specs.declared.site.Site.TheVariants as sites
use Rattle.bl_check_state.specs.Saying.{IsSaid, IsStatedInside}
use Rattle.bl_check.specs.declared.entry.OpenEntry.{OpenEntry}
use Rattle.bl_check.specs.declared.checker.Checker.{Checker}
use Rattle.bl_check.specs.Keeping.{IsAsked, IsJudged, IsKept, IsNoted, IsOpenAs, IsUnless}
use Rattle.bl_check.proofs.SaidEntries.{at_hand, none_at_hand, open_rises, rising_same, said_last, said_push}
use Rattle.bl_check.proofs.Verdicts.{nine, stands, tells}

-- ---- what is stated

-- what the test tells of the point
abbrev pub PointTest : Program → Statement → Statement → Bool → List ℤ → Type 0
PointTest p old new kept values =
    (IsTrue kept ↔ (MeetsRows p values × (value_at p values ≡ stated_value old)))
    × (IsTrue kept → new ≡ with_point values old)

pub point_line : (p : Program) (old : Checker) (statement : Statement) (values : List ℤ) (kept : Bool)
    (broken : Option CertRule) → IsUnless kept rules.Point broken → PointTest p old.said.statement statement kept values
    → IsJudged p old sites.Elsewhere (lines.Point values) broken
    (record old { said = record old.said { statement = statement } })
point_line p old statement values kept broken e test c parts.Point expected h =
    let line = lines.Point values in
    let new : Checker = record old { said = record old.said { statement = statement } } in
    let same = h.said.said.statement in
    tells p c parts.Point line 1 rules.Point (IsKept p new (with_line p parts.Point line c)) kept broken refl nine e
    (subst (λ (s : Statement). IsTrue kept ↔ (MeetsRows p values × (value_at p values ≡ stated_value s))) same test.0)
    (λ k. record {
      said = record {
        statement = test.1 k ∙ ap (with_point values) same;
        rising = h.said.said.rising;
        answers = h.said.said.answers;
        cuts = h.said.said.cuts;
      };
      entry = h.said.entry;
    })
point_line p old statement values kept broken e test c part expected h = absurd h.formed.form

stated_inside : (p : Program) (s : Statement) → IsStatedPoint p s → IsStatedInside p s
stated_inside p (Optimal z v) h = h.0
stated_inside p Infeasible h = tt

pub follower_inside : (p : Program) (old : Checker) (count : ℤ) → IsModel p
    → IsAsked p old sites.Elsewhere (lines.CutCount count) → IsStatedInside p old.said.statement
follower_inside p old count g (c, (parts.CutCount, (expected, h))) =
    let st : Stands p (parts.CutCount ∷ expected) c =
    stands (IsKept p old) p sites.Elsewhere (lines.CutCount count) c parts.CutCount expected g h in
    subst (IsStatedInside p) (sym h.said.said.statement) (stated_inside p c.statement st.2.0)
follower_inside p old count g (c, (part, (expected, h))) = absurd h.formed.form

pub cut_count_line : (p : Program) (old : Checker) (count : ℤ) (kept : Bool) (broken : Option CertRule)
    → IsUnless kept rules.Follower broken
    → ((c : Certificate) → IsSaid p old.said c → IsTrue kept ↔ HasFollower p c.entries c.statement)
    → IsJudged p old sites.Elsewhere (lines.CutCount count) broken old
cut_count_line p old count kept broken e test c parts.CutCount expected h =
    tells p c parts.CutCount (lines.CutCount count) 3 rules.Follower (IsKept p old c) kept broken refl nine e
    (test c h.said.said) (λ k. h.said)
cut_count_line p old count kept broken e test c part expected h = absurd h.formed.form

-- ---- entries

pub entry_head_line : (p : Program) (old : Checker) (answers : Answers) (held : OpenEntry) (link : List ℤ) → IsModel p
    → IsNoted old.said.answers answers link None → IsOpenAs p held (entry_of_link link)
    → IsJudged p old sites.Elsewhere (lines.EntryHead link) None
    (record old { said = record old.said { answers = answers }; entry = Some held })
entry_head_line p old answers held link g noted is c (parts.Entries left last) expected h =
    let part = parts.Entries left last in
    let line = lines.EntryHead link in
    let next = entry_of_link link in
    let kept : KeepsAll p c part line = all_rules p c part line tt tt tt tt tt tt tt tt tt tt in
    let st : AnswerStands p (with_line p part line c) (entries_from (left - 1) (Some link) ++ expected) =
    step_entries p left last expected c line (stands (IsKept p old) p sites.Elsewhere line c part expected g h)
    (record { formed = h.formed; placed = h.placed; rules = kept }) in (
      kept,
      record {
        said = record {
          statement = h.said.said.statement;
          rising = open_rises p (c.entries ++ next ∷ []) st.link st.opened;
          answers = said_push old.said.answers answers c.entries next h.said.said.answers noted;
          cuts = h.said.said.cuts;
        };
        entry = subst (IsOpenAs p held) (sym (last_entry-push c.entries next)) is;
      },
    )
entry_head_line p old answers held link g noted is c part expected h = absurd h.formed.form

pub best_at_hand : (p : Program) (old : Checker) (value : ℤ) (response : List ℤ) → IsModel p
    → IsAsked p old sites.Elsewhere (lines.Best value response) → old.entry ≡ None → ⊥
best_at_hand p old value response g (c, (parts.Answer, (expected, h))) e =
    let st : AnswerStands p c expected =
    stands (IsKept p old) p sites.Elsewhere (lines.Best value response) c parts.Answer expected g h in
    none_at_hand p old.entry c.entries h.said.entry st.opened.ends e
best_at_hand p old value response g (c, (part, (expected, h))) e = absurd h.formed.form

-- what the test of a response tells of the entry at hand
abbrev pub IsAnswered : Program → OpenEntry → OpenEntry → Answers → Answers → ℤ → List ℤ → Bool → Type 0
IsAnswered p held new old_answers answers value response kept =
    (e : ProvedEntry) → IsOpenAs p held e
    → (IsTrue kept ↔ (IsResponse p e.link response × (response_cost p response ≡ value)))
    × (IsTrue kept
    → IsOpenAs p new (with_answer (Best response value) e) × IsNoted old_answers answers e.link (Some value))

pub best_line : (p : Program) (old : Checker) (held new : OpenEntry) (answers : Answers) (value : ℤ)
    (response : List ℤ) (kept : Bool) (broken : Option CertRule) → IsModel p → old.entry ≡ Some held
    → IsUnless kept rules.Best broken → IsAnswered p held new old.said.answers answers value response kept
    → IsJudged p old sites.Elsewhere (lines.Best value response) broken
    (record old { said = record old.said { answers = answers }; entry = Some new })
best_line p old held new answers value response kept broken g same e test c parts.Answer expected h =
    let line = lines.Best value response in
    let x = Best response value in
    let then : Checker = record old { said = record old.said { answers = answers }; entry = Some new } in
    let st : AnswerStands p c expected = stands (IsKept p old) p sites.Elsewhere line c parts.Answer expected g h in
    let t = test (last_entry c.entries) (at_hand p old.entry c.entries held h.said.entry same) in
    let l = changed_last last_entry last_entry-push (with_answer x) c.entries st.opened.ends in
    tells p c parts.Answer line 2 rules.Best (IsKept p then (with_line p parts.Answer line c)) kept broken refl nine e
    t.0 (λ k. record {
      said = record {
        statement = h.said.said.statement;
        rising = rising_same (with_answer x) (λ d. refl) c.entries h.said.said.rising;
        answers = said_last old.said.answers answers c.entries x st.opened.ends h.said.said.answers (t.1 k).1;
        cuts = h.said.said.cuts;
      };
      entry = subst (IsOpenAs p new) (sym l.same) (t.1 k).0;
    })
best_line p old held new answers value response kept broken g same e test c part expected h = absurd h.formed.form
