-- The verdicts on lines of which only the sense is asked.
use Rattle.std.proofs.Common.{◌≡◌, Bool, List, Option, refl}
use Rattle.std.specs.Prelude.{ℤ, ◌↔◌, IsTrue}
use Rattle.bl_terms.specs.Programs.{Program}
use Rattle.bl_certline.specs.declared.line.CertLine.{CertLine}
use Rattle.bl_certline.specs.declared.line.CertLine.TheVariants as lines
use Rattle.bl_certline.specs.declared.line.TightItem.{TightItem}
use Rattle.bl_certtext.specs.declared.part.Part.TheVariants as parts
use Rattle.bl_check_terms.specs.declared.rule.CertRule.{CertRule}
use Rattle.bl_check_terms.specs.declared.rule.CertRule.TheVariants as rules
use Rattle.bl_check_terms.specs.Rules.{KeepsSense}
use Rattle.bl_check_walk.specs.declared.site.Site.TheVariants as sites
use Rattle.bl_check.specs.declared.checker.Checker.{Checker}
use Rattle.bl_check.specs.Keeping.{IsJudged, IsKept, IsUnless}
use Rattle.bl_check.proofs.Verdicts.{nine, tells}

-- of the line nothing is kept, and no other rule asks something of it
abbrev pub IsPlain : CertLine → Type 0
IsPlain (lines.StatesOptimal value) = ⊥
IsPlain (lines.Point values) = ⊥
IsPlain (lines.EntryHead link) = ⊥
IsPlain (lines.Best value response) = ⊥
IsPlain (lines.CutCount count) = ⊥
IsPlain (lines.Area sides) = ⊥
IsPlain (lines.TightList items) = ⊥
IsPlain (lines.Inverse den) = ⊥
IsPlain (lines.Unit pairs) = ⊥
IsPlain (lines.At values) = ⊥
IsPlain (lines.Response values) = ⊥
IsPlain line = Unit {0}

-- the line is none of those that are judged otherwise
pub is_plain : (line : CertLine) → ((value : ℤ) → line ≡ lines.StatesOptimal value → ⊥)
    → ((values : List ℤ) → line ≡ lines.Point values → ⊥) → ((link : List ℤ) → line ≡ lines.EntryHead link → ⊥)
    → ((value : ℤ) (response : List ℤ) → line ≡ lines.Best value response → ⊥)
    → ((count : ℤ) → line ≡ lines.CutCount count → ⊥) → ((sides : List (ℤ × ℤ)) → line ≡ lines.Area sides → ⊥)
    → ((items : List TightItem) → line ≡ lines.TightList items → ⊥) → ((den : ℤ) → line ≡ lines.Inverse den → ⊥)
    → ((pairs : List (ℤ × ℤ)) → line ≡ lines.Unit pairs → ⊥) → ((values : List ℤ) → line ≡ lines.At values → ⊥)
    → ((values : List ℤ) → line ≡ lines.Response values → ⊥) → IsPlain line
is_plain (lines.StatesOptimal value) a b c d e f g h i j k = a value refl
is_plain (lines.Point values) a b c d e f g h i j k = b values refl
is_plain (lines.EntryHead link) a b c d e f g h i j k = c link refl
is_plain (lines.Best value response) a b c d e f g h i j k = d value response refl
is_plain (lines.CutCount count) a b c d e f g h i j k = e count refl
is_plain (lines.Area sides) a b c d e f g h i j k = f sides refl
is_plain (lines.TightList items) a b c d e f g h i j k = g items refl
is_plain (lines.Inverse den) a b c d e f g h i j k = h den refl
is_plain (lines.Unit pairs) a b c d e f g h i j k = i pairs refl
is_plain (lines.At values) a b c d e f g h i j k = j values refl
is_plain (lines.Response values) a b c d e f g h i j k = k values refl
is_plain line a b c d e f g h i j k = tt

-- the verdict where the sense is tested
abbrev pub IsSenseVerdict : Program → Checker → CertLine → Bool → Option CertRule → Type 0
IsSenseVerdict p old line kept broken =
    IsUnless kept rules.Sense broken → IsTrue kept ↔ KeepsSense p line → IsJudged p old sites.Elsewhere line broken old

module _ (p : Program) (old : Checker) (kept : Bool) (broken : Option CertRule) where
  version_line : (number : ℤ) → IsSenseVerdict p old (lines.Version number) kept broken
  version_line number e test c parts.Version expected h =
      tells p c parts.Version (lines.Version number) 0 rules.Sense (IsKept p old c) kept broken refl nine e test
      (λ k. h.said)
  version_line number e test c part expected h = absurd h.formed.form

  sense_line : (maximise : Bool) → IsSenseVerdict p old (lines.Sense maximise) kept broken
  sense_line maximise e test c parts.Sense expected h =
      tells p c parts.Sense (lines.Sense maximise) 0 rules.Sense (IsKept p old c) kept broken refl nine e test
      (λ k. h.said)
  sense_line maximise e test c part expected h = absurd h.formed.form

  infeasible_line : IsSenseVerdict p old lines.StatesInfeasible kept broken
  infeasible_line e test c parts.Statement expected h =
      tells p c parts.Statement lines.StatesInfeasible 0 rules.Sense (IsKept p old c) kept broken refl nine e test
      (λ k. h.said)
  infeasible_line e test c part expected h = absurd h.formed.form

  entries_line : (count : ℤ) → IsSenseVerdict p old (lines.Entries count) kept broken
  entries_line count e test c parts.EntryCount expected h =
      tells p c parts.EntryCount (lines.Entries count) 0 rules.Sense (IsKept p old c) kept broken refl nine e test
      (λ k. h.said)
  entries_line count e test c part expected h = absurd h.formed.form

  no_answer_line : IsSenseVerdict p old lines.NoAnswer kept broken
  no_answer_line e test c parts.Answer expected h =
      tells p c parts.Answer lines.NoAnswer 0 rules.Sense (IsKept p old c) kept broken refl nine e test (λ k. h.said)
  no_answer_line e test c (parts.Tree a cuts) expected h = absurd h.site_is
  no_answer_line e test c part expected h = absurd h.formed.form

  cut_line : IsSenseVerdict p old lines.CutHead kept broken
  cut_line e test c (parts.Cuts place count) expected h =
      tells p c (parts.Cuts place count) lines.CutHead 0 rules.Sense (IsKept p old c) kept broken refl nine e test
      (λ k. h.said)
  cut_line e test c part expected h = absurd h.formed.form

  tree_line : IsSenseVerdict p old lines.TreeHead kept broken
  tree_line e test c (parts.Head cuts) expected h =
      tells p c (parts.Head cuts) lines.TreeHead 0 rules.Sense (IsKept p old c) kept broken refl nine e test
      (λ k. h.said)
  tree_line e test c part expected h = absurd h.formed.form

  end_line : IsSenseVerdict p old lines.End kept broken
  end_line e test c parts.End expected h =
      tells p c parts.End lines.End 0 rules.Sense (IsKept p old c) kept broken refl nine e test (λ k. h.said)
  end_line e test c part expected h = absurd h.formed.form

  -- nodes of trees stand elsewhere
  no_split : (column place : ℤ) → IsSenseVerdict p old (lines.Split column place) kept broken
  no_split column place e test c (parts.FollowerTree a) expected h = absurd h.site_is
  no_split column place e test c (parts.Tree a cuts) expected h = absurd h.site_is
  no_split column place e test c part expected h = absurd h.formed.form

  no_proof : (den : ℤ) (mult : List (ℤ × ℤ)) → IsSenseVerdict p old (lines.Proof den mult) kept broken
  no_proof den mult e test c (parts.FollowerTree a) expected h = absurd h.site_is
  no_proof den mult e test c part expected h = absurd h.formed.form

  no_close : (den : ℤ) (uses : Bool) (count : ℤ) (cited : List ℤ) (mult : List (ℤ × ℤ))
      → IsSenseVerdict p old (lines.Close den uses count cited mult) kept broken
  no_close den uses count cited mult e test c (parts.Tree a cuts) expected h = absurd h.site_is
  no_close den uses count cited mult e test c part expected h = absurd h.formed.form

  pub plain_line : (line : CertLine) → IsPlain line → IsSenseVerdict p old line kept broken
  plain_line (lines.Version number) plain = version_line number
  plain_line (lines.Sense maximise) plain = sense_line maximise
  plain_line lines.StatesInfeasible plain = infeasible_line
  plain_line (lines.Entries count) plain = entries_line count
  plain_line lines.NoAnswer plain = no_answer_line
  plain_line (lines.Split column place) plain = no_split column place
  plain_line (lines.Proof den mult) plain = no_proof den mult
  plain_line lines.CutHead plain = cut_line
  plain_line lines.TreeHead plain = tree_line
  plain_line (lines.Close den uses count cited mult) plain = no_close den uses count cited mult
  plain_line lines.End plain = end_line
  plain_line line plain = absurd plain
