-- Trusted. What a checker keeps of the entries and the cuts that were said, and what stands while it does.
use Rattle.std.specs.Prelude.{◌≡◌, ◌<◌, ◌^◌, ℤ, List, [], ◌∷◌, Option, Some, None, length, map, if◌then◌else◌}
use Rattle.std.specs.Cmp.Lexicographic.{pointwise}
use Rattle.std.specs.Option.{option_or}
use Rattle.std.specs.Ordering.{int_eq}
use Rattle.bl_whole.specs.Within.{IsWithin}
use Rattle.bl_terms.specs.Points.{IsArea, IsWithinArea}
use Rattle.bl_terms.specs.Programs.{Program, InBox, columns, root}
use Rattle.bl_cut_terms.specs.NoGoods.{CutStep, LocalRow, last_step, local_row, no_local_row, tight_rows}
use Rattle.bl_cut_proof.specs.Rows.{AreRows}
use Rattle.bl_cert_terms.specs.declared.stated.Statement.{Statement}
use Rattle.bl_cert_terms.specs.declared.stated.Statement.TheVariants.{Optimal, Infeasible}
use Rattle.bl_cert_terms.specs.Certificates.{ProvedEntry, Certificate, AreRising}
use Rattle.bl_check_rules.specs.declared.answers.Answers.{Answers}
use Rattle.bl_check_rules.specs.Answers.{answer_in}
use Rattle.bl_check_terms.specs.Reading.{before_last}
use Rattle.bl_check_terms.specs.Rules.{cutoff_of_entry}
use Rattle.bl_check_terms.specs.declared.rule.CertRule.{CertRule}
use Rattle.bl_check_terms.specs.declared.rule.CertRule.TheVariants as rules
use Rattle.bl_check_state.specs.declared.cuts.HeldCuts.{HeldCuts}
use Rattle.bl_check_state.specs.declared.said.Said.{Said}

-- ---- what the entries say

-- what the last entry of the link says, if there is one: the least cost of a response, or that there is none
abbrev pub answer_of : List ℤ → List ProvedEntry → Option (Option ℤ)
answer_of link [] = None
answer_of link (e ∷ entries) =
    option_or (answer_of link entries)
    (if pointwise int_eq link e.link then Some (cutoff_of_entry e.entry) else None)

-- of each link this is kept
abbrev pub AreSaid : Answers → List ProvedEntry → Type 0
AreSaid kept entries = (link : List ℤ) → answer_in kept link ≡ answer_of link entries

-- ---- the cuts

-- the last one, which the checker has at hand
abbrev pub last_row : List LocalRow → LocalRow
last_row [] = no_local_row
last_row (r ∷ []) = r
last_row (r ∷ s ∷ rows) = last_row (s ∷ rows)

-- these are the cuts, and of the last one the rows that it adds up, which have 32-bit places, the number of its
-- inverse, how many units it has, and its point
pub record AreCuts (p : Program) (held : HeldCuts) (cuts : List CutStep) : Type 0 where
  pub rows : held.cuts.items ≡ map local_row cuts
  pub tight : held.tight.items
      ≡ tight_rows p (last_step cuts).area (map local_row (before_last cuts)) (last_step cuts).parts.tight
  pub few : length held.tight.items < 2 ^ 32
  pub den : held.den ≡ (last_step cuts).parts.den
  pub units : held.units ≡ length (last_step cuts).parts.units
  pub point : held.point.items ≡ (last_step cuts).parts.point

-- ---- what stands

-- rows of cuts: of so many columns as the program, with small numbers
abbrev pub AreCutRows : Program → List LocalRow → Type 0
AreCutRows p rows = AreRows (columns p) (map (λ r. r.row) rows)

-- there is a cut, its box is a part of the program's, and those before it have rows
pub record IsBegun (p : Program) (rows : List LocalRow) : Type 0 where
  pub some : 0 < length rows
  pub area : IsArea (last_row rows).area
  pub within : IsWithinArea (last_row rows).area (root p)
  pub earlier : AreCutRows p (before_last rows)

-- the rows that are added up are small, and have 32-bit places
pub record IsSummed (p : Program) (held : HeldCuts) : Type 0 where
  pub rows : AreRows (columns p) held.tight.items
  pub few : length held.tight.items < 2 ^ 32

-- a point that is stated to be optimal lies in the program's box
abbrev pub IsStatedInside : Program → Statement → Type 0
IsStatedInside p (Optimal z v) = InBox p z
IsStatedInside p Infeasible = Unit {0}

-- the stated point lies in the box, what is kept of links is small, and all cuts have rows: so the problem of a leaf
-- has numbers within its limits
pub record IsReady (p : Program) (said : Said) : Type 0 where
  pub inside : IsStatedInside p said.statement
  pub answers : (link : List ℤ) (v : ℤ) → answer_in said.answers link ≡ Some (Some v) → IsWithin (2 ^ 62) v
  pub cuts : AreCutRows p said.cuts.cuts.items

-- ---- the whole

-- this was said; the links of the entries rise
pub record IsSaid (p : Program) (said : Said) (c : Certificate) : Type 0 where
  pub statement : said.statement ≡ c.statement
  pub rising : AreRising c.entries
  pub answers : AreSaid said.answers c.entries
  pub cuts : AreCuts p said.cuts c.cuts

-- ---- the rules of a leaf

-- the rule is the first of the two that is broken
abbrev pub IsLeafRule : Type 0 → Type 0 → CertRule → Type 0
IsLeafRule Cites Proves rules.Cited = ¬ Cites
IsLeafRule Cites Proves rules.Proof = Cites × ¬ Proves
IsLeafRule Cites Proves rule = ⊥
