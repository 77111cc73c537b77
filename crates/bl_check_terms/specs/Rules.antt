-- Trusted. What each rule of certificates asks of a line, beside its form and place, where a certificate was said so
-- far.
use Rattle.std.specs.Prelude.{ℕ, ℤ, pos, Bool, true, false, ⊤, ◌≡◌, ◌<◌, ◌+◌, List, [], ◌∷◌, ◌++◌, length, map, All}
use Rattle.std.specs.Prelude.{Option, Some, None, if◌then◌else◌, nat_eq, unsigned_abs}
use Rattle.bl_limits.specs.declared.TheConstants.{MAX_PROBLEM_COEFFICIENT, MAX_PROBLEM_RHS}
use Rattle.bl_whole.specs.Sums.{dot}
use Rattle.bl_whole.specs.Within.{IsWithin, AreWithin}
use Rattle.bl_terms.specs.Points.{Area, Fixes, Linear}
use Rattle.bl_terms.specs.Programs.{Program, MeetsRows, columns, link_of, follower_at, value_at}
use Rattle.bl_terms.specs.Responses.{Entry, Best, NoResponse, IsResponse, response_cost}
use Rattle.bl_terms.specs.Bounds.{Multipliers, Proves, linear_at}
use Rattle.bl_terms.specs.FollowerProofs.{follower_problem}
use Rattle.bl_model.specs.Build.{leader_sense_of}
use Rattle.bl_cut_terms.specs.declared.parts.Tight.{Tight}
use Rattle.bl_cut_terms.specs.NoGoods.{CutStep, LocalRow, local_row, last_step, step_at, combined, cut_row, tight_rows}
use Rattle.bl_cut_terms.specs.NoGoods.{IsThere, HasBetterResponse}
use Rattle.bl_leaf_terms.specs.Nodes.{fixed_link}
use Rattle.bl_leaf_terms.specs.Leaves.{leaf_problem}
use Rattle.bl_cert_terms.specs.declared.stated.Statement.{Statement}
use Rattle.bl_cert_terms.specs.declared.stated.Statement.TheVariants.{Optimal, Infeasible}
use Rattle.bl_cert_terms.specs.Certificates.{ProvedEntry, SaysBest, stated_cutoff, IsCited, UsesValue, IsUnanswered}
use Rattle.bl_cert_terms.specs.Certificates.{Certificate}
use Rattle.bl_certline.specs.declared.line.CertLine.{CertLine}
use Rattle.bl_certline.specs.declared.line.CertLine.TheVariants as lines
use Rattle.bl_certtext.specs.declared.part.Part.{Part}
use Rattle.bl_certtext.specs.declared.part.Part.TheVariants as parts
use Rattle.bl_certtext.specs.Places.{lower_count}
use Rattle.bl_check_terms.specs.declared.rule.CertRule.{CertRule}
use Rattle.bl_check_terms.specs.declared.rule.CertRule.TheVariants as rules
use Rattle.bl_check_terms.specs.Values.{multipliers, followers_area, tight_of, unit_of}
use Rattle.bl_check_terms.specs.Reading.{before_last, last_entry, stated_value}

-- ---- what is stated

-- the sense is the leader's. A text of version 1 is of a leader who minimises
abbrev pub KeepsSense : Program → CertLine → Type 0
KeepsSense p (lines.Version number) = number ≡ pos 1 → p.leader_sense ≡ pos 1
KeepsSense p (lines.Sense maximise) = p.leader_sense ≡ leader_sense_of maximise
KeepsSense p line = ⊤

-- the point meets the rows and has the stated value
abbrev pub KeepsPoint : Program → Certificate → CertLine → Type 0
KeepsPoint p c (lines.Point values) = MeetsRows p values × (value_at p values ≡ stated_value c.statement)
KeepsPoint p c line = ⊤

-- where a point is stated to be optimal, it costs the follower what an entry says of its link
abbrev pub HasFollower : Program → List ProvedEntry → Statement → Type 0
HasFollower p entries (Optimal z v) = SaysBest entries (link_of p z) (follower_at p z)
HasFollower p entries Infeasible = ⊤

abbrev pub KeepsFollower : Program → Certificate → CertLine → Type 0
KeepsFollower p c (lines.CutCount count) = HasFollower p c.entries c.statement
KeepsFollower p c line = ⊤

-- ---- entries

-- the response meets the follower's rows at the entry's link, and has the cost
abbrev pub KeepsBest : Program → Certificate → CertLine → Type 0
KeepsBest p c (lines.Best value response) =
    IsResponse p (last_entry c.entries).link response × (response_cost p response ≡ value)
KeepsBest p c line = ⊤

-- the cost that a proof of an entry has to reach
abbrev pub cutoff_of_entry : Entry → Option ℤ
cutoff_of_entry (Best y v) = Some v
cutoff_of_entry NoResponse = None

-- the multipliers prove it over a part of the follower's box
abbrev pub ProvesEntry : Program → ProvedEntry → Area → Multipliers → Type 0
ProvesEntry p e a w = Proves (follower_problem p e.link (followers_area p a)) (cutoff_of_entry e.entry) w

-- ---- cuts

-- the cut that is being read, and the rows of those before it
abbrev pub cut_at_hand : Certificate → CutStep
cut_at_hand c = last_step c.cuts

abbrev pub rows_before : Certificate → List LocalRow
rows_before c = map local_row (before_last c.cuts)

-- the tight rows of the cut at hand
abbrev pub rows_at_hand : Program → Certificate → List Linear
rows_at_hand p c = tight_rows p (cut_at_hand c).area (rows_before c) (cut_at_hand c).parts.tight

-- the boxes of the used cuts contain the cut's, and its numbers are within their limits
pub record IsSized (p : Program) (a : Area) (earlier : List LocalRow) (tight : List Tight) : Type 0 where
  pub there : All (IsThere p a earlier) tight
  pub coef : AreWithin MAX_PROBLEM_COEFFICIENT (cut_row p a earlier tight).coef
  pub rhs : IsWithin MAX_PROBLEM_RHS (cut_row p a earlier tight).rhs

abbrev pub KeepsSize : Program → Certificate → CertLine → Type 0
KeepsSize p c (lines.TightList items) = IsSized p (cut_at_hand c).area (rows_before c) (map tight_of items)
KeepsSize p c line = ⊤

-- the rows combine to the number of the inverse in the column, and to 0 in each other one
abbrev pub CombinesTo : ℕ → List Linear → ℤ → List (ℕ × ℤ) → ℕ → Type 0
CombinesTo n rows den unit j = (k : ℕ) → k < n → combined rows unit k ≡ (if nat_eq j k then den else pos 0)

abbrev pub KeepsInverse : Program → Certificate → CertLine → Type 0
KeepsInverse p c (lines.Unit pairs) =
    CombinesTo (columns p) (rows_at_hand p c) (cut_at_hand c).parts.den (unit_of pairs)
    (length (cut_at_hand c).parts.units)
KeepsInverse p c line = ⊤

-- the rows hold with equality at the point
abbrev pub HoldEqual : List Linear → List ℤ → Type 0
HoldEqual rows z = (i : ℕ) → i < length rows → dot (linear_at rows i).coef z ≡ (linear_at rows i).rhs

abbrev pub KeepsTight : Program → Certificate → CertLine → Type 0
KeepsTight p c (lines.At values) = HoldEqual (rows_at_hand p c) values
KeepsTight p c line = ⊤

-- the response is one to the point's link, and is cheaper
abbrev pub KeepsResponse : Program → Certificate → CertLine → Type 0
KeepsResponse p c (lines.Response values) = HasBetterResponse p (cut_at_hand c).parts.point values
KeepsResponse p c line = ⊤

-- ---- leaves

-- where a leaf uses the value row, its box fixes the linking columns and an entry says what the best response costs
abbrev pub HasValueRow : Program → Certificate → Area → Bool → Type 0
HasValueRow p c a true = Fixes a p.links × ((v : ℤ) × SaysBest c.entries (fixed_link p a) v)
HasValueRow p c a false = ⊤

-- the boxes of the cited cuts contain the leaf's, and the value row is one
pub record CitesRightly (p : Program) (c : Certificate) (a : Area) (uses : Bool) (cited : List ℕ) : Type 0 where
  pub cuts : All (IsCited c.cuts a) cited
  pub value : HasValueRow p c a uses

abbrev pub KeepsCited : Program → Certificate → Part → CertLine → Type 0
KeepsCited p c (parts.Tree a cuts) (lines.Close den uses count cited mult) =
    CitesRightly p c a uses (map unsigned_abs cited)
KeepsCited p c (parts.Tree a cuts) lines.NoAnswer = IsUnanswered p c a
KeepsCited p c part line = ⊤

-- the multipliers prove the cutoff over the box, by the program's rows, the value row and the cited cuts
pub record ProvesLeaf (p : Program) (c : Certificate) (a : Area) (w : Multipliers) (uses : Bool) (cited : List ℕ)
    : Type 0 where
  pub value : Option ℤ
  pub has : UsesValue p c.entries a w uses value
  pub proof : Proves (leaf_problem p a value (map (λ k. (step_at c.cuts k).row) cited)) (stated_cutoff p c.statement) w

abbrev pub KeepsProof : Program → Certificate → Part → CertLine → Type 0
KeepsProof p c (parts.FollowerTree a) (lines.Proof den mult) =
    ProvesEntry p (last_entry c.entries) a (multipliers (lower_count p) den mult)
KeepsProof p c (parts.Tree a cuts) (lines.Close den uses count cited mult) =
    ProvesLeaf p c a (multipliers (length p.rows + 1 + length cited) den mult) uses (map unsigned_abs cited)
KeepsProof p c part line = ⊤

-- ---- all rules

-- a line that may stand at the part keeps the rule, where the certificate was said before it
abbrev pub Keeps : Program → Certificate → Part → CertLine → CertRule → Type 0
Keeps p c part line rules.Syntax = ⊤
Keeps p c part line rules.Place = ⊤
Keeps p c part line rules.Sense = KeepsSense p line
Keeps p c part line rules.Point = KeepsPoint p c line
Keeps p c part line rules.Best = KeepsBest p c line
Keeps p c part line rules.Follower = KeepsFollower p c line
Keeps p c part line rules.Size = KeepsSize p c line
Keeps p c part line rules.Inverse = KeepsInverse p c line
Keeps p c part line rules.Tight = KeepsTight p c line
Keeps p c part line rules.Response = KeepsResponse p c line
Keeps p c part line rules.Cited = KeepsCited p c part line
Keeps p c part line rules.Proof = KeepsProof p c part line
Keeps p c part line rules.Tail = ⊤

-- the rules in the order in which they are tested, once a line has its form and place
abbrev pub rule_order : List CertRule
rule_order =
    rules.Sense ∷ rules.Point ∷ rules.Best ∷ rules.Follower ∷ rules.Size ∷ rules.Inverse ∷ rules.Tight
    ∷ rules.Response ∷ rules.Cited ∷ rules.Proof ∷ []

-- the line keeps all of them
abbrev pub KeepsAll : Program → Certificate → Part → CertLine → Type 0
KeepsAll p c part line = All (Keeps p c part line) rule_order

-- the rule is the first that the line breaks
pub record IsFirstBroken (p : Program) (c : Certificate) (part : Part) (line : CertLine) (rule : CertRule)
    : Type 0 where
  pub before : List CertRule
  pub behind : List CertRule
  pub order : rule_order ≡ before ++ rule ∷ behind
  pub kept : All (Keeps p c part line) before
  pub broken : ¬ Keeps p c part line rule
