-- The verdicts on the lines of trees.
use Rattle.std.proofs.Common.{◌≡◌, ℕ, ◌+◌, ◌^◌, Bool, true, false, List, [], ◌∷◌, length, Option, None, Some, refl, sym}
use Rattle.std.proofs.Common.{ap, subst, ◌∙◌, Global}
use Rattle.std.specs.Prelude.{ℤ, ◌↔◌, IsTrue, All, MatchOption, if◌then◌else◌, map, unsigned_abs}
use Rattle.std.specs.Arc.{arc_value}
use Rattle.std.specs.Cmp.Lexicographic.{pointwise}
use Rattle.std.specs.Option.{option_or}
use Rattle.std.specs.Ordering.{int_eq}
use Rattle.std.specs.declared.sync.Arc.{Arc}
use Rattle.std.proofs.lemmas.List.{length-map}
use Rattle.std.proofs.lemmas.List.Elements.{All-head, All-tail}
use Rattle.bl_whole.specs.Within.{IsWithin}
use Rattle.bl_terms.specs.Points.{Area}
use Rattle.bl_terms.specs.Programs.{Program}
use Rattle.bl_terms.specs.Responses.{Entry, Best, NoResponse}
use Rattle.bl_terms.specs.Trees.{BareNode, Leaf, Split}
use Rattle.bl_terms.specs.Bounds.{Multipliers}
use Rattle.bl_terms.specs.FollowerProofs.{IsFollowerProof}
use Rattle.bl_model.specs.View.{IsModel}
use Rattle.bl_cut_terms.specs.NoGoods.{local_row}
use Rattle.bl_cert_terms.specs.declared.stated.Statement.{Statement}
use Rattle.bl_cert_terms.specs.declared.stated.Statement.TheVariants.{Optimal, Infeasible}
use Rattle.bl_cert_terms.specs.Certificates.{ProvedEntry, Certificate, LeafProof, NoAnswer, IsProvedEntry}
use Rattle.bl_cert_terms.specs.Certificates.{HasShownPoint, IsUnanswered}
use Rattle.bl_certline.specs.declared.line.CertLine.{CertLine}
use Rattle.bl_certline.specs.declared.line.CertLine.TheVariants as lines
use Rattle.bl_certtext.specs.declared.part.Part.{Part}
use Rattle.bl_certtext.specs.declared.part.Part.TheVariants as parts
use Rattle.bl_certtext.specs.Places.{IsLeaf, lower_count}
use Rattle.bl_fproof.specs.Entries.{whole_problem}
use Rattle.bl_tree.proofs.Problems.{response_small}
use Rattle.bl_check_terms.specs.declared.rule.CertRule.{CertRule}
use Rattle.bl_check_terms.specs.declared.rule.CertRule.TheVariants as rules
use Rattle.bl_check_terms.specs.Reading.{add_node, change_entry, last_entry, leaf_of, with_line, with_node}
use Rattle.bl_check_terms.specs.Rules.{CitesRightly, ProvesEntry, ProvesLeaf, cutoff_of_entry}
use Rattle.bl_check_terms.specs.Values.{multipliers, place_in}
use Rattle.bl_check_terms.proofs.Readings.{all_rules}
use Rattle.bl_check_terms.proofs.Standing.{FollowerStands, TreeStands}
use Rattle.bl_check_walk.specs.declared.site.Site.TheVariants as sites
use Rattle.bl_check_walk.specs.Judges.{StandsAt}
use Rattle.bl_check_state.specs.Saying.{AreCutRows, IsLeafRule, IsReady, IsSaid, IsStatedInside, answer_of}
use Rattle.bl_check.specs.declared.entry.OpenEntry.{OpenEntry}
use Rattle.bl_check.specs.declared.checker.Checker.{Checker}
use Rattle.bl_check.specs.Keeping.{IsAsked, IsJudged, IsKept, IsUnless}
use Rattle.bl_check.proofs.Counting.{counted}
use Rattle.bl_check.proofs.CutRows.{cut_rows}
use Rattle.bl_check.proofs.SaidEntries.{at_hand, node_at_hand, none_at_hand, rising_same, said_node}
use Rattle.bl_check.proofs.Verdicts.{Tells, breaks_first, nine, stands, tells}

-- ---- trees of the follower

-- a node of an entry's proof
node_kept : (p : Program) (old : Checker) (c : Certificate) (n : BareNode Multipliers) → IsKept p old c
    → IsKept p old (change_entry (with_node n) c)
node_kept p old c n h = record {
  said = record {
    statement = h.said.statement;
    rising = rising_same (with_node n) (λ e. refl) c.entries h.said.rising;
    answers = said_node old.said.answers n c.entries h.said.answers;
    cuts = h.said.cuts;
  };
  entry = node_at_hand p old.entry n c.entries h.entry;
}

-- there is an entry at hand
pub proof_at_hand : (p : Program) (old : Checker) (b : Arc Area Global) (den : ℤ) (mult : List (ℤ × ℤ)) → IsModel p
    → IsAsked p old (sites.FollowerTree b) (lines.Proof den mult) → old.entry ≡ None → ⊥
proof_at_hand p old b den mult g (c, (parts.FollowerTree a, (expected, h))) e =
    let st : FollowerStands p c a expected =
    stands (IsKept p old) p (sites.FollowerTree b) (lines.Proof den mult) c (parts.FollowerTree a) expected g h in
    none_at_hand p old.entry c.entries h.said.entry st.opened.ends e
proof_at_hand p old b den mult g (c, (part, (expected, h))) e = absurd h.site_is

-- what the test tells of an entry that has these rows
abbrev pub ProofTest : Program → OpenEntry → Bool → Area → ℤ → List (ℤ × ℤ) → Type 0
ProofTest p held kept area den mult =
    (e : ProvedEntry) → held.rows ≡ whole_problem p e.link → held.value ≡ cutoff_of_entry e.entry
    → IsTrue kept ↔ ProvesEntry p e area (multipliers (lower_count p) den mult)

pub proof_line : (p : Program) (old : Checker) (b : Arc Area Global) (held : OpenEntry) (den : ℤ)
    (mult : List (ℤ × ℤ)) (kept : Bool) (broken : Option CertRule) → old.entry ≡ Some held
    → IsUnless kept rules.Proof broken → ProofTest p held kept (arc_value b) den mult
    → IsJudged p old (sites.FollowerTree b) (lines.Proof den mult) broken old
proof_line p old b held den mult kept broken same e test c (parts.FollowerTree a) expected h =
    let part = parts.FollowerTree a in
    let line = lines.Proof den mult in
    let w = multipliers (lower_count p) den mult in
    let x = last_entry c.entries in
    let hand = at_hand p old.entry c.entries held h.said.entry same in
    tells p c part line 9 rules.Proof (IsKept p old (with_line p part line c)) kept broken refl nine e
    (subst (λ (area : Area). IsTrue kept ↔ ProvesEntry p x area w) h.site_is (test x hand.rows hand.value))
    (λ k. node_kept p old c (Leaf w) h.said)
proof_line p old b held den mult kept broken same e test c part expected h = absurd h.site_is

-- the line isn't a proof
abbrev pub IsOtherNode : CertLine → Type 0
IsOtherNode (lines.Proof den mult) = ⊥
IsOtherNode line = Unit {0}

pub other_node : (line : CertLine) → ((den : ℤ) (mult : List (ℤ × ℤ)) → line ≡ lines.Proof den mult → ⊥)
    → IsOtherNode line
other_node (lines.Proof den mult) not = not den mult refl
other_node line not = tt

split_there : (p : Program) (old : Checker) (b : Arc Area Global) (line : CertLine) (c : Certificate) (a : Area)
    (expected : List Part) → IsOtherNode line
    → StandsAt (IsKept p old) p (sites.FollowerTree b) line c (parts.FollowerTree a) expected
    → Tells p c (parts.FollowerTree a) line (IsKept p old (with_line p (parts.FollowerTree a) line c)) None
split_there p old b (lines.Split column place) c a expected other h = (
  all_rules p c (parts.FollowerTree a) (lines.Split column place) tt tt tt tt tt tt tt tt tt tt,
  node_kept p old c (Split (place_in p.follower (unsigned_abs column)) place tt) h.said,
)
split_there p old b (lines.Proof den mult) c a expected other h = absurd other
split_there p old b line c a expected other h = absurd h.formed.form

pub follower_split : (p : Program) (old : Checker) (b : Arc Area Global) (line : CertLine) → IsOtherNode line
    → IsJudged p old (sites.FollowerTree b) line None old
follower_split p old b line other c (parts.FollowerTree a) expected h = split_there p old b line c a expected other h
follower_split p old b line other c part expected h = absurd h.site_is

-- ---- the tree

-- a node of the tree
tree_kept : (p : Program) (old : Checker) (c : Certificate) (n : BareNode LeafProof) → IsKept p old c
    → IsKept p old (add_node n c)
tree_kept p old c n h = record {
  said = record {
    statement = h.said.statement;
    rising = h.said.rising;
    answers = h.said.answers;
    cuts = h.said.cuts;
  };
  entry = h.entry;
}

-- what a leaf cites is there
pub close_there : (p : Program) (old : Checker) (b : Arc Area Global) (den : ℤ) (uses : Bool) (count : ℤ)
    (cited : List ℤ) (mult : List (ℤ × ℤ)) → IsAsked p old (sites.Tree b) (lines.Close den uses count cited mult)
    → IsLeaf p (length old.said.cuts.cuts.items) uses cited mult
close_there p old b den uses count cited mult (c, (parts.Tree a cuts, (expected, h))) =
    let size : length c.cuts ≡ cuts = (counted p h.read.0 (parts.Tree a cuts ∷ expected) c h.read.1).0 in
    let held : length old.said.cuts.cuts.items ≡ length c.cuts =
    ap length h.said.said.cuts.rows ∙ length-map c.cuts local_row in
    subst (λ (n : ℕ). IsLeaf p n uses cited mult) (sym (held ∙ size)) h.placed.begins
close_there p old b den uses count cited mult (c, (part, (expected, h))) = absurd h.site_is

-- the cost of a proved response is small
response_cost_small : (p : Program) (link : List ℤ) (x : Entry) (nodes : List (BareNode Multipliers)) (v : ℤ)
    → IsModel p → IsFollowerProof p link x nodes → cutoff_of_entry x ≡ Some v → IsWithin (2 ^ 62) v
response_cost_small p link (Best y w) nodes v g h e =
    let same : w ≡ v = cc in
    response_small p link y v g h.response (h.value ∙ same)
response_cost_small p link NoResponse nodes v g h e = absurd (none e)
  where
    none : None ≡ Some v → ⊥
    none e = cc

answers_small : (p : Program) (entries : List ProvedEntry) (link : List ℤ) (v : ℤ) → IsModel p
    → All (IsProvedEntry p) entries → answer_of link entries ≡ Some (Some v) → IsWithin (2 ^ 62) v
answers_small p [] link v g proved e = absurd (none e)
  where
    none : None ≡ Some (Some v) → ⊥
    none e = cc
answers_small p (x ∷ entries) link v g proved e =
    later (answer_of link entries) (answers_small p entries link v g (All-tail (IsProvedEntry p) x entries proved)) e
  where
    here : (b : Bool) → (if b then Some (cutoff_of_entry x.entry) else None) ≡ Some (Some v) → IsWithin (2 ^ 62) v
    here true e =
        let same : cutoff_of_entry x.entry ≡ Some v = cc in
        response_cost_small p x.link x.entry x.proof v g (All-head (IsProvedEntry p) x entries proved).proof same
    here false e = absurd (none e)
      where
        none : None ≡ Some (Some v) → ⊥
        none e = cc

    later : (o : Option (Option ℤ)) → (o ≡ Some (Some v) → IsWithin (2 ^ 62) v)
        → option_or o (if pointwise int_eq link x.link then Some (cutoff_of_entry x.entry) else None) ≡ Some (Some v)
        → IsWithin (2 ^ 62) v
    later (Some w) rest e = rest e
    later None rest e = here (pointwise int_eq link x.link) e

shown_inside : (p : Program) (entries : List ProvedEntry) (s : Statement) → HasShownPoint p entries s
    → IsStatedInside p s
shown_inside p entries (Optimal z v) h = h.inside
shown_inside p entries Infeasible h = tt

-- the numbers of a leaf's problem are within their limits
pub close_ready : (p : Program) (old : Checker) (b : Arc Area Global) (line : CertLine) → IsModel p
    → IsAsked p old (sites.Tree b) line → IsReady p old.said
close_ready p old b line g (c, (parts.Tree a cuts, (expected, h))) =
    let st : TreeStands p c a cuts expected =
    stands (IsKept p old) p (sites.Tree b) line c (parts.Tree a cuts) expected g h in
    let said = h.said.said in
    record {
      inside = subst (IsStatedInside p) (sym said.statement)
          (shown_inside p c.entries c.statement st.leaves.answered.point);
      answers = λ link v e.
          answers_small p c.entries link v g st.leaves.answered.proved (sym (said.answers link) ∙ e);
      cuts = subst (AreCutRows p) (sym said.cuts.rows) (cut_rows p c.cuts st.leaves.cuts);
    }
close_ready p old b line g (c, (part, (expected, h))) = absurd h.site_is

-- what the tests tell of a leaf with a bound: whether it cites rightly, and whether its multipliers prove enough
abbrev pub LeafTest : Program → Certificate → Area → ℤ → Bool → List ℤ → List (ℤ × ℤ) → Option CertRule → Type 0
LeafTest p c a den uses cited mult broken =
    MatchOption broken
    (CitesRightly p c a uses (map unsigned_abs cited)
    × ProvesLeaf p c a (multipliers (length p.rows + 1 + length cited) den mult) uses (map unsigned_abs cited))
    (IsLeafRule (CitesRightly p c a uses (map unsigned_abs cited))
    (ProvesLeaf p c a (multipliers (length p.rows + 1 + length cited) den mult) uses (map unsigned_abs cited)))

-- the verdict on such a leaf
leaf_tells : (p : Program) (c : Certificate) (a : Area) (cuts : ℕ) (den : ℤ) (uses : Bool) (count : ℤ)
    (cited : List ℤ) (mult : List (ℤ × ℤ)) (Then : Type 0) (broken : Option CertRule) → Then
    → LeafTest p c a den uses cited mult broken
    → Tells p c (parts.Tree a cuts) (lines.Close den uses count cited mult) Then broken
leaf_tells p c a cuts den uses count cited mult Then None kept told = (
  all_rules p c (parts.Tree a cuts) (lines.Close den uses count cited mult) tt tt tt tt tt tt tt tt told.0 told.1,
  kept,
)
leaf_tells p c a cuts den uses count cited mult Then (Some rules.Cited) kept told =
    breaks_first p c (parts.Tree a cuts) (lines.Close den uses count cited mult) 8 rules.Cited refl
    (tt, (tt, (tt, (tt, (tt, (tt, (tt, (tt, tt)))))))) told
leaf_tells p c a cuts den uses count cited mult Then (Some rules.Proof) kept told =
    breaks_first p c (parts.Tree a cuts) (lines.Close den uses count cited mult) 9 rules.Proof refl
    (tt, (tt, (tt, (tt, (tt, (tt, (tt, (tt, (told.0, tt))))))))) told.1
leaf_tells p c a cuts den uses count cited mult Then (Some rule) kept told = absurd told

pub close_line : (p : Program) (old : Checker) (b : Arc Area Global) (den : ℤ) (uses : Bool) (count : ℤ)
    (cited : List ℤ) (mult : List (ℤ × ℤ)) (broken : Option CertRule)
    → ((c : Certificate) → IsSaid p old.said c → LeafTest p c (arc_value b) den uses cited mult broken)
    → IsJudged p old (sites.Tree b) (lines.Close den uses count cited mult) broken old
close_line p old b den uses count cited mult broken test c (parts.Tree a cuts) expected h =
    let part = parts.Tree a cuts in
    let line = lines.Close den uses count cited mult in
    leaf_tells p c a cuts den uses count cited mult (IsKept p old (with_line p part line c)) broken
    (tree_kept p old c (Leaf (leaf_of p den uses cited mult)) h.said)
    (subst (λ (x : Area). LeafTest p c x den uses cited mult broken) h.site_is (test c h.said.said))
close_line p old b den uses count cited mult broken test c part expected h = absurd h.site_is

pub unanswered_line : (p : Program) (old : Checker) (b : Arc Area Global) (kept : Bool) (broken : Option CertRule)
    → IsUnless kept rules.Cited broken
    → ((c : Certificate) → IsSaid p old.said c → IsTrue kept ↔ IsUnanswered p c (arc_value b))
    → IsJudged p old (sites.Tree b) lines.NoAnswer broken old
unanswered_line p old b kept broken e test c (parts.Tree a cuts) expected h =
    let part = parts.Tree a cuts in
    tells p c part lines.NoAnswer 8 rules.Cited (IsKept p old (with_line p part lines.NoAnswer c)) kept broken refl nine
    e (subst (λ (x : Area). IsTrue kept ↔ IsUnanswered p c x) h.site_is (test c h.said.said))
    (λ k. tree_kept p old c (Leaf NoAnswer) h.said)
unanswered_line p old b kept broken e test c part expected h = absurd h.site_is

-- the line closes no leaf
abbrev pub ClosesNone : CertLine → Type 0
ClosesNone (lines.Close den uses count cited mult) = ⊥
ClosesNone lines.NoAnswer = ⊥
ClosesNone line = Unit {0}

pub closes_none : (line : CertLine) → (line ≡ lines.NoAnswer → ⊥)
    → ((den : ℤ) (uses : Bool) (count : ℤ) (cited : List ℤ) (mult : List (ℤ × ℤ))
    → line ≡ lines.Close den uses count cited mult → ⊥)
    → ClosesNone line
closes_none (lines.Close den uses count cited mult) answered not = not den uses count cited mult refl
closes_none lines.NoAnswer answered not = answered refl
closes_none line answered not = tt

halves_there : (p : Program) (old : Checker) (b : Arc Area Global) (line : CertLine) (c : Certificate) (a : Area)
    (cuts : ℕ) (expected : List Part) → ClosesNone line
    → StandsAt (IsKept p old) p (sites.Tree b) line c (parts.Tree a cuts) expected
    → Tells p c (parts.Tree a cuts) line (IsKept p old (with_line p (parts.Tree a cuts) line c)) None
halves_there p old b (lines.Split column place) c a cuts expected none h = (
  all_rules p c (parts.Tree a cuts) (lines.Split column place) tt tt tt tt tt tt tt tt tt tt,
  tree_kept p old c (Split (unsigned_abs column) place tt) h.said,
)
halves_there p old b (lines.Close den uses count cited mult) c a cuts expected none h = absurd none
halves_there p old b lines.NoAnswer c a cuts expected none h = absurd none
halves_there p old b line c a cuts expected none h = absurd h.formed.form

pub tree_split : (p : Program) (old : Checker) (b : Arc Area Global) (line : CertLine) → ClosesNone line
    → IsJudged p old (sites.Tree b) line None old
tree_split p old b line none c (parts.Tree a cuts) expected h = halves_there p old b line c a cuts expected none h
tree_split p old b line none c part expected h = absurd h.site_is
