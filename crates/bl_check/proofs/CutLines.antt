-- The verdicts on the lines of a cut.
use Rattle.std.proofs.Common.{◌≡◌, ℕ, ◌<◌, Bool, List, [], ◌∷◌, length, Option, None, refl, sym, ap, subst, ◌∙◌}
use Rattle.std.proofs.Common.{arith}
use Rattle.std.specs.Prelude.{ℤ, ◌↔◌, IsTrue, All, map}
use Rattle.std.proofs.lemmas.List.{length-map}
use Rattle.bl_terms.specs.Points.{Area, Linear}
use Rattle.bl_terms.specs.Programs.{Program, InBox, columns}
use Rattle.bl_model.specs.View.{IsModel}
use Rattle.bl_cut_terms.specs.declared.parts.Tight.{Tight}
use Rattle.bl_cut_terms.specs.NoGoods.{CutStep, LocalRow, AreCutSteps, HasBetterResponse, IsUnit, last_step, local_row}
use Rattle.bl_cut_terms.specs.NoGoods.{tight_row, tight_rows}
use Rattle.bl_cert_terms.specs.Certificates.{Certificate}
use Rattle.bl_certline.specs.declared.line.CertLine.TheVariants as lines
use Rattle.bl_certline.specs.declared.line.TightItem.{TightItem}
use Rattle.bl_certtext.specs.declared.part.Part.TheVariants as parts
use Rattle.bl_certtext.specs.Places.{AreBelow, IsThere}
use Rattle.bl_cut_proof.specs.Rows.{AreRows}
use Rattle.bl_check_terms.specs.declared.rule.CertRule.{CertRule}
use Rattle.bl_check_terms.specs.declared.rule.CertRule.TheVariants as rules
use Rattle.bl_check_terms.specs.Reading.{at_last, before_last, with_den, with_line, with_place, with_response}
use Rattle.bl_check_terms.specs.Reading.{with_tight, with_unit}
use Rattle.bl_check_terms.specs.Rules.{CombinesTo, HoldEqual, IsSized, cut_at_hand, rows_at_hand, rows_before}
use Rattle.bl_check_terms.specs.Values.{tight_of, unit_of}
use Rattle.bl_check_terms.proofs.Lasts.{EndsIn}
use Rattle.bl_check_terms.proofs.Numbers.{is_unit}
use Rattle.bl_check_terms.proofs.Readings.{all_rules}
use Rattle.bl_check_terms.proofs.Standing.{AwaitsInverse, AwaitsResponse, AwaitsUnits, CutStands, IsBoxed, IsRowed}
use Rattle.bl_check_terms.proofs.Standing.{Stands}
use Rattle.bl_check_walk.specs.declared.site.Site.TheVariants as sites
use Rattle.bl_check_state.specs.declared.cuts.HeldCuts.{HeldCuts}
use Rattle.bl_check_state.specs.Saying.{AreCuts, IsBegun, IsSummed}
use Rattle.bl_check.specs.declared.checker.Checker.{Checker}
use Rattle.bl_check.specs.Keeping.{IsAsked, IsJudged, IsKept, IsUnless}
use Rattle.bl_check.proofs.CutRows.{begun, cut_rows, some_step, tight_fit}
use Rattle.bl_check.proofs.Verdicts.{nine, stands, tells}

-- ---- what is kept

-- the checker with these cuts
abbrev pub with_cuts : HeldCuts → Checker → Checker
with_cuts held old = record old { said = record old.said { cuts = held } }

-- where only the cuts change, so does only what is kept of them
kept_cuts : (p : Program) (old : Checker) (held : HeldCuts) (c : Certificate) (cuts : List CutStep) → IsKept p old c
    → AreCuts p held cuts → IsKept p (with_cuts held old) (record c { cuts = cuts })
kept_cuts p old held c cuts h are = record {
  said = record {
    statement = h.said.statement;
    rising = h.said.rising;
    answers = h.said.answers;
    cuts = are;
  };
  entry = h.entry;
}

-- there is a cut
some_held : (p : Program) (held : HeldCuts) (cuts : List CutStep) → AreCuts p held cuts → EndsIn last_step cuts
    → 0 < length held.cuts.items
some_held p held cuts are ends =
    let some = some_step cuts ends in
    let size : length held.cuts.items ≡ length cuts = ap length are.rows ∙ length-map cuts local_row in
    omega arith

-- the rows at hand are small
summed : (p : Program) (c : Certificate) (held : HeldCuts) (items : ℕ) → IsModel p
    → AreCutSteps p [] (before_last c.cuts) → AreCuts p held c.cuts
    → IsRowed p items (rows_before c) (cut_at_hand c).area (cut_at_hand c).row (cut_at_hand c).parts.tight
    → IsSummed p held
summed p c held items g shown are rowed = record {
  rows = subst (AreRows (columns p)) (sym are.tight)
      (tight_fit p (cut_at_hand c).area (rows_before c) (cut_at_hand c).parts.tight g rowed.area rowed.within
      (cut_rows p (before_last c.cuts) shown) rowed.there);
  few = are.few;
}

-- ---- the tight items

pub tight_begun : (p : Program) (old : Checker) (items : List TightItem) → IsModel p
    → IsAsked p old sites.Elsewhere (lines.TightList items) → IsBegun p old.said.cuts.cuts.items
tight_begun p old items g (c, (parts.Tight place, (expected, h))) =
    let line = lines.TightList items in
    let st : CutStands p c expected (IsBoxed p) =
    stands (IsKept p old) p sites.Elsewhere line c (parts.Tight place) expected g h in
    subst (IsBegun p) (sym h.said.said.cuts.rows)
    (begun p c.cuts st.ends st.shown st.kept.area st.kept.within)
tight_begun p old items g (c, (part, (expected, h))) = absurd h.formed.form

pub tight_there : (p : Program) (old : Checker) (items : List TightItem)
    → IsAsked p old sites.Elsewhere (lines.TightList items) → (place : ℕ) × All (IsThere p place) items
tight_there p old items (c, (parts.Tight place, (expected, h))) = (place, h.placed.begins.1)
tight_there p old items (c, (part, (expected, h))) = absurd h.formed.form

-- what the test tells of the items
abbrev pub SizeTest : Program → HeldCuts → HeldCuts → Bool → List TightItem → Type 0
SizeTest p held new kept items =
    (cuts : List CutStep) → AreCuts p held cuts
    → (IsTrue kept ↔ IsSized p (last_step cuts).area (map local_row (before_last cuts)) (map tight_of items))
    × (IsTrue kept → AreCuts p new (at_last (with_tight p (before_last cuts) (map tight_of items)) cuts))

pub tight_line : (p : Program) (old : Checker) (held : HeldCuts) (items : List TightItem) (kept : Bool)
    (broken : Option CertRule) → IsUnless kept rules.Size broken → SizeTest p old.said.cuts held kept items
    → IsJudged p old sites.Elsewhere (lines.TightList items) broken (with_cuts held old)
tight_line p old held items kept broken e test c (parts.Tight place) expected h =
    let part = parts.Tight place in
    let line = lines.TightList items in
    let t = test c.cuts h.said.said.cuts in
    tells p c part line 4 rules.Size (IsKept p (with_cuts held old) (with_line p part line c)) kept broken refl nine e
    t.0 (λ k. kept_cuts p old held c (at_last (with_tight p (before_last c.cuts) (map tight_of items)) c.cuts) h.said
    (t.1 k))
tight_line p old held items kept broken e test c part expected h = absurd h.formed.form

-- ---- the inverse

pub inverse_some : (p : Program) (old : Checker) (den : ℤ) → IsModel p
    → IsAsked p old sites.Elsewhere (lines.Inverse den) → 0 < length old.said.cuts.cuts.items
inverse_some p old den g (c, (parts.Inverse items, (expected, h))) =
    let st : CutStands p c expected (AwaitsInverse p items) =
    stands (IsKept p old) p sites.Elsewhere (lines.Inverse den) c (parts.Inverse items) expected g h in
    some_held p old.said.cuts c.cuts h.said.said.cuts st.ends
inverse_some p old den g (c, (part, (expected, h))) = absurd h.formed.form

-- the number is taken over
abbrev pub IsInverse : HeldCuts → HeldCuts → ℤ → Type 0
IsInverse held new den =
    (q : Program) (cuts : List CutStep) → AreCuts q held cuts → AreCuts q new (at_last (with_den den) cuts)

pub inverse_line : (p : Program) (old : Checker) (held : HeldCuts) (den : ℤ) → IsInverse old.said.cuts held den
    → IsJudged p old sites.Elsewhere (lines.Inverse den) None (with_cuts held old)
inverse_line p old held den taken c (parts.Inverse items) expected h = (
  all_rules p c (parts.Inverse items) (lines.Inverse den) tt tt tt tt tt tt tt tt tt tt,
  kept_cuts p old held c (at_last (with_den den) c.cuts) h.said (taken p c.cuts h.said.said.cuts),
)
inverse_line p old held den taken c part expected h = absurd h.formed.form

-- what a unit needs
pub record IsUnitReady (p : Program) (held : HeldCuts) (pairs : List (ℤ × ℤ)) : Type 0 where
  pub some : 0 < length held.cuts.items
  pub summed : IsSummed p held
  pub column : held.units < columns p
  pub places : AreBelow (length held.tight.items) pairs
  pub unit : IsUnit (length held.tight.items) (unit_of pairs)

pub unit_ready : (p : Program) (old : Checker) (pairs : List (ℤ × ℤ)) → IsModel p
    → IsAsked p old sites.Elsewhere (lines.Unit pairs) → IsUnitReady p old.said.cuts pairs
unit_ready p old pairs g (c, (parts.Units left items, (expected, h))) =
    let line = lines.Unit pairs in
    let st : (0 < left) × CutStands p c expected (AwaitsUnits p left items) =
    stands (IsKept p old) p sites.Elsewhere line c (parts.Units left items) expected g h in
    let cut = cut_at_hand c in
    let held = old.said.cuts in
    let are = h.said.said.cuts in
    let inverting = st.1.kept in
    let size : items ≡ length held.tight.items =
    sym (ap length are.tight ∙ length-map cut.parts.tight (tight_row p cut.area (rows_before c))
    ∙ inverting.rowed.size) in
    let few = st.0 in
    let count = inverting.count in
    let units = are.units in
    record {
      some = some_held p held c.cuts are st.1.ends;
      summed = summed p c held items g st.1.shown are inverting.rowed;
      column = omega arith;
      places = subst (λ (n : ℕ). AreBelow n pairs) size h.placed.begins;
      unit = subst (λ (n : ℕ). IsUnit n (unit_of pairs)) size
          (is_unit items pairs h.placed.begins h.placed.rising h.formed.well_formed);
    }
unit_ready p old pairs g (c, (part, (expected, h))) = absurd h.formed.form

combines_to : (p : Program) (held : HeldCuts) (c : Certificate) (unit : List (ℕ × ℤ)) (kept : Bool)
    → AreCuts p held c.cuts → IsTrue kept ↔ CombinesTo (columns p) held.tight.items held.den unit held.units
    → IsTrue kept ↔ CombinesTo (columns p) (rows_at_hand p c) (cut_at_hand c).parts.den unit
    (length (cut_at_hand c).parts.units)
combines_to p held c unit kept are test =
    let n = columns p in
    let rows = rows_at_hand p c in
    let den = (cut_at_hand c).parts.den in
    subst (λ (j : ℕ). IsTrue kept ↔ CombinesTo n rows den unit j) are.units
    (subst (λ (d : ℤ). IsTrue kept ↔ CombinesTo n rows d unit held.units) are.den
    (subst (λ (rs : List Linear). IsTrue kept ↔ CombinesTo n rs held.den unit held.units) are.tight test))

-- what the test tells of the unit
abbrev pub UnitTest : Program → HeldCuts → HeldCuts → Bool → List (ℤ × ℤ) → Type 0
UnitTest p held new kept pairs =
    (cuts : List CutStep) → AreCuts p held cuts
    → (IsTrue kept ↔ CombinesTo (columns p) held.tight.items held.den (unit_of pairs) held.units)
    × (IsTrue kept → AreCuts p new (at_last (with_unit (unit_of pairs)) cuts))

pub unit_line : (p : Program) (old : Checker) (held : HeldCuts) (pairs : List (ℤ × ℤ)) (kept : Bool)
    (broken : Option CertRule) → IsUnless kept rules.Inverse broken → UnitTest p old.said.cuts held kept pairs
    → IsJudged p old sites.Elsewhere (lines.Unit pairs) broken (with_cuts held old)
unit_line p old held pairs kept broken e test c (parts.Units left items) expected h =
    let part = parts.Units left items in
    let line = lines.Unit pairs in
    let are = h.said.said.cuts in
    let t = test c.cuts are in
    tells p c part line 5 rules.Inverse (IsKept p (with_cuts held old) (with_line p part line c)) kept broken refl nine
    e (combines_to p old.said.cuts c (unit_of pairs) kept are t.0)
    (λ k. kept_cuts p old held c (at_last (with_unit (unit_of pairs)) c.cuts) h.said (t.1 k))
unit_line p old held pairs kept broken e test c part expected h = absurd h.formed.form

-- ---- the point

-- what a point needs
pub record IsPointReady (p : Program) (held : HeldCuts) (values : List ℤ) : Type 0 where
  pub some : 0 < length held.cuts.items
  pub summed : IsSummed p held
  pub inside : InBox p values

pub at_ready : (p : Program) (old : Checker) (values : List ℤ) → IsModel p
    → IsAsked p old sites.Elsewhere (lines.At values) → IsPointReady p old.said.cuts values
at_ready p old values g (c, (parts.At, (expected, h))) =
    let st : Stands p (parts.At ∷ expected) c =
    stands (IsKept p old) p sites.Elsewhere (lines.At values) c parts.At expected g h in
    let are = h.said.said.cuts in
    record {
      some = some_held p old.said.cuts c.cuts are st.3.ends;
      summed = summed p c old.said.cuts st.0 g st.3.shown are st.3.kept.rowed;
      inside = h.placed.begins;
    }
at_ready p old values g (c, (part, (expected, h))) = absurd h.formed.form

-- what the test tells of the point
abbrev pub PlaceTest : Program → HeldCuts → HeldCuts → Bool → List ℤ → Type 0
PlaceTest p held new kept values =
    (cuts : List CutStep) → AreCuts p held cuts
    → (IsTrue kept ↔ HoldEqual held.tight.items values)
    × (IsTrue kept → AreCuts p new (at_last (with_place values) cuts))

pub at_line : (p : Program) (old : Checker) (held : HeldCuts) (values : List ℤ) (kept : Bool)
    (broken : Option CertRule) → IsUnless kept rules.Tight broken → PlaceTest p old.said.cuts held kept values
    → IsJudged p old sites.Elsewhere (lines.At values) broken (with_cuts held old)
at_line p old held values kept broken e test c parts.At expected h =
    let line = lines.At values in
    let are = h.said.said.cuts in
    let t = test c.cuts are in
    tells p c parts.At line 6 rules.Tight (IsKept p (with_cuts held old) (with_line p parts.At line c)) kept broken refl
    nine e (subst (λ (rs : List Linear). IsTrue kept ↔ HoldEqual rs values) are.tight t.0)
    (λ k. kept_cuts p old held c (at_last (with_place values) c.cuts) h.said (t.1 k))
at_line p old held values kept broken e test c part expected h = absurd h.formed.form

-- ---- the response

pub response_inside : (p : Program) (old : Checker) (values : List ℤ) → IsModel p
    → IsAsked p old sites.Elsewhere (lines.Response values) → InBox p old.said.cuts.point.items
response_inside p old values g (c, (parts.Response, (expected, h))) =
    let st : (items : ℕ) × CutStands p c expected (AwaitsResponse p items) =
    stands (IsKept p old) p sites.Elsewhere (lines.Response values) c parts.Response expected g h in
    subst (InBox p) (sym h.said.said.cuts.point) st.1.kept.1.inside
response_inside p old values g (c, (part, (expected, h))) = absurd h.formed.form

-- all but the response of two steps is the same
record IsSameCut (s t : CutStep) : Type 0 where
  area : s.area ≡ t.area
  tight : s.parts.tight ≡ t.parts.tight
  den : s.parts.den ≡ t.parts.den
  units : s.parts.units ≡ t.parts.units
  point : s.parts.point ≡ t.parts.point

last_same : (y : List ℤ) (cuts : List CutStep)
    → IsSameCut (last_step (at_last (with_response y) cuts)) (last_step cuts)
last_same y [] = record { area = refl; tight = refl; den = refl; units = refl; point = refl }
last_same y (s ∷ []) = record { area = refl; tight = refl; den = refl; units = refl; point = refl }
last_same y (s ∷ t ∷ []) = record { area = refl; tight = refl; den = refl; units = refl; point = refl }
last_same y (s ∷ t ∷ u ∷ cuts) = last_same y (t ∷ u ∷ cuts)

before_same : (y : List ℤ) (cuts : List CutStep) → before_last (at_last (with_response y) cuts) ≡ before_last cuts
before_same y [] = refl
before_same y (s ∷ []) = refl
before_same y (s ∷ t ∷ []) = refl
before_same y (s ∷ t ∷ u ∷ cuts) = ap (λ (ss : List CutStep). s ∷ ss) (before_same y (t ∷ u ∷ cuts))

rows_same : (y : List ℤ) (cuts : List CutStep) → map local_row (at_last (with_response y) cuts) ≡ map local_row cuts
rows_same y [] = refl
rows_same y (s ∷ []) = refl
rows_same y (s ∷ t ∷ cuts) = ap (λ (rs : List LocalRow). local_row s ∷ rs) (rows_same y (t ∷ cuts))

tight_same : (p : Program) (a b : Area) (earlier before : List LocalRow) (items others : List Tight) → a ≡ b
    → earlier ≡ before → items ≡ others → tight_rows p a earlier items ≡ tight_rows p b before others
tight_same p a b earlier before items others e f h =
    ap (λ (x : Area). tight_rows p x earlier items) e
    ∙ ap (λ (rs : List LocalRow). tight_rows p b rs items) f
    ∙ ap (λ (ts : List Tight). tight_rows p b before ts) h

-- of a response nothing is kept
response_kept : (p : Program) (held : HeldCuts) (cuts : List CutStep) (y : List ℤ) → AreCuts p held cuts
    → AreCuts p held (at_last (with_response y) cuts)
response_kept p held cuts y h =
    let l = last_same y cuts in
    record {
      rows = h.rows ∙ sym (rows_same y cuts);
      tight = h.tight
          ∙ sym (tight_same p (last_step (at_last (with_response y) cuts)).area (last_step cuts).area
          (map local_row (before_last (at_last (with_response y) cuts))) (map local_row (before_last cuts))
          (last_step (at_last (with_response y) cuts)).parts.tight (last_step cuts).parts.tight l.area
          (ap (map local_row) (before_same y cuts)) l.tight);
      few = h.few;
      den = h.den ∙ sym l.den;
      units = h.units ∙ sym (ap length l.units);
      point = h.point ∙ sym l.point;
    }

pub response_line : (p : Program) (old : Checker) (values : List ℤ) (kept : Bool) (broken : Option CertRule)
    → IsUnless kept rules.Response broken → IsTrue kept ↔ HasBetterResponse p old.said.cuts.point.items values
    → IsJudged p old sites.Elsewhere (lines.Response values) broken old
response_line p old values kept broken e test c parts.Response expected h =
    let line = lines.Response values in
    let are = h.said.said.cuts in
    tells p c parts.Response line 7 rules.Response (IsKept p old (with_line p parts.Response line c)) kept broken refl
    nine e (subst (λ (z : List ℤ). IsTrue kept ↔ HasBetterResponse p z values) are.point test)
    (λ k. kept_cuts p old old.said.cuts c (at_last (with_response values) c.cuts) h.said
    (response_kept p old.said.cuts c.cuts values are))
response_line p old values kept broken e test c part expected h = absurd h.formed.form
