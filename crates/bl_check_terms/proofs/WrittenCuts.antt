-- The written lines of the cuts are right lines.
use Rattle.std.proofs.Common.{◌≡◌, ℕ, suc, ◌<◌, ◌+◌, ◌-◌, refl, sym, ◌∙◌, ap, subst, arith, true}
use Rattle.std.proofs.Common.{false, List, [], ◌∷◌, ◌++◌, length, append_assoc, inl, inr}
use Rattle.std.specs.Prelude.{ℤ, pos, neg_ℤ, ◌≤ℤ◌, ◌<ℤ◌, All, map, nat_lt, if◌then◌else◌, slice_index, slice_index_or}
use Rattle.std.specs.Int.{w64}
use Rattle.std.specs.List.{AllByRecursion, flat_map}
use Rattle.std.proofs.lemmas.Int.{ints}
use Rattle.std.proofs.lemmas.Bool.Decides.{nat_tests}
use Rattle.std.proofs.lemmas.List.{append-nil, length-append, length-map, get_or_default, length_push, map_push}
use Rattle.std.proofs.lemmas.List.Elements.{All-cons, All-nil, All-map, All-head, All-tail, recursion_from_All}
use Rattle.std.proofs.lemmas.Slice.Zip.{firsts-zip, seconds-zip, get_or-zip, length-zip}
use Rattle.std.proofs.Math.Seq.{get_or-append_seam}
use Rattle.bl_limits.specs.declared.TheConstants.{MAX_NUMBER, MAX_PROOF_NUMBER}
use Rattle.bl_whole.specs.Sums.{component}
use Rattle.bl_whole.proofs.WithinLemmas.{fits_from_within, within_from_bounds, within_high, within_low, within_entry}
use Rattle.bl_terms.specs.Points.{Area, IsArea, IsWithinArea, Linear}
use Rattle.bl_terms.specs.Programs.{Program, InBox, columns, root}
use Rattle.bl_terms.specs.Responses.{InRanges}
use Rattle.bl_model.specs.View.{IsModel}
use Rattle.bl_model.proofs.PointLemmas.{InBox-within}
use Rattle.bl_cut_terms.specs.declared.parts.Tight.{Tight}
use Rattle.bl_cut_terms.specs.declared.parts.Tight.TheVariants as tights
use Rattle.bl_cut_terms.specs.NoGoods as cuts
use Rattle.bl_cut_terms.specs.NoGoods.{CutStep, LocalRow, IsCutStep, AreCutSteps, HasBetterResponse, local_row}
use Rattle.bl_cut_terms.specs.NoGoods.{cut_row, combined, last_step, tight_rows, unit_at}
use Rattle.bl_cert_terms.specs.Certificates.{Certificate}
use Rattle.bl_certline.specs.declared.line.CertLine.{CertLine}
use Rattle.bl_certline.specs.declared.line.CertLine.TheVariants as lines
use Rattle.bl_certline.specs.Fields.{IsWhole}
use Rattle.bl_certline.specs.Lines as line_forms
use Rattle.bl_certline.specs.Lines.{AreWhole, AreMultipliers, IndicesRise, IsProofNumber}
use Rattle.bl_certtext.specs.declared.part.Part.{Part}
use Rattle.bl_certtext.specs.declared.part.Part.TheVariants as parts
use Rattle.bl_certtext.specs.Grammar.{cuts_from, units_from}
use Rattle.bl_certtext.specs.Places.{AreBelow, AreInOrder, IsBefore, IsPart, IsPlace, IsThere, kind_of, place_of}
use Rattle.bl_certtext.specs.Places.{side_at}
use Rattle.bl_check_terms.specs.Values.{area_of, item_of, sides_of, tight_of, unit_of, unit_pairs}
use Rattle.bl_check_terms.specs.Reading.{before_last, change_cut, cut_on, with_den, with_place}
use Rattle.bl_check_terms.specs.Reading.{with_response, with_tight, with_unit}
use Rattle.bl_check_terms.specs.Rules.{CombinesTo, HoldEqual, IsSized, KeepsInverse, cut_at_hand, rows_at_hand}
use Rattle.bl_check_terms.specs.Rules.{rows_before}
use Rattle.bl_check_terms.specs.Writing.{cut_lines, unit_line}
use Rattle.bl_check_terms.specs.Accepting.{IsRightLine, Reads}
use Rattle.bl_check_terms.proofs.Lasts.{at_last-push, before_last-push, last_step-push}
use Rattle.bl_check_terms.proofs.Pairs.{FirstIs, adjacent_cons, lower_whole, proof_number_whole, small_whole}
use Rattle.bl_check_terms.proofs.Readings.{all_rules, reads_first, reads_on}

-- ---- boxes

pub number_whole : (m : ℤ) → neg_ℤ (pos MAX_NUMBER) ≤ℤ m → m ≤ℤ pos MAX_NUMBER → IsWhole m
number_whole m least most = fits_from_within w64 (within_from_bounds MAX_NUMBER m least most) (omega arith)

same_area : (a : Area) → IsArea a → area_of (sides_of a) ≡ a
same_area a h =
    ap (λ (lo : List ℤ). record { lo = lo; hi = map (λ s. s.1) (sides_of a) }) (firsts-zip a.lo a.hi h.sides)
    ∙ ap (λ (hi : List ℤ). record { lo = a.lo; hi = hi }) (seconds-zip a.lo a.hi h.sides)

area_part : (p : Program) (a : Area) → IsArea a → IsWithinArea a (root p) → IsPart p (sides_of a)
area_part p a h within =
    let lo : length a.lo ≡ columns p = within.columns in
    let hi = h.sides in
    record {
      count = let size = length-zip a.lo a.hi in omega arith;
      least = λ k b.
          let at = get_or-zip a.lo a.hi k (pos 0, pos 0) (omega arith) (omega arith) in
          subst (λ (s : ℤ × ℤ). component p.lo k ≤ℤ s.0) (sym at) (within.least k b);
      ordered = λ k b.
          let at = get_or-zip a.lo a.hi k (pos 0, pos 0) (omega arith) (omega arith) in
          subst (λ (s : ℤ × ℤ). s.0 ≤ℤ s.1) (sym at) (h.ordered k (omega arith));
      most = λ k b.
          let at = get_or-zip a.lo a.hi k (pos 0, pos 0) (omega arith) (omega arith) in
          subst (λ (s : ℤ × ℤ). s.1 ≤ℤ component p.hi k) (sym at) (within.most k b);
    }

sides_whole : (p : Program) (a : Area) → IsModel p → IsPart p (sides_of a)
    → AllByRecursion (λ s. IsWhole s.0 × IsWhole s.1) (sides_of a)
sides_whole p a g h =
    recursion_from_All (λ s. IsWhole s.0 × IsWhole s.1) (sides_of a) (λ k d b.
    let count = h.count in
    let below : k < columns p = omega arith in
    let lo = within_low (g.limits.lower_bounds k) in
    let hi = within_high (g.limits.upper_bounds k) in
    let least = h.least k below in
    let ordered = h.ordered k below in
    let most = h.most k below in
    let both : IsWhole (side_at (sides_of a) k).0 × IsWhole (side_at (sides_of a) k).1 = (
      number_whole (side_at (sides_of a) k).0 (omega (arith, ints)) (omega (arith, ints)),
      number_whole (side_at (sides_of a) k).1 (omega (arith, ints)) (omega (arith, ints)),
    ) in
    subst (λ (s : ℤ × ℤ). IsWhole s.0 × IsWhole s.1) (get_or_default (sides_of a) k (pos 0, pos 0) d b) both)

-- ---- tight items

same_tight : (tight : List Tight) → map tight_of (map item_of tight) ≡ tight
same_tight [] = refl
same_tight (tights.Row i ∷ tight) = ap (λ (ts : List Tight). tights.Row i ∷ ts) (same_tight tight)
same_tight (tights.Upper j ∷ tight) = ap (λ (ts : List Tight). tights.Upper j ∷ ts) (same_tight tight)
same_tight (tights.Lower j ∷ tight) = ap (λ (ts : List Tight). tights.Lower j ∷ ts) (same_tight tight)
same_tight (tights.Cut k ∷ tight) = ap (λ (ts : List Tight). tights.Cut k ∷ ts) (same_tight tight)

item_kind : (x : Tight) → kind_of (item_of x) ≡ cuts.kind_of x
item_kind (tights.Row i) = refl
item_kind (tights.Upper j) = refl
item_kind (tights.Lower j) = refl
item_kind (tights.Cut k) = refl

item_place : (x : Tight) → place_of (item_of x) ≡ pos (cuts.place_of x)
item_place (tights.Row i) = refl
item_place (tights.Upper j) = refl
item_place (tights.Lower j) = refl
item_place (tights.Cut k) = refl

item_before : (x y : Tight) → cuts.IsBefore x y → IsBefore (item_of x) (item_of y)
item_before x y (inl lower) =
    let kx = item_kind x in
    let ky = item_kind y in
    inl (omega arith)
item_before x y (inr same) =
    let px = item_place x in
    let py = item_place y in
    let lower = same.1 in
    inr (item_kind x ∙ same.0 ∙ sym (item_kind y), omega (arith, ints))

items_in_order : (tight : List Tight) → cuts.AreInOrder tight → AreInOrder (map item_of tight)
items_in_order [] h = λ k d b. absurd (omega arith)
items_in_order (x ∷ []) h = λ k d b. absurd (omega arith)
items_in_order (x ∷ y ∷ tight) h =
    adjacent_cons IsBefore (item_of x) (map item_of (y ∷ tight)) (item_before x y h.0)
    (items_in_order (y ∷ tight) h.1)

item_there : (p : Program) (a : Area) (earlier : List LocalRow) (x : Tight) → cuts.IsThere p a earlier x
    → IsThere p (length earlier) (item_of x)
item_there p a earlier (tights.Row i) h = (omega (arith, ints), omega (arith, ints))
item_there p a earlier (tights.Upper j) h = (omega (arith, ints), omega (arith, ints))
item_there p a earlier (tights.Lower j) h = (omega (arith, ints), omega (arith, ints))
item_there p a earlier (tights.Cut k) h = let b = h.0 in (omega (arith, ints), omega (arith, ints))

item_whole : (p : Program) (a : Area) (earlier : List LocalRow) (x : Tight) → IsModel p
    → IsWhole (pos (length earlier)) → cuts.IsThere p a earlier x → IsWhole (line_forms.place_of (item_of x))
item_whole p a earlier (tights.Row i) g whole h = let few = g.limits.few_rows in small_whole i (omega arith)
item_whole p a earlier (tights.Upper j) g whole h = let few = g.limits.few_columns in small_whole j (omega arith)
item_whole p a earlier (tights.Lower j) g whole h = let few = g.limits.few_columns in small_whole j (omega arith)
item_whole p a earlier (tights.Cut k) g whole h = lower_whole k (length earlier) h.0 whole

items_whole : (p : Program) (a : Area) (earlier : List LocalRow) (tight : List Tight) → IsModel p
    → IsWhole (pos (length earlier)) → All (cuts.IsThere p a earlier) tight
    → AllByRecursion (λ t. IsWhole (line_forms.place_of t)) (map item_of tight)
items_whole p a earlier [] g whole h = tt
items_whole p a earlier (x ∷ tight) g whole h = (
  item_whole p a earlier x g whole (All-head (cuts.IsThere p a earlier) x tight h),
  items_whole p a earlier tight g whole (All-tail (cuts.IsThere p a earlier) x tight h),
)

-- ---- units

same_unit : (unit : List (ℕ × ℤ)) → unit_of (unit_pairs unit) ≡ unit
same_unit [] = refl
same_unit (x ∷ unit) = ap (λ (us : List (ℕ × ℤ)). x ∷ us) (same_unit unit)

limit_number : (m : ℤ) → neg_ℤ MAX_PROOF_NUMBER ≤ℤ m → m ≤ℤ MAX_PROOF_NUMBER → IsProofNumber m
limit_number m least most = omega (arith, ints)

unit_well : (least n : ℕ) (unit : List (ℕ × ℤ)) → IsWhole (pos n) → cuts.IsUnitFrom least n unit
    → AreMultipliers (unit_pairs unit)
unit_well least n [] whole h = tt
unit_well least n ((i, m) ∷ unit) whole h =
    let limit = limit_number m h.0.3 h.0.4 in (
      (record { index = lower_whole i n h.0.1 whole; number = proof_number_whole m limit; nonzero = h.0.2 }, limit),
      unit_well (suc i) n unit whole h.1,
    )

unit_below : (least n : ℕ) (unit : List (ℕ × ℤ)) → cuts.IsUnitFrom least n unit → AreBelow n (unit_pairs unit)
unit_below least n [] h = All-nil (λ x. IsPlace n x.0)
unit_below least n ((i, m) ∷ unit) h =
    let below = h.0.1 in
    All-cons (λ x. IsPlace n x.0) (pos i, m) (unit_pairs unit) (omega (arith, ints), omega (arith, ints))
    (unit_below (suc i) n unit h.1)

unit_first : (i n : ℕ) (m : ℤ) (unit : List (ℕ × ℤ)) → cuts.IsUnitFrom (suc i) n unit
    → FirstIs (λ (y : ℤ × ℤ). pos i <ℤ y.0) (unit_pairs unit)
unit_first i n m [] h = tt
unit_first i n m ((j, k) ∷ unit) h = let above = h.0.0 in omega (arith, ints)

unit_rise : (least n : ℕ) (unit : List (ℕ × ℤ)) → cuts.IsUnitFrom least n unit → IndicesRise (unit_pairs unit)
unit_rise least n [] h = λ k d b. absurd (omega arith)
unit_rise least n ((i, m) ∷ unit) h =
    adjacent_cons (λ x y. x.0 <ℤ y.0) (pos i, m) (unit_pairs unit) (unit_first i n m unit h.1)
    (unit_rise (suc i) n unit h.1)

-- ---- points and responses

pub point_whole : (p : Program) (z : List ℤ) → IsModel p → InBox p z → AreWhole z
point_whole p z g h =
    recursion_from_All IsWhole z (λ k d b.
    let within = within_entry (InBox-within p z g h) k in
    subst IsWhole (get_or_default z k (pos 0) d b)
    (number_whole (component z k) (within_low within) (within_high within)))

pub ranges_whole : (p : Program) (ks : List ℕ) (xs : List ℤ) → IsModel p → InRanges p ks xs → AreWhole xs
ranges_whole p ks xs g h =
    recursion_from_All IsWhole xs (λ k d b.
    let count = h.count in
    let below : k < length ks = omega arith in
    let least = h.least k below in
    let most = h.most k below in
    let lo = within_low (g.limits.lower_bounds (slice_index ks k)) in
    let hi = within_high (g.limits.upper_bounds (slice_index ks k)) in
    subst IsWhole (get_or_default xs k (pos 0) d b)
    (number_whole (component xs k) (omega (arith, ints)) (omega (arith, ints))))

-- ---- the cut at hand

-- the cut with its items, the number of its inverse and these units
abbrev begun : CutStep → Linear → List (List (ℕ × ℤ)) → CutStep
begun s row units = record {
  area = s.area;
  parts = record { tight = s.parts.tight; den = s.parts.den; units = units; point = []; response = [] };
  row = row;
}

-- the certificate with this cut behind others
abbrev at_cut : Certificate → List CutStep → CutStep → Certificate
at_cut b front x = record b { cuts = front ++ x ∷ [] }

changed : (b : Certificate) (front : List CutStep) (x : CutStep) (f : CutStep → CutStep)
    → change_cut f (at_cut b front x) ≡ at_cut b front (f x)
changed b front x f = ap (λ (ss : List CutStep). record b { cuts = ss }) (at_last-push f front x)

-- what holds of the cut and the rows before it holds of the cut at hand
at_hand : (b : Certificate) (front : List CutStep) (x : CutStep) (P : List LocalRow → CutStep → Type 0)
    → P (map local_row front) x → P (rows_before (at_cut b front x)) (cut_at_hand (at_cut b front x))
at_hand b front x P h =
    let here : P (map local_row front) (last_step (front ++ x ∷ [])) =
    subst (λ (y : CutStep). P (map local_row front) y) (sym (last_step-push front x)) h in
    subst (λ (ss : List CutStep). P (map local_row ss) (last_step (front ++ x ∷ [])))
    (sym (before_last-push front x)) here

right_area : (p : Program) (c : Certificate) (place : ℕ) (a : Area) → IsModel p → IsArea a → IsWithinArea a (root p)
    → IsRightLine p c (parts.CutArea place) (lines.Area (sides_of a))
right_area p c place a g area within =
    let part = area_part p a area within in
    record {
      formed = record { well_formed = sides_whole p a g part; form = part.count };
      placed = record { begins = part; rising = tt };
      rules = all_rules p c (parts.CutArea place) (lines.Area (sides_of a)) tt tt tt tt tt tt tt tt tt tt;
    }

right_tight : (p : Program) (b : Certificate) (front : List CutStep) (x : CutStep) (tight : List Tight) → IsModel p
    → IsWhole (pos (length front)) → cuts.AreInOrder tight → IsSized p x.area (map local_row front) tight
    → IsRightLine p (at_cut b front x) (parts.Tight (length front)) (lines.TightList (map item_of tight))
right_tight p b front x tight g whole order sized =
    let count : length (map local_row front) ≡ length front = length-map front local_row in
    let rule : IsSized p (cut_at_hand (at_cut b front x)).area (rows_before (at_cut b front x))
    (map tight_of (map item_of tight)) =
    subst (λ (ts : List Tight). IsSized p (cut_at_hand (at_cut b front x)).area (rows_before (at_cut b front x)) ts)
    (sym (same_tight tight))
    (at_hand b front x (λ rows y. IsSized p y.area rows tight) sized) in
    record {
      formed = record {
        well_formed = items_whole p x.area (map local_row front) tight g
            (subst (λ (n : ℕ). IsWhole (pos n)) (sym count) whole) sized.there;
        form = tt;
      };
      placed = record {
        begins = (
          items_in_order tight order,
          All-map (IsThere p (length front)) item_of tight (λ k d b.
              subst (λ (n : ℕ). IsThere p n (item_of (slice_index_or tight k d))) count
              (item_there p x.area (map local_row front) (slice_index_or tight k d) (sized.there k d b))),
        );
        rising = tt;
      };
      rules = all_rules p (at_cut b front x) (parts.Tight (length front)) (lines.TightList (map item_of tight))
          tt tt tt tt rule tt tt tt tt tt;
    }

right_inverse : (p : Program) (c : Certificate) (items : ℕ) (den : ℤ) → pos 1 ≤ℤ den → den ≤ℤ MAX_PROOF_NUMBER
    → IsRightLine p c (parts.Inverse items) (lines.Inverse den)
right_inverse p c items den least most = record {
  formed = record { well_formed = limit_number den (omega (arith, ints)) most; form = tt };
  placed = record { begins = omega (arith, ints); rising = tt };
  rules = all_rules p c (parts.Inverse items) (lines.Inverse den) tt tt tt tt tt tt tt tt tt tt;
}

right_unit : (p : Program) (b : Certificate) (front : List CutStep) (x : CutStep) (left items : ℕ)
    (unit : List (ℕ × ℤ)) → IsWhole (pos items) → cuts.IsUnit items unit
    → CombinesTo (columns p) (tight_rows p x.area (map local_row front) x.parts.tight) x.parts.den unit
    (length x.parts.units)
    → IsRightLine p (at_cut b front x) (parts.Units left items) (unit_line unit)
right_unit p b front x left items unit whole is combines =
    let c = at_cut b front x in
    let here : CombinesTo (columns p) (rows_at_hand p c) (cut_at_hand c).parts.den unit
    (length (cut_at_hand c).parts.units) =
    at_hand b front x (λ rows y. CombinesTo (columns p) (tight_rows p y.area rows y.parts.tight) y.parts.den unit
    (length y.parts.units)) combines in
    let rule : KeepsInverse p c (unit_line unit) =
    subst (λ (u : List (ℕ × ℤ)). CombinesTo (columns p) (rows_at_hand p c) (cut_at_hand c).parts.den u
    (length (cut_at_hand c).parts.units)) (sym (same_unit unit)) here in
    record {
      formed = record { well_formed = unit_well 0 items unit whole is; form = tt };
      placed = record { begins = unit_below 0 items unit is; rising = unit_rise 0 items unit is };
      rules = all_rules p c (parts.Units left items) (unit_line unit) tt tt tt tt tt rule tt tt tt tt;
    }

right_at : (p : Program) (b : Certificate) (front : List CutStep) (x : CutStep) (z : List ℤ) → IsModel p
    → cuts.IsTightAt p (tight_rows p x.area (map local_row front) x.parts.tight) z
    → IsRightLine p (at_cut b front x) parts.At (lines.At z)
right_at p b front x z g h =
    let rule : HoldEqual (rows_at_hand p (at_cut b front x)) z =
    at_hand b front x (λ rows y. HoldEqual (tight_rows p y.area rows y.parts.tight) z) h.equal in
    record {
      formed = record { well_formed = point_whole p z g h.inside; form = h.inside.columns };
      placed = record { begins = h.inside; rising = tt };
      rules = all_rules p (at_cut b front x) parts.At (lines.At z) tt tt tt tt tt tt rule tt tt tt;
    }

right_response : (p : Program) (b : Certificate) (front : List CutStep) (x : CutStep) (y : List ℤ) → IsModel p
    → HasBetterResponse p x.parts.point y → IsRightLine p (at_cut b front x) parts.Response (lines.Response y)
right_response p b front x y g h =
    let rule : HasBetterResponse p (cut_at_hand (at_cut b front x)).parts.point y =
    at_hand b front x (λ rows s. HasBetterResponse p s.parts.point y) h in
    record {
      formed = record {
        well_formed = ranges_whole p p.follower y g h.response.ranges;
        form = h.response.ranges.count;
      };
      placed = record { begins = h.response.ranges; rising = tt };
      rules = all_rules p (at_cut b front x) parts.Response (lines.Response y) tt tt tt tt tt tt tt rule tt tt;
    }

-- ---- a whole cut

-- its lines but the first
abbrev body_lines : CutStep → List CertLine
body_lines s =
    lines.Area (sides_of s.area) ∷ lines.TightList (map item_of s.parts.tight) ∷ lines.Inverse s.parts.den
    ∷ (map unit_line s.parts.units ++ lines.At s.parts.point ∷ lines.Response s.parts.response ∷ [])

module _ (p : Program) (b : Certificate) (front : List CutStep) (s : CutStep) (g : IsModel p)
    (h : IsCutStep p (map local_row front) s) (whole : IsWhole (pos (length front)))
    (items_count : IsWhole (pos (length s.parts.tight))) where
  -- its units, from one on
  units_written : (items : ℕ) (row : Linear) (rest : List Part) (done more : List (List (ℕ × ℤ)))
      → items ≡ length s.parts.tight → done ++ more ≡ s.parts.units
      → Reads p (units_from (length more) items ++ rest) (at_cut b front (begun s row done)) (map unit_line more)
      (parts.At ∷ parts.Response ∷ rest) (at_cut b front (begun s row (done ++ more)))
  units_written items row rest done [] size all =
      (refl, ap (λ (us : List (List (ℕ × ℤ))). at_cut b front (begun s row us)) (append-nil done))
  units_written items row rest done (u ∷ more) size all =
      let c = at_cut b front (begun s row done) in
      let next = at_cut b front (begun s row (done ++ u ∷ [])) in
      let place = length done in
      let among : place < length s.parts.units = omega (arith, ap length all, length-append done (u ∷ more)) in
      let this : unit_at s.parts.units place ≡ u =
      ap (λ (us : List (List (ℕ × ℤ))). unit_at us place) (sym all) ∙ get_or-append_seam done u more [] in
      let is : cuts.IsUnit items u =
      subst (λ (n : ℕ). cuts.IsUnit n u) (sym size)
      (subst (λ (v : List (ℕ × ℤ)). cuts.IsUnit (length s.parts.tight) v) this
      (h.shown.size.units place [] among)) in
      let below : place < columns p = let count = h.shown.size.units_count in omega arith in
      let combines : CombinesTo (columns p) (tight_rows p s.area (map local_row front) s.parts.tight) s.parts.den u
      place =
      λ k d. ap (λ (v : List (ℕ × ℤ)). combined (tight_rows p s.area (map local_row front) s.parts.tight) v k)
      (sym this) ∙ h.shown.inverse.each place k below d in
      let left : length more ≡ suc (length more) - 1 = omega arith in
      let others = units_written items row rest (done ++ u ∷ []) more size
      (append_assoc done (u ∷ []) more ∙ all) in
      let from : Reads p (units_from (suc (length more) - 1) items ++ rest) next (map unit_line more)
      (parts.At ∷ parts.Response ∷ rest) (at_cut b front (begun s row ((done ++ u ∷ []) ++ more))) =
      subst (λ (n : ℕ). Reads p (units_from n items ++ rest) next (map unit_line more)
      (parts.At ∷ parts.Response ∷ rest) (at_cut b front (begun s row ((done ++ u ∷ []) ++ more)))) left others in
      let said : change_cut (with_unit (unit_of (unit_pairs u))) c ≡ next =
      ap (λ (v : List (ℕ × ℤ)). change_cut (with_unit v) c) (same_unit u)
      ∙ changed b front (begun s row done) (with_unit u) in
      subst (λ (us : List (List (ℕ × ℤ))). Reads p (parts.Units (suc (length more)) items ∷ rest) c
      (map unit_line (u ∷ more)) (parts.At ∷ parts.Response ∷ rest) (at_cut b front (begun s row us)))
      (append_assoc done (u ∷ []) more)
      (reads_first p (parts.Units (suc (length more)) items) rest (parts.At ∷ parts.Response ∷ rest) c next
      (at_cut b front (begun s row ((done ++ u ∷ []) ++ more))) (unit_line u) (map unit_line more)
      (right_unit p b front (begun s row done) (suc (length more)) items u
      (subst (λ (n : ℕ). IsWhole (pos n)) (sym size) items_count) is combines)
      said from)

  -- they are right lines
  body_written : (rest : List Part)
      → Reads p (parts.CutArea (length front) ∷ rest) (record b { cuts = front })
      (body_lines s) rest (at_cut b front s)
  body_written rest =
      let tight = s.parts.tight in
      let items = length (map item_of tight) in
      let size : items ≡ length tight = length-map tight item_of in
      let row = cut_row p s.area (map local_row front) tight in
      let boxed = cut_on s.area in
      let rowed = with_tight p front tight boxed in
      let inverted = begun s row s.parts.units in
      let placed = with_place s.parts.point inverted in
      let c0 : Certificate = record b { cuts = front } in
      let c1 = at_cut b front boxed in
      let c2 = at_cut b front rowed in
      let c3 = at_cut b front (begun s row []) in
      let c4 = at_cut b front inverted in
      let c5 = at_cut b front placed in
      let c6 = at_cut b front s in
      let sized : IsSized p s.area (map local_row front) tight =
      record { there = h.shown.size.there; coef = h.shown.size.coef; rhs = h.shown.size.rhs } in
      let said1 : record b { cuts = front ++ cut_on (area_of (sides_of s.area)) ∷ [] } ≡ c1 =
      ap (λ (a : Area). at_cut b front (cut_on a)) (same_area s.area h.area) in
      let said2 : change_cut (with_tight p (before_last c1.cuts) (map tight_of (map item_of tight))) c1 ≡ c2 =
      ap (λ (ts : List Tight). change_cut (with_tight p (before_last c1.cuts) ts) c1) (same_tight tight)
      ∙ ap (λ (ss : List CutStep). change_cut (with_tight p ss tight) c1) (before_last-push front boxed)
      ∙ changed b front boxed (with_tight p front tight) in
      let said6 : change_cut (with_response s.parts.response) c5 ≡ c6 =
      changed b front placed (with_response s.parts.response)
      ∙ ap (λ (r : Linear). at_cut b front (record s { row = r })) (sym h.row) in
      let units : Reads p (units_from (columns p) items ++ rest) c3 (map unit_line s.parts.units)
      (parts.At ∷ parts.Response ∷ rest) c4 =
      subst (λ (n : ℕ). Reads p (units_from n items ++ rest) c3 (map unit_line s.parts.units)
      (parts.At ∷ parts.Response ∷ rest) c4) h.shown.size.units_count
      (units_written items row rest [] s.parts.units size refl) in
      let last : Reads p (parts.At ∷ parts.Response ∷ rest) c4
      (lines.At s.parts.point ∷ lines.Response s.parts.response ∷ []) rest c6 =
      reads_first p parts.At (parts.Response ∷ rest) rest c4 c5 c6 (lines.At s.parts.point)
      (lines.Response s.parts.response ∷ []) (right_at p b front inverted s.parts.point g h.shown.tight)
      (changed b front inverted (with_place s.parts.point))
      (reads_first p parts.Response rest rest c5 c6 c6 (lines.Response s.parts.response) []
      (right_response p b front placed s.parts.response g h.shown.response) said6 (refl, refl)) in
      let tail = map unit_line s.parts.units ++ lines.At s.parts.point ∷ lines.Response s.parts.response ∷ [] in
      reads_first p (parts.CutArea (length front)) rest rest c0 c1 c6 (lines.Area (sides_of s.area))
      (lines.TightList (map item_of tight) ∷ lines.Inverse s.parts.den ∷ tail)
      (right_area p c0 (length front) s.area g h.area h.within) said1
      (reads_first p (parts.Tight (length front)) rest rest c1 c2 c6 (lines.TightList (map item_of tight))
      (lines.Inverse s.parts.den ∷ tail)
      (right_tight p b front boxed tight g whole h.shown.size.order sized) said2
      (reads_first p (parts.Inverse items) rest rest c2 c3 c6 (lines.Inverse s.parts.den) tail
      (right_inverse p c2 items s.parts.den h.shown.size.den_least h.shown.size.den_most)
      (changed b front rowed (with_den s.parts.den))
      (reads_on p (units_from (columns p) items ++ rest) (parts.At ∷ parts.Response ∷ rest) rest c3 c4 c6
      (map unit_line s.parts.units) (lines.At s.parts.point ∷ lines.Response s.parts.response ∷ []) units last)))

-- ---- all cuts

more_cuts : (place count : ℕ) → place < count → cuts_from place count ≡ parts.Cuts place count ∷ []
more_cuts place count h =
    let test : nat_lt place count ≡ true = grind (arith, nat_tests) in
    ap (λ t. if t then parts.Cuts place count ∷ [] else parts.Head count ∷ []) test

no_more_cuts : (place : ℕ) → cuts_from place place ≡ parts.Head place ∷ []
no_more_cuts place =
    let test : nat_lt place place ≡ false = grind (arith, nat_tests) in
    ap (λ t. if t then parts.Cuts place place ∷ [] else parts.Head place ∷ []) test

right_head : (p : Program) (c : Certificate) (place count : ℕ) → place < count
    → IsRightLine p c (parts.Cuts place count) lines.CutHead
right_head p c place count below = record {
  formed = record { well_formed = tt; form = tt };
  placed = record { begins = below; rising = tt };
  rules = all_rules p c (parts.Cuts place count) lines.CutHead tt tt tt tt tt tt tt tt tt tt;
}

pub cuts_written : (p : Program) (b : Certificate) (count : ℕ) (front more : List CutStep) → IsModel p
    → count ≡ length front + length more → IsWhole (pos count)
    → All (λ s. line_forms.IsCount (pos (length s.parts.tight))) more → AreCutSteps p (map local_row front) more
    → Reads p (cuts_from (length front) count) (record b { cuts = front }) (flat_map cut_lines more)
    (parts.Head count ∷ []) (record b { cuts = front ++ more })
cuts_written p b count front [] g size whole counted h =
    let same : length front ≡ count = omega arith in (
      sym (ap (λ n. cuts_from n count) same ∙ no_more_cuts count),
      ap (λ (ss : List CutStep). record b { cuts = ss }) (append-nil front),
    )
cuts_written p b count front (s ∷ more) g size whole counted h =
    let place = length front in
    let below : place < count = omega arith in
    let rest = cuts_from (place + 1) count in
    let c0 : Certificate = record b { cuts = front } in
    let c1 = at_cut b front s in
    let c2 : Certificate = record b { cuts = (front ++ s ∷ []) ++ more } in
    let body = body_written p b front s g h.0 (lower_whole place count below whole)
    (All-head (λ x. line_forms.IsCount (pos (length x.parts.tight))) s more counted).0 (rest ++ []) in
    let one : Reads p (parts.Cuts place count ∷ []) c0 (cut_lines s) (rest ++ []) c1 =
    reads_first p (parts.Cuts place count) [] (rest ++ []) c0 c0 c1 lines.CutHead (body_lines s)
    (right_head p c0 place count below) refl body in
    let front_rows : map local_row (front ++ s ∷ []) ≡ map local_row front ++ local_row s ∷ [] =
    map_push local_row front s in
    let others = cuts_written p b count (front ++ s ∷ []) more g
    (size ∙ omega (arith, length_push front s)) whole
    (All-tail (λ x. line_forms.IsCount (pos (length x.parts.tight))) s more counted)
    (subst (λ (rows : List LocalRow). AreCutSteps p rows more) (sym front_rows) h.1) in
    let from : Reads p (rest ++ []) c1 (flat_map cut_lines more) (parts.Head count ∷ []) c2 =
    subst (λ (ps : List Part). Reads p ps c1 (flat_map cut_lines more) (parts.Head count ∷ []) c2)
    (ap (λ n. cuts_from n count) (length_push front s) ∙ sym (append-nil rest)) others in
    let all : Reads p (parts.Cuts place count ∷ []) c0 (cut_lines s ++ flat_map cut_lines more)
    (parts.Head count ∷ []) c2 =
    reads_on p (parts.Cuts place count ∷ []) (rest ++ []) (parts.Head count ∷ []) c0 c1 c2 (cut_lines s)
    (flat_map cut_lines more) one from in
    let whole_list : Reads p (parts.Cuts place count ∷ []) c0 (cut_lines s ++ flat_map cut_lines more)
    (parts.Head count ∷ []) (record b { cuts = front ++ s ∷ more }) =
    subst (λ (ss : List CutStep). Reads p (parts.Cuts place count ∷ []) c0 (cut_lines s ++ flat_map cut_lines more)
    (parts.Head count ∷ []) (record b { cuts = ss })) (append_assoc front (s ∷ []) more) all in
    subst (λ (ps : List Part). Reads p ps c0 (flat_map cut_lines (s ∷ more)) (parts.Head count ∷ [])
    (record b { cuts = front ++ s ∷ more })) (sym (more_cuts place count below)) whole_list
