-- The written lines of the entries are right lines.
use Rattle.std.proofs.Common.{◌≡◌, ℕ, zero, suc, ◌<◌, ◌≤◌, ◌+◌, ◌-◌, refl, sym, ◌∙◌, ap, subst, arith, Bool, true}
use Rattle.std.proofs.Common.{false, List, [], ◌∷◌, ◌++◌, length, append_assoc, inl, inr}
use Rattle.std.specs.Prelude.{ℤ, pos, ◌+ℤ◌, ◌≤ℤ◌, ◌<ℤ◌, Option, Some, All, Contains, count_by, map, slice_index}
use Rattle.std.specs.Prelude.{if◌then◌else◌}
use Rattle.std.specs.Int.{w64}
use Rattle.std.specs.List.{AllByRecursion, flat_map}
use Rattle.std.specs.List.Sorted.{IsStrictlyIncreasing}
use Rattle.std.specs.Ordering.{int_cmp, ordering_then}
use Rattle.std.specs.Cmp.Lexicographic.{slice_cmp}
use Rattle.std.specs.declared.cmp.Ordering.{Ordering}
use Rattle.std.specs.declared.cmp.Ordering.TheVariants.{Less, Equal, Greater}
use Rattle.std.proofs.lemmas.Cmp.{int_ranked}
use Rattle.std.proofs.lemmas.Int.{ints}
use Rattle.std.proofs.lemmas.Bool.{cases_eq}
use Rattle.std.proofs.lemmas.List.{append-nil, length-map, length-set}
use Rattle.std.proofs.lemmas.List.Elements.{All-head, All-tail}
use Rattle.std.proofs.lemmas.List.Recursion.{is_count_by}
use Rattle.std.proofs.lemmas.List.Sums.{count_by-le-length}
use Rattle.bl_whole.specs.Sums.{component}
use Rattle.bl_whole.specs.Within.{IsWithin, AreWithin}
use Rattle.bl_whole.proofs.WithinLemmas.{fits_from_within, within_dot, within_from_bounds, within_high, within_low}
use Rattle.bl_whole.proofs.WithinLemmas.{within_more}
use Rattle.bl_terms.specs.Points.{Area, values_at}
use Rattle.bl_terms.specs.Programs.{Program, Row, columns, root}
use Rattle.bl_terms.specs.Responses.{Entry, Best, NoResponse, InRanges, IsResponse, response_cost}
use Rattle.bl_terms.specs.Trees.{BareNode, Leaf, Split, Anything, CanSplit, Covers, low_half, high_half}
use Rattle.bl_terms.specs.Bounds.{Multipliers, Proves}
use Rattle.bl_terms.specs.FollowerProofs.{IsFollowerProof, follower_box, follower_problem, follower_row, follower_rows}
use Rattle.bl_terms.proofs.PlaceLemmas.{Contains-at, values_at-entry}
use Rattle.bl_model.specs.Boxes.{IsBox}
use Rattle.bl_model.specs.View.{IsModel}
use Rattle.bl_model.proofs.BoxLemmas.{low_half-box, high_half-box, root_box}
use Rattle.bl_cert_terms.specs.Certificates.{ProvedEntry, Certificate, IsProvedEntry, AreRising}
use Rattle.bl_certline.specs.declared.line.CertLine.{CertLine}
use Rattle.bl_certline.specs.declared.line.CertLine.TheVariants as lines
use Rattle.bl_certline.specs.Fields.{IsWhole}
use Rattle.bl_certline.specs.Lines.{AreMultipliers, IsProofNumber}
use Rattle.bl_certtext.specs.declared.part.Part.{Part}
use Rattle.bl_certtext.specs.declared.part.Part.TheVariants as parts
use Rattle.bl_certtext.specs.Grammar.{entries_from}
use Rattle.bl_certtext.specs.Places.{IsAbove, IsLower, lower_count}
use Rattle.bl_check_terms.specs.Values.{followers_area, multipliers, pairs_of, place_in}
use Rattle.bl_check_terms.specs.Reading.{change_entry, entry_of_link, last_entry, with_answer, with_node}
use Rattle.bl_check_terms.specs.Rules.{ProvesEntry, cutoff_of_entry}
use Rattle.bl_check_terms.specs.Writing.{answer_line, entry_lines, proof_line}
use Rattle.bl_check_terms.specs.Accepting.{IsRightLine, Reads}
use Rattle.bl_check_terms.proofs.FollowerBoxes.{placed, other_number, followers_low, followers_high}
use Rattle.bl_check_terms.proofs.Lasts.{at_last-push, last_entry-push}
use Rattle.bl_check_terms.proofs.Pairs.{pairs_below, pairs_rise, pairs_well, weight_limit, written_multipliers}
use Rattle.bl_check_terms.proofs.Readings.{all_rules, reads_first, reads_on}
use Rattle.bl_check_terms.proofs.Standing.{follower_parts}
use Rattle.bl_check_terms.proofs.WrittenCuts.{ranges_whole}
use Rattle.bl_check_terms.proofs.WrittenTree.{are_weights, column_whole, split_whole}

-- ---- links

same_before : (x y : ℤ) (xs ys : List ℤ) (place : ℕ) → x ≡ y
    → ((k : ℕ) → k < place → component xs k ≡ component ys k) → (k : ℕ) → k < suc place
    → component (x ∷ xs) k ≡ component (y ∷ ys) k
same_before x y xs ys place same h zero b = same
same_before x y xs ys place same h (suc k) b = h k (omega arith)

-- a list that comes before another of its length is lower
lower_from : (xs ys : List ℤ) → slice_cmp int_cmp xs ys ≡ Less → length xs ≡ length ys → IsLower xs ys
lower_from [] [] h size = absurd cc
lower_from [] (y ∷ ys) h size = absurd (omega arith)
lower_from (x ∷ xs) [] h size = absurd (omega arith)
lower_from (x ∷ xs) (y ∷ ys) h size = by (λ e. lower_from xs ys e (omega arith)) (int_cmp x y) refl
  where
    by : (slice_cmp int_cmp xs ys ≡ Less → IsLower xs ys) → (o : Ordering) → int_cmp x y ≡ o
        → IsLower (x ∷ xs) (y ∷ ys)
    by rest Less e = record {
      place = 0;
      within = omega arith;
      within_other = omega arith;
      lower = int_ranked x y Less (sym e);
      before = λ k b. absurd (omega arith);
    }
    by rest Equal e =
        let tail : slice_cmp int_cmp xs ys ≡ Less =
        sym (ap (λ o. ordering_then o (slice_cmp int_cmp xs ys)) e) ∙ h in
        let r = rest tail in
        let same : x ≡ y = int_ranked x y Equal (sym e) in
        let within = r.within in
        let within_other = r.within_other in
        record {
          place = suc r.place;
          within = omega arith;
          within_other = omega arith;
          lower = r.lower;
          before = same_before x y xs ys r.place same r.before;
        }
    by rest Greater e =
        let no : Greater ≡ Less = sym (ap (λ o. ordering_then o (slice_cmp int_cmp xs ys)) e) ∙ h in
        absurd cc

-- the first entry's link is above this one
abbrev pub FirstAbove : Option (List ℤ) → List ProvedEntry → Type 0
FirstAbove last [] = Unit {0}
FirstAbove last (e ∷ entries) = IsAbove last e.link

next_above : (p : Program) (e : ProvedEntry) (entries : List ProvedEntry) → All (IsProvedEntry p) (e ∷ entries)
    → AreRising (e ∷ entries) → FirstAbove (Some e.link) entries
next_above p e [] proved rising = tt
next_above p e (f ∷ entries) proved rising =
    let first : IsProvedEntry p e = proved 0 e (omega arith) in
    let second : IsProvedEntry p f = proved 1 e (omega arith) in
    lower_from e.link f.link (rising 0 1 e (omega arith) (omega arith)) (first.link.count ∙ sym second.link.count)

-- ---- numbers

-- numbers that rise are at least their places
at_least_place : (ks : List ℕ) → IsStrictlyIncreasing ks → (i : ℕ) → i < length ks → i ≤ slice_index ks i
at_least_place ks rising zero b = omega arith
at_least_place ks rising (suc i) b =
    let before = at_least_place ks rising i (omega arith) in
    let e : i + 1 ≡ suc i = omega arith in
    let next : slice_index ks i < slice_index ks (suc i) =
    subst (λ n. slice_index ks i < slice_index ks n) e (rising i (omega arith)) in
    omega arith

few_followers : (p : Program) → IsModel p → length p.follower ≤ columns p
few_followers p g = by (length p.follower) refl
  where
    by : (n : ℕ) → length p.follower ≡ n → length p.follower ≤ columns p
    by zero e = omega arith
    by (suc n) e =
        let last : n < length p.follower = omega arith in
        let place = at_least_place p.follower g.sound.follower_rising n last in
        let below = g.sound.follower_below (slice_index p.follower n) (Contains-at p.follower n last) in
        omega arith

cost_whole : (p : Program) (y : List ℤ) → IsModel p → InRanges p p.follower y → IsWhole (response_cost p y)
cost_whole p y g h =
    let costs : AreWithin 10000000 (values_at p.follower_cost p.follower) = record {
      each = λ k b.
          let count = length-map p.follower (λ i. component p.follower_cost i) in
          subst (IsWithin 10000000) (sym (values_at-entry p.follower_cost p.follower k (omega arith)))
          (g.limits.follower_costs (slice_index p.follower k));
    } in
    let ranges : AreWithin 10000000 y = record {
      each = λ k b.
          let count = h.count in
          let below : k < length p.follower = omega arith in
          let least = h.least k below in
          let most = h.most k below in
          let lo = within_low (g.limits.lower_bounds (slice_index p.follower k)) in
          let hi = within_high (g.limits.upper_bounds (slice_index p.follower k)) in
          within_from_bounds 10000000 (component y k) (omega (arith, ints)) (omega (arith, ints));
    } in
    let count = length-map p.follower (λ i. component p.follower_cost i) in
    let few : length (values_at p.follower_cost p.follower) ≤ 120 =
    omega (arith, few_followers p g, g.limits.few_columns) in
    let value : IsWithin 12000000000000000 (response_cost p y) =
    within_more (within_dot costs ranges) (omega (arith, few)) in
    fits_from_within w64 value (omega arith)

one_counted : (p : Program) (l : List ℤ) (r : Row) (rs : List Row) (t : Bool)
    → length (if t then follower_row p l r ∷ follower_rows p l rs else follower_rows p l rs)
    ≡ (if t then 1 + length (follower_rows p l rs) else length (follower_rows p l rs))
one_counted p l r rs true = omega arith
one_counted p l r rs false = refl

lower_rows : (p : Program) (l : List ℤ) (rows : List Row)
    → length (follower_rows p l rows) ≡ count_by (λ r. r.lower) rows
lower_rows p l rows = is_count_by (λ rs. length (follower_rows p l rs)) (λ r. r.lower) refl step rows
  where
    step : (r : Row) (rs : List Row) → length (follower_rows p l (r ∷ rs))
        ≡ (if r.lower then 1 + length (follower_rows p l rs) else length (follower_rows p l rs))
    step r rs = one_counted p l r rs r.lower

-- ---- the entry at hand

abbrev pub at_entry : Certificate → List ProvedEntry → ProvedEntry → Certificate
at_entry b front x = record b { entries = front ++ x ∷ [] }

abbrev with_proof : List ℤ → Entry → List (BareNode Multipliers) → ProvedEntry
with_proof link x nodes = record { link = link; entry = x; proof = nodes }

changed : (b : Certificate) (front : List ProvedEntry) (x : ProvedEntry) (f : ProvedEntry → ProvedEntry)
    → change_entry f (at_entry b front x) ≡ at_entry b front (f x)
changed b front x f = ap (λ (es : List ProvedEntry). record b { entries = es }) (at_last-push f front x)

-- the answer's line
answer_written : (p : Program) (b : Certificate) (front : List ProvedEntry) (link : List ℤ) (x : Entry)
    (nodes : List (BareNode Multipliers)) (rest left : List Part) (d : Certificate) (ls : List CertLine) → IsModel p
    → IsFollowerProof p link x nodes
    → Reads p (parts.FollowerTree (root p) ∷ rest) (at_entry b front (with_proof link x [])) ls left d
    → Reads p (parts.Answer ∷ rest) (at_entry b front (entry_of_link link)) (answer_line x ∷ ls) left d
answer_written p b front link (Best y v) nodes rest left d ls g h k =
    let c = at_entry b front (entry_of_link link) in
    let whole : IsWhole v = subst IsWhole h.value (cost_whole p y g h.response.ranges) in
    let response : IsResponse p (last_entry c.entries).link y =
    subst (λ (e : ProvedEntry). IsResponse p e.link y) (sym (last_entry-push front (entry_of_link link))) h.response in
    reads_first p parts.Answer rest left c (at_entry b front (with_proof link (Best y v) [])) d (lines.Best v y) ls
    (record {
      formed = record {
        well_formed = (whole, ranges_whole p p.follower y g h.response.ranges);
        form = h.response.ranges.count;
      };
      placed = record { begins = h.response.ranges; rising = tt };
      rules = all_rules p c parts.Answer (lines.Best v y) tt tt (response, h.value) tt tt tt tt tt tt tt;
    })
    (changed b front (entry_of_link link) (with_answer (Best y v))) k
answer_written p b front link NoResponse nodes rest left d ls g h k =
    let c = at_entry b front (entry_of_link link) in
    reads_first p parts.Answer rest left c c d lines.NoAnswer ls
    (record {
      formed = record { well_formed = tt; form = tt };
      placed = record { begins = tt; rising = tt };
      rules = all_rules p c parts.Answer lines.NoAnswer tt tt tt tt tt tt tt tt tt tt;
    })
    refl k

-- ---- the follower's trees

-- the place of a column of the follower is the one at which it stands
place_again : (ks : List ℕ) (j : ℕ) → IsStrictlyIncreasing ks → j < length ks → place_in ks (slice_index ks j) ≡ j
place_again ks j rising b =
    let k = slice_index ks j in
    let at = placed ks k (Contains-at ks j b) in
    elim (cases_eq j (place_in ks k)) [
      | inl same ↦ sym same
      | inr ne ↦ absurd (other_number ks k j (place_in ks k) rising at b ne refl)
    ]

-- where his part of a box can be split, so can the box
box_split : (p : Program) (a : Area) (j : ℕ) (v : ℤ) → CanSplit (followers_area p a) j v → length a.lo ≡ columns p
    → IsModel p → CanSplit a (slice_index p.follower j) v
box_split p a j v can count g =
    let size = length-map p.follower (λ i. component a.lo i) in
    let b : j < length p.follower = let c = can.column in omega arith in
    let below = g.sound.follower_below (slice_index p.follower j) (Contains-at p.follower j b) in
    record {
      column = omega arith;
      least = subst (λ x. x ≤ℤ v) (values_at-entry a.lo p.follower j b) can.least;
      below = subst (λ x. v <ℤ x) (values_at-entry a.hi p.follower j b) can.below;
    }

-- a box of the program's columns, within the limits
record IsWide (p : Program) (a : Area) : Type 0 where
  box : IsBox a
  count : length a.lo ≡ columns p

abbrev closes_entry : Program → List ℤ → Entry → Area → Multipliers → Type 0
closes_entry p link x a w = Proves (follower_problem p link a) (cutoff_of_entry x) w

right_split : (p : Program) (c : Certificate) (a : Area) (j : ℕ) (v : ℤ) → IsBox a → j < length p.follower
    → CanSplit a (slice_index p.follower j) v
    → IsRightLine p c (parts.FollowerTree a) (lines.Split (pos (slice_index p.follower j)) v)
right_split p c a j v box b can =
    let k = slice_index p.follower j in
    record {
      formed = record { well_formed = (column_whole a k v box can, split_whole a k v box can); form = tt };
      placed = record { begins = ((k, refl, Contains-at p.follower j b), (k, refl, can)); rising = tt };
      rules = all_rules p c (parts.FollowerTree a) (lines.Split (pos k) v) tt tt tt tt tt tt tt tt tt tt;
    }

right_proof : (p : Program) (b : Certificate) (front : List ProvedEntry) (e : ProvedEntry) (a : Area)
    (w : Multipliers) → IsModel p → length w.mult ≡ lower_count p
    → closes_entry p e.link e.entry (followers_area p a) w
    → IsRightLine p (at_entry b front e) (parts.FollowerTree a) (lines.Proof w.den (pairs_of w.mult))
right_proof p b front e a w g count h =
    let c = at_entry b front e in
    let few = count_by-le-length (λ r. r.lower) p.rows in
    let few_rows = g.limits.few_rows in
    let den : IsProofNumber w.den = weight_limit w.den (h.multipliers.den_least, h.multipliers.den_most) in
    let pairs : AreMultipliers (pairs_of w.mult) =
    pairs_well 0 w.mult (are_weights w h.multipliers) (omega arith) in
    let here : ProvesEntry p (last_entry c.entries) a w =
    subst (λ (x : ProvedEntry). ProvesEntry p x a w) (sym (last_entry-push front e)) h in
    let rule : ProvesEntry p (last_entry c.entries) a (multipliers (lower_count p) w.den (pairs_of w.mult)) =
    subst (λ (x : Multipliers). ProvesEntry p (last_entry c.entries) a x)
    (sym (written_multipliers (lower_count p) w count)) here in
    record {
      formed = record { well_formed = (den, pairs); form = tt };
      placed = record { begins = pairs_below (lower_count p) 0 w.mult (omega arith); rising = pairs_rise 0 w.mult };
      rules = all_rules p c (parts.FollowerTree a) (lines.Proof w.den (pairs_of w.mult)) tt tt tt tt tt tt tt tt tt
          rule;
    }

follower_written : (p : Program) (b : Certificate) (front : List ProvedEntry) (link : List ℤ) (x : Entry)
    (nodes : List (BareNode Multipliers)) (boxes : List Area) (done : List (BareNode Multipliers)) (rest : List Part)
    → IsModel p → AllByRecursion (IsWide p) boxes
    → Covers Anything (closes_entry p link x) nodes (map (followers_area p) boxes)
    → Reads p (follower_parts boxes ++ rest) (at_entry b front (with_proof link x done)) (map (proof_line p) nodes)
    rest (at_entry b front (with_proof link x (done ++ nodes)))
follower_written p b front link x [] [] done rest g are h =
    (refl, ap (λ (ns : List (BareNode Multipliers)). at_entry b front (with_proof link x ns)) (append-nil done))
follower_written p b front link x [] (a ∷ boxes) done rest g are h = absurd h
follower_written p b front link x (n ∷ nodes) [] done rest g are h = absurd h
follower_written p b front link x (Split j v s ∷ nodes) (a ∷ boxes) done rest g are h =
    let k = slice_index p.follower j in
    let rising = g.sound.follower_rising in
    let size = length-map p.follower (λ i. component a.lo i) in
    let within : j < length p.follower = let c = h.0.0.column in omega arith in
    let here : Contains p.follower k = Contains-at p.follower j within in
    let can = box_split p a j v h.0.0 are.0.count g in
    let again : place_in p.follower k ≡ j = place_again p.follower j rising within in
    let low = low_half a k v in
    let high = high_half a k v in
    let low_box = low_half-box a k v can are.0.box in
    let high_box = high_half-box a k v can are.0.box in
    let parts_of = map (followers_area p) boxes in
    let part = followers_area p a in
    let same_low : low_half part j v ≡ followers_area p low =
    ap (λ n. low_half part n v) (sym again) ∙ sym (followers_low p a k v rising here can are.0.box.area.sides) in
    let same_high : high_half part j v ≡ followers_area p high =
    ap (λ n. high_half part n v) (sym again) ∙ sym (followers_high p a k v rising here can) in
    let first : Covers Anything (closes_entry p link x) nodes (followers_area p low ∷ high_half part j v ∷ parts_of) =
    subst (λ (y : Area). Covers Anything (closes_entry p link x) nodes (y ∷ high_half part j v ∷ parts_of)) same_low
    h.1 in
    let covered : Covers Anything (closes_entry p link x) nodes
    (followers_area p low ∷ followers_area p high ∷ parts_of) =
    subst (λ (y : Area). Covers Anything (closes_entry p link x) nodes (followers_area p low ∷ y ∷ parts_of)) same_high
    first in
    let high_count : length high.lo ≡ columns p = length-set a.lo k (v +ℤ pos 1) ∙ are.0.count in
    let wide : AllByRecursion (IsWide p) (low ∷ high ∷ boxes) =
    (record { box = low_box; count = are.0.count }, (record { box = high_box; count = high_count }, are.1)) in
    let node = Split j v s in
    let more = done ++ node ∷ [] in
    let others = follower_written p b front link x nodes (low ∷ high ∷ boxes) more rest g wide covered in
    let c = at_entry b front (with_proof link x done) in
    let said : change_entry (with_node (Split (place_in p.follower k) v tt)) c
    ≡ at_entry b front (with_proof link x more) =
    ap (λ n. change_entry (with_node (Split n v tt)) c) again
    ∙ changed b front (with_proof link x done) (with_node (Split j v tt)) in
    subst (λ (ns : List (BareNode Multipliers)). Reads p (parts.FollowerTree a ∷ (follower_parts boxes ++ rest)) c
    (map (proof_line p) (node ∷ nodes)) rest (at_entry b front (with_proof link x ns)))
    (append_assoc done (node ∷ []) nodes)
    (reads_first p (parts.FollowerTree a) (follower_parts boxes ++ rest) rest c
    (at_entry b front (with_proof link x more)) (at_entry b front (with_proof link x (more ++ nodes)))
    (lines.Split (pos k) v) (map (proof_line p) nodes) (right_split p c a j v are.0.box within can) said others)
follower_written p b front link x (Leaf w ∷ nodes) (a ∷ boxes) done rest g are h =
    let node : BareNode Multipliers = Leaf w in
    let more = done ++ node ∷ [] in
    let others = follower_written p b front link x nodes boxes more rest g are.1 h.1 in
    let c = at_entry b front (with_proof link x done) in
    let count : length w.mult ≡ lower_count p = h.0.rows ∙ lower_rows p link p.rows in
    let said : change_entry (with_node (Leaf (multipliers (lower_count p) w.den (pairs_of w.mult)))) c
    ≡ at_entry b front (with_proof link x more) =
    ap (λ (y : Multipliers). change_entry (with_node (Leaf y)) c) (written_multipliers (lower_count p) w count)
    ∙ changed b front (with_proof link x done) (with_node (Leaf w)) in
    subst (λ (ns : List (BareNode Multipliers)). Reads p (parts.FollowerTree a ∷ (follower_parts boxes ++ rest)) c
    (map (proof_line p) (node ∷ nodes)) rest (at_entry b front (with_proof link x ns)))
    (append_assoc done (node ∷ []) nodes)
    (reads_first p (parts.FollowerTree a) (follower_parts boxes ++ rest) rest c
    (at_entry b front (with_proof link x more)) (at_entry b front (with_proof link x (more ++ nodes)))
    (lines.Proof w.den (pairs_of w.mult)) (map (proof_line p) nodes)
    (right_proof p b front (with_proof link x done) a w g count h.0) said others)

proof_tree : (p : Program) (link : List ℤ) (x : Entry) (nodes : List (BareNode Multipliers))
    → IsFollowerProof p link x nodes → Covers Anything (closes_entry p link x) nodes (follower_box p ∷ [])
proof_tree p link (Best y v) nodes h = h.tree
proof_tree p link NoResponse nodes h = h

-- ---- all entries

right_link : (p : Program) (c : Certificate) (left : ℕ) (last : Option (List ℤ)) (e : ProvedEntry) → IsModel p
    → IsProvedEntry p e → IsAbove last e.link
    → IsRightLine p c (parts.Entries left last) (lines.EntryHead e.link)
right_link p c left last e g h above = record {
  formed = record { well_formed = ranges_whole p p.links e.link g h.link; form = h.link.count };
  placed = record { begins = (h.link, above); rising = tt };
  rules = all_rules p c (parts.Entries left last) (lines.EntryHead e.link) tt tt tt tt tt tt tt tt tt tt;
}

entry_written : (p : Program) (b : Certificate) (front : List ProvedEntry) (left : ℕ) (last : Option (List ℤ))
    (e : ProvedEntry) → IsModel p → IsProvedEntry p e → IsAbove last e.link
    → Reads p (parts.Entries left last ∷ []) (record b { entries = front }) (entry_lines p e)
    (entries_from (left - 1) (Some e.link) ++ []) (at_entry b front e)
entry_written p b front left last e g h above =
    let rest = entries_from (left - 1) (Some e.link) ++ [] in
    let c : Certificate = record b { entries = front } in
    let wide : AllByRecursion (IsWide p) (root p ∷ []) = (record { box = root_box p g; count = refl }, tt) in
    let tree = follower_written p b front e.link e.entry e.proof (root p ∷ []) [] rest g wide
    (proof_tree p e.link e.entry e.proof h.proof) in
    reads_first p (parts.Entries left last) [] rest c (at_entry b front (entry_of_link e.link)) (at_entry b front e)
    (lines.EntryHead e.link) (answer_line e.entry ∷ map (proof_line p) e.proof) (right_link p c left last e g h above)
    refl
    (answer_written p b front e.link e.entry e.proof rest rest (at_entry b front e) (map (proof_line p) e.proof) g
    h.proof tree)

pub entries_written : (p : Program) (b : Certificate) (front more : List ProvedEntry) (last : Option (List ℤ))
    → IsModel p → FirstAbove last more → AreRising more → All (IsProvedEntry p) more
    → Reads p (entries_from (length more) last) (record b { entries = front }) (flat_map (entry_lines p) more)
    (parts.CutCount ∷ []) (record b { entries = front ++ more })
entries_written p b front [] last g above rising proved =
    (refl, ap (λ (es : List ProvedEntry). record b { entries = es }) (append-nil front))
entries_written p b front (e ∷ more) last g above rising proved =
    let n = length more in
    let c : Certificate = record b { entries = front } in
    let c1 = at_entry b front e in
    let c2 : Certificate = record b { entries = (front ++ e ∷ []) ++ more } in
    let from = entries_from (suc n - 1) (Some e.link) ++ [] in
    let same : entries_from n (Some e.link) ≡ from =
    ap (λ m. entries_from m (Some e.link)) (omega arith) ∙ sym (append-nil (entries_from (suc n - 1) (Some e.link))) in
    let one = entry_written p b front (suc n) last e g (All-head (IsProvedEntry p) e more proved) above in
    let others = entries_written p b (front ++ e ∷ []) more (Some e.link) g (next_above p e more proved rising)
    (λ i j d lt w. rising (suc i) (suc j) d (omega arith) (omega arith))
    (All-tail (IsProvedEntry p) e more proved) in
    let onward : Reads p from c1 (flat_map (entry_lines p) more) (parts.CutCount ∷ []) c2 =
    subst (λ (ps : List Part). Reads p ps c1 (flat_map (entry_lines p) more) (parts.CutCount ∷ []) c2) same others in
    subst (λ (es : List ProvedEntry). Reads p (parts.Entries (suc n) last ∷ []) c
    (entry_lines p e ++ flat_map (entry_lines p) more) (parts.CutCount ∷ []) (record b { entries = es }))
    (append_assoc front (e ∷ []) more)
    (reads_on p (parts.Entries (suc n) last ∷ []) from (parts.CutCount ∷ []) c c1 c2 (entry_lines p e)
    (flat_map (entry_lines p) more) one onward)
