-- The written lines of the tree are right lines.
use Rattle.std.proofs.Common.{◌≡◌, ◌≢◌, ℕ, ◌<◌, ◌+◌, refl, sym, ◌∙◌, ap, subst, arith, Bool, true}
use Rattle.std.proofs.Common.{false, List, [], ◌∷◌, ◌++◌, length, append_assoc}
use Rattle.std.specs.Prelude.{ℤ, pos, Option, None, Some, All, map}
use Rattle.std.specs.Prelude.{unsigned_abs}
use Rattle.std.specs.Int.{w64}
use Rattle.std.specs.List.{AllByRecursion}
use Rattle.std.specs.List.Sorted.{IsStrictlyIncreasing}
use Rattle.std.proofs.lemmas.Int.{ints}
use Rattle.std.proofs.lemmas.Bool.{true≢false}
use Rattle.std.proofs.lemmas.List.{append-nil, length-append, length-map, get_or-map, get_or_default}
use Rattle.std.proofs.lemmas.List.Elements.{All-map, All-head, All-tail, recursion_from_All}
use Rattle.bl_limits.specs.declared.TheConstants.{MAX_NUMBER}
use Rattle.bl_whole.proofs.WithinLemmas.{fits_from_within, within_entry, within_from_bounds, within_high, within_low}
use Rattle.bl_terms.specs.Points.{Area}
use Rattle.bl_terms.specs.Programs.{Program, inequality}
use Rattle.bl_terms.specs.Trees.{BareNode, Leaf, Split, Anything, CanSplit, Covers, low_half, high_half}
use Rattle.bl_terms.specs.Bounds.{Multipliers, Proves}
use Rattle.bl_terms.specs.Bounds as bounds
use Rattle.bl_model.specs.Boxes.{IsBox}
use Rattle.bl_model.specs.View.{IsModel}
use Rattle.bl_model.proofs.BoxLemmas.{low_half-box, high_half-box}
use Rattle.bl_cut_terms.specs.NoGoods.{CutStep, step_at}
use Rattle.bl_leaf_terms.specs.Leaves.{leaf_problem, value_place}
use Rattle.bl_cert_terms.specs.Certificates.{ProvedEntry, LeafProof, Bounded, NoAnswer, Certificate, IsBounded, IsCited}
use Rattle.bl_cert_terms.specs.Certificates.{IsUnanswered, UsesValue, Closes}
use Rattle.bl_certline.specs.declared.line.CertLine.TheVariants as lines
use Rattle.bl_certline.specs.Fields.{IsWhole}
use Rattle.bl_certline.specs.Lines.{AreWhole, IsProofNumber, AreMultipliers}
use Rattle.bl_certtext.specs.declared.part.Part.TheVariants as parts
use Rattle.bl_certtext.specs.Places.{IsLeaf, IsPlace, Rise}
use Rattle.bl_check_terms.specs.Values.{multipliers, pairs_of}
use Rattle.bl_check_terms.specs.Reading.{add_node, leaf_of}
use Rattle.bl_check_terms.specs.Rules.{CitesRightly, HasValueRow, ProvesLeaf}
use Rattle.bl_check_terms.specs.Writing.{node_line}
use Rattle.bl_check_terms.specs.Accepting.{IsRightLine, Reads}
use Rattle.bl_check_terms.proofs.Pairs.{IsWeight, lower_whole, pairs_below, pairs_rise, pairs_well, pairs_without}
use Rattle.bl_check_terms.proofs.Pairs.{small_whole, weight_limit, written_multipliers}
use Rattle.bl_check_terms.proofs.Readings.{all_rules, reads_first}
use Rattle.bl_check_terms.proofs.Standing.{tree_parts}

-- ---- numbers

pub split_whole : (a : Area) (j : ℕ) (v : ℤ) → IsBox a → CanSplit a j v → IsWhole v
split_whole a j v box can =
    let lo = within_low (within_entry box.lower_bounds j) in
    let hi = within_high (within_entry box.upper_bounds j) in
    let least = can.least in
    let below = can.below in
    fits_from_within w64 (within_from_bounds MAX_NUMBER v (omega (arith, ints)) (omega (arith, ints))) (omega arith)

pub column_whole : (a : Area) (j : ℕ) (v : ℤ) → IsBox a → CanSplit a j v → IsWhole (pos j)
column_whole a j v box can =
    let few = box.few in
    let there = can.column in
    small_whole j (omega arith)

-- multipliers may stand beside rows
pub are_weights : (w : Multipliers) → bounds.AreMultipliers w → AllByRecursion IsWeight w.mult
are_weights w h =
    recursion_from_All IsWeight w.mult
    (λ k d b. subst IsWeight (get_or_default w.mult k (pos 0) d b) (h.least k b, h.most k b))

-- ---- cited cuts

same_cited : (cited : List ℕ) → map unsigned_abs (map pos cited) ≡ cited
same_cited [] = refl
same_cited (k ∷ cited) = ap (λ (ks : List ℕ). k ∷ ks) (same_cited cited)

cited_whole : (cuts : List CutStep) (a : Area) (cited : List ℕ) → IsWhole (pos (length cuts))
    → All (IsCited cuts a) cited → AreWhole (map pos cited)
cited_whole cuts a [] whole there = tt
cited_whole cuts a (k ∷ cited) whole there = (
  lower_whole k (length cuts) (All-head (IsCited cuts a) k cited there).below whole,
  cited_whole cuts a cited whole (All-tail (IsCited cuts a) k cited there),
)

cited_places : (cuts : List CutStep) (a : Area) (cited : List ℕ) → All (IsCited cuts a) cited
    → All (IsPlace (length cuts)) (map pos cited)
cited_places cuts a cited there =
    All-map (IsPlace (length cuts)) pos cited (λ i d b.
    let below = (there i d b).below in
    (omega (arith, ints), omega (arith, ints)))

cited_rise : (cited : List ℕ) → IsStrictlyIncreasing cited → Rise (map pos cited)
cited_rise cited rising = λ k d b.
    let count = length-map cited pos in
    let this : k < length cited = omega arith in
    let next : k + 1 < length cited = omega arith in
    let at = get_or-map pos cited k 0 d this in
    let at_next = get_or-map pos cited (k + 1) 0 d next in
    let lower = rising k next in
    omega (arith, ints)

-- ---- a leaf

-- how many rows its multipliers are of
rows_counted : (p : Program) (a : Area) (w : Multipliers) (u value : Option ℤ) (cuts : List CutStep) (cited : List ℕ)
    → Proves (leaf_problem p a value (map (λ k. (step_at cuts k).row) cited)) u w
    → length w.mult ≡ length p.rows + 1 + length (map pos cited)
rows_counted p a w u value cuts cited proves =
    let rows = map (λ k. (step_at cuts k).row) cited in
    let count = proves.rows in
    let size = length-append (map inequality p.rows) (value_place p value ∷ rows) in
    let first = length-map p.rows inequality in
    let last = length-map cited (λ k. (step_at cuts k).row) in
    let same = length-map cited pos in
    omega arith

value_unlisted : (p : Program) (entries : List ProvedEntry) (a : Area) (w : Multipliers) (uses : Bool)
    (value : Option ℤ) → UsesValue p entries a w uses value → uses ≡ false
    → All (λ m. m.0 ≢ pos (length p.rows)) (pairs_of w.mult)
value_unlisted p entries a w true value has e = absurd (true≢false e)
value_unlisted p entries a w false value has e =
    let n : 0 + length p.rows ≡ length p.rows = omega arith in
    subst (λ k. All (λ m. m.0 ≢ pos k) (pairs_of w.mult)) n (pairs_without 0 (length p.rows) w.mult has.1)

has_value_row : (p : Program) (c : Certificate) (a : Area) (w : Multipliers) (uses : Bool) (value : Option ℤ)
    → UsesValue p c.entries a w uses value → HasValueRow p c a uses
has_value_row p c a w true None has = absurd has
has_value_row p c a w true (Some v) has = (has.0, (v, has.1))
has_value_row p c a w false value has = tt

module _ (p : Program) (c : Certificate) (a : Area) (w : Multipliers) (uses : Bool) (cited : List ℕ) (g : IsModel p)
    (whole : IsWhole (pos (length c.cuts))) (h : IsBounded p c a w uses cited) (front : List (BareNode LeafProof)) where
  is_leaf : IsLeaf p (length c.cuts) uses (map pos cited) (pairs_of w.mult)
  is_leaf =
      let count = rows_counted p a w _ h.value c.cuts cited h.proof in
      let same = length-map cited pos in
      let few = h.few in
      record {
        few = omega arith;
        there = cited_places c.cuts a cited h.there;
        rising = cited_rise cited h.rising;
        rows = pairs_below (length p.rows + 1 + length (map pos cited)) 0 w.mult (omega arith);
        value = value_unlisted p c.entries a w uses h.value h.has;
      }

  leaf_read : leaf_of p w.den uses (map pos cited) (pairs_of w.mult) ≡ Bounded w uses cited
  leaf_read =
      let n = length p.rows + 1 + length (map pos cited) in
      let same = written_multipliers n w (rows_counted p a w _ h.value c.cuts cited h.proof) in
      ap (λ (x : Multipliers). Bounded x uses (map unsigned_abs (map pos cited))) same
      ∙ ap (λ (ks : List ℕ). Bounded w uses ks) (same_cited cited)

  proves_leaf : ProvesLeaf p (record c { tree = front }) a
      (multipliers (length p.rows + 1 + length (map pos cited)) w.den (pairs_of w.mult)) uses
      (map unsigned_abs (map pos cited))
  proves_leaf =
      let d : Certificate = record c { tree = front } in
      let n = length p.rows + 1 + length (map pos cited) in
      let same = written_multipliers n w (rows_counted p a w _ h.value c.cuts cited h.proof) in
      let plain : ProvesLeaf p d a w uses cited = record { value = h.value; has = h.has; proof = h.proof } in
      subst (λ (x : Multipliers). ProvesLeaf p d a x uses (map unsigned_abs (map pos cited))) (sym same)
      (subst (λ (ks : List ℕ). ProvesLeaf p d a w uses ks) (sym (same_cited cited)) plain)

  cites_rightly : CitesRightly p (record c { tree = front }) a uses (map unsigned_abs (map pos cited))
  cites_rightly =
      let d : Certificate = record c { tree = front } in
      let plain : CitesRightly p d a uses cited =
      record { cuts = h.there; value = has_value_row p d a w uses h.value h.has } in
      subst (λ (ks : List ℕ). CitesRightly p d a uses ks) (sym (same_cited cited)) plain

  right_close : IsRightLine p (record c { tree = front }) (parts.Tree a (length c.cuts))
      (node_line (Leaf (Bounded w uses cited)))
  right_close =
      let count = rows_counted p a w _ h.value c.cuts cited h.proof in
      let same = length-map cited pos in
      let few = h.few in
      let few_rows = g.limits.few_rows in
      let den : IsProofNumber w.den =
      weight_limit w.den (h.proof.multipliers.den_least, h.proof.multipliers.den_most) in
      let pairs : AreMultipliers (pairs_of w.mult) =
      pairs_well 0 w.mult (are_weights w h.proof.multipliers) (omega arith) in
      record {
        formed = record {
          well_formed = (
            den,
            small_whole (length cited) (omega arith),
            ap pos (sym same),
            cited_whole c.cuts a cited whole h.there,
            pairs,
          );
          form = tt;
        };
        placed = record { begins = is_leaf; rising = pairs_rise 0 w.mult };
        rules = all_rules p (record c { tree = front }) (parts.Tree a (length c.cuts))
            (node_line (Leaf (Bounded w uses cited))) tt tt tt tt tt tt tt tt cites_rightly proves_leaf;
      }

right_split : (p : Program) (c : Certificate) (a : Area) (cuts j : ℕ) (v : ℤ) → IsBox a → CanSplit a j v
    → IsRightLine p c (parts.Tree a cuts) (lines.Split (pos j) v)
right_split p c a cuts j v box can = record {
  formed = record { well_formed = (column_whole a j v box can, split_whole a j v box can); form = tt };
  placed = record { begins = (j, refl, can); rising = tt };
  rules = all_rules p c (parts.Tree a cuts) (lines.Split (pos j) v) tt tt tt tt tt tt tt tt tt tt;
}

right_none : (p : Program) (c : Certificate) (a : Area) (cuts : ℕ) → IsUnanswered p c a
    → IsRightLine p c (parts.Tree a cuts) lines.NoAnswer
right_none p c a cuts h = record {
  formed = record { well_formed = tt; form = tt };
  placed = record { begins = tt; rising = tt };
  rules = all_rules p c (parts.Tree a cuts) lines.NoAnswer tt tt tt tt tt tt tt tt h tt;
}

-- ---- the whole tree

pub tree_written : (p : Program) (c : Certificate) (nodes : List (BareNode LeafProof)) (boxes : List Area)
    (front : List (BareNode LeafProof)) → IsModel p → IsWhole (pos (length c.cuts)) → AllByRecursion IsBox boxes
    → Covers Anything (Closes p c) nodes boxes
    → Reads p (tree_parts (length c.cuts) boxes ++ parts.End ∷ []) (record c { tree = front }) (map node_line nodes)
    (parts.End ∷ []) (record c { tree = front ++ nodes })
tree_written p c [] [] front g whole are h =
    (refl, ap (λ (ns : List (BareNode LeafProof)). record c { tree = ns }) (append-nil front))
tree_written p c [] (a ∷ boxes) front g whole are h = absurd h
tree_written p c (n ∷ nodes) [] front g whole are h = absurd h
tree_written p c (Split j v s ∷ nodes) (a ∷ boxes) front g whole are h =
    let low = low_half a j v in
    let high = high_half a j v in
    let rest = tree_parts (length c.cuts) boxes ++ parts.End ∷ [] in
    let can = h.0.0 in
    let more = front ++ Split j v s ∷ [] in
    let boxed : AllByRecursion IsBox (low ∷ high ∷ boxes) =
    (low_half-box a j v can are.0, (high_half-box a j v can are.0, are.1)) in
    let others = tree_written p c nodes (low ∷ high ∷ boxes) more g whole boxed h.1 in
    subst (λ (ns : List (BareNode LeafProof)). Reads p (parts.Tree a (length c.cuts) ∷ rest)
    (record c { tree = front }) (map node_line (Split j v s ∷ nodes)) (parts.End ∷ []) (record c { tree = ns }))
    (append_assoc front (Split j v s ∷ []) nodes)
    (reads_first p (parts.Tree a (length c.cuts)) rest (parts.End ∷ []) (record c { tree = front })
    (record c { tree = more }) (record c { tree = more ++ nodes }) (lines.Split (pos j) v) (map node_line nodes)
    (right_split p (record c { tree = front }) a (length c.cuts) j v are.0 can) refl others)
tree_written p c (Leaf (Bounded w uses cited) ∷ nodes) (a ∷ boxes) front g whole are h =
    let x = Leaf (Bounded w uses cited) in
    let rest = tree_parts (length c.cuts) boxes ++ parts.End ∷ [] in
    let more = front ++ x ∷ [] in
    let others = tree_written p c nodes boxes more g whole are.1 h.1 in
    subst (λ (ns : List (BareNode LeafProof)). Reads p (parts.Tree a (length c.cuts) ∷ rest)
    (record c { tree = front }) (map node_line (x ∷ nodes)) (parts.End ∷ []) (record c { tree = ns }))
    (append_assoc front (x ∷ []) nodes)
    (reads_first p (parts.Tree a (length c.cuts)) rest (parts.End ∷ []) (record c { tree = front })
    (record c { tree = more }) (record c { tree = more ++ nodes }) (node_line x) (map node_line nodes)
    (right_close p c a w uses cited g whole h.0 front)
    (ap (λ (y : LeafProof). add_node (Leaf y) (record c { tree = front }))
    (leaf_read p c a w uses cited g whole h.0 front)) others)
tree_written p c (Leaf NoAnswer ∷ nodes) (a ∷ boxes) front g whole are h =
    let x : BareNode LeafProof = Leaf NoAnswer in
    let rest = tree_parts (length c.cuts) boxes ++ parts.End ∷ [] in
    let more = front ++ x ∷ [] in
    let others = tree_written p c nodes boxes more g whole are.1 h.1 in
    subst (λ (ns : List (BareNode LeafProof)). Reads p (parts.Tree a (length c.cuts) ∷ rest)
    (record c { tree = front }) (map node_line (x ∷ nodes)) (parts.End ∷ []) (record c { tree = ns }))
    (append_assoc front (x ∷ []) nodes)
    (reads_first p (parts.Tree a (length c.cuts)) rest (parts.End ∷ []) (record c { tree = front })
    (record c { tree = more }) (record c { tree = more ++ nodes }) lines.NoAnswer (map node_line nodes)
    (right_none p (record c { tree = front }) a (length c.cuts) (record { fixes = h.0.fixes; none = h.0.none })) refl
    others)
