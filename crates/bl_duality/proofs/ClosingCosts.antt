-- A cost row that closes the box: its multipliers prove the cutoff.
use Rattle.std.proofs.Common.{◌≡◌, ◌≢◌, ℕ, ◌+◌, ◌*◌, ◌<◌, ◌≤◌, ℤ, pos, neg_ℤ, ◌+ℤ◌, ◌-ℤ◌, ◌*ℤ◌, ◌≤ℤ◌, ◌<ℤ◌, List, []}
use Rattle.std.proofs.Common.{◌∷◌, length, inl, refl, sym, ap, ◌∙◌, subst, arith}
use Rattle.std.specs.Prelude.{Some, None, unwrap_or, option_map}
use Rattle.std.proofs.Math.IntN.{*ℤ_comm, zero-*ℤ, pos-*ℤ-pos}
use Rattle.std.proofs.lemmas.Int.{ints}
use Rattle.bl_limits.specs.declared.TheConstants.{MAX_PROOF_NUMBER}
use Rattle.bl_whole.specs.Sums.{component, dot}
use Rattle.bl_whole.specs.Identities.{variable, minus, times}
use Rattle.bl_whole.proofs.IdentityLemmas.{identity}
use Rattle.bl_whole.proofs.Products.{*ℤ_assoc, *ℤ--ℤ, mul_positive, lt_of_mul_lt, neg_ℤ-*ℤ, *ℤ-neg_ℤ}
use Rattle.bl_terms.specs.Points.{InArea}
use Rattle.bl_terms.specs.Bounds.{Problem, IsProblem, Multipliers, dual_bound, Proves}
use Rattle.bl_simplex.specs.Fractions.{Fraction, whole_fraction, negated}
use Rattle.bl_simplex.specs.Dictionaries.{Dictionary, columns, cost_row, opening}
use Rattle.bl_simplex.specs.Pivots.{replay}
use Rattle.bl_simplex.specs.Closing.{ClosesByCost, PassLimit, labelled, entry_labelled, cost_multiplier}
use Rattle.bl_simplex.specs.Licences.{AreSteps}
use Rattle.bl_tableau.proofs.Scaling.{over, over_is, over_negated, over_unique}
use Rattle.bl_tableau.proofs.PivotLaw.{ArePositive}
use Rattle.bl_duality.specs.Laws.{AreMadeWhole, ClosingCostProves}
use Rattle.bl_duality.proofs.Labels.{ArePermuted}
use Rattle.bl_duality.proofs.Regroup.{each_found, coefficient_of_none, read_found, at_label, at_label_same}
use Rattle.bl_duality.proofs.Regroup.{at_label_other}
use Rattle.bl_duality.proofs.PointValues.{point_value, distance_least, room_least}
use Rattle.bl_duality.proofs.Signs.{IsMultiple, one_nonpositive, over_nonpositive}
use Rattle.bl_duality.proofs.CostSigns.{IsDualFeasible, reached}
use Rattle.bl_duality.proofs.DualBounds.{corner, corner_inside, slack_sum, bound_at_corner}
use Rattle.bl_duality.proofs.RowsByLabel.{row_coefficient, part, box_part, row_by_label}
use Rattle.bl_duality.proofs.RowsByLabel.{sum_nonpositive, parts_replaced}
use Rattle.bl_duality.proofs.WholeMultipliers.{rest_of, common_of, total_of, AreSound}
use Rattle.bl_duality.proofs.WholeMultipliers.{multiplier_over, multipliers_from, row_at, slack_part_is, whole_over}
use Rattle.bl_duality.proofs.WholeMultipliers.{not_above, total_multiple, multiplier_multiple}

-- ---- the multipliers of the cost row

turned_least : (z : ℤ) → z ≤ℤ pos 0 → pos 0 ≤ℤ neg_ℤ z
turned_least z h = omega (arith, ints)

cost_sound : (q : Problem) (d : Dictionary) (mult : List ℤ) → ArePositive q d → IsDualFeasible q d
    → ¬ PassLimit q (cost_multiplier q d) → AreMadeWhole q (cost_multiplier q d) mult
    → AreSound q (cost_multiplier q d) mult
cost_sound q d mult all feasible within whole = record {
  positive = λ k h. each_found (λ f. 0 < f.den) (columns q) (d.place (cost_row q)) d.column_label (columns q + k)
      (whole_fraction (pos 0)) (λ j b. all.each (cost_row q) j (omega arith) (omega arith)) (omega arith);
  least = λ k h. turned_least (entry_labelled q d (cost_row q) (columns q + k) (whole_fraction (pos 0))).num
      (each_found (λ f. f.num ≤ℤ pos 0) (columns q) (d.place (cost_row q)) d.column_label (columns q + k)
      (whole_fraction (pos 0)) feasible.each (omega (arith, ints)));
  within = within;
  whole = whole;
}

negated_whole : (z : ℤ) → neg_ℤ (neg_ℤ z) ≡ z
negated_whole z = omega (arith, ints)

-- the coefficient of a slack in the cost row is its multiplier, negated
slack_coefficient : (q : Problem) (d : Dictionary) (m k : ℕ) → IsMultiple m (cost_multiplier q d k)
    → k < length q.rows → d.row_label (cost_row q) ≡ columns q + cost_row q
    → row_coefficient q d (cost_row q) m (columns q + k) ≡ neg_ℤ (over m (cost_multiplier q d k))
slack_coefficient q d m k some h last =
    let l = columns q + k in
    let n = columns q in
    let o = labelled n d.column_label l in
    let e = entry_labelled q d (cost_row q) l (whole_fraction (pos 0)) in
    let none : at_label (d.row_label (cost_row q)) (pos m) l ≡ over m (whole_fraction (pos 0)) =
    ap (λ i. at_label i (pos m) l) last ∙ at_label_other (n + cost_row q) (pos m) l (λ x. omega arith)
    ∙ sym (whole_over m (pos 0) ∙ zero-*ℤ (pos m)) in
    let read : row_coefficient q d (cost_row q) m l ≡ over m e =
    ap (unwrap_or (option_map (λ j. over m (d.place (cost_row q) j)) o)) none
    ∙ sym (read_found (over m) (d.place (cost_row q)) o (whole_fraction (pos 0))) in
    let turned : over m (negated e) ≡ neg_ℤ (over m e) =
    over_unique m (negated e) _ _ some.positive (over_is m (negated e) some.divides)
    (over_negated m e (over m e) (over_is m e some.divides)) in
    read ∙ sym (negated_whole (over m e)) ∙ ap neg_ℤ (sym turned)

-- ---- the coefficients of the others

coefficient_most : (q : Problem) (d : Dictionary) (m l : ℕ) → IsDualFeasible q d
    → ((k : ℕ) → k ≤ columns q → IsMultiple m (d.place (cost_row q) k))
    → d.row_label (cost_row q) ≡ columns q + cost_row q → columns q + cost_row q ≢ l
    → row_coefficient q d (cost_row q) m l ≤ℤ pos 0
coefficient_most q d m l feasible multiples last ne =
    each_found (λ x. x ≤ℤ pos 0) (columns q) (λ j. over m (d.place (cost_row q) j)) d.column_label l _
    (λ j h. over_nonpositive m (d.place (cost_row q) j) (multiples j (omega arith)) (feasible.each j h))
    (subst (λ x. x ≤ℤ pos 0)
    (sym (ap (λ i. at_label i (pos m) l) last ∙ at_label_other (columns q + cost_row q) (pos m) l ne))
    (omega (arith, ints)))

product_most : (a b : ℤ) → a ≤ℤ pos 0 → pos 0 ≤ℤ b → (a *ℤ b) ≤ℤ pos 0
product_most a b ha hb =
    let p = one_nonpositive {a = b} {b = a} hb ha in
    let e = *ℤ_comm a b in
    omega (arith, ints)

box_most : (q : Problem) (d : Dictionary) (z : List ℤ) (m : ℕ) → IsDualFeasible q d
    → ((k : ℕ) → k ≤ columns q → IsMultiple m (d.place (cost_row q) k))
    → d.row_label (cost_row q) ≡ columns q + cost_row q → InArea q.area z
    → box_part q d z (cost_row q) m ≤ℤ pos 0
box_most q d z m feasible multiples last inside =
    let n = columns q in
    let i = cost_row q in
    let a = sum_nonpositive n (part q d z i m)
    (λ j h. product_most (row_coefficient q d i m j) (point_value q z j)
    (coefficient_most q d m j feasible multiples last (λ e. omega arith)) (distance_least q z j inside h)) in
    let b = sum_nonpositive n (λ j. part q d z i m (n + (length q.rows + j)))
    (λ j h. product_most (row_coefficient q d i m (n + (length q.rows + j)))
    (point_value q z (n + (length q.rows + j)))
    (coefficient_most q d m (n + (length q.rows + j)) feasible multiples last (λ e. omega arith))
    (room_least q z j inside h)) in
    omega (arith, ints)

-- the cost's own variable
own_cost : (q : Problem) (d : Dictionary) (m : ℕ) → ArePermuted q d
    → d.row_label (cost_row q) ≡ columns q + cost_row q
    → row_coefficient q d (cost_row q) m (columns q + cost_row q) ≡ pos m
own_cost q d m labels last =
    let l = columns q + cost_row q in
    coefficient_of_none (columns q) (λ j. over m (d.place (cost_row q) j)) d.column_label
    (at_label (d.row_label (cost_row q)) (pos m)) l
    (λ j hj e. labels.sides_apart (cost_row q) j (omega arith) hj (last ∙ sym e))
    ∙ ap (λ i. at_label i (pos m) l) last ∙ at_label_same l (pos m)

-- ---- the bound

spread_out : (n y b m : ℤ) → (n -ℤ y *ℤ b) *ℤ m ≡ n *ℤ m -ℤ b *ℤ (m *ℤ y)
spread_out n y b m =
    let v0 = variable 0 in
    let v1 = variable 1 in
    let v2 = variable 2 in
    let v3 = variable 3 in
    identity (n ∷ y ∷ b ∷ m ∷ []) (times (minus v0 (times v1 v2)) v3)
    (minus (times v0 v3) (times v2 (times v3 v1))) refl

-- a fraction above a whole number, over m
above_over : (m : ℕ) (f : Fraction) (y : ℤ) → IsMultiple m f → (y *ℤ pos f.den) <ℤ f.num → (pos m *ℤ y) <ℤ over m f
above_over m f y some h =
    let e = (over_is m f some.divides).scaled in
    let den : pos 0 <ℤ pos f.den = let p = some.positive in omega (arith, ints) in
    let top : pos 0 <ℤ pos m = let p = some.some in omega (arith, ints) in
    let gap = mul_positive {a = f.num -ℤ y *ℤ pos f.den} {b = pos m} (omega (arith, ints)) top in
    let spread : (f.num -ℤ y *ℤ pos f.den) *ℤ pos m ≡ f.num *ℤ pos m -ℤ pos f.den *ℤ (pos m *ℤ y) =
    spread_out f.num y (pos f.den) (pos m) in
    let turned = *ℤ_comm (over m f) (pos f.den) in
    lt_of_mul_lt {a = pos m *ℤ y} {b = over m f} (pos f.den) (omega (arith, ints)) (omega (arith, ints))

-- what the cost row says at the corner, in whole numbers: b is its right side, x the box's part, s times c the
-- multiple, t the weighted slacks, v the cost, y the cutoff less 1
bound_above : (b x s c t v y : ℤ) → ((s *ℤ c) *ℤ y) <ℤ b → x ≤ℤ pos 0 → pos 0 ≤ℤ s
    → b ≡ (x +ℤ neg_ℤ s *ℤ t) +ℤ (s *ℤ c) *ℤ v → (c *ℤ y) <ℤ (c *ℤ v -ℤ t)
bound_above b x s c t v y more most some e =
    let a = *ℤ_assoc s c y in
    let f = *ℤ_assoc s c v in
    let g = neg_ℤ-*ℤ s t in
    let h = *ℤ--ℤ s (c *ℤ v) t in
    lt_of_mul_lt {a = c *ℤ y} {b = c *ℤ v -ℤ t} s some (omega (arith, ints))

total_product : (c k : ℕ) → pos (c * k) ≡ pos k *ℤ pos c
total_product c k = sym (*ℤ_comm (pos k) (pos c) ∙ pos-*ℤ-pos c k)

cost_bound : (q : Problem) (u : ℤ) (pivots : List (ℕ × ℕ)) (mult : List ℤ) → IsProblem q
    → AreSteps q (Some u) (opening q) pivots → ClosesByCost q (Some u) (replay (opening q) pivots)
    → AreSound q (cost_multiplier q (replay (opening q) pivots)) mult
    → (pos (common_of q (cost_multiplier q (replay (opening q) pivots))) *ℤ (u -ℤ pos 1))
    <ℤ dual_bound q (record {
      den = pos (common_of q (cost_multiplier q (replay (opening q) pivots)));
      mult = mult;
    })
cost_bound q u pivots mult shape steps closes sound =
    let d = replay (opening q) pivots in
    let i = cost_row q in
    let f = cost_multiplier q d in
    let c = common_of q f in
    let w : Multipliers = record { den = pos c; mult = mult } in
    let z = corner q w in
    let m = total_of q d i f in
    let rest = rest_of q d i in
    let held = reached q (Some u) pivots steps in
    let row = row_at q (Some u) pivots z i f shape steps (omega arith) in
    let multiples : (k : ℕ) → k ≤ columns q → IsMultiple m (d.place i k) =
    λ k h. total_multiple q d i f mult k held.positive (omega arith) sound h in
    let says = row_by_label q d z i m row in
    let each : (k : ℕ) → k < length q.rows → row_coefficient q d i m (columns q + k)
    ≡ component mult k *ℤ neg_ℤ (pos rest) =
    λ k h. slack_coefficient q d m k (multiplier_multiple q d i f mult k held.positive (omega arith) sound h) h
    held.label
    ∙ ap neg_ℤ (multiplier_over q d i f mult k sound h) ∙ sym (*ℤ-neg_ℤ (component mult k) (pos rest)) in
    let slacks = slack_part_is q d z i m w (neg_ℤ (pos rest)) each in
    let cost : row_coefficient q d i m (columns q + cost_row q) ≡ pos rest *ℤ pos c =
    own_cost q d m row.labels held.label ∙ total_product c rest in
    let equation : over m (d.place i (columns q))
    ≡ (box_part q d z i m +ℤ neg_ℤ (pos rest) *ℤ slack_sum q w z) +ℤ (pos rest *ℤ pos c) *ℤ dot q.cost z =
    parts_replaced (box_part q d z i m) (dot q.cost z) says slacks cost in
    let value = above_over m (d.place i (columns q)) (u -ℤ pos 1) (multiples (columns q) (omega arith)) closes in
    let above : ((pos rest *ℤ pos c) *ℤ (u -ℤ pos 1)) <ℤ over m (d.place i (columns q)) =
    subst (λ x. (x *ℤ (u -ℤ pos 1)) <ℤ over m (d.place i (columns q))) (total_product c rest) value in
    let past = bound_above (over m (d.place i (columns q))) (box_part q d z i m) (pos rest) (pos c)
    (slack_sum q w z) (dot q.cost z) (u -ℤ pos 1) above
    (box_most q d z m held.feasible multiples held.label (corner_inside q w shape)) (omega (arith, ints)) equation in
    subst (λ x. (pos c *ℤ (u -ℤ pos 1)) <ℤ x) (sym (bound_at_corner q w shape)) past

some_cutoff : (u : ℤ) (P : Type 0) → Some u ≡ None → P
some_cutoff u P e = cc

cost_proof : (q : Problem) (u : ℤ) (pivots : List (ℕ × ℕ)) (mult : List ℤ) → IsProblem q
    → AreSteps q (Some u) (opening q) pivots → ClosesByCost q (Some u) (replay (opening q) pivots)
    → AreSound q (cost_multiplier q (replay (opening q) pivots)) mult
    → Proves q (Some u) (record {
      den = pos (common_of q (cost_multiplier q (replay (opening q) pivots)));
      mult = mult;
    })
cost_proof q u pivots mult shape steps closes sound =
    let f = cost_multiplier q (replay (opening q) pivots) in
    record {
      rows = sound.whole.size;
      multipliers = multipliers_from q f (pos (common_of q f)) mult sound (omega (arith, ints))
          (not_above MAX_PROOF_NUMBER (pos (common_of q f)) (λ more. sound.within (inl more)));
      free = some_cutoff u _;
      beyond = cost_bound q u pivots mult shape steps closes sound;
    }

pub closing_cost_proves : ClosingCostProves
closing_cost_proves q None pivots mult shape steps closes within whole = absurd closes
closing_cost_proves q (Some u) pivots mult shape steps closes within whole =
    let held = reached q (Some u) pivots steps in
    cost_proof q u pivots mult shape steps closes
    (cost_sound q (replay (opening q) pivots) mult held.positive held.feasible within whole)
