-- A row that closes the box: its multipliers prove that no point of the box meets the rows.
use Rattle.std.proofs.Common.{◌≡◌, ℕ, ◌+◌, ◌<◌, ◌≤◌, Bool, true, false, cond, ℤ, pos, ◌+ℤ◌, ◌-ℤ◌, ◌*ℤ◌, ◌≤ℤ◌}
use Rattle.std.proofs.Common.{◌<ℤ◌, List, length, refl, sym, ap, ◌∙◌, subst, arith}
use Rattle.std.specs.Prelude.{Option, Some, None, unwrap_or, option_map, ◌==◌}
use Rattle.std.proofs.Math.IntN.{zero-*ℤ}
use Rattle.std.proofs.lemmas.Int.{ints, by_lt_z}
use Rattle.bl_whole.specs.Sums.{dot}
use Rattle.bl_whole.proofs.Products.{one-*ℤ, mul_nonneg}
use Rattle.bl_terms.specs.Points.{InArea}
use Rattle.bl_terms.specs.Bounds.{Problem, IsProblem, Multipliers, dual_bound, target_of}
use Rattle.bl_simplex.specs.Fractions.{whole_fraction}
use Rattle.bl_simplex.specs.Dictionaries.{Dictionary, columns, cost_row, opening}
use Rattle.bl_simplex.specs.Pivots.{replay}
use Rattle.bl_simplex.specs.Closing.{ClosesByRow, PassLimit, labelled, row_multiplier}
use Rattle.bl_simplex.specs.Licences.{AreSteps}
use Rattle.bl_tableau.proofs.Scaling.{over}
use Rattle.bl_tableau.proofs.PivotLaw.{ArePositive}
use Rattle.bl_duality.specs.Laws.{AreMadeWhole, ClosingRowProves}
use Rattle.bl_duality.proofs.Labels.{ArePermuted}
use Rattle.bl_duality.proofs.Regroup.{each_found, coefficient_of_none, read_found, at_label, at_label_other}
use Rattle.bl_duality.proofs.PointValues.{distance_least, room_least}
use Rattle.bl_duality.proofs.Signs.{IsMultiple, over_nonnegative, over_negative}
use Rattle.bl_duality.proofs.CostSigns.{reached}
use Rattle.bl_duality.proofs.DualBounds.{corner, corner_inside, slack_sum, bound_at_corner}
use Rattle.bl_duality.proofs.RowsByLabel.{row_coefficient, part, box_part, row_by_label}
use Rattle.bl_duality.proofs.RowsByLabel.{sum_nonnegative, parts_replaced}
use Rattle.bl_duality.proofs.WholeMultipliers.{rest_of, total_of, AreSound}
use Rattle.bl_duality.proofs.WholeMultipliers.{multiplier_over, multipliers_from, row_at, slack_part_is, whole_over}
use Rattle.bl_duality.proofs.WholeMultipliers.{total_multiple}

-- ---- the multipliers of the row

flag_num : (t : Bool) → pos 0 ≤ℤ (cond t (whole_fraction (pos 1)) (whole_fraction (pos 0))).num
flag_num true = omega (arith, ints)
flag_num false = omega (arith, ints)

flag_den : (t : Bool) → 0 < (cond t (whole_fraction (pos 1)) (whole_fraction (pos 0))).den
flag_den true = omega arith
flag_den false = omega arith

row_sound : (q : Problem) (d : Dictionary) (r : ℕ) (mult : List ℤ) → ArePositive q d → ClosesByRow q d r
    → ¬ PassLimit q (row_multiplier q d r) → AreMadeWhole q (row_multiplier q d r) mult
    → AreSound q (row_multiplier q d r) mult
row_sound q d r mult all closes within whole = record {
  positive = λ k h. each_found (λ f. 0 < f.den) (columns q) (d.place r) d.column_label (columns q + k) _
      (λ j b. all.each r j (omega (arith, closes.row_in)) (omega arith)) (flag_den (d.row_label r == columns q + k));
  least = λ k h. each_found (λ f. pos 0 ≤ℤ f.num) (columns q) (d.place r) d.column_label (columns q + k) _
      closes.entries (flag_num (d.row_label r == columns q + k));
  within = within;
  whole = whole;
}

flag_over : (m : ℕ) (t : Bool) → over m (cond t (whole_fraction (pos 1)) (whole_fraction (pos 0)))
    ≡ cond t (pos m) (pos 0)
flag_over m true = whole_over m (pos 1) ∙ one-*ℤ (pos m)
flag_over m false = whole_over m (pos 0) ∙ zero-*ℤ (pos m)

-- the coefficient of a slack in the row is its multiplier
slack_coefficient : (q : Problem) (d : Dictionary) (r m k : ℕ)
    → row_coefficient q d r m (columns q + k) ≡ over m (row_multiplier q d r k)
slack_coefficient q d r m k =
    let l = columns q + k in
    let o = labelled (columns q) d.column_label l in
    sym (read_found (over m) (d.place r) o (cond (d.row_label r == l) (whole_fraction (pos 1)) (whole_fraction (pos 0)))
    ∙ ap (unwrap_or (option_map (λ j. over m (d.place r j)) o)) (flag_over m (d.row_label r == l)))

-- ---- the coefficients of the others

-- m is a multiple of the denominators of the closing row
entry_least : (q : Problem) (d : Dictionary) (r m j : ℕ) → ClosesByRow q d r
    → ((k : ℕ) → k ≤ columns q → IsMultiple m (d.place r k)) → j < columns q → pos 0 ≤ℤ over m (d.place r j)
entry_least q d r m j closes multiples h =
    over_nonnegative m (d.place r j) (multiples j (omega arith)) (closes.entries j h)

own_least : (k m l : ℕ) → pos 0 ≤ℤ at_label k (pos m) l
own_least k m l = by (k == l)
  where
    by : (t : Bool) → pos 0 ≤ℤ cond t (pos m) (pos 0)
    by true = omega (arith, ints)
    by false = omega (arith, ints)

coefficient_least : (q : Problem) (d : Dictionary) (r m l : ℕ) → ClosesByRow q d r
    → ((k : ℕ) → k ≤ columns q → IsMultiple m (d.place r k)) → pos 0 ≤ℤ row_coefficient q d r m l
coefficient_least q d r m l closes multiples =
    each_found (λ x. pos 0 ≤ℤ x) (columns q) (λ j. over m (d.place r j)) d.column_label l _
    (λ j h. entry_least q d r m j closes multiples h) (own_least (d.row_label r) m l)

box_least : (q : Problem) (d : Dictionary) (z : List ℤ) (r m : ℕ) → ClosesByRow q d r
    → ((k : ℕ) → k ≤ columns q → IsMultiple m (d.place r k)) → InArea q.area z → pos 0 ≤ℤ box_part q d z r m
box_least q d z r m closes multiples inside =
    let n = columns q in
    let a = sum_nonnegative n (part q d z r m)
    (λ j h. mul_nonneg (coefficient_least q d r m j closes multiples) (distance_least q z j inside h)) in
    let b = sum_nonnegative n (λ j. part q d z r m (n + (length q.rows + j)))
    (λ j h. mul_nonneg (coefficient_least q d r m (n + (length q.rows + j)) closes multiples)
    (room_least q z j inside h)) in
    omega (arith, ints)

-- the cost's variable labels its own row, and so has no part in another
no_cost : (q : Problem) (d : Dictionary) (r m : ℕ) → r < cost_row q → ArePermuted q d
    → d.row_label (cost_row q) ≡ columns q + cost_row q
    → row_coefficient q d r m (columns q + cost_row q) ≡ pos 0
no_cost q d r m h labels last =
    let l = columns q + cost_row q in
    coefficient_of_none (columns q) (λ j. over m (d.place r j)) d.column_label (at_label (d.row_label r) (pos m)) l
    (λ j hj e. labels.sides_apart (cost_row q) j (omega arith) hj (last ∙ sym e))
    ∙ at_label_other (d.row_label r) (pos m) l
    (λ e. let same : r ≡ cost_row q = labels.rows_apart r (cost_row q) (omega arith) (omega arith) (e ∙ sym last) in
    omega arith)

-- ---- the bound

target_zero : (u : Option ℤ) (mult : List ℤ) → target_of u (record { den = pos 0; mult = mult }) ≡ pos 0
target_zero None mult = refl
target_zero (Some u) mult = zero-*ℤ (u -ℤ pos 1)

-- what the row says at the corner, in whole numbers: b is its right side, x the box's part, s the multiple, t the
-- weighted slacks
bound_above : (b x s t c : ℤ) → b <ℤ pos 0 → pos 0 ≤ℤ x → pos 0 ≤ℤ s → b ≡ (x +ℤ s *ℤ t) +ℤ pos 0 *ℤ c → t <ℤ pos 0
bound_above b x s t c below least some e =
    let z = zero-*ℤ c in
    by_lt_z t (pos 0) (λ less. less) (λ more. let p = mul_nonneg {a = s} {b = t} some more in omega (arith, ints))

row_bound : (q : Problem) (u : Option ℤ) (pivots : List (ℕ × ℕ)) (r : ℕ) (mult : List ℤ) → IsProblem q
    → AreSteps q u (opening q) pivots → ClosesByRow q (replay (opening q) pivots) r
    → AreSound q (row_multiplier q (replay (opening q) pivots) r) mult
    → pos 0 <ℤ dual_bound q (record { den = pos 0; mult = mult })
row_bound q u pivots r mult shape steps closes sound =
    let d = replay (opening q) pivots in
    let f = row_multiplier q d r in
    let w : Multipliers = record { den = pos 0; mult = mult } in
    let z = corner q w in
    let m = total_of q d r f in
    let rest = rest_of q d r in
    let held = reached q u pivots steps in
    let row_in : r ≤ cost_row q = omega (arith, closes.row_in) in
    let row = row_at q u pivots z r f shape steps row_in in
    let multiples : (k : ℕ) → k ≤ columns q → IsMultiple m (d.place r k) =
    λ k h. total_multiple q d r f mult k held.positive row_in sound h in
    let says = row_by_label q d z r m row in
    let slacks = slack_part_is q d z r m w (pos rest)
    (λ k h. slack_coefficient q d r m k ∙ multiplier_over q d r f mult k sound h) in
    let cost = no_cost q d r m closes.row_in row.labels held.label in
    let equation : over m (d.place r (columns q))
    ≡ (box_part q d z r m +ℤ pos rest *ℤ slack_sum q w z) +ℤ pos 0 *ℤ dot q.cost z =
    parts_replaced (box_part q d z r m) (dot q.cost z) says slacks cost in
    let below = bound_above (over m (d.place r (columns q))) (box_part q d z r m) (pos rest) (slack_sum q w z)
    (dot q.cost z)
    (over_negative m (d.place r (columns q)) (multiples (columns q) (omega arith)) closes.infeasible)
    (box_least q d z r m closes multiples (corner_inside q w shape)) (omega (arith, ints)) equation in
    let bound = bound_at_corner q w shape in
    let none = zero-*ℤ (dot q.cost z) in
    omega (arith, ints)

pub closing_row_proves : ClosingRowProves
closing_row_proves q u pivots r mult shape steps closes within whole =
    let d = replay (opening q) pivots in
    let sound = row_sound q d r mult (reached q u pivots steps).positive closes within whole in
    record {
      rows = whole.size;
      multipliers = multipliers_from q (row_multiplier q d r) (pos 0) mult sound (omega (arith, ints))
          (omega (arith, ints));
      free = λ none. refl;
      beyond = subst (λ x. x <ℤ dual_bound q (record { den = pos 0; mult = mult })) (sym (target_zero u mult))
          (row_bound q u pivots r mult shape steps closes sound);
    }
