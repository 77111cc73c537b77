-- What a proved cut's last step is, and that its row is valid.
use Rattle.std.proofs.Common.{◌≡◌, ℕ, suc, ◌+◌, ◌-◌, ◌<◌, ◌≤◌, refl, sym, ◌∙◌}
use Rattle.std.proofs.Common.{subst, ap, arith, List, [], ◌∷◌, ◌++◌, length, take}
use Rattle.std.proofs.Common.{Bool, true, false, cond, drop, length-drop}
use Rattle.std.specs.Prelude.{ℤ, All, map, slice_index_or, nat_lt}
use Rattle.std.specs.Arc.{arc_value}
use Rattle.std.specs.declared.sync.Arc.{Arc}
use Rattle.std.specs.Int.{w128}
use Rattle.std.proofs.lemmas.Int.{ints}
use Rattle.std.proofs.lemmas.List.{length-map, get_or-map, get_or_default, take_more, map_push, length_push}
use Rattle.std.proofs.lemmas.List.Elements.{All-push, All-drop}
use Rattle.std.proofs.lemmas.Bool.Decides.{Decides-ltb}
use Rattle.std.proofs.lemmas.List.FromFn.{length-map-range_with_len}
use Rattle.bl_whole.specs.Sums.{component, sum_below}
use Rattle.bl_whole.specs.Within.{AreWithin, IsWithin, PartialDotsFit}
use Rattle.bl_whole.proofs.WithinLemmas.{within_from_bounds, within_low, within_high, dots_fit}
use Rattle.bl_limits.specs.declared.TheConstants.{MAX_NUMBER, MAX_PROBLEM_COEFFICIENT, MAX_PROBLEM_RHS, MAX_CUTS}
use Rattle.bl_terms.specs.Programs.{Program, columns, InBox}
use Rattle.bl_terms.specs.Bounds.{linear_at}
use Rattle.bl_model.specs.View.{IsModel}
use Rattle.bl_cut_terms.specs.ValidRows.{IsValidRow}
use Rattle.bl_cut_terms.specs.NoGoods.{LocalRow, local_row, CutStep, IsCutStep}
use Rattle.bl_cut_terms.specs.NoGoods.{AreCutSteps, NoGoodCut, no_step, step_at}
use Rattle.bl_cut_terms.specs.NoGoods.{last_step, cut_of, tight_rows}
use Rattle.bl_cut_terms.proofs.NoGoodLemmas.{no_goods_law}
use Rattle.bl_cut.specs.Cuts.{IsProvedCut, IsValidCut, AreProvedCuts, AreCutsOf, AreOfOne, with_cut, cut_at, no_cut}

-- the last step is the one at the last place
pub last_at : (steps : List CutStep) → 0 < length steps → last_step steps ≡ step_at steps (length steps - 1)
last_at [] some = absurd (omega arith)
last_at (s ∷ []) some = refl
last_at (s ∷ t ∷ steps) some =
    let rest = last_at (t ∷ steps) (omega arith) in
    let e : suc (length (t ∷ steps)) - 1 ≡ suc (length (t ∷ steps) - 1) = omega arith in
    rw e rest

-- one more handle of a list of shared values
pub shared_more : {X Z : Type 0} (xs ys new : List (Arc X Z)) (i : ℕ) (x y : Arc X Z) → i < length ys
    → map arc_value xs ≡ take i (map arc_value ys) → x ≡ slice_index_or ys i x → arc_value y ≡ arc_value x
    → new ≡ xs ++ y ∷ [] → map arc_value new ≡ take (i + 1) (map arc_value ys)
shared_more xs ys new i x y b before at same pushed =
    let l : length (map arc_value ys) ≡ length ys = length-map ys arc_value in
    let entry : slice_index_or (map arc_value ys) i (arc_value x) ≡ arc_value (slice_index_or ys i x) =
    get_or-map arc_value ys i x (arc_value x) b in
    let value : arc_value y ≡ slice_index_or (map arc_value ys) i (arc_value x) = same ∙ ap arc_value at ∙ sym entry in
    ap (map arc_value) pushed ∙ map_push arc_value xs y ∙ ap (λ v. v ++ arc_value y ∷ []) before
    ∙ ap (λ v. take i (map arc_value ys) ++ v ∷ []) value
    ∙ sym (take_more (map arc_value ys) i (arc_value x) (omega (arith, l)))

-- so is the last of shared steps
pub last_shared : {Z : Type 0} (items : List (Arc CutStep Z)) (n : ℕ) (x : Arc CutStep Z) → 0 < length items
    → n ≡ length items → x ≡ slice_index_or items (n - 1) x → arc_value x ≡ last_step (map arc_value items)
last_shared items n x some e at =
    let l : length (map arc_value items) ≡ length items = length-map items arc_value in
    let last = last_at (map arc_value items) (omega (arith, l)) in
    let place : length (map arc_value items) - 1 ≡ n - 1 = omega (arith, l) in
    let entry : step_at (map arc_value items) (n - 1) ≡ arc_value (slice_index_or items (n - 1) x) =
    get_or-map arc_value items (n - 1) x no_step (omega arith) in
    ap arc_value at ∙ sym entry ∙ ap (step_at (map arc_value items)) (sym place) ∙ sym last

-- the last step is a cut with some earlier ones
pub last_shown : (p : Program) (earlier : List LocalRow) (steps : List CutStep) → 0 < length steps
    → AreCutSteps p earlier steps → (before : List LocalRow) × IsCutStep p before (last_step steps)
last_shown p earlier [] some shown = absurd (omega arith)
last_shown p earlier (s ∷ []) some shown = (earlier, shown.0)
last_shown p earlier (s ∷ t ∷ steps) some shown =
    last_shown p (earlier ++ local_row s ∷ []) (t ∷ steps) (omega arith) shown.1

pub valid : (c : NoGoodCut) → IsProvedCut c → IsValidCut c
valid c proved =
    let all = no_goods_law c.program c.steps proved.model.sound proved.steps in
    let some = proved.some in
    let at : IsValidRow c.program (step_at c.steps (length c.steps - 1)).area (step_at c.steps
    (length c.steps - 1)).row =
    all (length c.steps - 1) no_step (omega arith) in
    subst (λ (s : CutStep). IsValidRow c.program s.area s.row) (sym (last_at c.steps some)) at

-- the row of a cut has a coefficient for each column, and these are within their limit
pub row_columns : (c : NoGoodCut) → IsProvedCut c → length (cut_of c).row.coef ≡ columns c.program
row_columns c proved =
    let last = last_shown c.program [] c.steps proved.some proved.steps in
    let rows = tight_rows c.program (last_step c.steps).area last.0 (last_step c.steps).parts.tight in
    rw last.1.row
    (length-map-range_with_len (λ j. sum_below (length rows) (λ i. component (linear_at rows i).coef j)) 0
    (columns c.program))

pub row_within : (c : NoGoodCut) → IsProvedCut c → AreWithin MAX_PROBLEM_COEFFICIENT (cut_of c).row.coef
row_within c proved =
    let last = last_shown c.program [] c.steps proved.some proved.steps in
    rw last.1.row last.1.shown.size.coef

pub rhs_within : (c : NoGoodCut) → IsProvedCut c → IsWithin MAX_PROBLEM_RHS (cut_of c).row.rhs
rhs_within c proved =
    let last = last_shown c.program [] c.steps proved.some proved.steps in
    rw last.1.row last.1.shown.size.rhs

-- a point of a model's box has small numbers
pub point_within : (p : Program) (z : List ℤ) → IsModel p → InBox p z → AreWithin MAX_NUMBER z
point_within p z model inside = record {
  each = λ k b.
      let e = inside.columns in
      let low = within_low (model.limits.lower_bounds k) in
      let high = within_high (model.limits.upper_bounds k) in
      let l = inside.least k (omega arith) in
      let h = inside.most k (omega arith) in
      within_from_bounds MAX_NUMBER (component z k) (omega (arith, ints)) (omega (arith, ints));
}

-- the row's left side at a point fits 128 bits
pub row_places : (c : NoGoodCut) (z : List ℤ) → IsProvedCut c → InBox c.program z
    → length z ≡ length (cut_of c).row.coef
row_places c z proved inside = inside.columns ∙ sym (row_columns c proved)

pub row_fits : (c : NoGoodCut) (z : List ℤ) → IsProvedCut c → InBox c.program z
    → PartialDotsFit w128 (cut_of c).row.coef z
row_fits c z proved inside =
    let n = row_columns c proved in
    let few = proved.model.limits.few_columns in
    dots_fit w128 (row_within c proved) (point_within c.program z proved.model inside) (omega arith)

-- a list of proved cuts stays one with a further one
pub with_cut-proved : (cuts : List NoGoodCut) (c : NoGoodCut) → AreProvedCuts cuts → IsProvedCut c
    → AreProvedCuts (with_cut cuts c)
with_cut-proved cuts c all proved = by (nat_lt (length cuts) MAX_CUTS) refl
  where
    by : (t : Bool) → nat_lt (length cuts) MAX_CUTS ≡ t → AreProvedCuts (cond t cuts (drop 1 cuts) ++ c ∷ [])
    by true e = record {
      few = let l = length_push cuts c in let b = (Decides-ltb (length cuts) MAX_CUTS).0 e in omega arith;
      proved = All-push IsProvedCut cuts c all.proved proved;
    }
    by false e = record {
      few = let l = length_push (drop 1 cuts) c in let d = length-drop 1 cuts in let b = all.few in
          omega arith;
      proved = All-push IsProvedCut (drop 1 cuts) c (All-drop IsProvedCut 1 cuts all.proved) proved;
    }

-- what holds at each place holds of each cut
pub all_by_places : (P : NoGoodCut → Type 0) (cuts : List NoGoodCut) (n : ℕ) → length cuts ≤ n
    → ((k : ℕ) → k < n → P (cut_at cuts k)) → All P cuts
all_by_places P cuts n e each =
    λ k d b. subst P (get_or_default cuts k no_cut d b) (each k (omega arith))

-- cuts of one program stay such with a further one of it
pub with_cut-of : (cuts : List NoGoodCut) (c : NoGoodCut) → AreCutsOf c.program cuts → AreCutsOf c.program (with_cut cuts c)
with_cut-of cuts c all = by (nat_lt (length cuts) MAX_CUTS)
  where
    by : (t : Bool) → AreCutsOf c.program (cond t cuts (drop 1 cuts) ++ c ∷ [])
    by true = All-push (λ d. d.program ≡ c.program) cuts c all refl
    by false =
        All-push (λ d. d.program ≡ c.program) (drop 1 cuts) c (All-drop (λ d. d.program ≡ c.program) 1 cuts all) refl

-- cuts of a program are all of the first one's
pub one_of-all : (p : Program) (cuts : List NoGoodCut) → AreCutsOf p cuts → AreOfOne cuts
one_of-all p cuts all = λ k d b. all k d b ∙ sym (all 0 no_cut (omega (arith)))

-- and where the first one is of a program, all are
pub all_of-one : (p : Program) (cuts : List NoGoodCut) → AreOfOne cuts → (cut_at cuts 0).program ≡ p → AreCutsOf p cuts
all_of-one p cuts one first = λ k d b. one k d b ∙ first

-- a list with a further cut of the program of all others
pub one_with : (cuts : List NoGoodCut) (c : NoGoodCut) (p : Program) → p ≡ c.program → AreCutsOf p cuts
    → AreOfOne (with_cut cuts c)
one_with cuts c p e all =
    one_of-all c.program (with_cut cuts c) (with_cut-of cuts c (subst (λ q. AreCutsOf q cuts) e all))
