-- The steps that are taken over are no-good cuts, and so is the new cut's own step.
use Rattle.std.proofs.Common.{◌≡◌, ℕ, zero, suc, ◌+◌, ◌-◌, ◌<◌, refl, sym, ◌∙◌, ap, subst, arith, Bool, true, false}
use Rattle.std.proofs.Common.{cond, List, [], ◌∷◌, ◌++◌, length, map, Option, Some, None, ◌⊎◌, inl, inr, ◌&&◌}
use Rattle.std.specs.Prelude.{All, slice_index_or, nat_eq, nat_lt, IsTrue}
use Rattle.std.specs.Bool.{Decides}
use Rattle.std.proofs.lemmas.Bool.{cases_lt, true≢false}
use Rattle.std.proofs.lemmas.Bool.Decides.{Decides-and, Decides-or, Decides-eqb, Decides-ltb}
use Rattle.bl_terms.proofs.TestLemmas.{Decides-self}
use Rattle.bl_cut.proofs.CutLemmas.{last_at}
use Rattle.std.proofs.lemmas.List.{length-map, get_or-map, get_or_append_left, get_or_default, append-nil, append_assoc}
use Rattle.std.proofs.lemmas.List.{length_push}
use Rattle.std.proofs.Math.Seq.{get_or-append_seam}
use Rattle.bl_terms.specs.Points.{Area, IsArea, IsWithinArea}
use Rattle.bl_terms.specs.Programs.{Program, root}
use Rattle.bl_cut_terms.specs.declared.parts.Tight.{Tight}
use Rattle.bl_cut_terms.specs.declared.parts.Tight.TheVariants.{Row, Upper, Lower, Cut}
use Rattle.bl_cut_terms.specs.declared.parts.CutParts.{CutParts}
use Rattle.bl_cut_terms.specs.NoGoods.{LocalRow, no_local_row, local_row_at, local_row, kind_of, place_of, IsThere}
use Rattle.bl_cut_terms.specs.NoGoods.{IsBefore, AreInOrder, IsNoGood, CutStep, IsCutStep, AreCutSteps, NoGoodCut}
use Rattle.bl_cut_terms.specs.NoGoods.{no_step, step_at, last_step, cut_of}
use Rattle.bl_cut.specs.Cuts.{cut_at}
use Rattle.bl_cut_terms.specs.Adopting.{is_before, are_in_order, moved_parts, moved_step, same_step, place_in}
use Rattle.bl_cut_terms.specs.Adopting.{with_step}
use Rattle.bl_cut_terms.specs.Adopting.{Adopted, with_adopted, adopt, is_cut, is_used, last_place, noted, adopt_cut}
use Rattle.bl_cut_terms.specs.Adopting.{adopt_cuts, own_step, with_own, steps_of}
use Rattle.bl_cut_proof.specs.Proving.{local_rows}
use Rattle.bl_cut_proof.proofs.MoveLemmas.{IsPlaced, moved_row, moved_no_good}
use Rattle.bl_cut_proof.proofs.SameLemmas.{Decides-step}

abbrev value_or : {X : Type 0} → X → Option X → X
value_or d None = d
value_or d (Some x) = x

pub some_same : {X : Type 0} (x y : X) → Some x ≡ Some y → x ≡ y
some_same x y e = ap (value_or x) e

-- ---- the order of items

pub Decides-before : (x y : Tight) → Decides (is_before x y) (IsBefore x y)
Decides-before x y =
    Decides-or (nat_lt (kind_of x) (kind_of y)) (nat_eq (kind_of x) (kind_of y) && nat_lt (place_of x) (place_of y))
    (Decides-ltb (kind_of x) (kind_of y))
    (Decides-and (nat_eq (kind_of x) (kind_of y)) (nat_lt (place_of x) (place_of y))
    (Decides-eqb (kind_of x) (kind_of y)) (Decides-ltb (place_of x) (place_of y)))

pub Decides-order : (tight : List Tight) → Decides (are_in_order tight) (AreInOrder tight)
Decides-order [] = (λ h. tt, λ h. refl)
Decides-order (x ∷ []) = (λ h. tt, λ h. refl)
Decides-order (x ∷ y ∷ tight) =
    Decides-and (is_before x y) (are_in_order (y ∷ tight)) (Decides-before x y) (Decides-order (y ∷ tight))

-- ---- a step's place in a list

-- a step that is found stands at its place
found_step : (steps : List CutStep) (s : CutStep) → place_in steps s < length steps
    → step_at steps (place_in steps s) ≡ s
found_step [] s b = absurd (omega arith)
found_step (t ∷ steps) s b = by (same_step t s) refl (found_step steps s) b
  where
    by : (r : Bool) → same_step t s ≡ r
        → (place_in steps s < length steps → step_at steps (place_in steps s) ≡ s)
        → cond r 0 (suc (place_in steps s)) < suc (length steps)
        → step_at (t ∷ steps) (cond r 0 (suc (place_in steps s))) ≡ s
    by true e rec b = (Decides-step t s).0 e
    by false e rec b = rec (omega arith)

place_most : (steps : List CutStep) (s : CutStep) → (place_in steps s < length steps)
    ⊎ (place_in steps s ≡ length steps)
place_most [] s = inr refl
place_most (t ∷ steps) s = by (same_step t s) (place_most steps s)
  where
    by : (r : Bool) → (place_in steps s < length steps) ⊎ (place_in steps s ≡ length steps)
        → (cond r 0 (suc (place_in steps s)) < suc (length steps))
        ⊎ (cond r 0 (suc (place_in steps s)) ≡ suc (length steps))
    by true rec = inl (omega arith)
    by false (inl b) = inl (omega arith)
    by false (inr e) = inr (ap suc e)

-- the list goes on as it was
pub record Extends (old new : List CutStep) : Type 0 where
  pub same : (k : ℕ) → k < length old → (k < length new) × (step_at new k ≡ step_at old k)

extends_itself : (steps : List CutStep) → Extends steps steps
extends_itself steps = record { same = λ k b. (b, refl) }

extends_more : (a b c : List CutStep) → Extends a b → Extends b c → Extends a c
extends_more a b c f g = record {
  same = λ k l. let x = f.same k l in let y = g.same k x.0 in (y.0, y.1 ∙ x.1);
}

extends_push : (steps : List CutStep) (s : CutStep) → Extends steps (steps ++ s ∷ [])
extends_push steps s = record {
  same = λ k b. (let l = length_push steps s in omega arith, get_or_append_left steps (s ∷ []) no_step k b);
}

-- the step stands in the list that has it
pub record IsStepOf (old : List CutStep) (s : CutStep) (new : List CutStep) (k : ℕ) : Type 0 where
  pub below : k < length new
  pub at : step_at new k ≡ s
  pub extends : Extends old new

pub with_step-at : (steps : List CutStep) (s : CutStep) → IsStepOf steps s (with_step steps s) (place_in steps s)
with_step-at steps s = by (nat_lt (place_in steps s) (length steps)) refl (place_most steps s)
  where
    by : (r : Bool) → nat_lt (place_in steps s) (length steps) ≡ r
        → (place_in steps s < length steps) ⊎ (place_in steps s ≡ length steps)
        → IsStepOf steps s (cond r steps (steps ++ s ∷ [])) (place_in steps s)
    by true e most =
        let b : place_in steps s < length steps = (Decides-ltb (place_in steps s) (length steps)).0 e in
        record { below = b; at = found_step steps s b; extends = extends_itself steps }
    by false e (inl b) =
        absurd (true≢false (sym ((Decides-ltb (place_in steps s) (length steps)).1 b) ∙ e))
    by false e (inr end) =
        record {
          below = let l = length_push steps s in omega arith;
          at = ap (step_at (steps ++ s ∷ [])) end ∙ get_or-append_seam steps s [] no_step;
          extends = extends_push steps s;
        }

-- ---- lists of steps that are cuts

steps_push : (p : Program) (earlier : List LocalRow) (steps : List CutStep) (s : CutStep)
    → AreCutSteps p earlier steps → IsCutStep p (earlier ++ map local_row steps) s
    → AreCutSteps p earlier (steps ++ s ∷ [])
steps_push p earlier [] s shown step = (subst (λ (e : List LocalRow). IsCutStep p e s) (append-nil earlier) step, tt)
steps_push p earlier (t ∷ steps) s shown step = (
  shown.0,
  steps_push p (earlier ++ local_row t ∷ []) steps s shown.1
      (subst (λ (e : List LocalRow). IsCutStep p e s)
      (sym (append_assoc earlier (local_row t ∷ []) (map local_row steps))) step),
)

pub push_step : (p : Program) (steps : List CutStep) (s : CutStep) → AreCutSteps p [] steps
    → IsCutStep p (map local_row steps) s → AreCutSteps p [] (steps ++ s ∷ [])
push_step p steps s shown step = steps_push p [] steps s shown step

with_step-shown : (p : Program) (steps : List CutStep) (s : CutStep) → AreCutSteps p [] steps
    → IsCutStep p (map local_row steps) s → AreCutSteps p [] (with_step steps s)
with_step-shown p steps s shown step = by (nat_lt (place_in steps s) (length steps))
  where
    by : (r : Bool) → AreCutSteps p [] (cond r steps (steps ++ s ∷ []))
    by true = shown
    by false = push_step p steps s shown step

-- the local row of the step at a place
row_of_step : (steps : List CutStep) (k : ℕ) → k < length steps
    → local_row_at (map local_row steps) k ≡ local_row (step_at steps k)
row_of_step steps k b = get_or-map local_row steps k no_step no_local_row b

-- ---- steps that are taken over from one cut

-- the steps are cuts, and each of the old rows has its place among them
pub record IsAdopted (p : Program) (old : List LocalRow) (a : Adopted) : Type 0 where
  pub steps : AreCutSteps p [] a.steps
  pub count : length a.places ≡ length old
  pub placed : (k : ℕ) → k < length old → (slice_index_or a.places k 0 < length a.steps)
      × (local_row (step_at a.steps (slice_index_or a.places k 0)) ≡ local_row_at old k)

-- an item whose cut is there has its place
placed_item : (p : Program) (area : Area) (old : List LocalRow) (a : Adopted) → IsAdopted p old a → (x : Tight)
    → IsThere p area old x → IsPlaced a.places old (map local_row a.steps) x
placed_item p area old a g (Row i) there = tt
placed_item p area old a g (Upper j) there = tt
placed_item p area old a g (Lower j) there = tt
placed_item p area old a g (Cut k) there =
    let h = g.placed k there.0 in
    let l = length-map a.steps local_row in
    (omega (arith, h.0), row_of_step a.steps (slice_index_or a.places k 0) h.0 ∙ h.1)

-- a step with the new places of its cuts is one behind the steps that were taken over
moved_shown : (p : Program) (old : List LocalRow) (a : Adopted) (s : CutStep) → IsAdopted p old a → IsCutStep p old s
    → AreInOrder (moved_step a.places s).parts.tight → IsCutStep p (map local_row a.steps) (moved_step a.places s)
moved_shown p old a s g step order =
    let new = map local_row a.steps in
    let placed : All (IsPlaced a.places old new) s.parts.tight =
    λ i d b. placed_item p s.area old a g (slice_index_or s.parts.tight i d) (step.shown.size.there i d b) in
    record {
      area = step.area;
      within = step.within;
      row = step.row ∙ sym (moved_row p s.area a.places old new s.parts placed);
      shown = moved_no_good p s.area a.places old new s.parts placed order step.shown;
    }

-- one more place
at_new_place : (places : List ℕ) (x : ℕ) (n : ℕ) → length places ≡ n → slice_index_or (places ++ x ∷ []) n 0 ≡ x
at_new_place places x n e = ap (λ k. slice_index_or (places ++ x ∷ []) k 0) (sym e) ∙ get_or-append_seam places x [] 0

adopted_more : (p : Program) (old : List LocalRow) (a : Adopted) (s t : CutStep) → IsAdopted p old a
    → IsCutStep p (map local_row a.steps) t → local_row t ≡ local_row s
    → IsAdopted p (old ++ local_row s ∷ []) (with_adopted a t)
adopted_more p old a s t g step same =
    let w = with_step-at a.steps t in
    let l = length_push a.places (place_in a.steps t) in
    let m = length_push old (local_row s) in
    let n = g.count in
    record {
      steps = with_step-shown p a.steps t g.steps step;
      count = omega arith;
      placed = λ k b. elim (cases_lt k (length old)) [
        | inl c ↦
            let before : slice_index_or (a.places ++ place_in a.steps t ∷ []) k 0 ≡ slice_index_or a.places k 0 =
            get_or_append_left a.places (place_in a.steps t ∷ []) 0 k (omega arith) in
            let h = g.placed k c in
            let x = w.extends.same (slice_index_or a.places k 0) h.0 in
            subst (λ (i : ℕ). (i < length (with_step a.steps t))
            × (local_row (step_at (with_step a.steps t) i) ≡ local_row_at (old ++ local_row s ∷ []) k)) (sym before)
            (x.0, ap local_row x.1 ∙ h.1 ∙ sym (get_or_append_left old (local_row s ∷ []) no_local_row k c))
        | inr c ↦
            let e : k ≡ length old = omega arith in
            let last = at_new_place a.places (place_in a.steps t) k (n ∙ sym e) in
            let row : local_row_at (old ++ local_row s ∷ []) k ≡ local_row s =
            ap (local_row_at (old ++ local_row s ∷ [])) e ∙ get_or-append_seam old (local_row s) [] no_local_row in
            subst (λ (i : ℕ). (i < length (with_step a.steps t))
            × (local_row (step_at (with_step a.steps t) i) ≡ local_row_at (old ++ local_row s ∷ []) k)) (sym last)
            (w.below, ap local_row w.at ∙ same ∙ sym row)
      ];
    }

-- all further steps of a cut
abbrev IsTakenOver : Program → List LocalRow → Adopted → Adopted → Type 0
IsTakenOver p rows a b = IsAdopted p rows b × Extends a.steps b.steps

pub adopt_shown : (p : Program) (steps : List CutStep) (old : List LocalRow) (a b : Adopted) → AreCutSteps p old steps
    → IsAdopted p old a → adopt a steps ≡ Some b → IsTakenOver p (old ++ map local_row steps) a b
adopt_shown p [] old a b shown g e =
    subst (IsTakenOver p (old ++ []) a) (some_same a b e)
    (subst (λ (rows : List LocalRow). IsAdopted p rows a) (sym (append-nil old)) g, extends_itself a.steps)
adopt_shown p (s ∷ steps) old a b shown g e =
    by (are_in_order (moved_step a.places s).parts.tight) refl
    (λ h. adopt_shown p steps (old ++ local_row s ∷ []) (with_adopted a (moved_step a.places s)) b shown.1 h) e
  where
    by : (r : Bool) → are_in_order (moved_step a.places s).parts.tight ≡ r
        → (IsAdopted p (old ++ local_row s ∷ []) (with_adopted a (moved_step a.places s))
        → adopt (with_adopted a (moved_step a.places s)) steps ≡ Some b
        → IsTakenOver p ((old ++ local_row s ∷ []) ++ map local_row steps) (with_adopted a (moved_step a.places s)) b)
        → cond r (adopt (with_adopted a (moved_step a.places s)) steps) None ≡ Some b
        → IsTakenOver p (old ++ local_row s ∷ map local_row steps) a b
    by true o rec f =
        let order = (Decides-order (moved_step a.places s).parts.tight).0 o in
        let step = moved_shown p old a s g shown.0 order in
        let next = adopted_more p old a s (moved_step a.places s) g step refl in
        let rest = rec next f in
        let w = with_step-at a.steps (moved_step a.places s) in (
          subst (λ (rows : List LocalRow). IsAdopted p rows b)
              (append_assoc old (local_row s ∷ []) (map local_row steps)) rest.0,
          extends_more a.steps (with_step a.steps (moved_step a.places s)) b.steps w.extends rest.1,
        )
    by false o rec f = absurd cc

-- ---- steps that are taken over from all cuts that are used

-- the steps are cuts, and each row of a cut that is used has its place among them
pub record IsNoted (p : Program) (tight : List Tight) (rows : List LocalRow) (a : Adopted) : Type 0 where
  pub steps : AreCutSteps p [] a.steps
  pub count : length a.places ≡ length rows
  pub placed : (k : ℕ) → k < length rows → IsTrue (is_used k tight) → (slice_index_or a.places k 0 < length a.steps)
      × (local_row (step_at a.steps (slice_index_or a.places k 0)) ≡ local_row_at rows k)

pub last_place-at : (places : List ℕ) → 0 < length places → last_place places
    ≡ slice_index_or places (length places - 1) 0
last_place-at [] b = absurd (omega arith)
last_place-at (k ∷ []) b = refl
last_place-at (k ∷ j ∷ places) b =
    let rest = last_place-at (j ∷ places) (omega arith) in
    let e : suc (length (j ∷ places)) - 1 ≡ suc (length (j ∷ places) - 1) = omega arith in
    rw e rest

-- the steps of one more cut, and the place of its last
noted_shown : (p : Program) (tight : List Tight) (rows : List LocalRow) (c : NoGoodCut) (a b : Adopted)
    → AreCutSteps p [] c.steps → 0 < length c.steps → IsNoted p tight rows a
    → adopt (record { steps = a.steps; places = [] }) c.steps ≡ Some b
    → IsNoted p tight (rows ++ cut_of c ∷ []) (record {
      steps = b.steps;
      places =
          a.places ++ last_place b.places ∷ [];
    })
noted_shown p tight rows c a b shown some g e =
    let start : Adopted = record { steps = a.steps; places = [] } in
    let over = adopt_shown p c.steps [] start b shown
    (record { steps = g.steps; count = refl; placed = λ k l. absurd (omega arith) }) e in
    let count = over.0.count in
    let l = length-map c.steps local_row in
    let last = last_place-at b.places (omega arith) in
    let end : length b.places - 1 < length (map local_row c.steps) = omega arith in
    let h = over.0.placed (length b.places - 1) end in
    let final : local_row_at (map local_row c.steps) (length b.places - 1) ≡ cut_of c =
    row_of_step c.steps (length b.places - 1) (omega arith)
    ∙ ap (λ k. local_row (step_at c.steps k)) (let x : length b.places - 1 ≡ length c.steps - 1 = omega arith in x)
    ∙ ap local_row (sym (last_at c.steps some)) in
    let m = length_push a.places (last_place b.places) in
    let n = length_push rows (cut_of c) in
    let o = g.count in
    record {
      steps = over.0.steps;
      count = omega arith;
      placed = λ k t used. elim (cases_lt k (length rows)) [
        | inl u ↦
            let before : slice_index_or (a.places ++ last_place b.places ∷ []) k 0 ≡ slice_index_or a.places k 0 =
            get_or_append_left a.places (last_place b.places ∷ []) 0 k (omega arith) in
            let x = g.placed k u used in
            let y = over.1.same (slice_index_or a.places k 0) x.0 in
            subst (λ (i : ℕ). (i < length b.steps)
            × (local_row (step_at b.steps i) ≡ local_row_at (rows ++ cut_of c ∷ []) k)) (sym before)
            (y.0, ap local_row y.1 ∙ x.1 ∙ sym (get_or_append_left rows (cut_of c ∷ []) no_local_row k u))
        | inr u ↦
            let f : k ≡ length rows = omega arith in
            let place = at_new_place a.places (last_place b.places) k (o ∙ sym f) in
            let row : local_row_at (rows ++ cut_of c ∷ []) k ≡ cut_of c =
            ap (local_row_at (rows ++ cut_of c ∷ [])) f ∙ get_or-append_seam rows (cut_of c) [] no_local_row in
            subst (λ (i : ℕ). (i < length b.steps)
            × (local_row (step_at b.steps i) ≡ local_row_at (rows ++ cut_of c ∷ []) k)) (sym (place ∙ last))
            (h.0, h.1 ∙ final ∙ sym row)
      ];
    }

-- a cut that isn't used gets any place
skipped_shown : (p : Program) (tight : List Tight) (rows : List LocalRow) (c : NoGoodCut) (a : Adopted)
    → is_used (length rows) tight ≡ false → IsNoted p tight rows a
    → IsNoted p tight (rows ++ cut_of c ∷ []) (record { steps = a.steps; places = a.places ++ 0 ∷ [] })
skipped_shown p tight rows c a unused g =
    let m = length_push a.places 0 in
    let n = length_push rows (cut_of c) in
    let o = g.count in
    record {
      steps = g.steps;
      count = omega arith;
      placed = λ k t used. elim (cases_lt k (length rows)) [
        | inl u ↦
            let before : slice_index_or (a.places ++ 0 ∷ []) k 0 ≡ slice_index_or a.places k 0 =
            get_or_append_left a.places (0 ∷ []) 0 k (omega arith) in
            let x = g.placed k u used in
            subst (λ (i : ℕ). (i < length a.steps)
            × (local_row (step_at a.steps i) ≡ local_row_at (rows ++ cut_of c ∷ []) k)) (sym before)
            (x.0, x.1 ∙ sym (get_or_append_left rows (cut_of c ∷ []) no_local_row k u))
        | inr u ↦
            let f : k ≡ length rows = omega arith in
            absurd (true≢false (sym (subst (λ (i : ℕ). IsTrue (is_used i tight)) f used) ∙ unused))
      ];
    }

-- a used cut is one of the program
abbrev pub UsedAreShown : Program → List Tight → ℕ → List NoGoodCut → Type 0
UsedAreShown p tight k cuts =
    (j : ℕ) → j < length cuts → IsTrue (is_used (k + j) tight)
    → AreCutSteps p [] (cut_at cuts j).steps × (0 < length (cut_at cuts j).steps)

used_tail : (p : Program) (tight : List Tight) (k : ℕ) (c : NoGoodCut) (cuts : List NoGoodCut)
    → UsedAreShown p tight k (c ∷ cuts) → UsedAreShown p tight (suc k) cuts
used_tail p tight k c cuts h j b used =
    let e : suc k + j ≡ k + suc j = omega arith in
    h (suc j) (omega arith) (subst (λ (i : ℕ). IsTrue (is_used i tight)) e used)

adopt_none : (tight : List Tight) (k : ℕ) (cuts : List NoGoodCut) (b : Adopted)
    → adopt_cuts tight k cuts None ≡ Some b → ⊥
adopt_none tight k cuts b e = cc

pub adopt_cuts_shown : (p : Program) (tight : List Tight) (cuts : List NoGoodCut) (k : ℕ) (rows : List LocalRow)
    (a b : Adopted) → k ≡ length rows → UsedAreShown p tight k cuts → IsNoted p tight rows a
    → adopt_cuts tight k cuts (Some a) ≡ Some b → IsNoted p tight (rows ++ map cut_of cuts) b
adopt_cuts_shown p tight [] k rows a b at used g e =
    subst (IsNoted p tight (rows ++ [])) (some_same a b e)
    (subst (λ (rs : List LocalRow). IsNoted p tight rs a) (sym (append-nil rows)) g)
adopt_cuts_shown p tight (c ∷ cuts) k rows a b at used g e =
    subst (λ (rs : List LocalRow). IsNoted p tight rs b) (append_assoc rows (cut_of c ∷ []) (map cut_of cuts))
    (by (is_used k tight) refl
    (λ next n f. adopt_cuts_shown p tight cuts (suc k) (rows ++ cut_of c ∷ []) next b
    (let l = length_push rows (cut_of c) in omega arith) (used_tail p tight k c cuts used) n f) e)
  where
    after : (o : Option Adopted) → adopt (record { steps = a.steps; places = [] }) c.steps ≡ o
        → AreCutSteps p [] c.steps × (0 < length c.steps)
        → ((next : Adopted) → IsNoted p tight (rows ++ cut_of c ∷ []) next
        → adopt_cuts tight (suc k) cuts (Some next) ≡ Some b
        → IsNoted p tight ((rows ++ cut_of c ∷ []) ++ map cut_of cuts) b)
        → adopt_cuts tight (suc k) cuts (noted a.places o) ≡ Some b
        → IsNoted p tight ((rows ++ cut_of c ∷ []) ++ map cut_of cuts) b
    after None o shown rec f = absurd (adopt_none tight (suc k) cuts b f)
    after (Some x) o shown rec f =
        rec (record { steps = x.steps; places = a.places ++ last_place x.places ∷ [] })
        (noted_shown p tight rows c a x shown.0 shown.1 g o) f

    by : (r : Bool) → is_used k tight ≡ r
        → ((next : Adopted) → IsNoted p tight (rows ++ cut_of c ∷ []) next
        → adopt_cuts tight (suc k) cuts (Some next) ≡ Some b
        → IsNoted p tight ((rows ++ cut_of c ∷ []) ++ map cut_of cuts) b)
        → adopt_cuts tight (suc k) cuts
        (cond r (adopt_cut a c) (Some (record { steps = a.steps; places = a.places ++ 0 ∷ [] }))) ≡ Some b
        → IsNoted p tight ((rows ++ cut_of c ∷ []) ++ map cut_of cuts) b
    by true u rec f =
        let here : k + 0 ≡ k = omega arith in
        after (adopt (record { steps = a.steps; places = [] }) c.steps) refl
        (used 0 (omega arith) (subst (λ (i : ℕ). IsTrue (is_used i tight)) (sym here) u)) rec f
    by false u rec f =
        rec (record { steps = a.steps; places = a.places ++ 0 ∷ [] })
        (skipped_shown p tight rows c a (subst (λ (i : ℕ). is_used i tight ≡ false) at u) g) f

-- ---- the cut's own step

pub used_here : (tight : List Tight) (i k : ℕ) → i < length tight → slice_index_or tight i (Row 0) ≡ Cut k
    → IsTrue (is_used k tight)
used_here [] i k b e = absurd (omega arith)
used_here (x ∷ tight) zero k b e =
    let itself : is_cut k (Cut k) ≡ true = (Decides-eqb k k).1 refl in
    (Decides-or (is_cut k x) (is_used k tight) (Decides-self (is_cut k x)) (Decides-self (is_used k tight))).1
    (inl (ap (is_cut k) e ∙ itself))
used_here (x ∷ tight) (suc i) k b e =
    (Decides-or (is_cut k x) (is_used k tight) (Decides-self (is_cut k x)) (Decides-self (is_used k tight))).1
    (inr (used_here tight i k (omega arith) e))

noted_item : (p : Program) (area : Area) (tight : List Tight) (rows : List LocalRow) (a : Adopted)
    → IsNoted p tight rows a → (x : Tight) → ((k : ℕ) → x ≡ Cut k → IsTrue (is_used k tight))
    → IsThere p area rows x → IsPlaced a.places rows (map local_row a.steps) x
noted_item p area tight rows a g (Row i) used there = tt
noted_item p area tight rows a g (Upper j) used there = tt
noted_item p area tight rows a g (Lower j) used there = tt
noted_item p area tight rows a g (Cut k) used there =
    let h = g.placed k there.0 (used k refl) in
    let l = length-map a.steps local_row in
    (omega (arith, h.0), row_of_step a.steps (slice_index_or a.places k 0) h.0 ∙ h.1)

own_shown : (p : Program) (a : Area) (earlier : List NoGoodCut) (parts : CutParts) (b : Adopted) → IsArea a
    → IsWithinArea a (root p) → IsNoGood p a (local_rows earlier) parts → IsNoted p parts.tight (local_rows earlier) b
    → AreInOrder (moved_parts b.places parts).tight
    → IsCutStep p (map local_row b.steps) (own_step p a earlier parts b.places)
own_shown p a earlier parts b area within shown g order =
    let old = local_rows earlier in
    let new = map local_row b.steps in
    let placed : All (IsPlaced b.places old new) parts.tight =
    λ i d l. noted_item p a parts.tight old b g (slice_index_or parts.tight i d)
    (λ k e. used_here parts.tight i k l (get_or_default parts.tight i (Row 0) d l ∙ e)) (shown.size.there i d l) in
    record {
      area = area;
      within = within;
      row = sym (moved_row p a b.places old new parts placed);
      shown = moved_no_good p a b.places old new parts placed order shown;
    }

last_push : (steps : List CutStep) (s : CutStep) → last_step (steps ++ s ∷ []) ≡ s
last_push [] s = refl
last_push (t ∷ []) s = refl
last_push (t ∷ u ∷ steps) s = last_push (u ∷ steps) s

-- the steps of a new cut are cuts, and the last one is its own
pub record AreStepsOf (p : Program) (a : Area) (earlier : List NoGoodCut) (parts : CutParts) (steps : List CutStep)
    : Type 0 where
  pub shown : AreCutSteps p [] steps
  pub some : 0 < length steps
  pub places : List ℕ
  pub last : last_step steps ≡ own_step p a earlier parts places

pub steps_shown : (p : Program) (a : Area) (earlier : List NoGoodCut) (parts : CutParts) (steps : List CutStep)
    → IsArea a → IsWithinArea a (root p) → UsedAreShown p parts.tight 0 earlier
    → IsNoGood p a (local_rows earlier) parts → steps_of p a earlier parts ≡ Some steps
    → AreStepsOf p a earlier parts steps
steps_shown p a earlier parts steps area within used shown e =
    by (adopt_cuts parts.tight 0 earlier (Some (record { steps = []; places = [] }))) refl e
  where
    own : (b : Adopted) → IsNoted p parts.tight (local_rows earlier) b → (r : Bool)
        → are_in_order (moved_parts b.places parts).tight ≡ r
        → cond r (Some (b.steps ++ own_step p a earlier parts b.places ∷ [])) None ≡ Some steps
        → AreStepsOf p a earlier parts steps
    own b g true o f =
        let order = (Decides-order (moved_parts b.places parts).tight).0 o in
        let step = own_shown p a earlier parts b area within shown g order in
        let s = own_step p a earlier parts b.places in
        subst (AreStepsOf p a earlier parts) (some_same (b.steps ++ s ∷ []) steps f) (record {
          shown = push_step p b.steps s g.steps step;
          some = let l = length_push b.steps s in omega arith;
          places = b.places;
          last = last_push b.steps s;
        })
    own b g false o f = absurd cc

    by : (o : Option Adopted)
        → adopt_cuts parts.tight 0 earlier (Some (record { steps = []; places = [] })) ≡ o
        → with_own p a earlier parts o ≡ Some steps → AreStepsOf p a earlier parts steps
    by None o f = absurd cc
    by (Some b) o f =
        own b
        (adopt_cuts_shown p parts.tight earlier 0 [] (record { steps = []; places = [] }) b refl used
        (record { steps = tt; count = refl; placed = λ k l. absurd (omega arith) }) o)
        (are_in_order (moved_parts b.places parts).tight) refl f
