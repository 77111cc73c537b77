-- What the tests of a new cut show together.
use Rattle.std.proofs.Common.{◌≡◌, ℕ, ◌+◌, ◌<◌, ◌^◌, refl, sym}
use Rattle.std.proofs.Common.{◌∙◌, ap, subst, arith, List, []}
use Rattle.std.proofs.Common.{rules, ◌∷◌, length, Option, Some, inl, inr}
use Rattle.std.specs.Prelude.{All, IsTrue, IsSome}
use Rattle.std.proofs.lemmas.List.{get_or_default}
use Rattle.std.proofs.lemmas.List.Elements.{All-head, All-tail}
use Rattle.std.proofs.lemmas.Bool.Decides.{Decides-or, Decides-eqb}
use Rattle.bl_limits.specs.declared.TheConstants.{MAX_PROBLEM_COEFFICIENT, MAX_PROBLEM_RHS}
use Rattle.bl_whole.specs.Within.{IsWithin, AreWithin}
use Rattle.bl_terms.specs.Points.{Area, Linear, IsWithinArea}
use Rattle.bl_terms.specs.Programs.{Program, columns, root}
use Rattle.bl_terms.proofs.TestLemmas.{Decides-self}
use Rattle.bl_model.specs.View.{IsModel}
use Rattle.bl_model.specs.Boxes.{IsBox}
use Rattle.bl_cut_terms.specs.declared.parts.Tight.{Tight}
use Rattle.bl_cut_terms.specs.declared.parts.Tight.TheVariants.{Row, Upper, Lower, Cut}
use Rattle.bl_cut_terms.specs.declared.parts.CutParts.{CutParts}
use Rattle.bl_cut_terms.specs.NoGoods.{IsThere, HasSize, tight_rows, lowered_sum}
use Rattle.bl_cut_terms.specs.NoGoods.{cut_row, CutStep, AreCutSteps, NoGoodCut}
use Rattle.bl_cut_terms.specs.NoGoods.{last_step, Inverts, IsTightAt, IsUnit, IsNoGood}
use Rattle.bl_cut.specs.Cuts.{IsProvedCut, AreProvedCuts, cut_at, no_cut}
use Rattle.bl_cut_proof.specs.declared.fault.CutFault.{CutFault}
use Rattle.bl_cut_proof.specs.declared.fault.CutFault.TheVariants.{Size, Inverse, Tight as TightFault, Response, Memory}
use Rattle.bl_cut_terms.specs.Adopting.{is_cut, is_used, steps_of}
use Rattle.bl_cut_proof.specs.Proving.{local_rows, IsOfProgram, AreParts, IsCutOf, IsOwnStep, IsFault, IsSmallRow}
use Rattle.bl_cut_proof.specs.Faults.{AreShown, IsRowsFault}
use Rattle.bl_cut_proof.specs.Rows.{AreRows, HasShape, IsSized}
use Rattle.bl_cut_proof.proofs.AdoptLemmas.{Decides-order, UsedAreShown, AreStepsOf, steps_shown}
use Rattle.bl_cut_proof.proofs.RowLemmas.{rows_fit}
use Rattle.bl_cut_proof.proofs.AloneLemmas.{new_cut_stands_alone}

-- ---- the size of parts

pub shape_there : (p : Program) (a : Area) (earlier : List NoGoodCut) (parts : CutParts) → HasShape p a earlier parts
    → All (IsThere p a (local_rows earlier)) parts.tight
shape_there p a earlier parts shape =
    λ k d b. subst (IsThere p a (local_rows earlier)) (get_or_default parts.tight k (Row 0) d b) (shape.items k b).there

pub shape_models : (p : Program) (a : Area) (earlier : List NoGoodCut) (parts : CutParts) → HasShape p a earlier parts
    → All (IsOfProgram p earlier) parts.tight
shape_models p a earlier parts shape =
    λ k d b. subst (IsOfProgram p earlier) (get_or_default parts.tight k (Row 0) d b) (shape.items k b).model

pub shape_from : (p : Program) (a : Area) (earlier : List NoGoodCut) (parts : CutParts)
    → HasSize p a (local_rows earlier) parts → All (IsOfProgram p earlier) parts.tight → HasShape p a earlier parts
shape_from p a earlier parts size models = record {
  items = λ k b. record { there = size.there k (Row 0) b; model = models k (Row 0) b };
  order = (Decides-order parts.tight).1 size.order;
  units_count = size.units_count;
  units = λ k b. size.units k [] b;
  den_least = size.den_least;
  den_most = size.den_most;
}

pub sized_fit : (p : Program) (a : Area) (earlier : List NoGoodCut) (parts : CutParts) (n : ℕ) (rs : List Linear)
    → IsModel p → IsBox a → AreProvedCuts earlier → IsWithinArea a (root p) → HasShape p a earlier parts
    → n ≡ columns p → rs ≡ tight_rows p a (local_rows earlier) parts.tight → AreRows n rs
sized_fit p a earlier parts n rs model box cuts within shape e f =
    subst (λ (k : ℕ). AreRows k rs) (sym e) (subst (AreRows (columns p)) (sym f)
    (rows_fit p a earlier parts.tight model box within.columns cuts (shape_there p a earlier parts shape)
    (shape_models p a earlier parts shape)))

pub sized : (p : Program) (a : Area) (earlier : List NoGoodCut) (parts : CutParts) (rows rs : List Linear)
    (row : Linear) (n : ℕ) → IsModel p → IsBox a → AreProvedCuts earlier → IsWithinArea a (root p)
    → HasShape p a earlier parts → n ≡ columns p → rs ≡ rows
    → rows ≡ tight_rows p a (local_rows earlier) parts.tight → length rows < 2 ^ 32
    → (row ≡ lowered_sum n rs) × AreWithin MAX_PROBLEM_COEFFICIENT (lowered_sum n rs).coef
    × IsWithin MAX_PROBLEM_RHS (lowered_sum n rs).rhs → IsSized p a earlier parts rows row
sized p a earlier parts rows rs row n model box cuts within shape e f g few h =
    let sum : lowered_sum n rs ≡ cut_row p a (local_rows earlier) parts.tight =
    ap (λ k. lowered_sum k rs) e ∙ ap (lowered_sum (columns p)) (f ∙ g) in
    record {
      model = model;
      box = box;
      cuts = cuts;
      size = record {
        there = shape_there p a earlier parts shape;
        order = (Decides-order parts.tight).0 shape.order;
        units_count = shape.units_count;
        units = λ k d b. subst (IsUnit (length parts.tight)) (get_or_default parts.units k [] d b) (shape.units k b);
        den_least = shape.den_least;
        den_most = shape.den_most;
        coef = subst (λ (r : Linear). AreWithin MAX_PROBLEM_COEFFICIENT r.coef) sum h.1;
        rhs = subst (λ (r : Linear). IsWithin MAX_PROBLEM_RHS r.rhs) sum h.2;
      };
      models = shape_models p a earlier parts shape;
      rows_are = g;
      row_is = h.0 ∙ sum;
      fit = subst (AreRows (columns p)) (sym g)
          (rows_fit p a earlier parts.tight model box within.columns cuts (shape_there p a earlier parts shape)
          (shape_models p a earlier parts shape));
      few = few;
    }

-- ---- the cut

-- a cut that is used is of the program
used_program : (p : Program) (earlier : List NoGoodCut) (tight : List Tight) (j : ℕ)
    → All (IsOfProgram p earlier) tight → IsTrue (is_used j tight) → (cut_at earlier j).program ≡ p
used_program p earlier [] j all used = absurd cc
used_program p earlier (x ∷ tight) j all used =
    elim ((Decides-or (is_cut j x) (is_used j tight) (Decides-self (is_cut j x)) (Decides-self
    (is_used j tight))).0 used) [
      | inl here ↦ by x here (All-head (IsOfProgram p earlier) x tight all)
      | inr there ↦ used_program p earlier tight j (All-tail (IsOfProgram p earlier) x tight all) there
    ]
  where
    by : (x : Tight) → IsTrue (is_cut j x) → IsOfProgram p earlier x → (cut_at earlier j).program ≡ p
    by (Row i) h of = absurd cc
    by (Upper i) h of = absurd cc
    by (Lower i) h of = absurd cc
    by (Cut i) h of = subst (λ (k : ℕ). (cut_at earlier k).program ≡ p) ((Decides-eqb i j).0 h) of

pub used_shown : (p : Program) (earlier : List NoGoodCut) (tight : List Tight) → AreProvedCuts earlier
    → All (IsOfProgram p earlier) tight → UsedAreShown p tight 0 earlier
used_shown p earlier tight cuts models j b used =
    let here : 0 + j ≡ j = omega arith in
    let c = cut_at earlier j in
    let proved = cuts.proved j no_cut b in
    let program : c.program ≡ p =
    used_program p earlier tight j models (subst (λ (k : ℕ). IsTrue (is_used k tight)) here used) in
    (subst (λ (q : Program). AreCutSteps q [] c.steps) program proved.steps, proved.some)

shown_parts : (p : Program) (a : Area) (earlier : List NoGoodCut) (parts : CutParts) (rows rs : List Linear)
    (row : Linear) → IsSized p a earlier parts rows row → rs ≡ rows → AreShown p rs parts
    → IsNoGood p a (local_rows earlier) parts
shown_parts p a earlier parts rows rs row s e shown =
    let same = e ∙ s.rows_are in
    record {
      size = s.size;
      inverse = subst (λ (r : List Linear). Inverts (columns p) r parts.den parts.units) same shown.inverse;
      tight = subst (λ (r : List Linear). IsTightAt p r parts.point) same shown.tight;
      response = shown.response;
    }

steps_are : (p : Program) (a : Area) (earlier : List NoGoodCut) (parts : CutParts) (rows rs : List Linear)
    (row : Linear) (steps : List CutStep) → IsWithinArea a (root p) → IsSized p a earlier parts rows row → rs ≡ rows
    → AreShown p rs parts → steps_of p a earlier parts ≡ Some steps → AreStepsOf p a earlier parts steps
steps_are p a earlier parts rows rs row steps within s e shown all =
    steps_shown p a earlier parts steps s.box.area within (used_shown p earlier parts.tight s.cuts s.models)
    (shown_parts p a earlier parts rows rs row s e shown) all

pub proved : (p : Program) (a : Area) (earlier : List NoGoodCut) (parts : CutParts) (rows rs : List Linear)
    (row : Linear) (steps : List CutStep) → IsWithinArea a (root p) → IsSized p a earlier parts rows row → rs ≡ rows
    → AreShown p rs parts → steps_of p a earlier parts ≡ Some steps → length steps < 2 ^ 32
    → IsProvedCut (record { program = p; steps = steps })
proved p a earlier parts rows rs row steps within s e shown all few =
    let are = steps_are p a earlier parts rows rs row steps within s e shown all in
    let c : NoGoodCut = record { program = p; steps = steps } in
    record {
      model = s.model;
      steps = are.shown;
      some = are.some;
      few = few;
      alone = new_cut_stands_alone p a earlier parts c are.shown all;
    }

pub cut_of_parts : (p : Program) (a : Area) (earlier : List NoGoodCut) (parts : CutParts) (rows rs : List Linear)
    (row : Linear) (steps : List CutStep) (c : NoGoodCut) → IsSized p a earlier parts rows row → rs ≡ rows
    → AreShown p rs parts → steps_of p a earlier parts ≡ Some steps → c ≡ record { program = p; steps = steps }
    → IsCutOf p a earlier parts c
cut_of_parts p a earlier parts rows rs row steps c s e shown all is =
    subst (IsCutOf p a earlier parts) (sym is) (record {
      shown = shown_parts p a earlier parts rows rs row s e shown;
      models = s.models;
      program = refl;
      steps = all;
    })

pub own_step_of : (p : Program) (a : Area) (earlier : List NoGoodCut) (parts : CutParts) (rows rs : List Linear)
    (row : Linear) (steps : List CutStep) (c : NoGoodCut) → IsWithinArea a (root p) → IsSized p a earlier parts rows row
    → rs ≡ rows → AreShown p rs parts → steps_of p a earlier parts ≡ Some steps
    → c ≡ record { program = p; steps = steps } → IsOwnStep p a earlier parts (last_step c.steps)
own_step_of p a earlier parts rows rs row steps c within s e shown all is =
    let are = steps_are p a earlier parts rows rs row steps within s e shown all in
    subst (λ (x : NoGoodCut). IsOwnStep p a earlier parts (last_step x.steps)) (sym is)
    (subst (IsOwnStep p a earlier parts) (sym are.last)
    (record { places = are.places; area = refl; row = refl; parts_are = refl }))

parts_sized : (p : Program) (a : Area) (earlier : List NoGoodCut) (parts : CutParts) (rows : List Linear)
    (row : Linear) (steps : List CutStep) → IsSized p a earlier parts rows row
    → steps_of p a earlier parts ≡ Some steps → AreParts p a earlier parts
parts_sized p a earlier parts rows row steps s all = record {
  models = s.models;
  size = s.size;
  steps = subst (λ (o : Option (List CutStep)). IsSome o) (sym all) (search rules);
}

-- what of the rows fails first is what of the cut does
pub rows_fault : (p : Program) (a : Area) (earlier : List NoGoodCut) (parts : CutParts) (rows rs : List Linear)
    (row : Linear) (steps : List CutStep) → IsSized p a earlier parts rows row → rs ≡ rows
    → steps_of p a earlier parts ≡ Some steps → (f : CutFault) → IsRowsFault p rs parts f
    → IsFault p a earlier parts f
rows_fault p a earlier parts rows rs row steps s e all Size h = absurd h
rows_fault p a earlier parts rows rs row steps s e all Inverse h =
    let same = e ∙ s.rows_are in (
      parts_sized p a earlier parts rows row steps s all,
      subst (λ (r : List Linear). ¬ Inverts (columns p) r parts.den parts.units) same h,
    )
rows_fault p a earlier parts rows rs row steps s e all TightFault h =
    let same = e ∙ s.rows_are in (
      parts_sized p a earlier parts rows row steps s all,
      subst (λ (r : List Linear). Inverts (columns p) r parts.den parts.units) same h.0,
      subst (λ (r : List Linear). ¬ IsTightAt p r parts.point) same h.1,
    )
rows_fault p a earlier parts rows rs row steps s e all Response h =
    let same = e ∙ s.rows_are in (
      parts_sized p a earlier parts rows row steps s all,
      subst (λ (r : List Linear). Inverts (columns p) r parts.den parts.units) same h.0,
      subst (λ (r : List Linear). IsTightAt p r parts.point) same h.1,
      h.2,
    )
rows_fault p a earlier parts rows rs row steps s e all Memory h = tt

-- the same of equal programs and boxes
pub sized_at : (p q : Program) (a b : Area) (earlier : List NoGoodCut) (parts : CutParts) (rows : List Linear)
    (row : Linear) → q ≡ p → b ≡ a → IsSized q b earlier parts rows row → IsSized p a earlier parts rows row
sized_at p q a b earlier parts rows row e f s =
    subst (λ (x : Program). IsSized x a earlier parts rows row) e
    (subst (λ (x : Area). IsSized q x earlier parts rows row) f s)

pub shown_at : (p q : Program) (rs : List Linear) (parts : CutParts) → q ≡ p → AreShown q rs parts
    → AreShown p rs parts
shown_at p q rs parts e s = subst (λ (x : Program). AreShown x rs parts) e s

pub fault_at : (p q : Program) (rs : List Linear) (parts : CutParts) (f : CutFault) → q ≡ p → IsRowsFault q rs parts f
    → IsRowsFault p rs parts f
fault_at p q rs parts f e s = subst (λ (x : Program). IsRowsFault x rs parts f) e s

pub large_at : (p q : Program) (a b : Area) (earlier : List NoGoodCut) (tight : List Tight) → q ≡ p → b ≡ a
    → ¬ IsSmallRow (cut_row q b (local_rows earlier) tight) → ¬ IsSmallRow (cut_row p a (local_rows earlier) tight)
large_at p q a b earlier tight e f large =
    subst (λ (x : Program). ¬ IsSmallRow (cut_row x a (local_rows earlier) tight)) e
    (subst (λ (x : Area). ¬ IsSmallRow (cut_row q x (local_rows earlier) tight)) f large)
