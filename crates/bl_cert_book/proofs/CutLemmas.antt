-- The cuts that a leaf cites stand in the certificate.
use Rattle.std.proofs.Common.{◌≡◌, ℕ, suc, ◌-◌, ◌<◌, refl, sym, ◌∙◌, ap, subst, arith, List, [], ◌∷◌, ◌++◌, length}
use Rattle.std.proofs.Common.{map, Option, Some, None}
use Rattle.std.specs.Prelude.{All}
use Rattle.std.proofs.lemmas.Option.{option_and_then_some}
use Rattle.std.proofs.lemmas.List.{length-map, get_or-map, append_assoc, append-nil}
use Rattle.std.proofs.lemmas.List.Elements.{All-head, All-tail, All-cons, All-nil}
use Rattle.bl_terms.specs.Points.{Area}
use Rattle.bl_terms.specs.Programs.{Program}
use Rattle.bl_cut_terms.specs.NoGoods.{LocalRow, no_local_row, local_row_at, local_row, CutStep, AreCutSteps}
use Rattle.bl_cut_terms.specs.NoGoods.{NoGoodCut, no_step, step_at, cut_of}
use Rattle.bl_cut.proofs.CutLemmas.{last_at}
use Rattle.bl_cut_terms.specs.Adopting.{Adopted, adopt, last_place, noted, adopt_cut}
use Rattle.bl_cut_proof.proofs.AdoptLemmas.{Extends, some_same, adopt_shown, last_place-at}
use Rattle.bl_leaf_terms.specs.Leaves.{IsCutFor}
use Rattle.bl_cert_book.specs.Leaves.{adopt_all}

-- ---- lists that go on

pub extends_itself : (steps : List CutStep) → Extends steps steps
extends_itself steps = record { same = λ k b. (b, refl) }

pub extends_more : (a b c : List CutStep) → Extends a b → Extends b c → Extends a c
extends_more a b c f g = record {
  same = λ k l. let x = f.same k l in let y = g.same k x.0 in (y.0, y.1 ∙ x.1);
}

-- ---- one cut

-- the cut's box and row stand in the list at a place
pub record StandsAt (steps : List CutStep) (c : NoGoodCut) (k : ℕ) : Type 0 where
  pub below : k < length steps
  pub at : local_row (step_at steps k) ≡ cut_of c

stands_later : (old new : List CutStep) (c : NoGoodCut) (k : ℕ) → Extends old new → StandsAt old c k → StandsAt new c k
stands_later old new c k extends h =
    let x = extends.same k h.below in
    record { below = x.0; at = ap local_row x.1 ∙ h.at }

-- its steps were taken over, and the place of the last was noted
record IsCutTaken (p : Program) (a : Adopted) (c : NoGoodCut) (b : Adopted) : Type 0 where
  steps : AreCutSteps p [] b.steps
  extends : Extends a.steps b.steps
  place : ℕ
  noted : b.places ≡ a.places ++ place ∷ []
  stands : StandsAt b.steps c place

cut_taken : (p : Program) (a b : Adopted) (c : NoGoodCut) → AreCutSteps p [] c.steps → 0 < length c.steps
    → AreCutSteps p [] a.steps → adopt_cut a c ≡ Some b → IsCutTaken p a c b
cut_taken p a b c shown some old e = by (adopt start c.steps) refl e
  where
    start : Adopted
    start = record { steps = a.steps; places = [] }

    by : (o : Option Adopted) → adopt (record { steps = a.steps; places = [] }) c.steps ≡ o
        → noted a.places o ≡ Some b → IsCutTaken p a c b
    by None is f = absurd cc
    by (Some d) is f =
        let over = adopt_shown p c.steps [] (record { steps = a.steps; places = [] }) d shown
        (record { steps = old; count = refl; placed = λ k l. absurd (omega arith) }) is in
        let count = over.0.count in
        let l = length-map c.steps local_row in
        let last = last_place-at d.places (omega arith) in
        let end : length d.places - 1 < length (map local_row c.steps) = omega arith in
        let h = over.0.placed (length d.places - 1) end in
        let final : local_row_at (map local_row c.steps) (length d.places - 1) ≡ cut_of c =
        get_or-map local_row c.steps (length d.places - 1) no_step no_local_row (omega arith)
        ∙ ap (λ k. local_row (step_at c.steps k)) (let x : length d.places - 1 ≡ length c.steps - 1 = omega arith in x)
        ∙ ap local_row (sym (last_at c.steps some)) in
        subst (IsCutTaken p a c)
        (some_same (record { steps = d.steps; places = a.places ++ last_place d.places ∷ [] }) b f)
        (record {
          steps = over.0.steps;
          extends = over.1;
          place = last_place d.places;
          noted = refl;
          stands = subst (StandsAt d.steps c) (sym last) (record { below = h.0; at = h.1 ∙ final });
        })

-- ---- all cuts of a leaf

-- the cuts stand in the list at these places, each at its own
abbrev pub StandAt : List CutStep → List NoGoodCut → List ℕ → Type 0
StandAt steps [] [] = Unit {0}
StandAt steps [] (k ∷ places) = ⊥
StandAt steps (c ∷ cuts) [] = ⊥
StandAt steps (c ∷ cuts) (k ∷ places) = StandsAt steps c k × StandAt steps cuts places

pub stand_later : (old new : List CutStep) (cuts : List NoGoodCut) (places : List ℕ) → Extends old new
    → StandAt old cuts places → StandAt new cuts places
stand_later old new [] [] extends h = tt
stand_later old new [] (k ∷ places) extends h = absurd h
stand_later old new (c ∷ cuts) [] extends h = absurd h
stand_later old new (c ∷ cuts) (k ∷ places) extends h =
    (stands_later old new c k extends h.0, stand_later old new cuts places extends h.1)

pub stand_count : (steps : List CutStep) (cuts : List NoGoodCut) (places : List ℕ) → StandAt steps cuts places
    → length places ≡ length cuts
stand_count steps [] [] h = refl
stand_count steps [] (k ∷ places) h = absurd h
stand_count steps (c ∷ cuts) [] h = absurd h
stand_count steps (c ∷ cuts) (k ∷ places) h = ap suc (stand_count steps cuts places h.1)

-- so their rows are the rows at these places
pub stand_rows : (steps : List CutStep) (cuts : List NoGoodCut) (places : List ℕ) → StandAt steps cuts places
    → map (λ k. (step_at steps k).row) places ≡ map (λ c. (cut_of c).row) cuts
stand_rows steps [] [] h = refl
stand_rows steps [] (k ∷ places) h = absurd h
stand_rows steps (c ∷ cuts) [] h = absurd h
stand_rows steps (c ∷ cuts) (k ∷ places) h =
    ap (λ r. r ∷ map (λ j. (step_at steps j).row) places) (ap (λ (r : LocalRow). r.row) h.0.at)
    ∙ ap (λ rows. (cut_of c).row ∷ rows) (stand_rows steps cuts places h.1)

-- and what holds of each cut and its place holds of each place
pub at_each_place : (P : ℕ → Type 0) (Q : NoGoodCut → Type 0) (steps : List CutStep) (cuts : List NoGoodCut)
    (places : List ℕ) → ((c : NoGoodCut) (k : ℕ) → Q c → StandsAt steps c k → P k) → All Q cuts
    → StandAt steps cuts places → All P places
at_each_place P Q steps [] [] each are h = All-nil P
at_each_place P Q steps [] (k ∷ places) each are h = absurd h
at_each_place P Q steps (c ∷ cuts) [] each are h = absurd h
at_each_place P Q steps (c ∷ cuts) (k ∷ places) each are h =
    All-cons P k places (each c k (All-head Q c cuts are) h.0)
    (at_each_place P Q steps cuts places each (All-tail Q c cuts are) h.1)

pub record AreTaken (p : Program) (a : Adopted) (cuts : List NoGoodCut) (b : Adopted) : Type 0 where
  pub steps : AreCutSteps p [] b.steps
  pub extends : Extends a.steps b.steps
  pub further : List ℕ
  pub noted : b.places ≡ a.places ++ further
  pub stand : StandAt b.steps cuts further

pub some_length : (steps : List CutStep) → (steps ≡ [] → ⊥) → 0 < length steps
some_length [] some = absurd (some refl)
some_length (s ∷ steps) some = omega arith

pub cuts_taken : (p : Program) (area : Area) (a b : Adopted) (cuts : List NoGoodCut) → All (IsCutFor p area) cuts
    → AreCutSteps p [] a.steps → adopt_all a cuts ≡ Some b → AreTaken p a cuts b
cuts_taken p area a b [] are old e =
    subst (AreTaken p a []) (some_same a b e)
    (record {
      steps = old;
      extends = extends_itself a.steps;
      further = [];
      noted = sym (append-nil a.places);
      stand = tt;
    })
cuts_taken p area a b (c ∷ cuts) are old e =
    option_and_then_some (λ d. adopt_all d cuts) (adopt_cut a c) b e
    (λ d is f.
    let first = All-head (IsCutFor p area) c cuts are in
    let one = cut_taken p a d c first.steps (some_length c.steps first.some) old is in
    let rest = cuts_taken p area d b cuts (All-tail (IsCutFor p area) c cuts are) one.steps f in
    let places : b.places ≡ a.places ++ (one.place ∷ rest.further) =
    rest.noted ∙ ap (λ x. x ++ rest.further) one.noted ∙ append_assoc a.places (one.place ∷ []) rest.further in
    record {
      steps = rest.steps;
      extends = extends_more a.steps d.steps b.steps one.extends rest.extends;
      further = one.place ∷ rest.further;
      noted = places;
      stand = (stands_later d.steps b.steps c one.place rest.extends one.stands, rest.stand);
    })
