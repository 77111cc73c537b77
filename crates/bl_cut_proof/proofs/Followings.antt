-- Cuts that can be taken over into an empty list can be taken over into each list, to places that stay apart.
use Rattle.std.proofs.Common.{◌≡◌, ℕ, ◌<◌, ◌≤◌, refl, sym, ◌∙◌, ap, subst, arith, Bool, true, false, cond, List, []}
use Rattle.std.proofs.Common.{◌∷◌, ◌++◌, length, Option, Some, None, inl, inr}
use Rattle.std.specs.Prelude.{All}
use Rattle.std.proofs.lemmas.Bool.{cases_lt}
use Rattle.std.proofs.lemmas.List.{length_push, get_or_append_left, map_push}
use Rattle.std.proofs.lemmas.List.Elements.{All-from_get_or, All-weaker, All-head}
use Rattle.std.proofs.lemmas.List.Elements.{All-tail}
use Rattle.std.proofs.Math.Seq.{get_or-append_seam}
use Rattle.bl_terms.specs.Programs.{Program}
use Rattle.bl_cut_terms.specs.NoGoods.{LocalRow, local_row, CutStep, IsCutStep, AreCutSteps, no_step}
use Rattle.bl_cut_terms.specs.NoGoods.{step_at}
use Rattle.bl_cut_terms.specs.Adopting.{are_in_order, moved_step, place_in, with_step, Adopted, with_adopted, adopt}
use Rattle.bl_cut_proof.proofs.AdoptLemmas.{some_same, IsAdopted, adopt_shown, Decides-order, with_step-at}
use Rattle.bl_cut_proof.proofs.TakenSteps.{at, ArePlacesApart, IsClearStep, clear_more, clear_step, clear_here, all_at}
use Rattle.bl_cut_proof.proofs.TakenSteps.{moved_on, moved_apart, moved_longer, AreDistinct, place_found, place_is}
use Rattle.bl_cut_proof.proofs.TakenSteps.{with_old, with_new, place_end, distinct_with}

-- the steps of the first list stand in the second at these places, with these places of the cuts that they use
pub record Follows (p : Program) (old new : List CutStep) (places : List ℕ) : Type 0 where
  pub shown : AreCutSteps p [] old
  pub count : length places ≡ length old
  pub below : (e : ℕ) → e < length old → at places e < length new
  pub same : (e : ℕ) → e < length old → step_at new (at places e) ≡ moved_step places (step_at old e)
  pub apart : ArePlacesApart (length old) places
  pub distinct : AreDistinct new

-- places that go on
pub record IsLonger (old new : List ℕ) : Type 0 where
  pub count : length old ≤ length new
  pub same : (k : ℕ) → k < length old → at new k ≡ at old k

longer_itself : (places : List ℕ) → IsLonger places places
longer_itself places = record { count = omega arith; same = λ k b. refl }

longer_more : (a b c : List ℕ) → IsLonger a b → IsLonger b c → IsLonger a c
longer_more a b c f g = record {
  count = let x = f.count in let y = g.count in omega arith;
  same = λ k l. g.same k (let x = f.count in omega arith) ∙ f.same k l;
}

longer_push : (places : List ℕ) (q : ℕ) → IsLonger places (places ++ q ∷ [])
longer_push places q = record {
  count = let l = length_push places q in omega arith;
  same = λ k b. get_or_append_left places (q ∷ []) 0 k b;
}

longer_places : (old new ks : List ℕ) → IsLonger old new → All (λ k. k < length old) ks → all_at new ks ≡ all_at old ks
longer_places old new [] longer each = refl
longer_places old new (k ∷ ks) longer each =
    ap (λ x. x ∷ all_at new ks) (longer.same k (All-head (λ j. j < length old) k ks each))
    ∙ ap (λ xs. at old k ∷ xs) (longer_places old new ks longer (All-tail (λ j. j < length old) k ks each))

-- ---- one step

-- the step is put into both lists, and they follow one another as before
record IsFollowed (p : Program) (old new : List CutStep) (places : List ℕ) (t : CutStep) : Type 0 where
  more : List ℕ
  follows : Follows p (with_step old t) (with_step new (moved_step places t)) more
  longer : IsLonger places more
  place : at more (place_in old t) ≡ place_in new (moved_step places t)

followed_old : (p : Program) (old new : List CutStep) (places : List ℕ) (t : CutStep) → Follows p old new places
    → place_in old t < length old → IsFollowed p old new places t
followed_old p old new places t f b =
    let t' = moved_step places t in
    let e = place_in old t in
    let stands : step_at old e ≡ t =
    subst (λ (l : List CutStep). step_at l e ≡ t) (with_old old t b) (with_step-at old t).at in
    let place : place_in new t' ≡ at places e =
    place_is new t' (at places e) f.distinct (f.below e b) (f.same e b ∙ ap (moved_step places) stands) in
    let there : place_in new t' < length new = subst (λ (k : ℕ). k < length new) (sym place) (f.below e b) in
    record {
      more = places;
      follows =
          subst (λ (l : List CutStep). Follows p l (with_step new t') places) (sym (with_old old t b))
          (subst (λ (l : List CutStep). Follows p old l places) (sym (with_old new t' there)) f);
      longer = longer_itself places;
      place = sym place;
    }

followed_new : (p : Program) (old new : List CutStep) (places : List ℕ) (t : CutStep) → Follows p old new places
    → length old ≤ place_in old t → IsClearStep (length old) t → AreCutSteps p [] (with_step old t)
    → IsFollowed p old new places t
followed_new p old new places t f b clear shown =
    let t' = moved_step places t in
    let n = length old in
    let end : place_in old t ≡ n = let most = place_end old t in omega arith in
    let q = place_in new t' in
    let stands = with_step-at new t' in
    let new' = with_step new t' in
    let more = places ++ q ∷ [] in
    let longer = longer_push places q in
    let count = f.count in
    let l = length_push old t in
    let m = length_push places q in
    let old_step : (e : ℕ) → e < n → step_at (old ++ t ∷ []) e ≡ step_at old e =
    λ e c. get_or_append_left old (t ∷ []) no_step e c in
    let old_place : (e : ℕ) → e < n → at more e ≡ at places e = λ e c. longer.same e (omega arith) in
    let last_step : (e : ℕ) → e ≡ n → step_at (old ++ t ∷ []) e ≡ t =
    λ e c. ap (step_at (old ++ t ∷ [])) c ∙ get_or-append_seam old t [] no_step in
    let last_place_is : (e : ℕ) → e ≡ n → at more e ≡ q =
    λ e c. ap (at more) (c ∙ sym count) ∙ get_or-append_seam places q [] 0 in
    let there : (e : ℕ) → e < n
    → (at places e < length new') × (step_at new' (at places e) ≡ moved_step places (step_at old e)) =
    λ e c. let x = stands.extends.same (at places e) (f.below e c) in (x.0, x.1 ∙ f.same e c) in
    let never : (e : ℕ) → e < n → at places e ≡ q → ⊥ =
    λ e c is.
    let one : moved_step places (step_at old e) ≡ moved_step places t =
    sym (there e c).1 ∙ ap (step_at new') is ∙ stands.at in
    let less : IsClearStep n (step_at old e) = clear_more e n (step_at old e) (omega arith)
    (clear_here p old e f.shown c) in
    let same = moved_apart n places (step_at old e) t count f.apart less clear one in
    let found = place_found old t e c same in
    omega (arith, found.0) in
    let follows : Follows p (old ++ t ∷ []) new' more = record {
      shown = subst (AreCutSteps p []) (with_new old t b) shown;
      count = omega arith;
      below = λ e c. elim (cases_lt e n) [
        | inl d ↦ subst (λ (k : ℕ). k < length new') (sym (old_place e d)) (there e d).0
        | inr d ↦ subst (λ (k : ℕ). k < length new') (sym (last_place_is e (omega arith))) stands.below
      ];
      same = λ e c. elim (cases_lt e n) [
        | inl d ↦
            ap (step_at new') (old_place e d) ∙ (there e d).1
            ∙ sym (moved_longer e places more (step_at old e) (λ k k_below. old_place k (omega arith))
            (clear_here p old e f.shown d))
            ∙ ap (moved_step more) (sym (old_step e d))
        | inr d ↦
            ap (step_at new') (last_place_is e (omega arith)) ∙ stands.at
            ∙ sym (moved_longer n places more t old_place clear)
            ∙ ap (moved_step more) (sym (last_step e (omega arith)))
      ];
      apart = λ i j c d e. elim (cases_lt i n) [
        | inl x ↦ elim (cases_lt j n) [
          | inl y ↦ f.apart i j x y (sym (old_place i x) ∙ e ∙ old_place j y)
          | inr y ↦ absurd (never i x (sym (old_place i x) ∙ e ∙ last_place_is j (omega arith)))
        ]
        | inr x ↦ elim (cases_lt j n) [
          | inl y ↦ absurd (never j y (sym (old_place j y) ∙ sym e ∙ last_place_is i (omega arith)))
          | inr y ↦ omega arith
        ]
      ];
      distinct = distinct_with new t' f.distinct;
    } in
    record {
      more = more;
      follows =
          subst (λ (k : List CutStep). Follows p k new' more) (sym (with_new old t b)) follows;
      longer = longer;
      place = last_place_is (place_in old t) end;
    }

-- the step of a cut is taken over into both
record IsStepped (p : Program) (rows : List LocalRow) (a : Adopted) (new : List CutStep) (places : List ℕ)
    (s : CutStep) : Type 0 where
  more : List ℕ
  further : List CutStep
  adopted : IsAdopted p (rows ++ local_row s ∷ []) (with_adopted a (moved_step a.places s))
  follows : Follows p (with_step a.steps (moved_step a.places s)) further more
  longer : IsLonger places more
  test : are_in_order (moved_step (all_at places a.places) s).parts.tight ≡ true
  is : with_adopted (record { steps = new; places = all_at places a.places }) (moved_step (all_at places a.places) s)
      ≡ record {
        steps = further;
        places = all_at more (with_adopted a (moved_step a.places s)).places;
      }

follow_step : (p : Program) (rows : List LocalRow) (a : Adopted) (new : List CutStep) (places : List ℕ) (s : CutStep)
    → IsAdopted p rows a → Follows p a.steps new places → IsCutStep p rows s
    → are_in_order (moved_step a.places s).parts.tight ≡ true → IsStepped p rows a new places s
follow_step p rows a new places s g f step ordered =
    let n = length a.steps in
    let t = moved_step a.places s in
    let next = with_adopted a t in
    let over = adopt_shown p (s ∷ []) rows a next (step, tt) g (ap (λ r. cond r (Some next) None) ordered) in
    let shown = over.0.steps in
    let stands = with_step-at a.steps t in
    let clear : IsClearStep n t =
    clear_more (place_in a.steps t) n t (place_end a.steps t)
    (subst (IsClearStep (place_in a.steps t)) stands.at
    (clear_here p (with_step a.steps t) (place_in a.steps t) shown stands.below)) in
    let count = g.count in
    let each : All (λ k. k < n) a.places =
    All-from_get_or (λ k. k < n) a.places 0 (λ k b. (g.placed k (omega arith)).0) in
    let own : IsClearStep (length a.places) s =
    subst (λ (m : ℕ). IsClearStep m s) (sym count) (clear_step p rows s step) in
    let moved =
    moved_on n a.places places s own each f.apart ((Decides-order t.parts.tight).0 ordered) in
    let followed : IsFollowed p a.steps new places t = elim (cases_lt (place_in a.steps t) n) [
      | inl b ↦ followed_old p a.steps new places t f b
      | inr b ↦ followed_new p a.steps new places t f b clear shown
    ] in
    let placed : All (λ k. k < length places) a.places =
    All-weaker (λ k. k < n) (λ k. k < length places) (λ k b. let c = f.count in omega arith) a.places each in
    let pushed : all_at followed.more (a.places ++ place_in a.steps t ∷ [])
    ≡ all_at places a.places ++ place_in new (moved_step places t) ∷ [] =
    map_push (at followed.more) a.places (place_in a.steps t)
    ∙ ap (λ ks. ks ++ at followed.more (place_in a.steps t) ∷ [])
    (longer_places places followed.more a.places followed.longer placed)
    ∙ ap (λ k. all_at places a.places ++ k ∷ []) followed.place in
    let x = moved_step (all_at places a.places) s in
    let is : with_adopted (record { steps = new; places = all_at places a.places }) x ≡ record {
      steps = with_step new (moved_step places t);
      places = all_at followed.more (a.places ++ place_in a.steps t ∷ []);
    } =
    ap (with_adopted (record { steps = new; places = all_at places a.places })) moved.same
    ∙ ap (λ (ks : List ℕ). (let b : Adopted = record { steps = with_step new (moved_step places t); places = ks } in b))
    (sym pushed) in
    record {
      more = followed.more;
      further = with_step new (moved_step places t);
      adopted = over.0;
      follows = followed.follows;
      longer = followed.longer;
      test = (Decides-order x.parts.tight).1 moved.order;
      is = is;
    }

-- ---- the steps of a cut

-- what was taken over into the first list is taken over into the second
pub record IsTakenAlike (p : Program) (b : Adopted) (places : List ℕ) (o : Option Adopted) : Type 0 where
  pub more : List ℕ
  pub further : List CutStep
  pub follows : Follows p b.steps further more
  pub longer : IsLonger places more
  pub is : o ≡ Some (record { steps = further; places = all_at more b.places })

pub follow_adopt : (p : Program) (steps : List CutStep) (rows : List LocalRow) (a b : Adopted) (new : List CutStep)
    (places : List ℕ) → AreCutSteps p rows steps → IsAdopted p rows a → Follows p a.steps new places
    → adopt a steps ≡ Some b
    → IsTakenAlike p b places (adopt (record { steps = new; places = all_at places a.places }) steps)
follow_adopt p [] rows a b new places shown g f e =
    subst (λ (x : Adopted). IsTakenAlike p x places (Some (record { steps = new; places = all_at places a.places })))
    (some_same a b e)
    (record { more = places; further = new; follows = f; longer = longer_itself places; is = refl })
follow_adopt p (s ∷ steps) rows a b new places shown g f e =
    by (are_in_order (moved_step a.places s).parts.tight) refl
    (λ next further more h k i. follow_adopt p steps (rows ++ local_row s ∷ []) next b further more shown.1 h k i) e
  where
    by : (r : Bool) → are_in_order (moved_step a.places s).parts.tight ≡ r
        → ((next : Adopted) (further : List CutStep) (more : List ℕ) → IsAdopted p (rows ++ local_row s ∷ []) next
        → Follows p next.steps further more → adopt next steps ≡ Some b
        → IsTakenAlike p b more (adopt (record { steps = further; places = all_at more next.places }) steps))
        → cond r (adopt (with_adopted a (moved_step a.places s)) steps) None ≡ Some b
        → IsTakenAlike p b places (adopt (record { steps = new; places = all_at places a.places }) (s ∷ steps))
    by true ordered rec h =
        let one = follow_step p rows a new places s g f shown.0 ordered in
        let rest = rec (with_adopted a (moved_step a.places s)) one.further one.more one.adopted one.follows h in
        let start : Adopted = record { steps = new; places = all_at places a.places } in
        let x = moved_step (all_at places a.places) s in
        record {
          more = rest.more;
          further = rest.further;
          follows = rest.follows;
          longer = longer_more places one.more rest.more one.longer rest.longer;
          is =
              ap (λ r. cond r (adopt (with_adopted start x) steps) None) one.test
              ∙ ap (λ (y : Adopted). adopt y steps) one.is ∙ rest.is;
        }
    by false ordered rec h = absurd cc
