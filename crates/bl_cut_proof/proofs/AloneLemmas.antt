-- A cut that was made from others stands alone: its steps, which each stand once, can be taken over as they are.
use Rattle.std.proofs.Common.{◌≡◌, ℕ, zero, suc, ◌+◌, ◌<◌, refl, sym, ◌∙◌, ap, subst, arith, Bool, true, false, cond}
use Rattle.std.proofs.Common.{List, [], ◌∷◌, ◌++◌, length, map, Option, Some, None, inl, inr}
use Rattle.std.specs.Prelude.{IsSome}
use Rattle.std.proofs.lemmas.Bool.{cases_lt}
use Rattle.std.proofs.lemmas.List.{append_assoc, append-nil, length_push, length-append, get_or_append_left}
use Rattle.std.proofs.lemmas.List.{length-map, map_push}
use Rattle.std.proofs.lemmas.List.Elements.{All-weaker}
use Rattle.std.proofs.Math.Seq.{get_or-append_seam}
use Rattle.bl_terms.specs.Points.{Area}
use Rattle.bl_terms.specs.Programs.{Program}
use Rattle.bl_cut_terms.specs.declared.parts.Tight.{Tight}
use Rattle.bl_cut_terms.specs.declared.parts.Tight.TheVariants.{Row, Upper, Lower, Cut}
use Rattle.bl_cut_terms.specs.declared.parts.CutParts.{CutParts}
use Rattle.bl_cut_terms.specs.NoGoods.{CutStep, LocalRow, local_row, AreCutSteps, NoGoodCut, no_step, step_at}
use Rattle.bl_cut_terms.specs.Adopting.{renumbered, moved_step, are_in_order, place_in, Adopted, with_adopted, adopt}
use Rattle.bl_cut_terms.specs.Adopting.{adopt_cut, last_place, noted, adopt_cuts, is_used, own_step, with_own}
use Rattle.bl_cut_terms.specs.Adopting.{moved_parts, steps_of, StandsAlone}
use Rattle.bl_cut_proof.proofs.AdoptLemmas.{Decides-order, with_step-at, some_same}
use Rattle.bl_cut_proof.proofs.TakenSteps.{distinct_with, at, IsBelow, IsClearStep, clear_step, AreDistinct}
use Rattle.bl_cut_proof.proofs.TakenSteps.{place_end, with_old, with_new}
use Rattle.bl_cut_proof.proofs.Sorting.{itself}
use Rattle.bl_cut_proof.proofs.Moves.{moved_alike, moved_itself}

-- ---- the steps of one cut

-- the numbers below n
abbrev numbers_below : ℕ → List ℕ
numbers_below zero = []
numbers_below (suc n) = numbers_below n ++ n ∷ []

numbers-count : (n : ℕ) → length (numbers_below n) ≡ n
numbers-count zero = refl
numbers-count (suc n) = length_push (numbers_below n) n ∙ (let l = numbers-count n in omega arith)

numbers-at : (n k : ℕ) → k < n → at (numbers_below n) k ≡ k
numbers-at zero k b = absurd (omega arith)
numbers-at (suc n) k b =
    let l = numbers-count n in
    elim (cases_lt k n) [
      | inl c ↦ get_or_append_left (numbers_below n) (n ∷ []) 0 k (omega arith) ∙ numbers-at n k c
      | inr c ↦
          let e : k ≡ n = omega arith in
          ap (at (numbers_below n ++ n ∷ [])) (e ∙ sym l) ∙ get_or-append_seam (numbers_below n) n [] 0 ∙ sym e
    ]

numbered_itself : (n : ℕ) (x : Tight) → IsBelow n x → renumbered (numbers_below n) x ≡ x
numbered_itself n (Row i) b = refl
numbered_itself n (Upper j) b = refl
numbered_itself n (Lower j) b = refl
numbered_itself n (Cut k) b = ap Cut (numbers-at n k b)

-- a step whose cuts keep their places is as it was
step_itself : (n : ℕ) (s : CutStep) → IsClearStep n s → moved_step (numbers_below n) s ≡ s
step_itself n s clear =
    ap (λ x. (let r : CutStep = record { area = s.area; parts = x; row = s.row } in r))
    (moved_alike (renumbered (numbers_below n)) itself s.parts
    (All-weaker (IsBelow n) (λ x. renumbered (numbers_below n) x ≡ itself x) (numbered_itself n) s.parts.tight
    clear.below)
    ∙ moved_itself s.parts clear.order clear.units)

-- a step that stands behind others in a list with each step once isn't among them
not_before : (steps : List CutStep) (s : CutStep) (more : List CutStep) → AreDistinct (steps ++ s ∷ more)
    → place_in steps s ≡ length steps
not_before steps s more distinct =
    let most = place_end steps s in
    let l = length-append steps (s ∷ more) in
    elim (cases_lt (place_in steps s) (length steps)) [
      | inl b ↦
          let found : step_at steps (place_in steps s) ≡ s =
          subst (λ (x : List CutStep). step_at x (place_in steps s) ≡ s) (with_old steps s b)
          (with_step-at steps s).at in
          let one : step_at (steps ++ s ∷ more) (place_in steps s) ≡ step_at (steps ++ s ∷ more) (length steps) =
          get_or_append_left steps (s ∷ more) no_step (place_in steps s) b ∙ found
          ∙ sym (get_or-append_seam steps s more no_step) in
          distinct (place_in steps s) (length steps) (omega arith) (omega arith) one
      | inr b ↦ omega arith
    ]

-- steps that each stand once are taken over as they are
adopt_itself : (p : Program) (steps done : List CutStep) → AreCutSteps p (map local_row done) steps
    → AreDistinct (done ++ steps)
    → adopt (record { steps = done; places = numbers_below (length done) }) steps
    ≡ Some (record { steps = done ++ steps; places = numbers_below (length done + length steps) })
adopt_itself p [] done shown distinct =
    let e : length done ≡ length done + 0 = omega arith in
    ap (λ (x : List CutStep). (let r : Option Adopted =
    Some (record { steps = x; places = numbers_below (length done) }) in r)) (sym (append-nil done))
    ∙ ap (λ (n : ℕ). (let r : Option Adopted =
    Some (record { steps = done ++ []; places = numbers_below n }) in r)) e
adopt_itself p (s ∷ steps) done shown distinct =
    let k = length done in
    let a : Adopted = record { steps = done; places = numbers_below k } in
    let next = done ++ s ∷ [] in
    let clear : IsClearStep k s =
    subst (λ (n : ℕ). IsClearStep n s) (length-map done local_row) (clear_step p (map local_row done) s shown.0) in
    let same : moved_step (numbers_below k) s ≡ s = step_itself k s clear in
    let ordered : are_in_order (moved_step (numbers_below k) s).parts.tight ≡ true =
    ap (λ (x : CutStep). are_in_order x.parts.tight) same ∙ (Decides-order s.parts.tight).1 clear.order in
    let last : place_in done s ≡ k = not_before done s steps distinct in
    let count : length next ≡ suc k = length_push done s ∙ (omega arith) in
    let after : with_adopted a (moved_step (numbers_below k) s) ≡ record {
      steps = next;
      places = numbers_below (length next);
    } =
    ap (with_adopted a) same
    ∙ ap (λ (x : List CutStep). (let r : Adopted =
    record { steps = x; places = numbers_below k ++ place_in done s ∷ [] } in r)) (with_new done s (omega arith))
    ∙ ap (λ (n : ℕ). (let r : Adopted = record { steps = next; places = numbers_below k ++ n ∷ [] } in r)) last
    ∙ ap (λ (n : ℕ). (let r : Adopted = record { steps = next; places = numbers_below n } in r)) (sym count) in
    let rest =
    adopt_itself p steps next
    (subst (λ (rows : List LocalRow). AreCutSteps p rows steps) (sym (map_push local_row done s)) shown.1)
    (subst AreDistinct (sym (append_assoc done (s ∷ []) steps)) distinct) in
    let total : length next + length steps ≡ length done + suc (length steps) = omega arith in
    ap (λ r. cond r (adopt (with_adopted a (moved_step (numbers_below k) s)) steps) None) ordered
    ∙ ap (λ (x : Adopted). adopt x steps) after ∙ rest
    ∙ ap (λ (x : List CutStep). (let r : Option Adopted =
    Some (record { steps = x; places = numbers_below (length next + length steps) }) in r))
    (append_assoc done (s ∷ []) steps)
    ∙ ap (λ (n : ℕ). (let r : Option Adopted =
    Some (record { steps = done ++ s ∷ steps; places = numbers_below n }) in r)) total

-- ---- new cuts

-- steps that are taken over into a list with each step once leave it so
adopt_distinct : (steps : List CutStep) (a b : Adopted) → AreDistinct a.steps → adopt a steps ≡ Some b
    → AreDistinct b.steps
adopt_distinct [] a b distinct e = subst (λ (x : Adopted). AreDistinct x.steps) (some_same a b e) distinct
adopt_distinct (s ∷ steps) a b distinct e =
    by (are_in_order (moved_step a.places s).parts.tight)
    (λ h. adopt_distinct steps (with_adopted a (moved_step a.places s)) b
    (distinct_with a.steps (moved_step a.places s) distinct) h) e
  where
    by : (r : Bool) → (adopt (with_adopted a (moved_step a.places s)) steps ≡ Some b → AreDistinct b.steps)
        → cond r (adopt (with_adopted a (moved_step a.places s)) steps) None ≡ Some b → AreDistinct b.steps
    by true rec h = rec h
    by false rec h = absurd cc

cut_distinct : (c : NoGoodCut) (a b : Adopted) → AreDistinct a.steps → adopt_cut a c ≡ Some b → AreDistinct b.steps
cut_distinct c a b distinct e = by (adopt (record { steps = a.steps; places = [] }) c.steps) refl e
  where
    by : (o : Option Adopted) → adopt (record { steps = a.steps; places = [] }) c.steps ≡ o → noted a.places o ≡ Some b
        → AreDistinct b.steps
    by None is h = absurd cc
    by (Some d) is h =
        subst (λ (x : Adopted). AreDistinct x.steps)
        (some_same (record { steps = d.steps; places = a.places ++ last_place d.places ∷ [] }) b h)
        (adopt_distinct c.steps (record { steps = a.steps; places = [] }) d distinct is)

none_adopted : (tight : List Tight) (k : ℕ) (cuts : List NoGoodCut) (b : Adopted)
    → adopt_cuts tight k cuts None ≡ Some b → ⊥
none_adopted tight k cuts b e = cc

cuts_distinct : (tight : List Tight) (k : ℕ) (cuts : List NoGoodCut) (a b : Adopted) → AreDistinct a.steps
    → adopt_cuts tight k cuts (Some a) ≡ Some b → AreDistinct b.steps
cuts_distinct tight k [] a b distinct e = subst (λ (x : Adopted). AreDistinct x.steps) (some_same a b e) distinct
cuts_distinct tight k (c ∷ cuts) a b distinct e =
    by (is_used k tight) (λ d x h. cuts_distinct tight (suc k) cuts d b x h) e
  where
    after : (o : Option Adopted) → adopt_cut a c ≡ o
        → ((d : Adopted) → AreDistinct d.steps → adopt_cuts tight (suc k) cuts (Some d) ≡ Some b → AreDistinct b.steps)
        → adopt_cuts tight (suc k) cuts o ≡ Some b → AreDistinct b.steps
    after None is rec h = absurd (none_adopted tight (suc k) cuts b h)
    after (Some d) is rec h = rec d (cut_distinct c a d distinct is) h

    by : (r : Bool)
        → ((d : Adopted) → AreDistinct d.steps → adopt_cuts tight (suc k) cuts (Some d) ≡ Some b → AreDistinct b.steps)
        → adopt_cuts tight (suc k) cuts
        (cond r (adopt_cut a c) (Some (record { steps = a.steps; places = a.places ++ 0 ∷ [] }))) ≡ Some b
        → AreDistinct b.steps
    by true rec h = after (adopt_cut a c) refl rec h
    by false rec h = rec (record { steps = a.steps; places = a.places ++ 0 ∷ [] }) distinct h

-- steps behind others are taken over after them
adopt_append : (steps more : List CutStep) (a b : Adopted) → adopt a steps ≡ Some b
    → adopt a (steps ++ more) ≡ adopt b more
adopt_append [] more a b e = ap (λ (x : Adopted). adopt x more) (some_same a b e)
adopt_append (s ∷ steps) more a b e =
    by (are_in_order (moved_step a.places s).parts.tight)
    (λ h. adopt_append steps more (with_adopted a (moved_step a.places s)) b h) e
  where
    by : (r : Bool)
        → (adopt (with_adopted a (moved_step a.places s)) steps ≡ Some b
        → adopt (with_adopted a (moved_step a.places s)) (steps ++ more) ≡ adopt b more)
        → cond r (adopt (with_adopted a (moved_step a.places s)) steps) None ≡ Some b
        → cond r (adopt (with_adopted a (moved_step a.places s)) (steps ++ more)) None ≡ adopt b more
    by true rec h = rec h
    by false rec h = absurd cc

-- steps behind others are shown by these and the ones before them
steps_split : (p : Program) (earlier : List LocalRow) (steps more : List CutStep)
    → AreCutSteps p earlier (steps ++ more)
    → AreCutSteps p earlier steps × AreCutSteps p (earlier ++ map local_row steps) more
steps_split p earlier [] more shown =
    (tt, subst (λ (rows : List LocalRow). AreCutSteps p rows more) (sym (append-nil earlier)) shown)
steps_split p earlier (s ∷ steps) more shown =
    let rest = steps_split p (earlier ++ local_row s ∷ []) steps more shown.1 in (
      (shown.0, rest.0),
      subst (λ (rows : List LocalRow). AreCutSteps p rows more)
          (append_assoc earlier (local_row s ∷ []) (map local_row steps)) rest.1,
    )

-- steps that each stand once, and a last one, are taken over
last_adopted : (p : Program) (steps : List CutStep) (s : CutStep) → AreCutSteps p [] (steps ++ s ∷ [])
    → AreDistinct steps
    → IsSome (adopt (record { steps = []; places = [] }) (steps ++ s ∷ []))
last_adopted p steps s shown distinct =
    let parts = steps_split p [] steps (s ∷ []) shown in
    let n = length steps in
    let done : Adopted = record { steps = steps; places = numbers_below (0 + n) } in
    let front = adopt_itself p steps [] parts.0 distinct in
    let zero_is : 0 + n ≡ n = omega arith in
    let clear : IsClearStep n s =
    subst (λ (k : ℕ). IsClearStep k s) (length-map steps local_row) (clear_step p (map local_row steps) s parts.1.0) in
    let same : moved_step (numbers_below (0 + n)) s ≡ s =
    ap (λ k. moved_step (numbers_below k) s) zero_is ∙ step_itself n s clear in
    let ordered : are_in_order (moved_step (numbers_below (0 + n)) s).parts.tight ≡ true =
    ap (λ (x : CutStep). are_in_order x.parts.tight) same ∙ (Decides-order s.parts.tight).1 clear.order in
    let is = adopt_append steps (s ∷ []) (record { steps = []; places = [] }) done front
    ∙ ap (λ r. cond r (Some (with_adopted done (moved_step (numbers_below (0 + n)) s))) None) ordered in
    subst IsSome (sym is) refl

-- a cut alone can be taken over where its steps are those of the cuts that it uses, each once, and its own
pub new_cut_stands_alone : (p : Program) (a : Area) (earlier : List NoGoodCut) (parts : CutParts) (c : NoGoodCut)
    → AreCutSteps p [] c.steps → steps_of p a earlier parts ≡ Some c.steps → StandsAlone c
new_cut_stands_alone p a earlier parts c shown e =
    by (adopt_cuts parts.tight 0 earlier (Some (record { steps = []; places = [] }))) refl e
  where
    noted_some : (o : Option Adopted) → IsSome o → IsSome (noted [] o)
    noted_some None h = h
    noted_some (Some d) h = refl

    last : (steps : List CutStep) (s : CutStep) → AreDistinct steps → steps ++ s ∷ [] ≡ c.steps → StandsAlone c
    last steps s distinct is =
        noted_some (adopt (record { steps = []; places = [] }) c.steps)
        (subst (λ (x : List CutStep). IsSome (adopt (record { steps = []; places = [] }) x)) is
        (last_adopted p steps s (subst (AreCutSteps p []) (sym is) shown) distinct))

    own : (b : Adopted) → AreDistinct b.steps → (r : Bool)
        → cond r (Some (b.steps ++ own_step p a earlier parts b.places ∷ [])) None ≡ Some c.steps → StandsAlone c
    own b distinct true h =
        last b.steps (own_step p a earlier parts b.places) distinct
        (some_same (b.steps ++ own_step p a earlier parts b.places ∷ []) c.steps h)
    own b distinct false h = absurd cc

    by : (o : Option Adopted) → adopt_cuts parts.tight 0 earlier (Some (record { steps = []; places = [] })) ≡ o
        → with_own p a earlier parts o ≡ Some c.steps → StandsAlone c
    by None is h = absurd cc
    by (Some b) is h =
        own b
        (cuts_distinct parts.tight 0 earlier (record { steps = []; places = [] }) b (λ i j k l m. absurd (omega arith))
        is)
        (are_in_order (moved_parts b.places parts).tight) h
