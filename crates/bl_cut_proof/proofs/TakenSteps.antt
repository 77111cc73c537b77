-- Steps of cuts that are taken over into one list as into another.
use Rattle.std.proofs.Common.{◌≡◌, ℕ, zero, suc, ◌+◌, ◌<◌, ◌≤◌, refl, sym, ◌∙◌, ap, subst, arith, Bool, true, false}
use Rattle.std.proofs.Common.{cond, List, [], ◌∷◌, ◌++◌, length, map, inl, inr}
use Rattle.std.specs.Prelude.{All, nat_eq, nat_lt, slice_index_or}
use Rattle.std.proofs.lemmas.Bool.{cases_lt, false_from_ne_true}
use Rattle.std.proofs.lemmas.Bool.Decides.{nat_tests, Decides-ltb}
use Rattle.std.proofs.lemmas.List.{get_or-map, length_push, get_or_append_left}
use Rattle.std.proofs.lemmas.List.Elements.{All-weaker}
use Rattle.std.proofs.Math.Seq.{get_or-append_seam}
use Rattle.bl_terms.specs.Programs.{Program}
use Rattle.bl_cut_terms.specs.declared.parts.Tight.{Tight}
use Rattle.bl_cut_terms.specs.declared.parts.Tight.TheVariants.{Row, Upper, Lower, Cut}
use Rattle.bl_cut_terms.specs.declared.parts.CutParts.{CutParts}
use Rattle.bl_cut_terms.specs.NoGoods.{kind_of, place_of, AreInOrder, IsUnit, IsThere, LocalRow, local_row, CutStep}
use Rattle.bl_cut_terms.specs.NoGoods.{IsCutStep, AreCutSteps, no_step, step_at}
use Rattle.bl_cut_terms.specs.Adopting.{renumbered, moved_step, same_step, place_in, with_step}
use Rattle.bl_cut_proof.proofs.SameLemmas.{Decides-step}
use Rattle.bl_cut_proof.proofs.Sorting.{itself, KeepsApart}
use Rattle.bl_cut_proof.proofs.Moves.{moved_by, moved_twice, moved_alike, moved_itself, moved_order, moved_clear}
use Rattle.bl_cut_proof.proofs.Moves.{moved_all}

-- the place that a place gets
abbrev pub at : List ℕ → ℕ → ℕ
at places k = slice_index_or places k 0

-- places below n get other places
abbrev pub ArePlacesApart : ℕ → List ℕ → Type 0
ArePlacesApart n places = (i j : ℕ) → i < n → j < n → at places i ≡ at places j → i ≡ j

-- an item's cut is below n
abbrev pub IsBelow : ℕ → Tight → Type 0
IsBelow n (Row i) = Unit {0}
IsBelow n (Upper j) = Unit {0}
IsBelow n (Lower j) = Unit {0}
IsBelow n (Cut k) = k < n

pub below_more : (m n : ℕ) → m ≤ n → (x : Tight) → IsBelow m x → IsBelow n x
below_more m n le (Row i) b = tt
below_more m n le (Upper j) b = tt
below_more m n le (Lower j) b = tt
below_more m n le (Cut k) b = omega arith

-- a step uses cuts below n, in order, and its units are units
pub record IsClearStep (n : ℕ) (s : CutStep) : Type 0 where
  pub below : All (IsBelow n) s.parts.tight
  pub order : AreInOrder s.parts.tight
  pub units : All (IsUnit (length s.parts.tight)) s.parts.units

pub clear_more : (m n : ℕ) (s : CutStep) → m ≤ n → IsClearStep m s → IsClearStep n s
clear_more m n s le clear = record {
  below = All-weaker (IsBelow m) (IsBelow n) (below_more m n le) s.parts.tight clear.below;
  order = clear.order;
  units = clear.units;
}

below_there : (p : Program) (s : CutStep) (earlier : List LocalRow) (x : Tight) → IsThere p s.area earlier x
    → IsBelow (length earlier) x
below_there p s earlier (Row i) there = tt
below_there p s earlier (Upper j) there = tt
below_there p s earlier (Lower j) there = tt
below_there p s earlier (Cut k) there = there.0

pub clear_step : (p : Program) (earlier : List LocalRow) (s : CutStep) → IsCutStep p earlier s
    → IsClearStep (length earlier) s
clear_step p earlier s h = record {
  below =
      All-weaker (IsThere p s.area earlier) (IsBelow (length earlier)) (below_there p s earlier) s.parts.tight
      h.shown.size.there;
  order = h.shown.size.order;
  units = h.shown.size.units;
}

clear_at : (p : Program) (earlier : List LocalRow) (steps : List CutStep) (e : ℕ) → AreCutSteps p earlier steps
    → e < length steps → IsClearStep (length earlier + e) (step_at steps e)
clear_at p earlier [] e shown b = absurd (omega arith)
clear_at p earlier (s ∷ steps) zero shown b =
    let i : length earlier ≡ length earlier + 0 = omega arith in
    subst (λ (n : ℕ). IsClearStep n s) i (clear_step p earlier s shown.0)
clear_at p earlier (s ∷ steps) (suc e) shown b =
    let l = length_push earlier (local_row s) in
    let i : length (earlier ++ local_row s ∷ []) + e ≡ length earlier + suc e = omega arith in
    subst (λ (n : ℕ). IsClearStep n (step_at steps e)) i
    (clear_at p (earlier ++ local_row s ∷ []) steps e shown.1 (omega arith))

pub clear_here : (p : Program) (steps : List CutStep) (e : ℕ) → AreCutSteps p [] steps → e < length steps
    → IsClearStep e (step_at steps e)
clear_here p steps e shown b =
    let i : 0 + e ≡ e = omega arith in
    subst (λ (n : ℕ). IsClearStep n (step_at steps e)) i (clear_at p [] steps e shown b)

-- ---- items with other places

keeps_apart : (n : ℕ) (places : List ℕ) → ArePlacesApart n places → KeepsApart (IsBelow n) (renumbered places)
keeps_apart n places apart (Row i) (Row j) b c e = e
keeps_apart n places apart (Upper i) (Upper j) b c e = e
keeps_apart n places apart (Lower i) (Lower j) b c e = e
keeps_apart n places apart (Cut i) (Cut j) b c e = ap Cut (apart i j b c (ap place_of e))
keeps_apart n places apart (Row i) (Upper j) b c e = absurd (let k = ap kind_of e in omega (arith, k))
keeps_apart n places apart (Row i) (Lower j) b c e = absurd (let k = ap kind_of e in omega (arith, k))
keeps_apart n places apart (Row i) (Cut j) b c e = absurd (let k = ap kind_of e in omega (arith, k))
keeps_apart n places apart (Upper i) (Row j) b c e = absurd (let k = ap kind_of e in omega (arith, k))
keeps_apart n places apart (Upper i) (Lower j) b c e = absurd (let k = ap kind_of e in omega (arith, k))
keeps_apart n places apart (Upper i) (Cut j) b c e = absurd (let k = ap kind_of e in omega (arith, k))
keeps_apart n places apart (Lower i) (Row j) b c e = absurd (let k = ap kind_of e in omega (arith, k))
keeps_apart n places apart (Lower i) (Upper j) b c e = absurd (let k = ap kind_of e in omega (arith, k))
keeps_apart n places apart (Lower i) (Cut j) b c e = absurd (let k = ap kind_of e in omega (arith, k))
keeps_apart n places apart (Cut i) (Row j) b c e = absurd (let k = ap kind_of e in omega (arith, k))
keeps_apart n places apart (Cut i) (Upper j) b c e = absurd (let k = ap kind_of e in omega (arith, k))
keeps_apart n places apart (Cut i) (Lower j) b c e = absurd (let k = ap kind_of e in omega (arith, k))

-- places of places
abbrev pub all_at : List ℕ → List ℕ → List ℕ
all_at new places = map (at new) places

renumbered_twice : (new places : List ℕ) (x : Tight) → IsBelow (length places) x
    → renumbered (all_at new places) x ≡ renumbered new (renumbered places x)
renumbered_twice new places (Row i) b = refl
renumbered_twice new places (Upper j) b = refl
renumbered_twice new places (Lower j) b = refl
renumbered_twice new places (Cut k) b = ap Cut (get_or-map (at new) places k 0 0 b)

renumbered_below : (n : ℕ) (places : List ℕ) → All (λ k. k < n) places → (x : Tight) → IsBelow (length places) x
    → IsBelow n (renumbered places x)
renumbered_below n places each (Row i) b = tt
renumbered_below n places each (Upper j) b = tt
renumbered_below n places each (Lower j) b = tt
renumbered_below n places each (Cut k) b = each k 0 b

-- where k stands among places
abbrev place_among : List ℕ → ℕ → ℕ
place_among [] k = 0
place_among (q ∷ places) k = cond (nat_eq q k) 0 (suc (place_among places k))

among_at : (places : List ℕ) (k e : ℕ) → e < length places → at places e ≡ k
    → (place_among places k < length places) × (at places (place_among places k) ≡ k)
among_at [] k e b is = absurd (omega arith)
among_at (q ∷ places) k zero b is =
    let it : nat_eq q k ≡ true = grind (arith, nat_tests) in
    let here : place_among (q ∷ places) k ≡ 0 = ap (λ t. cond t 0 (suc (place_among places k))) it in
    subst (λ (i : ℕ). (i < suc (length places)) × (at (q ∷ places) i ≡ k)) (sym here) (omega arith, is)
among_at (q ∷ places) k (suc e) b is =
    by (nat_eq q k) refl (among_at places k e (omega arith) is)
  where
    by : (t : Bool) → nat_eq q k ≡ t → (place_among places k < length places) × (at places (place_among places k) ≡ k)
        → (cond t 0 (suc (place_among places k)) < suc (length places))
        × (at (q ∷ places) (cond t 0 (suc (place_among places k))) ≡ k)
    by true it rest = (omega arith, let i : q ≡ k = grind (arith, nat_tests) in i)
    by false it rest = (omega (arith, rest.0), rest.1)

-- the items with their places taken back
abbrev taken_back : List ℕ → Tight → Tight
taken_back places (Row i) = Row i
taken_back places (Upper j) = Upper j
taken_back places (Lower j) = Lower j
taken_back places (Cut q) = Cut (place_among places q)

back_again : (n : ℕ) (places : List ℕ) → length places ≡ n → ArePlacesApart n places → (x : Tight) → IsBelow n x
    → taken_back places (renumbered places x) ≡ x
back_again n places l apart (Row i) b = refl
back_again n places l apart (Upper j) b = refl
back_again n places l apart (Lower j) b = refl
back_again n places l apart (Cut k) b =
    let found = among_at places (at places k) k (omega arith) refl in
    ap Cut (apart (place_among places (at places k)) k (omega (arith, found.0)) b found.1)

-- ---- steps with other places

abbrev step_by : (Tight → Tight) → CutStep → CutStep
step_by f s = record { area = s.area; parts = moved_by f s.parts; row = s.row }

abbrev with_parts : CutStep → CutParts → CutStep
with_parts s x = record { area = s.area; parts = x; row = s.row }

-- a step that is in order with places is so with the places that these get, and has these places
pub record IsMovedOn (places new : List ℕ) (s : CutStep) : Type 0 where
  pub same : moved_step (all_at new places) s ≡ moved_step new (moved_step places s)
  pub order : AreInOrder (moved_step (all_at new places) s).parts.tight

pub moved_on : (n : ℕ) (places new : List ℕ) (s : CutStep) → IsClearStep (length places) s → All (λ k. k < n) places
    → ArePlacesApart n new → AreInOrder (moved_step places s).parts.tight → IsMovedOn places new s
moved_on n places new s clear each apart order =
    let f = renumbered places in
    let g = renumbered new in
    let keeps = keeps_apart n new apart in
    let images : All (λ x. IsBelow n (f x)) s.parts.tight =
    All-weaker (IsBelow (length places)) (λ x. IsBelow n (f x)) (renumbered_below n places each) s.parts.tight
    clear.below in
    let alike : moved_by (renumbered (all_at new places)) s.parts ≡ moved_by (λ x. g (f x)) s.parts =
    moved_alike (renumbered (all_at new places)) (λ x. g (f x)) s.parts
    (All-weaker (IsBelow (length places)) (λ x. renumbered (all_at new places) x ≡ g (f x))
    (renumbered_twice new places) s.parts.tight clear.below) in
    let twice = moved_twice f g s.parts (moved_clear (IsBelow n) f g s.parts keeps images order) in
    let parts : moved_by (renumbered (all_at new places)) s.parts ≡ moved_by g (moved_by f s.parts) =
    alike ∙ sym twice in
    let same : moved_step (all_at new places) s ≡ moved_step new (moved_step places s) =
    ap (with_parts s) parts in
    record {
      same = same;
      order =
          subst (λ (x : CutParts). AreInOrder x.tight) (sym parts)
          (moved_order (IsBelow n) g (moved_by f s.parts) keeps (moved_all (IsBelow n) f s.parts images) order);
    }

-- a place that has been given
abbrev IsGiven : List ℕ → Tight → Type 0
IsGiven new y = renumbered new (taken_back new y) ≡ y

given_apart : (new : List ℕ) → KeepsApart (IsGiven new) (taken_back new)
given_apart new x y g h f = sym g ∙ ap (renumbered new) f ∙ h

-- a step with its new places taken back
step_back : (n : ℕ) (new : List ℕ) (s : CutStep) → length new ≡ n → ArePlacesApart n new → IsClearStep n s
    → step_by (taken_back new) (moved_step new s) ≡ s
step_back n new s l apart clear =
    let again = back_again n new l apart in
    let images : All (λ x. IsGiven new (renumbered new x)) s.parts.tight =
    All-weaker (IsBelow n) (λ x. IsGiven new (renumbered new x)) (λ x b. ap (renumbered new) (again x b)) s.parts.tight
    clear.below in
    let order = moved_order (IsBelow n) (renumbered new) s.parts (keeps_apart n new apart) clear.below clear.order in
    let twice =
    moved_twice (renumbered new) (taken_back new) s.parts
    (moved_clear (IsGiven new) (renumbered new) (taken_back new) s.parts (given_apart new) images order) in
    let alike =
    moved_alike (λ x. taken_back new (renumbered new x)) itself s.parts
    (All-weaker (IsBelow n) (λ x. taken_back new (renumbered new x) ≡ x) again s.parts.tight clear.below) in
    ap (with_parts s) (twice ∙ alike ∙ moved_itself s.parts clear.order clear.units)

-- steps that are one with their new places are one
pub moved_apart : (n : ℕ) (new : List ℕ) (s t : CutStep) → length new ≡ n → ArePlacesApart n new → IsClearStep n s
    → IsClearStep n t → moved_step new s ≡ moved_step new t → s ≡ t
moved_apart n new s t l apart clear clear' e =
    sym (step_back n new s l apart clear) ∙ ap (step_by (taken_back new)) e ∙ step_back n new t l apart clear'

-- a step with more places
pub moved_longer : (n : ℕ) (old new : List ℕ) (s : CutStep) → ((k : ℕ) → k < n → at new k ≡ at old k)
    → IsClearStep n s → moved_step new s ≡ moved_step old s
moved_longer n old new s same clear =
    ap (with_parts s)
    (moved_alike (renumbered new) (renumbered old) s.parts
    (All-weaker (IsBelow n) (λ x. renumbered new x ≡ renumbered old x) (longer n old new same) s.parts.tight
    clear.below))
  where
    longer : (m : ℕ) (ks js : List ℕ) → ((k : ℕ) → k < m → at js k ≡ at ks k) → (x : Tight) → IsBelow m x
        → renumbered js x ≡ renumbered ks x
    longer m ks js h (Row i) b = refl
    longer m ks js h (Upper j) b = refl
    longer m ks js h (Lower j) b = refl
    longer m ks js h (Cut k) b = ap Cut (h k b)

-- ---- lists of steps, each once

abbrev pub AreDistinct : List CutStep → Type 0
AreDistinct steps = (i j : ℕ) → i < length steps → j < length steps → step_at steps i ≡ step_at steps j → i ≡ j

-- a step that stands in the list is found
pub place_found : (steps : List CutStep) (s : CutStep) (k : ℕ) → k < length steps → step_at steps k ≡ s
    → (place_in steps s < length steps) × (step_at steps (place_in steps s) ≡ s)
place_found [] s k b is = absurd (omega arith)
place_found (t ∷ steps) s zero b is =
    let it : same_step t s ≡ true = (Decides-step t s).1 is in
    let here : place_in (t ∷ steps) s ≡ 0 = ap (λ r. cond r 0 (suc (place_in steps s))) it in
    subst (λ (i : ℕ). (i < suc (length steps)) × (step_at (t ∷ steps) i ≡ s)) (sym here) (omega arith, is)
place_found (t ∷ steps) s (suc k) b is =
    by (same_step t s) refl (place_found steps s k (omega arith) is)
  where
    by : (r : Bool) → same_step t s ≡ r
        → (place_in steps s < length steps) × (step_at steps (place_in steps s) ≡ s)
        → (cond r 0 (suc (place_in steps s)) < suc (length steps))
        × (step_at (t ∷ steps) (cond r 0 (suc (place_in steps s))) ≡ s)
    by true it rest = (omega arith, (Decides-step t s).0 it)
    by false it rest = (omega (arith, rest.0), rest.1)

pub place_is : (steps : List CutStep) (s : CutStep) (k : ℕ) → AreDistinct steps → k < length steps
    → step_at steps k ≡ s → place_in steps s ≡ k
place_is steps s k distinct b is =
    let found = place_found steps s k b is in
    distinct (place_in steps s) k found.0 b (found.1 ∙ sym is)

-- the list with a step that it has, and with one that it hasn't
pub with_old : (steps : List CutStep) (s : CutStep) → place_in steps s < length steps → with_step steps s ≡ steps
with_old steps s b =
    ap (λ r. cond r steps (steps ++ s ∷ [])) ((Decides-ltb (place_in steps s) (length steps)).1 b)

pub with_new : (steps : List CutStep) (s : CutStep) → length steps ≤ place_in steps s
    → with_step steps s ≡ steps ++ s ∷ []
with_new steps s b =
    ap (λ r. cond r steps (steps ++ s ∷ []))
    (false_from_ne_true (nat_lt (place_in steps s) (length steps))
    (λ e. let c = (Decides-ltb (place_in steps s) (length steps)).0 e in omega arith))

pub place_end : (steps : List CutStep) (s : CutStep) → place_in steps s ≤ length steps
place_end [] s = omega arith
place_end (t ∷ steps) s = by (same_step t s) (place_end steps s)
  where
    by : (r : Bool) → place_in steps s ≤ length steps → cond r 0 (suc (place_in steps s)) ≤ suc (length steps)
    by true rest = omega arith
    by false rest = omega arith

-- it has each step once
distinct_push : (steps : List CutStep) (s : CutStep) → AreDistinct steps → length steps ≤ place_in steps s
    → AreDistinct (steps ++ s ∷ [])
distinct_push steps s distinct absent i j b c e =
    let l = length_push steps s in
    elim (cases_lt i (length steps)) [
      | inl old ↦ elim (cases_lt j (length steps)) [
        | inl old' ↦ distinct i j old old' (sym (before i old) ∙ e ∙ before j old')
        | inr new' ↦ absurd (never i old (sym (before i old) ∙ e ∙ last j (omega arith)))
      ]
      | inr new ↦ elim (cases_lt j (length steps)) [
        | inl old' ↦ absurd (never j old' (sym (before j old') ∙ sym e ∙ last i (omega arith)))
        | inr new' ↦ omega arith
      ]
    ]
  where
    before : (k : ℕ) → k < length steps → step_at (steps ++ s ∷ []) k ≡ step_at steps k
    before k old = get_or_append_left steps (s ∷ []) no_step k old

    last : (k : ℕ) → k ≡ length steps → step_at (steps ++ s ∷ []) k ≡ s
    last k end = ap (step_at (steps ++ s ∷ [])) end ∙ get_or-append_seam steps s [] no_step

    never : (k : ℕ) → k < length steps → step_at steps k ≡ s → ⊥
    never k old is = let found = place_found steps s k old is in omega (arith, found.0)

pub distinct_with : (steps : List CutStep) (s : CutStep) → AreDistinct steps → AreDistinct (with_step steps s)
distinct_with steps s distinct = elim (cases_lt (place_in steps s) (length steps)) [
  | inl b ↦ subst AreDistinct (sym (with_old steps s b)) distinct
  | inr b ↦ subst AreDistinct (sym (with_new steps s b)) (distinct_push steps s distinct b)
]
