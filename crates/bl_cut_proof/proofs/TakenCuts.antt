-- The cuts that a new cut uses can be taken over: each of them stands alone. Where no two rows that it adds up are
-- equal, their steps get different places, and so the new cut has its steps.
use Rattle.std.proofs.Common.{◌≡◌, ℕ, suc, ◌+◌, ◌<◌, refl, sym, ◌∙◌, ap, subst, arith, Bool, true, false, cond}
use Rattle.std.proofs.Common.{List, [], ◌∷◌, ◌++◌, length, Option, Some, None}
use Rattle.std.specs.Prelude.{All, IsTrue, IsSome}
use Rattle.std.proofs.lemmas.Int.{ints}
use Rattle.std.proofs.lemmas.Bool.{false≢true, true≢false}
use Rattle.std.proofs.lemmas.List.{get_or-map, get_or_default}
use Rattle.bl_terms.specs.Points.{Area, Linear}
use Rattle.bl_terms.specs.Programs.{Program, columns}
use Rattle.bl_terms.specs.Bounds.{linear_at, no_linear}
use Rattle.bl_cut_terms.specs.declared.parts.Tight.{Tight}
use Rattle.bl_cut_terms.specs.declared.parts.Tight.TheVariants.{Row, Upper, Lower, Cut}
use Rattle.bl_cut_terms.specs.declared.parts.CutParts.{CutParts}
use Rattle.bl_cut_terms.specs.NoGoods.{LocalRow, local_row, local_row_at, kind_of, place_of, IsThere, AreInOrder}
use Rattle.bl_cut_terms.specs.NoGoods.{IsUnit, CutStep, AreCutSteps, NoGoodCut, step_at, tight_row, tight_rows}
use Rattle.bl_cut_terms.specs.Adopting.{renumbered, item_at, moved_parts, are_in_order, Adopted, adopt, adopt_cut}
use Rattle.bl_cut_terms.specs.Adopting.{last_place, noted, adopt_cuts, is_used, own_step, with_own, steps_of}
use Rattle.bl_cut_terms.specs.Adopting.{StandsAlone}
use Rattle.bl_cut.specs.Cuts.{cut_at, no_cut}
use Rattle.bl_cut_proof.specs.declared.fault.CutFault.{CutFault}
use Rattle.bl_cut_proof.specs.declared.fault.CutFault.TheVariants.{Size, Inverse, Tight as TightFault, Response, Memory}
use Rattle.bl_cut_proof.specs.Proving.{local_rows}
use Rattle.bl_cut_proof.specs.Faults.{AreShown, IsSizeFault}
use Rattle.bl_cut_proof.specs.Rows.{IsSized}
use Rattle.bl_cut_proof.proofs.AdoptLemmas.{Decides-order, IsNoted, UsedAreShown, adopt_cuts_shown, used_here}
use Rattle.bl_cut_proof.proofs.Followings.{follow_adopt}
use Rattle.bl_cut_proof.proofs.Moves.{moved_order}
use Rattle.bl_cut_proof.proofs.ProveLemmas.{used_shown}
use Rattle.bl_cut_proof.proofs.Ranks.{rows_apart}
use Rattle.bl_cut_proof.proofs.Sorting.{KeepsApart}
use Rattle.bl_cut_proof.proofs.TakenSteps.{at, all_at, AreDistinct}

-- ---- one cut

-- a result that is there, in a list with each step once
pub record Succeeds (o : Option Adopted) : Type 0 where
  pub result : Adopted
  pub is : o ≡ Some result
  pub distinct : AreDistinct result.steps

-- a cut that alone can be taken over
record IsAlone (c : NoGoodCut) : Type 0 where
  result : Adopted
  is : adopt (record { steps = []; places = [] }) c.steps ≡ Some result

alone_cut : (c : NoGoodCut) → StandsAlone c → IsAlone c
alone_cut c alone = by (adopt (record { steps = []; places = [] }) c.steps) refl alone
  where
    by : (o : Option Adopted) → adopt (record { steps = []; places = [] }) c.steps ≡ o → IsSome (noted [] o) → IsAlone c
    by None is h = absurd (false≢true h)
    by (Some d) is h = record { result = d; is = is }

-- it can be taken over into each list
pub cut_succeeds : (p : Program) (c : NoGoodCut) (steps : List CutStep) (places : List ℕ) → AreCutSteps p [] c.steps
    → StandsAlone c → AreDistinct steps → Succeeds (adopt_cut (record { steps = steps; places = places }) c)
cut_succeeds p c steps places shown alone distinct =
    let own = alone_cut c alone in
    let start : Adopted = record { steps = []; places = [] } in
    let taken =
    follow_adopt p c.steps [] start own.result steps [] shown
    (record { steps = tt; count = refl; placed = λ k l. absurd (omega arith) })
    (record {
      shown = tt;
      count = refl;
      below = λ i k. absurd (omega arith);
      same = λ i k. absurd (omega arith);
      apart = λ i j k l m. absurd (omega arith);
      distinct = distinct;
    }) own.is in
    record {
      result = record {
        steps = taken.further;
        places = places ++ last_place (all_at taken.more own.result.places) ∷ [];
      };
      is = ap (noted places) taken.is;
      distinct = taken.follows.distinct;
    }

-- ---- all cuts that are used

abbrev UsedAreAlone : Program → List Tight → ℕ → List NoGoodCut → Type 0
UsedAreAlone p tight k cuts =
    (j : ℕ) → j < length cuts → IsTrue (is_used (k + j) tight)
    → AreCutSteps p [] (cut_at cuts j).steps × StandsAlone (cut_at cuts j)

alone_tail : (p : Program) (tight : List Tight) (k : ℕ) (c : NoGoodCut) (cuts : List NoGoodCut)
    → UsedAreAlone p tight k (c ∷ cuts) → UsedAreAlone p tight (suc k) cuts
alone_tail p tight k c cuts h j b used =
    let e : suc k + j ≡ k + suc j = omega arith in
    h (suc j) (omega arith) (subst (λ (i : ℕ). IsTrue (is_used i tight)) e used)

cuts_succeed : (p : Program) (tight : List Tight) (cuts : List NoGoodCut) (k : ℕ) (steps : List CutStep)
    (places : List ℕ) → UsedAreAlone p tight k cuts → AreDistinct steps
    → Succeeds (adopt_cuts tight k cuts (Some (record { steps = steps; places = places })))
cuts_succeed p tight [] k steps places used distinct =
    record { result = record { steps = steps; places = places }; is = refl; distinct = distinct }
cuts_succeed p tight (c ∷ cuts) k steps places used distinct =
    by (is_used k tight) refl
    (λ s q d. cuts_succeed p tight cuts (suc k) s q (alone_tail p tight k c cuts used) d)
  where
    by : (r : Bool) → is_used k tight ≡ r
        → ((s : List CutStep) (q : List ℕ) → AreDistinct s
        → Succeeds (adopt_cuts tight (suc k) cuts (Some (record { steps = s; places = q }))))
        → Succeeds (adopt_cuts tight (suc k) cuts (cond r (adopt_cut (record { steps = steps; places = places }) c)
        (Some (record { steps = steps; places = places ++ 0 ∷ [] }))))
    by true is rest =
        let here : k + 0 ≡ k = omega arith in
        let own = used 0 (omega arith) (subst (λ (i : ℕ). IsTrue (is_used i tight)) (sym here) is) in
        let one = cut_succeeds p c steps places own.0 own.1 distinct in
        subst (λ (o : Option Adopted). Succeeds (adopt_cuts tight (suc k) cuts o)) (sym one.is)
        (rest one.result.steps one.result.places one.distinct)
    by false is rest = rest steps (places ++ 0 ∷ []) distinct

-- ---- the order of the items with their new places

-- an item stands among the items
record Stands (tight : List Tight) (x : Tight) : Type 0 where
  place : ℕ
  below : place < length tight
  is : item_at tight place ≡ x

-- rows of items at different places are different
abbrev pub AreRowsApart : Program → Area → List LocalRow → List Tight → Type 0
AreRowsApart p a earlier tight =
    (i j : ℕ) → i < length tight → j < length tight
    → linear_at (tight_rows p a earlier tight) i ≡ linear_at (tight_rows p a earlier tight) j → i ≡ j

row_there : (p : Program) (a : Area) (earlier : List LocalRow) (tight : List Tight) (x : Tight) → (s : Stands tight x)
    → linear_at (tight_rows p a earlier tight) s.place ≡ tight_row p a earlier x
row_there p a earlier tight x s =
    get_or-map (tight_row p a earlier) tight s.place (Row 0) no_linear s.below ∙ ap (tight_row p a earlier) s.is

-- two cuts among the items whose steps get one place are one
one_place : (p : Program) (a : Area) (earlier : List LocalRow) (tight : List Tight) (b : Adopted)
    → IsNoted p tight earlier b → All (IsThere p a earlier) tight → AreRowsApart p a earlier tight → (i j : ℕ)
    → Stands tight (Cut i) → Stands tight (Cut j) → at b.places i ≡ at b.places j → Cut i ≡ Cut j
one_place p a earlier tight b g there apart i j s t e =
    let inside : (k : ℕ) → (u : Stands tight (Cut k)) → IsThere p a earlier (Cut k) =
    λ k u. subst (IsThere p a earlier) u.is (there u.place (Row 0) u.below) in
    let first = g.placed i (inside i s).0 (used_here tight s.place i s.below s.is) in
    let second = g.placed j (inside j t).0 (used_here tight t.place j t.below t.is) in
    let rows : local_row_at earlier i ≡ local_row_at earlier j =
    sym first.1 ∙ ap (λ k. local_row (step_at b.steps k)) e ∙ second.1 in
    let same : s.place ≡ t.place =
    apart s.place t.place s.below t.below
    (row_there p a earlier tight (Cut i) s ∙ ap (λ (r : LocalRow). r.row) rows
    ∙ sym (row_there p a earlier tight (Cut j) t)) in
    sym s.is ∙ ap (item_at tight) same ∙ t.is

stay_apart : (p : Program) (a : Area) (earlier : List LocalRow) (tight : List Tight) (b : Adopted)
    → IsNoted p tight earlier b → All (IsThere p a earlier) tight → AreRowsApart p a earlier tight
    → KeepsApart (Stands tight) (renumbered b.places)
stay_apart p a earlier tight b g there apart (Row i) (Row j) s t e = e
stay_apart p a earlier tight b g there apart (Upper i) (Upper j) s t e = e
stay_apart p a earlier tight b g there apart (Lower i) (Lower j) s t e = e
stay_apart p a earlier tight b g there apart (Cut i) (Cut j) s t e =
    one_place p a earlier tight b g there apart i j s t (ap place_of e)
stay_apart p a earlier tight b g there apart (Row i) (Upper j) s t e =
    absurd (let k = ap kind_of e in omega (arith, k))
stay_apart p a earlier tight b g there apart (Row i) (Lower j) s t e =
    absurd (let k = ap kind_of e in omega (arith, k))
stay_apart p a earlier tight b g there apart (Row i) (Cut j) s t e = absurd (let k = ap kind_of e in omega (arith, k))
stay_apart p a earlier tight b g there apart (Upper i) (Row j) s t e =
    absurd (let k = ap kind_of e in omega (arith, k))
stay_apart p a earlier tight b g there apart (Upper i) (Lower j) s t e =
    absurd (let k = ap kind_of e in omega (arith, k))
stay_apart p a earlier tight b g there apart (Upper i) (Cut j) s t e =
    absurd (let k = ap kind_of e in omega (arith, k))
stay_apart p a earlier tight b g there apart (Lower i) (Row j) s t e =
    absurd (let k = ap kind_of e in omega (arith, k))
stay_apart p a earlier tight b g there apart (Lower i) (Upper j) s t e =
    absurd (let k = ap kind_of e in omega (arith, k))
stay_apart p a earlier tight b g there apart (Lower i) (Cut j) s t e =
    absurd (let k = ap kind_of e in omega (arith, k))
stay_apart p a earlier tight b g there apart (Cut i) (Row j) s t e = absurd (let k = ap kind_of e in omega (arith, k))
stay_apart p a earlier tight b g there apart (Cut i) (Upper j) s t e =
    absurd (let k = ap kind_of e in omega (arith, k))
stay_apart p a earlier tight b g there apart (Cut i) (Lower j) s t e =
    absurd (let k = ap kind_of e in omega (arith, k))

each_stands : (tight : List Tight) → All (Stands tight) tight
each_stands tight k d b = record { place = k; below = b; is = sym (get_or_default tight k d (Row 0) b) }

-- ---- the steps of the new cut

own_steps : (p : Program) (a : Area) (earlier : List NoGoodCut) (parts : CutParts) (b : Adopted)
    → AreInOrder (moved_parts b.places parts).tight → with_own p a earlier parts (Some b) ≡ None → ⊥
own_steps p a earlier parts b order = by (are_in_order (moved_parts b.places parts).tight) refl
  where
    by : (r : Bool) → are_in_order (moved_parts b.places parts).tight ≡ r
        → cond r (Some (b.steps ++ own_step p a earlier parts b.places ∷ [])) None ≡ None → ⊥
    by true is h = cc
    by false is h = true≢false (sym ((Decides-order (moved_parts b.places parts).tight).1 order) ∙ is)

-- a cut of rows that differ has its steps
pub steps_are_there : (p : Program) (a : Area) (earlier : List NoGoodCut) (parts : CutParts)
    → UsedAreShown p parts.tight 0 earlier → UsedAreAlone p parts.tight 0 earlier
    → All (IsThere p a (local_rows earlier)) parts.tight → AreInOrder parts.tight
    → AreRowsApart p a (local_rows earlier) parts.tight → steps_of p a earlier parts ≡ None → ⊥
steps_are_there p a earlier parts used alone there order apart none =
    let start : Adopted = record { steps = []; places = [] } in
    let taken = cuts_succeed p parts.tight earlier 0 [] [] alone (λ i j k l m. absurd (omega arith)) in
    let b = taken.result in
    let g = adopt_cuts_shown p parts.tight earlier 0 [] start b refl used
    (record { steps = tt; count = refl; placed = λ k l. absurd (omega arith) }) taken.is in
    let moved : AreInOrder (moved_parts b.places parts).tight =
    moved_order (Stands parts.tight) (renumbered b.places) parts
    (stay_apart p a (local_rows earlier) parts.tight b g there apart) (each_stands parts.tight) order in
    own_steps p a earlier parts b moved (ap (with_own p a earlier parts) (sym taken.is) ∙ none)

-- as it has where it adds up as many rows as there are columns
pub square_steps : (p : Program) (a : Area) (earlier : List NoGoodCut) (parts : CutParts) (rows : List Linear)
    (row : Linear) → IsSized p a earlier parts rows row
    → AreShown p (tight_rows p a (local_rows earlier) parts.tight) parts → length parts.tight ≡ columns p
    → steps_of p a earlier parts ≡ None → ⊥
square_steps p a earlier parts rows row s shown square =
    let used = used_shown p earlier parts.tight s.cuts s.models in
    let alone : UsedAreAlone p parts.tight 0 earlier =
    λ j b u. let here : 0 + j ≡ j = omega arith in ((used j b u).0, (s.cuts.proved j no_cut b).alone) in
    let units : All (IsUnit (columns p)) parts.units =
    subst (λ (n : ℕ). All (IsUnit n) parts.units) square s.size.units in
    let apart : AreRowsApart p a (local_rows earlier) parts.tight =
    λ i j b c e.
    rows_apart (columns p) (tight_rows p a (local_rows earlier) parts.tight) parts.den parts.units shown.inverse
    (λ z. let l = s.size.den_least in omega (arith, ints)) s.size.units_count units i j (omega arith) (omega arith)
    (ap (λ (r : Linear). r.coef) e) in
    steps_are_there p a earlier parts used alone s.size.there s.size.order apart

-- so that the one fault of its steps is want of memory
pub steps_lack_memory : (p : Program) (a : Area) (earlier : List NoGoodCut) (parts : CutParts) (rows : List Linear)
    (row : Linear) → IsSized p a earlier parts rows row
    → AreShown p (tight_rows p a (local_rows earlier) parts.tight) parts → length parts.tight ≡ columns p
    → (f : CutFault) → IsSizeFault ((q : Program) → steps_of q a earlier parts ≡ None) f → f ≡ Memory
steps_lack_memory p a earlier parts rows row s shown square Size h =
    absurd (square_steps p a earlier parts rows row s shown square (h p))
steps_lack_memory p a earlier parts rows row s shown square Inverse h = absurd h
steps_lack_memory p a earlier parts rows row s shown square TightFault h = absurd h
steps_lack_memory p a earlier parts rows row s shown square Response h = absurd h
steps_lack_memory p a earlier parts rows row s shown square Memory h = refl
