-- Items that are chosen among others, and their order.
use Rattle.std.proofs.Common.{◌≡◌, ℕ, zero, suc, ◌+◌, ◌<◌, ◌≤◌, List, [], ◌∷◌, ◌++◌, length, map, take, refl, sym, ap}
use Rattle.std.proofs.Common.{subst, ◌∙◌, inl, inr, arith}
use Rattle.std.specs.Prelude.{All, slice_index_or}
use Rattle.std.specs.List.{range_with_len}
use Rattle.std.proofs.lemmas.List.{take_more}
use Rattle.std.proofs.lemmas.List.Elements.{All-nil, All-cons, All-head, All-tail, All-same, All-append, All-map}
use Rattle.std.proofs.lemmas.List.Elements.{All-weaker}
use Rattle.std.proofs.lemmas.List.FromFn.{length-range_with_len, get_or-range_with_len}
use Rattle.bl_terms.specs.Programs.{Program, columns}
use Rattle.bl_cut_terms.specs.declared.parts.Tight.{Tight}
use Rattle.bl_cut_terms.specs.declared.parts.Tight.TheVariants.{Row, Upper, Lower, Cut}
use Rattle.bl_cut_terms.specs.NoGoods.{NoGoodCut, IsBefore, AreInOrder, kind_of}
use Rattle.bl_elimination.specs.Inverses.{RiseFrom}
use Rattle.bl_cut_terms.specs.Adopting.{item_at}
use Rattle.bl_nogood.specs.Candidates.{AreChosen, all_items}
use Rattle.bl_nogood.specs.Choosing.{placed}

-- ---- one item more

chosen_more : (P : Tight → Type 0) (items chosen : List Tight) (x : Tight) → P x → AreChosen P items chosen
    → AreChosen P (items ++ x ∷ []) (chosen ++ x ∷ [])
chosen_more P [] [] x h c = inl (refl, h, refl)
chosen_more P [] (y ∷ chosen) x h c = absurd cc
chosen_more P (z ∷ items) [] x h c = inr (c.0, chosen_more P items [] x h c.1)
chosen_more P (z ∷ items) (y ∷ chosen) x h c =
    elim c [
      | inl t ↦ inl (t.0, t.1, chosen_more P items chosen x h t.2)
      | inr t ↦ inr (t.0, chosen_more P items (y ∷ chosen) x h t.1)
    ]

chosen_same : (P : Tight → Type 0) (items chosen : List Tight) (x : Tight) → ¬ P x → AreChosen P items chosen
    → AreChosen P (items ++ x ∷ []) chosen
chosen_same P [] [] x left c = (left, refl)
chosen_same P [] (y ∷ chosen) x left c = absurd cc
chosen_same P (z ∷ items) [] x left c = (c.0, chosen_same P items [] x left c.1)
chosen_same P (z ∷ items) (y ∷ chosen) x left c =
    elim c [
      | inl t ↦ inl (t.0, t.1, chosen_same P items chosen x left t.2)
      | inr t ↦ inr (t.0, chosen_same P items (y ∷ chosen) x left t.1)
    ]

one_more : (items : List Tight) (i : ℕ) (d x : Tight) → i < length items → x ≡ slice_index_or items i d
    → take i items ++ x ∷ [] ≡ take (i + 1) items
one_more items i d x b at = ap (λ y. take i items ++ y ∷ []) at ∙ sym (take_more items i d b)

pub next_chosen : (P : Tight → Type 0) (items chosen new : List Tight) (i : ℕ) (d x : Tight) → i < length items
    → x ≡ slice_index_or items i d → P x → AreChosen P (take i items) chosen → new ≡ chosen ++ x ∷ []
    → AreChosen P (take (i + 1) items) new
next_chosen P items chosen new i d x b at h c e =
    subst (AreChosen P (take (i + 1) items)) (sym e) (subst (λ (l : List Tight). AreChosen P l (chosen ++ x ∷ []))
    (one_more items i d x b at) (chosen_more P (take i items) chosen x h c))

pub next_left : (P : Tight → Type 0) (items chosen : List Tight) (i : ℕ) (d x : Tight) → i < length items
    → x ≡ slice_index_or items i d → ¬ P x → AreChosen P (take i items) chosen → AreChosen P (take (i + 1) items) chosen
next_left P items chosen i d x b at left c =
    subst (λ (l : List Tight). AreChosen P l chosen) (one_more items i d x b at)
    (chosen_same P (take i items) chosen x left c)

-- ---- what holds of the chosen

pub chosen_hold : (P : Tight → Type 0) (items chosen : List Tight) → AreChosen P items chosen → All P chosen
chosen_hold P [] chosen c = All-same P chosen [] c (All-nil P)
chosen_hold P (x ∷ items) [] c = All-nil P
chosen_hold P (x ∷ items) (y ∷ chosen) c =
    elim c [
      | inl t ↦ All-cons P y chosen (subst P t.0 t.1) (chosen_hold P items chosen t.2)
      | inr t ↦ chosen_hold P items (y ∷ chosen) t.1
    ]

chosen_all : (P Q : Tight → Type 0) (items chosen : List Tight) → AreChosen P items chosen → All Q items → All Q chosen
chosen_all P Q [] chosen c h = All-same Q chosen [] c (All-nil Q)
chosen_all P Q (x ∷ items) [] c h = All-nil Q
chosen_all P Q (x ∷ items) (y ∷ chosen) c h =
    elim c [
      | inl t ↦ All-cons Q y chosen (subst Q t.0 (All-head Q x items h))
          (chosen_all P Q items chosen t.2 (All-tail Q x items h))
      | inr t ↦ chosen_all P Q items (y ∷ chosen) t.1 (All-tail Q x items h)
    ]

-- ---- order

-- each item stands before all later ones
abbrev pub AreSorted : List Tight → Type 0
AreSorted [] = Unit {0}
AreSorted (x ∷ items) = All (IsBefore x) items × AreSorted items

chosen_sorted : (P : Tight → Type 0) (items chosen : List Tight) → AreChosen P items chosen → AreSorted items
    → AreSorted chosen
chosen_sorted P [] chosen c s = subst AreSorted (sym c) tt
chosen_sorted P (x ∷ items) [] c s = tt
chosen_sorted P (x ∷ items) (y ∷ chosen) c s =
    elim c [
      | inl t ↦ (
        subst (λ (v : Tight). All (IsBefore v) chosen) t.0 (chosen_all P (IsBefore x) items chosen t.2 s.0),
        chosen_sorted P items chosen t.2 s.1,
      )
      | inr t ↦ chosen_sorted P items (y ∷ chosen) t.1 s.1
    ]

sorted-append : (xs ys : List Tight) → AreSorted xs → AreSorted ys → All (λ x. All (IsBefore x) ys) xs
    → AreSorted (xs ++ ys)
sorted-append [] ys s t h = t
sorted-append (x ∷ xs) ys s t h =
    let B : Tight → Type 0 = λ v. All (IsBefore v) ys in (
      All-append (IsBefore x) xs ys s.0 (All-head B x xs h),
      sorted-append xs ys s.1 t (All-tail B x xs h),
    )

range_sorted : (f : ℕ → Tight) (a n : ℕ) → ((i j : ℕ) → i < j → IsBefore (f i) (f j))
    → AreSorted (map f (range_with_len a n))
range_sorted f a zero h = tt
range_sorted f a (suc n) h = (
  All-map (IsBefore (f a)) f (range_with_len (a + 1) n)
      (λ k d b. let l = length-range_with_len (a + 1) n in
      let at = get_or-range_with_len (a + 1) n k d (omega (arith, b, l)) in
      subst (λ (v : ℕ). IsBefore (f a) (f v)) (sym at) (h a (a + 1 + k) (omega arith))),
  range_sorted f (a + 1) n h,
)

-- kinds below n, and kinds from n on
abbrev AreBelow : ℕ → List Tight → Type 0
AreBelow n xs = All (λ x. kind_of x < n) xs

abbrev AreFrom : ℕ → List Tight → Type 0
AreFrom n ys = All (λ y. n ≤ kind_of y) ys

before_kinds : (n : ℕ) (xs ys : List Tight) → AreBelow n xs → AreFrom n ys → All (λ x. All (IsBefore x) ys) xs
before_kinds n xs ys h g = λ k d b. λ j e b'. inl (omega (arith, h k d b, g j e b'))

pub all_sorted : (p : Program) (earlier : List NoGoodCut) → AreSorted (all_items p earlier)
all_sorted p earlier =
    let row : ℕ → Tight = λ i. Row i in
    let upper : ℕ → Tight = λ j. Upper j in
    let lower : ℕ → Tight = λ j. Lower j in
    let cut : ℕ → Tight = λ k. Cut k in
    let m = range_with_len 0 (length p.rows) in
    let n = range_with_len 0 (columns p) in
    let e = range_with_len 0 (length earlier) in
    let rows = range_sorted row 0 (length p.rows) (λ i j b. inr (refl, b)) in
    let uppers = range_sorted upper 0 (columns p) (λ i j b. inr (refl, b)) in
    let lowers = range_sorted lower 0 (columns p) (λ i j b. inr (refl, b)) in
    let cuts = range_sorted cut 0 (length earlier) (λ i j b. inr (refl, b)) in
    let sides : AreSorted (map row m ++ map upper n) =
    sorted-append (map row m) (map upper n) rows uppers
    (before_kinds 1 (map row m) (map upper n) (All-map (λ x. kind_of x < 1) row m (λ k d b. omega arith))
    (All-map (λ x. 1 ≤ kind_of x) upper n (λ k d b. omega arith))) in
    let both : AreSorted (map row m ++ map upper n ++ map lower n) =
    sorted-append (map row m ++ map upper n) (map lower n) sides lowers
    (before_kinds 2 (map row m ++ map upper n) (map lower n) (All-append (λ x. kind_of x < 2) (map row m) (map upper n)
    (All-map (λ x. kind_of x < 2) row m (λ k d b. omega arith))
    (All-map (λ x. kind_of x < 2) upper n (λ k d b. omega arith)))
    (All-map (λ x. 2 ≤ kind_of x) lower n (λ k d b. omega arith))) in
    sorted-append (map row m ++ map upper n ++ map lower n) (map cut e) both cuts
    (before_kinds 3 (map row m ++ map upper n ++ map lower n) (map cut e)
    (All-append (λ x. kind_of x < 3) (map row m ++ map upper n) (map lower n)
    (All-append (λ x. kind_of x < 3) (map row m) (map upper n)
    (All-map (λ x. kind_of x < 3) row m (λ k d b. omega arith))
    (All-map (λ x. kind_of x < 3) upper n (λ k d b. omega arith)))
    (All-map (λ x. kind_of x < 3) lower n (λ k d b. omega arith)))
    (All-map (λ x. 3 ≤ kind_of x) cut e (λ k d b. omega arith)))

at_sorted : (items : List Tight) (i j : ℕ) → AreSorted items → i < j → j < length items
    → IsBefore (item_at items i) (item_at items j)
at_sorted [] i j s b l = absurd (omega arith)
at_sorted (x ∷ items) i zero s b l = absurd (omega arith)
at_sorted (x ∷ items) zero (suc j) s b l = s.0 j (Row 0) (omega arith)
at_sorted (x ∷ items) (suc i) (suc j) s b l = at_sorted items i j s.1 (omega arith) (omega arith)

-- numbers that rise
rising : (i least n : ℕ) (numbers : List ℕ) → i < least → RiseFrom least n numbers
    → All (λ j. (i < j) × (j < n)) numbers
rising i least n [] b r = All-nil (λ j. (i < j) × (j < n))
rising i least n (k ∷ numbers) b r =
    All-cons (λ j. (i < j) × (j < n)) k numbers (omega (arith, r.0.0), r.0.1)
    (rising i (suc k) n numbers (omega (arith, r.0.0)) r.1)

pub rising_below : (least n : ℕ) (numbers : List ℕ) → RiseFrom least n numbers → All (λ j. j < n) numbers
rising_below least n [] r = All-nil (λ j. j < n)
rising_below least n (k ∷ numbers) r = All-cons (λ j. j < n) k numbers r.0.1 (rising_below (suc k) n numbers r.1)

kept_sorted : (items : List Tight) (least : ℕ) (kept : List ℕ) → AreSorted items → RiseFrom least (length items) kept
    → AreSorted (map (λ i. item_at items i) kept)
kept_sorted items least [] s r = tt
kept_sorted items least (i ∷ kept) s r = (
  All-map (IsBefore (item_at items i)) (λ j. item_at items j) kept
      (All-weaker (λ j. (i < j) × (j < length items)) (λ j. IsBefore (item_at items i) (item_at items j))
      (λ j h. at_sorted items i j s h.0 h.1) kept (rising i (suc i) (length items) kept (omega arith) r.1)),
  kept_sorted items (suc i) kept s r.1,
)

sorted_order : (tight : List Tight) → AreSorted tight → AreInOrder tight
sorted_order [] s = tt
sorted_order (x ∷ []) s = tt
sorted_order (x ∷ y ∷ tight) s = (All-head (IsBefore x) y tight s.0, sorted_order (y ∷ tight) s.1)

pub kept_order : (P : Tight → Type 0) (p : Program) (earlier : List NoGoodCut) (chosen : List Tight) (kept : List ℕ)
    → AreChosen P (all_items p earlier) chosen → RiseFrom 0 (length chosen) kept
    → AreInOrder (map (λ i. item_at chosen i) kept)
kept_order P p earlier chosen kept c r =
    sorted_order (map (λ i. item_at chosen i) kept) (kept_sorted chosen 0 kept
    (chosen_sorted P (all_items p earlier) chosen c (all_sorted p earlier)) r)

pub all_items_are : (p : Program) (earlier : List NoGoodCut) (start a b c d : List Tight) (r m n e : ℕ) → start ≡ []
    → a ≡ start ++ map (placed (Row 0)) (range_with_len 0 r) → b ≡ a ++ map (placed (Upper 0)) (range_with_len 0 m)
    → c ≡ b ++ map (placed (Lower 0)) (range_with_len 0 n) → d ≡ c ++ map (placed (Cut 0)) (range_with_len 0 e)
    → r ≡ length p.rows → m ≡ columns p → n ≡ columns p → e ≡ length earlier → d ≡ all_items p earlier
all_items_are p earlier start a b c d r m n e none rows uppers lowers cuts er em en ee =
    let R : ℕ → List Tight = λ k. map (placed (Row 0)) (range_with_len 0 k) in
    let U : ℕ → List Tight = λ k. map (placed (Upper 0)) (range_with_len 0 k) in
    let L : ℕ → List Tight = λ k. map (placed (Lower 0)) (range_with_len 0 k) in
    let C : ℕ → List Tight = λ k. map (placed (Cut 0)) (range_with_len 0 k) in
    let first : a ≡ R (length p.rows) = rows ∙ ap (λ xs. xs ++ R r) none ∙ ap R er in
    let second : b ≡ R (length p.rows) ++ U (columns p) =
    uppers ∙ ap (λ xs. xs ++ U m) first ∙ ap (λ k. R (length p.rows) ++ U k) em in
    let third : c ≡ R (length p.rows) ++ U (columns p) ++ L (columns p) =
    lowers ∙ ap (λ xs. xs ++ L n) second ∙ ap (λ k. R (length p.rows) ++ U (columns p) ++ L k) en in
    cuts ∙ ap (λ xs. xs ++ C e) third
    ∙ ap (λ k. R (length p.rows) ++ U (columns p) ++ L (columns p) ++ C k) ee
