-- A step in the tables of a book.
use Rattle.std.proofs.Common.{◌≡◌, ◌≢◌, ℕ, zero, suc, ◌+◌, ◌-◌, ◌<◌, ◌≤◌, refl, sym, ◌∙◌, ap, subst, arith, ◌⊎◌, inl}
use Rattle.std.proofs.Common.{inr}
use Rattle.std.proofs.Common.{List, [], ◌∷◌, ◌++◌, length}
use Rattle.std.specs.Prelude.{ℤ, Option, Some, None, option_map}
use Rattle.std.proofs.lemmas.Option.{none-some, same_Some}
use Rattle.std.proofs.lemmas.List.{length-append}
use Rattle.bl_terms.specs.Points.{Area}
use Rattle.bl_terms.specs.Trees.{low_half, high_half}
use Rattle.bl_leaf_terms.specs.Incumbents.{Incumbent, cutoff_of}
use Rattle.bl_leaf_terms.specs.Leaves.{ClosedLeaf}
use Rattle.bl_book_terms.specs.Books as books
use Rattle.bl_book_terms.specs.Books.{Book, after, IsAllowed, HasStatus, with_status, node_at, improved_by, best_value}
use Rattle.bl_book_terms.specs.Books.{ready_node}
use Rattle.bl_core.specs.Accounts.{live_weight, live_count}
use Rattle.bl_core.specs.Events.{event_of, brought}
use Rattle.bl_core.specs.declared.event.Event.{Event}
use Rattle.bl_core.specs.declared.event.Event.TheVariants.{Claim, Back, Split, Close, Offer}
use Rattle.bl_core.specs.declared.node.Node.{Node}
use Rattle.bl_core.specs.declared.node.Origin.TheVariants as origin
use Rattle.bl_core.specs.declared.node.Status.{Status}
use Rattle.bl_core.specs.declared.node.Status.TheVariants as status
use Rattle.bl_core.specs.Tables.{SplitParts, split_in, leaf_in, read_at, told_status, told_best, IsTold, AreTold}
use Rattle.bl_core.specs.Tables.{IsToldBest, with_row, rows_after, live_after, Closes, IsOfRow, StaysBest, BringsBest}
use Rattle.bl_core.specs.Tables.{IsNextBest}
use Rattle.bl_core.proofs.ReadLemmas.{read_more, read_last, told_more, told_length}

-- ---- rows

told_set : (whole : Area) (journal : List Event) (rows : List Node) (nodes : List books.Node) (k : ℕ) (s : Status)
    (t : books.Status) → AreTold whole journal rows nodes → told_status journal s ≡ Some t
    → AreTold whole journal (with_row rows k s) (with_status nodes k t)
told_set whole journal [] [] k s t told is = tt
told_set whole journal [] (n ∷ nodes) k s t told is = absurd told
told_set whole journal (x ∷ rows) [] k s t told is = absurd told
told_set whole journal (x ∷ rows) (n ∷ nodes) zero s t told is =
    (record { area = told.0.area; cuts = told.0.cuts; status = is }, told.1)
told_set whole journal (x ∷ rows) (n ∷ nodes) (suc k) s t told is =
    (told.0, told_set whole journal rows nodes k s t told.1 is)

told_append : (whole : Area) (journal : List Event) (rows : List Node) (nodes : List books.Node) (more : List Node)
    (more' : List books.Node) → AreTold whole journal rows nodes → AreTold whole journal more more'
    → AreTold whole journal (rows ++ more) (nodes ++ more')
told_append whole journal [] [] more more' told told' = told'
told_append whole journal [] (n ∷ nodes) more more' told told' = absurd told
told_append whole journal (x ∷ rows) [] more more' told told' = absurd told
told_append whole journal (x ∷ rows) (n ∷ nodes) more more' told told' =
    (told.0, told_append whole journal rows nodes more more' told.1 told')

-- the rows after a step tell the nodes after it
pub told_after : (whole : Area) (journal : List Event) (rows : List Node) (b : Book) (e : Event)
    → AreTold whole journal rows b.nodes
    → AreTold whole (journal ++ e ∷ []) (rows_after (best_value b) (length journal) rows e) (after b (event_of e)).nodes
told_after whole journal rows b (Claim w k) told =
    let on = told_more whole journal (Claim w k ∷ []) rows b.nodes told in
    told_set whole (journal ++ Claim w k ∷ []) rows b.nodes k (status.Claimed w (best_value b))
    (books.Claimed w (best_value b)) on refl
told_after whole journal rows b (Back w k) told =
    let on = told_more whole journal (Back w k ∷ []) rows b.nodes told in
    told_set whole (journal ++ Back w k ∷ []) rows b.nodes k status.Ready books.Ready on refl
told_after whole journal rows b (Split w k halves why cuts) told =
    let e = Split w k halves why cuts in
    let on = told_more whole journal (e ∷ []) rows b.nodes told in
    let last = read_last split_in journal e in
    let parts = λ (s : SplitParts). books.Divided s.halves s.licence (length rows) in
    let same = told_length whole journal rows b.nodes told in
    let divided : told_status (journal ++ e ∷ []) (status.Split (length journal) (length rows))
    ≡ Some (books.Divided halves why (length b.nodes)) =
    ap (option_map parts) last ∙ ap (λ (n : ℕ). Some (books.Divided halves why n)) (sym same) in
    told_append whole (journal ++ e ∷ []) (with_row rows k (status.Split (length journal) (length rows)))
    (with_status b.nodes k (books.Divided halves why (length b.nodes))) _ _
    (told_set whole (journal ++ e ∷ []) rows b.nodes k (status.Split (length journal) (length rows))
    (books.Divided halves why (length b.nodes)) on divided) (
      record { area = ap (option_map _) last; cuts = ap (option_map _) last; status = refl },
      (record { area = ap (option_map _) last; cuts = ap (option_map _) last; status = refl }, tt),
    )
told_after whole journal rows b (Close w k leaf) told =
    let e = Close w k leaf in
    let on = told_more whole journal (e ∷ []) rows b.nodes told in
    told_set whole (journal ++ e ∷ []) rows b.nodes k (status.Closed (length journal)) (books.Closed leaf) on
    (ap (option_map (λ (l : ClosedLeaf). books.Closed l)) (read_last leaf_in journal e))
told_after whole journal rows b (Offer w incumbent) told =
    told_more whole journal (Offer w incumbent ∷ []) rows b.nodes told

row_count : (rows : List Node) (k : ℕ) (s : Status) → length (with_row rows k s) ≡ length rows
row_count [] k s = refl
row_count (x ∷ rows) zero s = refl
row_count (x ∷ rows) (suc k) s = ap (λ (m : ℕ). suc m) (row_count rows k s)

-- there are at most two more of them
pub rows_few : (best : Option ℤ) (place : ℕ) (rows : List Node) (e : Event)
    → length (rows_after best place rows e) ≤ length rows + 2
rows_few best place rows (Claim w k) = let c = row_count rows k (status.Claimed w best) in omega (arith, c)
rows_few best place rows (Back w k) = let c = row_count rows k status.Ready in omega (arith, c)
rows_few best place rows (Split w k halves why cuts) =
    let c = row_count rows k (status.Split place (length rows)) in
    let all = length-append (with_row rows k (status.Split place (length rows)))
    (record { origin = origin.Low place; status = status.Ready }
    ∷ record { origin = origin.High place; status = status.Ready } ∷ []) in
    omega (arith, c, all)
rows_few best place rows (Close w k leaf) = let c = row_count rows k (status.Closed place) in omega (arith, c)
rows_few best place rows (Offer w incumbent) = omega arith

-- a step that is allowed names a node that is there
pub allowed_row : (b : Book) (e : Event) → IsAllowed b (event_of e) → IsOfRow (length b.nodes) e
allowed_row b (Claim w k) may = may.1.there
allowed_row b (Back w k) may = may.1.1.there
allowed_row b (Split w k halves why cuts) may = may.1.claimed.there
allowed_row b (Close w k leaf) may = may.1.claimed.there
allowed_row b (Offer w incumbent) may = tt

-- ---- the best

best_stays : (journal more : List Event) (k : Option ℕ) (best : Option Incumbent) → IsToldBest journal k best
    → IsToldBest (journal ++ more) k best
best_stays journal more k None told = told
best_stays journal more None (Some f) told = told
best_stays journal more (Some k) (Some f) told = read_more brought journal more k f told

pub best_told : (journal : List Event) (k : Option ℕ) (best : Option Incumbent) → IsToldBest journal k best
    → told_best journal k ≡ best
best_told journal k None told = ap (told_best journal) told
best_told journal k (Some f) told = told

-- the best after a step is told by its next place
improved_after : (b : Book) (e : Event) → (after b (event_of e)).best ≡ improved_by b.best (brought e)
improved_after b (Claim w k) = refl
improved_after b (Back w k) = refl
improved_after b (Split w k halves why cuts) = refl
improved_after b (Close w k leaf) = refl
improved_after b (Offer w incumbent) = refl

pub best_after : (journal : List Event) (k : Option ℕ) (b : Book) (e : Event) (next : Option ℕ)
    → IsToldBest journal k b.best → IsNextBest journal k e next
    → IsToldBest (journal ++ e ∷ []) next (after b (event_of e)).best
best_after journal k b e next told is = elim is [
  | inl stays ↦
      let same : (after b (event_of e)).best ≡ b.best =
      improved_after b e ∙ ap (λ (x : Option Incumbent). improved_by x (brought e))
      (sym (best_told journal k b.best told))
      ∙ stays.same ∙ best_told journal k b.best told in
      let P : Option Incumbent → Type 0 = λ x. IsToldBest (journal ++ e ∷ []) next x in
      let Q : Option ℕ → Type 0 = λ x. IsToldBest (journal ++ e ∷ []) x b.best in
      subst P (sym same) (subst Q (sym stays.place) (best_stays journal (e ∷ []) k b.best told))
  | inr brings ↦
      let same : (after b (event_of e)).best ≡ Some brings.further =
      improved_after b e ∙ ap (λ (x : Option Incumbent). improved_by x (brought e))
      (sym (best_told journal k b.best told))
      ∙ brings.better in
      let P : Option Incumbent → Type 0 = λ x. IsToldBest (journal ++ e ∷ []) next x in
      let Q : Option ℕ → Type 0 = λ x. told_best (journal ++ e ∷ []) x ≡ Some brings.further in
      subst P (sym same) (subst Q (sym brings.place) (read_last brought journal e ∙ brings.step))
]

-- ---- live nodes

live_set : (nodes : List books.Node) (k : ℕ) (s : books.Status) → k < length nodes
    → live_count (with_status nodes k s) + live_weight (node_at nodes k).status ≡ live_count nodes + live_weight s
live_set [] k s b = absurd (omega (arith, b))
live_set (n ∷ nodes) zero s b = omega arith
live_set (n ∷ nodes) (suc k) s b = let e = live_set nodes k s (omega (arith, b)) in omega (arith, e)

live_append : (nodes more : List books.Node) → live_count (nodes ++ more) ≡ live_count nodes + live_count more
live_append [] more = omega arith
live_append (n ∷ nodes) more = let e = live_append nodes more in omega (arith, e)

light_status : (s : books.Status) → live_weight s ≤ 1
light_status books.Ready = omega arith
light_status (books.Claimed w u) = omega arith
light_status (books.Divided h licence low) = omega arith
light_status (books.Closed leaf) = omega arith

pub few_live : (nodes : List books.Node) → live_count nodes ≤ length nodes
few_live [] = omega arith
few_live (n ∷ nodes) = let l = light_status n.status in let e = few_live nodes in omega (arith, l, e)

pub live_told : (b : Book) (e : Event) (live : ℕ) → IsAllowed b (event_of e) → live ≡ live_count b.nodes
    → live_after live e ≡ live_count (after b (event_of e)).nodes
live_told b (Claim w k) live may is =
    let set = live_set b.nodes k (books.Claimed w (best_value b)) may.1.there in
    let old = ap live_weight may.1.status in
    omega (arith, set, old, is)
live_told b (Back w k) live may is =
    let set = live_set b.nodes k books.Ready may.1.1.there in
    let old = ap live_weight may.1.1.status in
    omega (arith, set, old, is)
live_told b (Split w k halves why cuts) live may is =
    let divided = books.Divided halves why (length b.nodes) in
    let set = live_set b.nodes k divided may.1.claimed.there in
    let old = ap live_weight may.1.claimed.status in
    let halves' = ready_node (low_half halves.area halves.column halves.at) cuts
    ∷ ready_node (high_half halves.area halves.column halves.at) cuts ∷ [] in
    let all = live_append (with_status b.nodes k divided) halves' in
    omega (arith, set, old, is, all)
live_told b (Close w k leaf) live may is =
    let set = live_set b.nodes k (books.Closed leaf) may.1.claimed.there in
    let old = ap live_weight may.1.claimed.status in
    omega (arith, set, old, is)
live_told b (Offer w incumbent) live may is = is

-- where a node is closed there is a live one
pub live_some : (b : Book) (e : Event) → IsAllowed b (event_of e) → Closes e → 1 ≤ live_count b.nodes
live_some b (Claim w k) may closes = absurd closes
live_some b (Back w k) may closes = absurd closes
live_some b (Split w k halves why cuts) may closes = absurd closes
live_some b (Close w k leaf) may closes =
    let set = live_set b.nodes k (books.Closed leaf) may.1.claimed.there in
    let old = ap live_weight may.1.claimed.status in
    omega (arith, set, old)
live_some b (Offer w incumbent) may closes = absurd closes
