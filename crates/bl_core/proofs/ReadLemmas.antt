-- What the tables of a book tell, at numbers of nodes and places of steps, also after further steps.
use Rattle.std.proofs.Common.{◌≡◌, ◌≢◌, ℕ, zero, suc, ◌+◌, ◌^◌, ◌<◌, ◌≤◌, refl, sym, ◌∙◌, ap, subst, arith}
use Rattle.std.proofs.Common.{List, [], ◌∷◌, ◌++◌, length, Bool, true, false, cond}
use Rattle.std.specs.Prelude.{ℤ, Option, Some, None, option_map, slice_get, MatchOption, nat_lt}
use Rattle.std.proofs.lemmas.Option.{none-some, same_Some, slice_get_within, slice_get-get_or, slice_get_past}
use Rattle.std.proofs.lemmas.Bool.{cases_lt, true≢false}
use Rattle.bl_terms.specs.Points.{Area}
use Rattle.bl_model.specs.Boxes.{Halved}
use Rattle.bl_cut_terms.specs.NoGoods.{NoGoodCut}
use Rattle.bl_leaf_terms.specs.Nodes.{NodeLicence}
use Rattle.bl_leaf_terms.specs.Leaves.{ClosedLeaf}
use Rattle.bl_book_terms.specs.Books as books
use Rattle.bl_core.specs.Accounts.{state_of, state_at}
use Rattle.bl_core.specs.declared.event.Event.{Event}
use Rattle.bl_core.specs.declared.node.Node.{Node}
use Rattle.bl_core.specs.declared.node.Origin.{Origin}
use Rattle.bl_core.specs.declared.node.Origin.TheVariants as origin
use Rattle.bl_core.specs.declared.node.Status.{Status}
use Rattle.bl_core.specs.declared.node.Status.TheVariants as status
use Rattle.bl_core.specs.Tables.{SplitParts, split_in, leaf_in, read, read_at, told_area, told_cuts, told_status}
use Rattle.bl_core.specs.Tables.{told_state, HasNext, IsDivided, IsTold, AreTold, row_at}

-- ---- steps at places, where further ones come

-- what is read at a place is read there after further steps too
pub read_more : {X : Type 0} (f : Event → Option X) (journal more : List Event) (k : ℕ) (x : X)
    → read_at f journal k ≡ Some x → read_at f (journal ++ more) k ≡ Some x
read_more f [] more k x is = absurd (none-some x is)
read_more f (e ∷ journal) more zero x is = is
read_more f (e ∷ journal) more (suc k) x is = read_more f journal more k x is

-- and what the step at the end is
pub read_last : {X : Type 0} (f : Event → Option X) (journal : List Event) (e : Event)
    → read_at f (journal ++ e ∷ []) (length journal) ≡ f e
read_last f [] e = refl
read_last f (x ∷ journal) e = read_last f journal e

-- an option's image is there only where it is
map_some : {X Y : Type 0} (f : X → Y) (o : Option X) (y : Y) → option_map f o ≡ Some y
    → (x : X) × (o ≡ Some x) × (f x ≡ y)
map_some f None y is = absurd (none-some y is)
map_some f (Some x) y is = (x, refl, same_Some (f x) y is)

mapped_more : {X Y : Type 0} (g : X → Y) (f : Event → Option X) (journal more : List Event) (k : ℕ) (y : Y)
    → option_map g (read_at f journal k) ≡ Some y → option_map g (read_at f (journal ++ more) k) ≡ Some y
mapped_more g f journal more k y is =
    let at = map_some g (read_at f journal k) y is in
    ap (option_map g) (read_more f journal more k at.0 at.1) ∙ ap (λ z. Some z) at.2

area_more : (whole : Area) (journal more : List Event) (o : Origin) (a : Area)
    → told_area whole journal o ≡ Some a → told_area whole (journal ++ more) o ≡ Some a
area_more whole journal more origin.Root a is = is
area_more whole journal more (origin.Low k) a is = mapped_more _ split_in journal more k a is
area_more whole journal more (origin.High k) a is = mapped_more _ split_in journal more k a is

cuts_more : (journal more : List Event) (o : Origin) (c : List NoGoodCut)
    → told_cuts journal o ≡ Some c → told_cuts (journal ++ more) o ≡ Some c
cuts_more journal more origin.Root c is = is
cuts_more journal more (origin.Low k) c is = mapped_more _ split_in journal more k c is
cuts_more journal more (origin.High k) c is = mapped_more _ split_in journal more k c is

status_more : (journal more : List Event) (s : Status) (t : books.Status)
    → told_status journal s ≡ Some t → told_status (journal ++ more) s ≡ Some t
status_more journal more status.Ready t is = is
status_more journal more (status.Claimed w u) t is = is
status_more journal more (status.Split k low) t is = mapped_more _ split_in journal more k t is
status_more journal more (status.Closed k) t is = mapped_more _ leaf_in journal more k t is

pub told_more : (whole : Area) (journal more : List Event) (rows : List Node) (nodes : List books.Node)
    → AreTold whole journal rows nodes → AreTold whole (journal ++ more) rows nodes
told_more whole journal more [] [] told = tt
told_more whole journal more [] (n ∷ nodes) told = absurd told
told_more whole journal more (x ∷ rows) [] told = absurd told
told_more whole journal more (x ∷ rows) (n ∷ nodes) (here, rest) = (
  record {
    area = area_more whole journal more x.origin n.area here.area;
    cuts = cuts_more journal more x.origin n.cuts here.cuts;
    status = status_more journal more x.status n.status here.status;
  },
  told_more whole journal more rows nodes rest,
)

-- ---- rows by number

pub told_length : (whole : Area) (journal : List Event) (rows : List Node) (nodes : List books.Node)
    → AreTold whole journal rows nodes → length nodes ≡ length rows
told_length whole journal [] [] told = refl
told_length whole journal [] (n ∷ nodes) told = absurd told
told_length whole journal (x ∷ rows) [] told = absurd told
told_length whole journal (x ∷ rows) (n ∷ nodes) told =
    ap (λ (m : ℕ). suc m) (told_length whole journal rows nodes told.1)

pub told_at : (whole : Area) (journal : List Event) (rows : List Node) (nodes : List books.Node) (k : ℕ)
    → AreTold whole journal rows nodes → k < length rows
    → IsTold whole journal (row_at rows k) (books.node_at nodes k)
told_at whole journal [] nodes k told b = absurd (omega (arith, b))
told_at whole journal (x ∷ rows) [] k told b = absurd told
told_at whole journal (x ∷ rows) (n ∷ nodes) zero told b = told.0
told_at whole journal (x ∷ rows) (n ∷ nodes) (suc k) told b =
    told_at whole journal rows nodes k told.1 (omega (arith, b))

-- what a row's status tells: how far the node is, and that it is ready
pub state_told : (journal : List Event) (s : Status) (t : books.Status) → told_status journal s ≡ Some t
    → told_state s ≡ state_of t
state_told journal status.Ready t is = ap state_of (same_Some books.Ready t is)
state_told journal (status.Claimed w u) t is = ap state_of (same_Some (books.Claimed w u) t is)
state_told journal (status.Split k low) t is =
    let at = map_some (λ (s : SplitParts). books.Divided s.halves s.licence low) (read_at split_in journal k) t is in
    ap state_of at.2
state_told journal (status.Closed k) t is =
    let at = map_some (λ (l : ClosedLeaf). books.Closed l) (read_at leaf_in journal k) t is in
    ap state_of at.2

-- only a ready row tells that the node is ready
is_ready : books.Status → Bool
is_ready books.Ready = true
is_ready (books.Claimed w u) = false
is_ready (books.Divided h licence low) = false
is_ready (books.Closed leaf) = false

pub ready_told : (journal : List Event) (s : Status) → told_status journal s ≡ Some books.Ready → s ≡ status.Ready
unfolding is_ready
ready_told journal status.Ready is = refl
ready_told journal (status.Claimed w u) is =
    absurd (true≢false (sym (ap is_ready (same_Some (books.Claimed w u) books.Ready is))))
ready_told journal (status.Split k low) is =
    let at = map_some (λ (s : SplitParts). books.Divided s.halves s.licence low) (read_at split_in journal k)
    books.Ready is in
    absurd (true≢false (sym (ap is_ready at.2)))
ready_told journal (status.Closed k) is =
    let at = map_some (λ (l : ClosedLeaf). books.Closed l) (read_at leaf_in journal k) books.Ready is in
    absurd (true≢false (sym (ap is_ready at.2)))

-- the number after the low half's is one of the code where the high half is there
pub has_next : (journal : List Event) (s : Status) (t : books.Status) (count : ℕ) → told_status journal s ≡ Some t
    → ((h : Halved) (licence : NodeLicence) (low : ℕ) → t ≡ books.Divided h licence low → suc low < count)
    → count ≤ 2 ^ 32 → HasNext s
has_next journal status.Ready t count is below few = tt
has_next journal (status.Claimed w u) t count is below few = tt
has_next journal (status.Split k low) t count is below few =
    let at = map_some (λ (s : SplitParts). books.Divided s.halves s.licence low) (read_at split_in journal k) t is in
    let next = below at.0.halves at.0.licence low (sym at.2) in
    omega arith
has_next journal (status.Closed k) t count is below few = tt

-- the halves that are read at a place are those of a split
pub divided_told : (journal : List Event) (k low : ℕ) (h : Halved)
    → Some h ≡ option_map (λ (s : SplitParts). s.halves) (read_at split_in journal k)
    → IsDivided journal (status.Split k low) h low
divided_told journal k low h is =
    let at = map_some (λ (s : SplitParts). s.halves) (read_at split_in journal k) h (sym is) in (
      at.0.licence,
      ap (option_map (λ (s : SplitParts). books.Divided s.halves s.licence low)) at.1
          ∙ ap (λ (x : Halved). Some (books.Divided x at.0.licence low)) at.2,
    )

-- a row by what `get` answers
pub row_got : (rows : List Node) (k : ℕ) (x : Node) → slice_get rows k ≡ Some x
    → (k < length rows) × (row_at rows k ≡ x)
row_got [] k x is = absurd (none-some x is)
row_got (y ∷ rows) zero x is = (omega arith, same_Some y x is)
row_got (y ∷ rows) (suc k) x is = let r = row_got rows k x is in (omega (arith, r.0), r.1)

pub row_past : (rows : List Node) (k : ℕ) → slice_get rows k ≡ None → length rows ≤ k
row_past [] k is = omega arith
row_past (y ∷ rows) zero is = absurd (none-some y (sym is))
row_past (y ∷ rows) (suc k) is = omega (arith, row_past rows k is)

-- ---- a node's state

pub state_in : (b : books.Book) (k : ℕ) → k < length b.nodes
    → state_at b k ≡ Some (state_of (books.node_at b.nodes k).status)
state_in b k at = grind (arith, cases_lt)

pub state_past : (b : books.Book) (k : ℕ) → length b.nodes ≤ k → state_at b k ≡ None
state_past b k past = grind (arith, cases_lt)
