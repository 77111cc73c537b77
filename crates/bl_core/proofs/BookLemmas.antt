-- The ledger of a book, and what every book keeps.
use Rattle.std.proofs.Common.{◌≡◌, ℕ, zero, suc, ◌+◌, ◌-◌, ◌*◌, ◌^◌, ◌<◌, ◌≤◌, refl, sym, ◌∙◌, ap, subst, arith}
use Rattle.std.proofs.Common.{List, [], ◌∷◌, ◌++◌, length, map, Vec, Global}
use Rattle.std.specs.Prelude.{Option, Some, None, slice_get}
use Rattle.std.specs.Arc.{arc_value}
use Rattle.std.specs.Vec.{vec_capacity}
use Rattle.std.proofs.lemmas.List.{length-append, map-append}
use Rattle.std.proofs.lemmas.Option.{same_Some}
use Rattle.bl_limits.specs.declared.TheConstants.{MAX_NODES, MAX_WORKERS}
use Rattle.bl_terms.specs.Points.{Area}
use Rattle.bl_terms.specs.Programs.{Program, root}
use Rattle.bl_model.specs.Boxes.{Halved}
use Rattle.bl_model.specs.View.{IsModel}
use Rattle.bl_leaf_terms.specs.Nodes.{NodeLicence}
use Rattle.bl_leaf_terms.specs.Leaves.{ClosedLeaf}
use Rattle.bl_book_terms.specs.Books as books
use Rattle.bl_book_terms.specs.Books.{Book, Leads, opening, after, IsAllowed, best_value}
use Rattle.bl_book_terms.specs.Laws.{IsSound, KeepsStatus}
use Rattle.bl_book_terms.proofs.RunLemmas.{every_run_is_sound}
use Rattle.bl_core.specs.Accounts.{after_all, ledger_of, entered, live_count, IsNextReady, IsSplitInto, IsUnsplit}
use Rattle.bl_core.specs.Accounts.{IsUnclosed, IsKept}
use Rattle.bl_core.specs.Events.{event_of, brought}
use Rattle.bl_core.specs.declared.event.Event.{Event}
use Rattle.bl_core.specs.declared.node.Node.{Node}
use Rattle.bl_core.specs.declared.book.Book.TheInside.{Inside}
use Rattle.bl_core.specs.Tables.{IsBook, ledger_at, book_at, account_of, rows_after, live_after, IsNextBest, AreTold}
use Rattle.bl_core.specs.Tables.{IsTold, IsToldBest, told_best, told_status, HasNext, IsReadyRow, row_at, no_row}
use Rattle.bl_core.specs.Tables.{IsDivided, IsUndivided, IsUnclosedRow, IsFirstReady}
use Rattle.bl_core.proofs.ReadLemmas.{told_length, told_at, row_got, row_past, has_next, ready_told}
use Rattle.bl_core.proofs.StepLemmas.{told_after, best_after, live_told, rows_few}

-- ---- ledgers

-- steps leave the program, the workers and the limit
same_parts : (b : Book) (events : List books.Event)
    → after_all b events ≡ record {
      program = b.program;
      workers = b.workers;
      limit = b.limit;
      nodes = (after_all b events).nodes;
      best = (after_all b events).best;
    }
same_parts b [] = refl
same_parts b (books.Claim w k ∷ events) = same_parts (after b (books.Claim w k)) events
same_parts b (books.Back w k ∷ events) = same_parts (after b (books.Back w k)) events
same_parts b (books.Split w k h licence cuts ∷ events) = same_parts (after b (books.Split w k h licence cuts)) events
same_parts b (books.Close w k leaf ∷ events) = same_parts (after b (books.Close w k leaf)) events
same_parts b (books.Offer w f ∷ events) = same_parts (after b (books.Offer w f)) events

after_last : (b : Book) (events : List books.Event) (e : books.Event)
    → after_all b (events ++ e ∷ []) ≡ after (after_all b events) e
after_last b [] e = refl
after_last b (x ∷ events) e = after_last (after b x) events e

leads_last : (b b' : Book) (events : List books.Event) (e : books.Event) → Leads b events b' → IsAllowed b' e
    → Leads b (events ++ e ∷ []) (after b' e)
leads_last b b' [] e leads may =
    let P : Book → Type 0 = λ x. IsAllowed x e in
    (subst P (sym leads) may, ap (λ (x : Book). after x e) leads)
leads_last b b' (x ∷ events) e leads may = (leads.0, leads_last (after b x) b' events e leads.1 may)

module _ (p : Program) (workers limit : ℕ) (events : List books.Event) (e : books.Event) where
  pub ledger_last : (ledger_of p workers limit (events ++ e ∷ [])).book
      ≡ after (ledger_of p workers limit events).book e
  ledger_last =
      sym (same_parts (opening p workers limit) (events ++ e ∷ []))
      ∙ after_last (opening p workers limit) events e
      ∙ ap (λ (x : Book). after x e) (same_parts (opening p workers limit) events)

  run_last : books.IsRun (ledger_of p workers limit events)
      → IsAllowed (ledger_of p workers limit events).book e
      → books.IsRun (ledger_of p workers limit (events ++ e ∷ []))
  run_last run may =
      let P : Book → Type 0 = λ x. Leads (opening p workers limit) (events ++ e ∷ []) x in
      subst P (sym ledger_last)
      (leads_last (opening p workers limit) (ledger_of p workers limit events).book events e run may)

-- ---- books

pub ledger_kept : (b : Inside) → IsBook b → IsKept (ledger_at b)
ledger_kept b is = record {
  model = is.model;
  workers_least = is.workers_least;
  workers_most = is.workers_most;
  limit_least = is.limit_least;
  limit_most = is.limit_most;
  run = is.run;
}

pub book_sound : (b : Inside) → IsBook b → IsSound (book_at b)
book_sound b is = every_run_is_sound (ledger_at b) is.model is.limit_least is.run

pub few_nodes : (b : Inside) → IsBook b → length (book_at b).nodes ≤ MAX_NODES
few_nodes b is = let s = book_sound b is in let few = s.few in let most = is.limit_most in omega arith

pub node_count : (b : Inside) → IsBook b → length (book_at b).nodes ≡ length b.nodes.items
node_count b is = told_length (arc_value b.root) b.journal.items b.nodes.items (book_at b).nodes is.told

-- a row tells its node
pub row_tells : (b : Inside) → IsBook b → (k : ℕ) (x : Node) → slice_get b.nodes.items k ≡ Some x
    → (k < length (book_at b).nodes)
    × IsTold (arc_value b.root) b.journal.items x (books.node_at (book_at b).nodes k)
row_tells b is k x got =
    let at = row_got b.nodes.items k x got in
    let count = node_count b is in
    let told = told_at (arc_value b.root) b.journal.items b.nodes.items (book_at b).nodes k is.told at.0 in
    let P : Node → Type 0 = λ r. IsTold (arc_value b.root) b.journal.items r (books.node_at (book_at b).nodes k) in
    (omega (arith, at.0, count), subst P at.1 told)

pub past_rows : (b : Inside) → IsBook b → (k : ℕ) → slice_get b.nodes.items k ≡ None → length (book_at b).nodes ≤ k
past_rows b is k none =
    let past = row_past b.nodes.items k none in let count = node_count b is in omega (arith, past, count)

pub next_numbers : (b : Inside) → IsBook b → (k : ℕ) (x : Node) → slice_get b.nodes.items k ≡ Some x
    → HasNext x.status
next_numbers b is k x got =
    let at = row_tells b is k x got in
    let sound = book_sound b is in
    let kept = sound.kept k at.0 in
    let few = few_nodes b is in
    has_next b.journal.items x.status (books.node_at (book_at b).nodes k).status (length (book_at b).nodes) at.1.status
    (λ h licence low e. (subst (λ (s : books.Status). KeepsStatus (book_at b) k s) e kept).there) (omega (arith, few))

-- a ready row is a ready node
pub ready_node_of : (b : Inside) → IsBook b → (k : ℕ) → IsReadyRow b.nodes.items k
    → books.HasStatus (book_at b) k books.Ready
ready_node_of b is k (there, ready) =
    let count = node_count b is in
    let told = told_at (arc_value b.root) b.journal.items b.nodes.items (book_at b).nodes k is.told there in
    record {
      there = omega (arith, there, count);
      status =
          sym (same_Some books.Ready _
          (ap (told_status b.journal.items) (sym ready) ∙ told.status));
    }

pub ready_row_of : (b : Inside) → IsBook b → (k : ℕ) → books.HasStatus (book_at b) k books.Ready
    → IsReadyRow b.nodes.items k
ready_row_of b is k ready =
    let count = node_count b is in
    let there : k < length b.nodes.items = (let at = ready.there in omega arith) in
    let told = told_at (arc_value b.root) b.journal.items b.nodes.items (book_at b).nodes k is.told there in (
      there,
      ready_told b.journal.items (row_at b.nodes.items k).status
          (told.status ∙ ap (λ (s : books.Status). Some s) ready.status),
    )

-- what a row's status tells of its node, and what holds of a number past the last
module _ (b : Inside) (is : IsBook b) (k : ℕ) where
  module _ (x : Node) (got : slice_get b.nodes.items k ≡ Some x) where
    has_told : (s : books.Status) → told_status b.journal.items x.status ≡ Some s → books.HasStatus (book_at b) k s
    has_told s told =
        let at = row_tells b is k x got in
        record { there = at.0; status = same_Some _ s (sym at.1.status ∙ told) }

    told_has : (s : books.Status) → books.HasStatus (book_at b) k s → told_status b.journal.items x.status ≡ Some s
    told_has s has = (row_tells b is k x got).1.status ∙ ap (λ (t : books.Status). Some t) has.status

    pub unsplit_told : IsUndivided b.journal.items x.status → IsUnsplit (book_at b) k
    unsplit_told none = λ h licence low has. none h licence low (told_has (books.Divided h licence low) has)

    pub split_told : (h : Halved) (low high : ℕ) → IsDivided b.journal.items x.status h low × (high ≡ suc low)
        → IsSplitInto (book_at b) k h low high
    split_told h low high (divided, next) =
        record { licence = divided.0; split = has_told (books.Divided h divided.0 low) divided.1; next = next }

    pub unclosed_told : IsUnclosedRow b.journal.items x.status → IsUnclosed (book_at b) k
    unclosed_told none = λ leaf has. none leaf (told_has (books.Closed leaf) has)

    pub closed_told : (leaf : ClosedLeaf) → told_status b.journal.items x.status ≡ Some (books.Closed leaf)
        → books.HasStatus (book_at b) k (books.Closed leaf)
    closed_told leaf told = has_told (books.Closed leaf) told

  module _ (none : slice_get b.nodes.items k ≡ None) where
    no_status : (s : books.Status) → ¬ books.HasStatus (book_at b) k s
    no_status s has = let past = past_rows b is k none in let there = has.there in omega arith

    pub unsplit_past : IsUnsplit (book_at b) k
    unsplit_past = λ h licence low. no_status (books.Divided h licence low)

    pub unclosed_past : IsUnclosed (book_at b) k
    unclosed_past = λ leaf. no_status (books.Closed leaf)

-- the first ready row from a number on is the first ready node
pub next_told : (b : Inside) → IsBook b → (from k : ℕ) → IsFirstReady b.nodes.items from k
    → IsNextReady (book_at b) from k
next_told b is from k first = record {
  least = first.least;
  ready = ready_node_of b is k first.ready;
  earlier = λ j least before ready. first.earlier j least before (ready_row_of b is j ready);
}

-- ---- a further step

module _ (b : Inside) (e : Event) (rows : Vec Node Global) (journal : Vec Event Global) (best : Option ℕ)
    (live : ℕ) where
  abbrev pub stepped : Inside
  stepped = record b { nodes = rows; journal = journal; best = best; live = live; spare = b.spare - 1 }

  module _ (more : journal.items ≡ b.journal.items ++ e ∷ []) where
    events_last : map event_of journal.items ≡ map event_of b.journal.items ++ event_of e ∷ []
    events_last = ap (map event_of) more ∙ map-append event_of b.journal.items (e ∷ [])

    ledger_stepped : ledger_at stepped
        ≡ record { book = after (book_at b) (event_of e); journal = map event_of b.journal.items ++ event_of e ∷ [] }
    ledger_stepped =
        ap (ledger_of (arc_value b.model) b.workers b.limit) events_last
        ∙ ap (λ (x : Book). record { book = x; journal = map event_of b.journal.items ++ event_of e ∷ [] })
        (ledger_last (arc_value b.model) b.workers b.limit (map event_of b.journal.items) (event_of e))

    -- the book has entered the step
    pub account_stepped : account_of stepped ≡ entered (account_of b) (event_of e)
    account_stepped = ap (λ (l : books.Ledger). record { ledger = l; spare = b.spare - 1 }) ledger_stepped

    -- and keeps what every book keeps
    pub book_stepped : IsBook b → 1 ≤ b.spare → IsAllowed (book_at b) (event_of e)
        → rows.items ≡ rows_after (best_value (book_at b)) (length b.journal.items) b.nodes.items e
        → IsNextBest b.journal.items b.best e best → live ≡ live_after b.live e
        → vec_capacity b.journal ≤ vec_capacity journal → vec_capacity b.nodes ≤ vec_capacity rows → IsBook stepped
    book_stepped is some may rows_are next live_is event_room node_room =
        let same : book_at stepped ≡ after (book_at b) (event_of e) =
        ap (λ (l : books.Ledger). l.book) ledger_stepped in
        let length_more = ap length more ∙ length-append b.journal.items (e ∷ []) in
        let few = rows_few (best_value (book_at b)) (length b.journal.items) b.nodes.items e in
        let rows_length = ap length rows_are in
        let events = is.event_room in
        let nodes = is.node_room in
        let few_events = is.few_events in
        let R : List books.Event → Type 0 = λ es. books.IsRun (ledger_of (arc_value b.model) b.workers b.limit es) in
        let T : List Event → Type 0 =
        λ j. AreTold (arc_value b.root) j rows.items (book_at stepped).nodes in
        let U : List Node → Type 0 =
        λ r. AreTold (arc_value b.root) (b.journal.items ++ e ∷ []) r (book_at stepped).nodes in
        let V : Book → Type 0 =
        λ x. AreTold (arc_value b.root) (b.journal.items ++ e ∷ [])
        (rows_after (best_value (book_at b)) (length b.journal.items) b.nodes.items e) x.nodes in
        let W : List Event → Type 0 = λ j. IsToldBest j best (book_at stepped).best in
        let X : Book → Type 0 = λ x. IsToldBest (b.journal.items ++ e ∷ []) best x.best in
        record {
          model = is.model;
          workers_least = is.workers_least;
          workers_most = is.workers_most;
          limit_least = is.limit_least;
          limit_most = is.limit_most;
          whole = is.whole;
          bare = is.bare;
          run =
              subst R (sym events_last)
              (run_last (arc_value b.model) b.workers b.limit (map event_of b.journal.items) (event_of e) is.run may);
          told =
              subst T (sym more) (subst U (sym rows_are) (subst V (sym same)
              (told_after (arc_value b.root) b.journal.items b.nodes.items (book_at b) e is.told)));
          best =
              subst W (sym more) (subst X (sym same)
              (best_after b.journal.items b.best (book_at b) e best is.best next));
          live =
              live_is ∙ live_told (book_at b) e b.live may is.live
              ∙ ap (λ (x : Book). live_count x.nodes) (sym same);
          event_room = omega arith;
          node_room = omega arith;
          few_events = omega arith;
        }

-- ---- the opening book

pub book_opened : (b : Inside) → IsModel (arc_value b.model) → 1 ≤ b.workers → b.workers ≤ MAX_WORKERS → 1 ≤ b.limit
    → b.limit ≤ MAX_NODES → arc_value b.root ≡ root (arc_value b.model) → b.no_cuts ≡ [] → b.journal.items ≡ []
    → b.nodes.items ≡ no_row ∷ [] → b.best ≡ None → b.live ≡ 1 → b.spare ≡ 0
    → length b.nodes.items ≤ vec_capacity b.nodes → IsBook b
book_opened b model workers_least workers_most limit_least limit_most whole bare none alone best live spare room =
    let events : map event_of b.journal.items ≡ [] = ap (map event_of) none in
    let same : book_at b ≡ opening (arc_value b.model) b.workers b.limit =
    ap (λ (es : List books.Event). (ledger_of (arc_value b.model) b.workers b.limit es).book) events in
    let R : List books.Event → Type 0 = λ es. books.IsRun (ledger_of (arc_value b.model) b.workers b.limit es) in
    let T : List Node → Type 0 = λ r. AreTold (arc_value b.root) b.journal.items r (book_at b).nodes in
    let V : Book → Type 0 = λ x. AreTold (arc_value b.root) b.journal.items (no_row ∷ []) x.nodes in
    let X : Book → Type 0 = λ x. IsToldBest b.journal.items b.best x.best in
    let count = ap length none in
    record {
      model = model;
      workers_least = workers_least;
      workers_most = workers_most;
      limit_least = limit_least;
      limit_most = limit_most;
      whole = whole;
      bare = bare;
      run = subst R (sym events) refl;
      told =
          subst T (sym alone) (subst V (sym same)
          (record { area = ap (λ (a : Area). Some a) whole; cuts = refl; status = refl }, tt));
      best = subst X (sym same) best;
      live = live ∙ ap (λ (x : Book). live_count x.nodes) (sym same);
      event_room = omega arith;
      node_room = omega arith;
      few_events = omega arith;
    }
