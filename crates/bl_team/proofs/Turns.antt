-- What the steps of a turn leave.
use Rattle.std.proofs.Common.{◌≡◌, ◌≢◌, ℕ, zero, suc, ◌+◌, ◌<◌, refl, sym, ◌∙◌, subst, arith, inl, inr}
use Rattle.std.proofs.Common.{List, [], ◌∷◌, ◌++◌, length}
use Rattle.std.specs.Prelude.{ℤ, Option}
use Rattle.std.specs.Arc.{arc_value}
use Rattle.std.proofs.lemmas.Bool.{cases_eq}
use Rattle.std.proofs.lemmas.List.{length-append}
use Rattle.bl_terms.specs.Points.{Area, IsWithinArea}
use Rattle.bl_terms.specs.Programs.{Program, root}
use Rattle.bl_terms.specs.Trees.{CanSplit, low_half, high_half}
use Rattle.bl_model.specs.Boxes.{Halved}
use Rattle.bl_cut_terms.specs.NoGoods.{NoGoodCut}
use Rattle.bl_leaf_terms.specs.Incumbents.{Incumbent, AreIncumbents}
use Rattle.bl_leaf_terms.specs.Nodes.{NodeLicence, IsNodeLicence}
use Rattle.bl_leaf_terms.specs.Leaves.{ClosedLeaf}
use Rattle.bl_book_terms.specs.Books.{Status, Ready, Claimed, Divided, Closed, Node, ready_node, node_at, with_status}
use Rattle.bl_book_terms.specs.Books.{Book, Ledger, best_value, after, IsAllowed}
use Rattle.bl_book_terms.specs.Books as books
use Rattle.bl_book_terms.proofs.NodeLemmas.{same_length, other_status, new_status, old_node, more_node, next_node}
use Rattle.bl_book_terms.proofs.RunLemmas.{every_run_is_sound, room_is_left}
use Rattle.bl_core.specs.declared.event.Event.TheVariants as event
use Rattle.bl_core.specs.declared.fail.SplitFail.TheVariants as split
use Rattle.bl_core.specs.declared.outcome.Ended.{Ended}
use Rattle.bl_core.specs.declared.outcome.Ended.TheVariants.{Nodes}
use Rattle.bl_core.specs.Accounts.{KeptBook, entered, IsKept, live_count}
use Rattle.bl_core.specs.Refusals.{IsSplitFailure}
use Rattle.bl_core.specs.Tasks.{IsTaskOf}
use Rattle.bl_core.proofs.StepLemmas.{live_told, live_some}
use Rattle.bl_core.proofs.OutcomeLemmas.{full_book_may_end}
use Rattle.bl_tree.specs.declared.task.Task.{Task}
use Rattle.bl_node.specs.Works.{IsJob, job_of}
use Rattle.bl_team.specs.Answers.{EndsWithin}
use Rattle.bl_team.specs.Turns.{IsIdle, IsAtWork, IsSameSearch, IsTurnOver, IsBegun}
use Rattle.bl_team.specs.Turns.{IsEnd, IsTurn}
use Rattle.bl_team.specs.declared.turn.Turn.{Turn}
use Rattle.bl_team.specs.declared.turn.Turn.TheVariants as turn

-- ---- which nodes are claimed

not_ready : (s : Status) (w : ℕ) (u : Option ℤ) → s ≡ Ready → s ≡ Claimed w u → ⊥
not_ready s w u e e' = absurd (grind (arith, e, e'))

not_closed : (leaf : ClosedLeaf) (w : ℕ) (u : Option ℤ) → Closed leaf ≡ Claimed w u → ⊥
not_closed leaf w u e = absurd (grind (arith, e))

not_divided : (h : Halved) (licence : NodeLicence) (low w : ℕ) (u : Option ℤ)
    → Divided h licence low ≡ Claimed w u → ⊥
not_divided h licence low w u e = absurd (grind (arith, e))

-- a claimed node among nodes with another status of node k is node k, or was claimed before
claimed_before : (nodes : List Node) (k : ℕ) (s : Status) (j w : ℕ) (u : Option ℤ) → j ≢ k
    → (node_at (with_status nodes k s) j).status ≡ Claimed w u → (node_at nodes j).status ≡ Claimed w u
claimed_before nodes k s j w u ne e = sym (other_status nodes k s j ne) ∙ e

pub claimed_alone : (b : Book) (k : ℕ) → IsIdle b → IsAllowed b (books.Claim zero k)
    → IsBegun b k (after b (books.Claim zero k))
claimed_alone b k idle may =
    let s = Claimed zero (best_value b) in
    let count = same_length b.nodes k s in
    let live = live_told b (event.Claim zero k) (live_count b.nodes) may refl in
    record {
      same = record { program = refl; limit = refl };
      work = record {
        workers = idle.workers;
        claimed = record {
          there = (let t = may.1.there in omega (arith, count, t));
          status = new_status b.nodes k s may.1.there;
        };
        none = λ j w u has. elim (cases_eq j k) [
          | inl same ↦ same
          | inr other ↦ absurd (idle.none j w u (record {
            there = (let t = has.there in omega (arith, count, t));
            status = claimed_before b.nodes k s j w u other has.status;
          }))
        ];
      };
      left = omega (arith, count, live);
    }

-- no node is claimed among nodes that have lost the only claim
none_left : (b : Book) (k : ℕ) (s : Status) (j w : ℕ) (u : Option ℤ) → IsAtWork b k
    → ((w : ℕ) (u : Option ℤ) → s ≡ Claimed w u → ⊥) → j < length b.nodes
    → (node_at (with_status b.nodes k s) j).status ≡ Claimed w u → ⊥
none_left b k s j w u work other there has =
    elim (cases_eq j k) [
      | inl same ↦
          let P : ℕ → Type 0 = λ i. (node_at (with_status b.nodes k s) i).status ≡ Claimed w u in
          other w u (sym (new_status b.nodes k s work.claimed.there) ∙ subst P same has)
      | inr ne ↦
          absurd (ne (work.none j w u
          (record { there = there; status = claimed_before b.nodes k s j w u ne has })))
    ]

pub closed_alone : (b : Book) (k : ℕ) (leaf : ClosedLeaf) → IsAtWork b k → IsAllowed b (books.Close zero k leaf)
    → IsTurnOver b (after b (books.Close zero k leaf))
closed_alone b k leaf work may =
    let count = same_length b.nodes k (Closed leaf) in
    let live = live_told b (event.Close zero k leaf) (live_count b.nodes) may refl in
    let some = live_some b (event.Close zero k leaf) may tt in
    record {
      same = record { program = refl; limit = refl };
      idle = record {
        workers = work.workers;
        none = λ j w u has.
            let there = has.there in
            none_left b k (Closed leaf) j w u work (not_closed leaf) (omega (arith, count, there)) has.status;
      };
      less = omega (arith, count, live, some);
    }

-- nor among these and two further ones that are ready
none_in_halves : (nodes : List Node) (m m' : Node) (j w : ℕ) (u : Option ℤ) → m.status ≡ Ready → m'.status ≡ Ready
    → ((i : ℕ) → i < length nodes → (node_at nodes i).status ≡ Claimed w u → ⊥)
    → j < length nodes + 2 → (node_at (nodes ++ m ∷ m' ∷ []) j).status ≡ Claimed w u → ⊥
none_in_halves nodes m m' j w u ready ready' none there has =
    elim (cases_eq j (length nodes)) [
      | inl first ↦
          let e = more_node nodes m (m' ∷ []) j (sym first) in
          not_ready m.status w u ready (subst (λ (x : Node). x.status ≡ Claimed w u) e has)
      | inr ne ↦ elim (cases_eq j (suc (length nodes))) [
        | inl second ↦
            let P : ℕ → Type 0 = λ i. (node_at (nodes ++ m ∷ m' ∷ []) i).status ≡ Claimed w u in
            let e = next_node nodes m m' [] (length nodes) refl in
            not_ready m'.status w u ready'
            (subst (λ (x : Node). x.status ≡ Claimed w u) e (subst P second has))
        | inr ne' ↦
            let old : j < length nodes = omega (arith, ne, ne', there) in
            none j old (subst (λ (x : Node). x.status ≡ Claimed w u) (old_node nodes (m ∷ m' ∷ []) j old) has)
      ]
    ]

pub split_alone : (b : Book) (k : ℕ) (h : Halved) (licence : NodeLicence) (cuts : List NoGoodCut) → IsAtWork b k
    → IsAllowed b (books.Split zero k h licence cuts) → IsTurnOver b (after b (books.Split zero k h licence cuts))
split_alone b k h licence cuts work may =
    let s = Divided h licence (length b.nodes) in
    let low = ready_node (low_half h.area h.column h.at) cuts in
    let high = ready_node (high_half h.area h.column h.at) cuts in
    let count = same_length b.nodes k s in
    let all = length-append (with_status b.nodes k s) (low ∷ high ∷ []) in
    let live = live_told b (event.Split zero k h licence cuts) (live_count b.nodes) may refl in
    let room = may.1.room in
    record {
      same = record { program = refl; limit = refl };
      idle = record {
        workers = work.workers;
        none = λ j w u has.
            let there = has.there in
            none_in_halves (with_status b.nodes k s) low high j w u refl refl
            (λ i at is. none_left b k s i w u work (not_divided h licence (length b.nodes))
            (omega (arith, count, at)) is)
            (omega (arith, count, all, there)) has.status;
      };
      less = omega (arith, count, all, live, room);
    }

-- ---- what the calls leave

over_itself : (b : Book) → IsSameSearch b b
over_itself b = record { program = refl; limit = refl }

pub begun_by_claim : (b b1 b2 : KeptBook) (k : ℕ) → b1.ledger ≡ b.ledger → b2 ≡ entered b1 (books.Claim zero k)
    → IsAllowed b1.ledger.book (books.Claim zero k) → IsIdle b.ledger.book → IsBegun b.ledger.book k b2.ledger.book
begun_by_claim b b1 b2 k room claim may idle =
    let P : Ledger → Type 0 = λ l. IsBegun l.book k b2.ledger.book in
    let Q : KeptBook → Type 0 = λ x. IsBegun b1.ledger.book k x.ledger.book in
    let idle' : IsIdle b1.ledger.book = subst (λ (l : Ledger). IsIdle l.book) (sym room) idle in
    subst P room (subst Q (sym claim) (claimed_alone b1.ledger.book k idle' may))

pub over_by_close : (b b' : KeptBook) (k : ℕ) (leaf : ClosedLeaf) → b' ≡ entered b (books.Close zero k leaf)
    → IsAllowed b.ledger.book (books.Close zero k leaf) → IsAtWork b.ledger.book k
    → IsTurnOver b.ledger.book b'.ledger.book
over_by_close b b' k leaf close may work =
    let Q : KeptBook → Type 0 = λ x. IsTurnOver b.ledger.book x.ledger.book in
    subst Q (sym close) (closed_alone b.ledger.book k leaf work may)

pub over_by_split : (b b' : KeptBook) (k : ℕ) (h : Halved) (licence : NodeLicence) (cuts : List NoGoodCut)
    → b' ≡ entered b (books.Split zero k h licence cuts) → IsAllowed b.ledger.book (books.Split zero k h licence cuts)
    → IsAtWork b.ledger.book k → IsTurnOver b.ledger.book b'.ledger.book
over_by_split b b' k h licence cuts split may work =
    let Q : KeptBook → Type 0 = λ x. IsTurnOver b.ledger.book x.ledger.book in
    subst Q (sym split) (split_alone b.ledger.book k h licence cuts work may)

-- ---- what can't be refused

claimed_value : (w w' : ℕ) (u u' : Option ℤ) → Claimed w u ≡ Claimed w' u' → u ≡ u'
claimed_value w w' u u' e = grind (arith, e)

-- ---- ends

pub full_end : (n : ℕ) (l : Ledger) (k made : ℕ) (h : Halved) (licence back : NodeLicence) → IsKept l
    → l.book.workers ≡ 1 → CanSplit h.area h.column h.at → IsNodeLicence licence
    → IsSplitFailure l.book zero k h licence (split.Full made back) → IsEnd n l.book l (Nodes k back)
full_end n l k made h licence back kept one can holds fails =
    let cause = full_book_may_end l zero k h licence back made kept can holds fails in
    let room = room_is_left l k kept.model kept.limit_least kept.run cause.live.there cause.live.live cause.several in
    let full = cause.full in
    record {
      same = over_itself l.book;
      workers = one;
      cause = cause;
      within = omega (arith, room, full);
    }

-- ---- whole turns

same_more : (b b1 b2 : Book) → IsSameSearch b b1 → IsSameSearch b1 b2 → IsSameSearch b b2
same_more b b1 b2 g h = record { program = h.program ∙ g.program; limit = h.limit ∙ g.limit }

over_more : (b b1 b2 : Book) (k : ℕ) → IsBegun b k b1 → IsTurnOver b1 b2 → IsTurnOver b b2
over_more b b1 b2 k begun over =
    let left = begun.left in
    let less = over.less in
    record { same = same_more b b1 b2 begun.same over.same; idle = over.idle; less = omega (arith, left, less) }

end_more : (n : ℕ) (b b1 : Book) (l : Ledger) (end : Ended) → IsSameSearch b b1 → IsEnd n b1 l end → IsEnd n b l end
end_more n b b1 l end same ends = record {
  same = same_more b b1 l.book same ends.same;
  workers = ends.workers;
  cause = ends.cause;
  within =
      subst (λ (m : ℕ). EndsWithin b.program m n end) same.limit
      (subst (λ (p : Program). EndsWithin p b1.limit n end) same.program ends.within);
}

pub turn_from : (n : ℕ) (b b1 : Book) (k : ℕ) (t : Turn) (l : Ledger) → IsBegun b k b1 → IsTurn n b1 t l
    → IsTurn n b t l
turn_from n b b1 k turn.Closed l begun is = over_more b b1 l.book k begun is
turn_from n b b1 k (turn.Divided low high) l begun is = over_more b b1 l.book k begun is
turn_from n b b1 k (turn.Ended end) l begun is = end_more n b b1 l end begun.same is

-- the task of a node of a book that is kept is one that can be worked on
pub job_of_task : (l : Ledger) (k : ℕ) (t : Task) → IsKept l → IsTaskOf l.book zero k t → IsJob (job_of t)
job_of_task l k t kept task =
    let sound = every_run_is_sound l kept.model kept.limit_least kept.run in
    let there = task.claimed.1.there in
    record {
      within =
          subst (λ (a : Area). IsWithinArea a (root (arc_value t.model))) (sym task.area)
          (subst (λ (p : Program). IsWithinArea (node_at l.book.nodes k).area (root p)) (sym task.program)
          (sound.within k there));
      best =
          subst (λ (x : Option Incumbent). AreIncumbents (arc_value t.model) x) (sym task.best)
          (subst (λ (p : Program). AreIncumbents p l.book.best) (sym task.program) sound.incumbent);
    }

-- ---- the search

pub end_from : (n : ℕ) (b b1 : Book) (l : Ledger) (end : Ended) → IsSameSearch b b1 → IsEnd n b1 l end → IsEnd n b l end
end_from n b b1 l end same ends = end_more n b b1 l end same ends
