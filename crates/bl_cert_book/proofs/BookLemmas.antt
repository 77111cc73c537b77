-- The certificate of a finished book is accepted.
use Rattle.std.proofs.Common.{◌≡◌, ℕ, ◌+◌, ◌<◌, refl, sym, ◌∙◌, ap, subst, arith, List, [], ◌∷◌, ◌++◌, length, Option}
use Rattle.std.proofs.Common.{Some, None}
use Rattle.std.specs.Prelude.{All, IsSome, option_map}
use Rattle.std.proofs.lemmas.Int.{ints}
use Rattle.std.proofs.lemmas.List.Elements.{All-cons, All-nil, All-append}
use Rattle.std.proofs.lemmas.List.{length-append}
use Rattle.bl_terms.specs.Points.{Area}
use Rattle.bl_terms.specs.Programs.{Program, root, link_of, cost_at, follower_at, value_at}
use Rattle.bl_terms.specs.Responses.{Entry, Best, NoResponse, IsTrueEntry}
use Rattle.bl_terms.specs.Feasible.{BilevelFeasible}
use Rattle.bl_terms.specs.Trees.{Anything, Covers, low_half, high_half}
use Rattle.bl_terms.proofs.ResponseLemmas.{entry_law, no_response_no_point, lower_from_rows}
use Rattle.bl_model.specs.View.{IsModel}
use Rattle.bl_fproof.specs.Steps.{entry_of}
use Rattle.bl_leaf_terms.specs.Incumbents.{Incumbent, AreIncumbents, IsEntryFor, cutoff_of}
use Rattle.bl_leaf_terms.proofs.LeafLemmas.{true_entry}
use Rattle.bl_book_terms.specs.Books.{Status, Ready, Claimed, Divided, Closed, Node, node_at, Book}
use Rattle.bl_book_terms.specs.Books.{with_status, ready_node, opening, after, Event, Claim, Back, Split, Close}
use Rattle.bl_book_terms.specs.Books.{Offer, Leads, IsCurrent, IsFinished, best_value}
use Rattle.bl_book_terms.proofs.NodeLemmas.{same_length, same_area, old_node}
use Rattle.bl_book_terms.specs.Laws.{IsSound}
use Rattle.bl_book_terms.proofs.RunLemmas.{every_run_is_sound}
use Rattle.bl_cert_terms.specs.Certificates.{ProvedEntry, IsProvedEntry, SaysBest, IsShownPoint, HasShownPoint}
use Rattle.bl_cert_terms.specs.Certificates.{IsAccepted, stated_cutoff}
use Rattle.bl_cert_book.specs.Leaves.{PlacedTree, placed_tree}
use Rattle.bl_cert_book.specs.BookCertificates.{certificate_of, FinishedBookHasCertificate}
use Rattle.bl_cert_book.specs.BookCertificates.{book_tree, stated_by, certificate_with, FinishedBookIsAccepted}
use Rattle.bl_cert_book.proofs.PlacedTrees.{can_place_tree}
use Rattle.bl_cert_book.specs.Entries.{entries_of_best, entries_of_tree, with_entries}
use Rattle.bl_cert_book.proofs.EntryLemmas.{IsAnswerOf, HasLink, all_entries, rising_entries, links_there, says_best}
use Rattle.bl_cert_book.proofs.CutLemmas.{extends_itself}
use Rattle.bl_cert_book.proofs.TreeLemmas.{IsBookLeaf, tree_covers, tree_answers, tree_placed, option_map_some}
use Rattle.bl_cert_book.proofs.TreeLemmas.{all_left, all_right}

-- ---- the best incumbent

-- the entry of an incumbent is an answer of the program
best_answers : (p : Program) (best : Option Incumbent) → AreIncumbents p best
    → All (IsAnswerOf p) (entries_of_best best)
best_answers p None are = All-nil (IsAnswerOf p)
best_answers p (Some f) are =
    All-cons (IsAnswerOf p) f.entry [] (are.1.entry.admitted, are.1.entry.program ∙ are.0) (All-nil (IsAnswerOf p))

-- its cost is the cutoff that is stated
current_best : (p : Program) (best : Option Incumbent) → AreIncumbents p best
    → IsCurrent (cutoff_of best) (stated_cutoff p (stated_by p best))
current_best p None are = tt
current_best p (Some f) are =
    let same : cost_at p f.point ≡ cost_at f.program f.point = ap (λ (q : Program). cost_at q f.point) (sym are.0) in
    omega (arith, ints)

-- a bilevel feasible point costs the follower what entries say of its link, where they have the link of its answer
shown_point : (p : Program) (entries : List ProvedEntry) (f : Incumbent) → IsModel p → All (IsProvedEntry p) entries
    → BilevelFeasible p f.point → IsEntryFor p (link_of p f.point) f.entry → HasLink entries f.entry
    → IsShownPoint p entries f.point (value_at p f.point)
shown_point p entries f m proved feasible for has =
    record {
      inside = feasible.inside;
      rows = feasible.rows;
      value = refl;
      follower = by (entry_of f.entry.answered) refl (true_entry p (link_of p f.point) f.entry for);
    }
  where
    by : (x : Entry) → entry_of f.entry.answered ≡ x → IsTrueEntry p (link_of p f.point) x
        → SaysBest entries (link_of p f.point) (follower_at p f.point)
    by (Best y v) is holds =
        let cost = (entry_law p f.point y v m.sound feasible.inside feasible.rows holds).0.0 feasible in
        subst (SaysBest entries (link_of p f.point)) (sym cost)
        (says_best p entries (link_of p f.point) f.entry y v m proved for has is)
    by NoResponse is holds =
        absurd (no_response_no_point p f.point m.sound feasible.inside holds (lower_from_rows p f.point feasible.rows))

best_point : (p : Program) (best : Option Incumbent) (entries : List ProvedEntry) → IsModel p → AreIncumbents p best
    → All (IsProvedEntry p) entries → All (HasLink entries) (entries_of_best best)
    → HasShownPoint p entries (stated_by p best)
best_point p None entries m are proved links = tt
best_point p (Some f) entries m are proved links =
    let feasible : BilevelFeasible p f.point =
    subst (λ (q : Program). BilevelFeasible q f.point) are.0 are.1.feasible in
    let for : IsEntryFor p (link_of p f.point) f.entry =
    subst (λ (q : Program). IsEntryFor q (link_of q f.point) f.entry) are.0 are.1.entry in
    shown_point p entries f m proved feasible for (links 0 f.entry (omega arith))

-- ---- the root

-- the first node is there, with this box
record HasFirst (nodes : List Node) (a : Area) : Type 0 where
  there : 0 < length nodes
  area : (node_at nodes 0).area ≡ a

first_with_status : (nodes : List Node) (a : Area) (k : ℕ) (s : Status) → HasFirst nodes a
    → HasFirst (with_status nodes k s) a
first_with_status nodes a k s h = record {
  there = let l = same_length nodes k s in let t = h.there in omega arith;
  area = same_area nodes k s 0 ∙ h.area;
}

first_of_more : (nodes more : List Node) (a : Area) → HasFirst nodes a → HasFirst (nodes ++ more) a
first_of_more nodes more a h = record {
  there = let l = length-append nodes more in let t = h.there in omega arith;
  area = ap (λ (n : Node). n.area) (old_node nodes more 0 h.there) ∙ h.area;
}

-- a step leaves it as it is
first_after : (b : Book) (e : Event) (a : Area) → HasFirst b.nodes a → HasFirst (after b e).nodes a
first_after b (Claim w k) a h = first_with_status b.nodes a k (Claimed w (best_value b)) h
first_after b (Back w k) a h = first_with_status b.nodes a k Ready h
first_after b (Close w k leaf) a h = first_with_status b.nodes a k (Closed leaf) h
first_after b (Offer w f) a h = h
first_after b (Split w k halves licence cuts) a h =
    first_of_more (with_status b.nodes k (Divided halves licence (length b.nodes)))
    (ready_node (low_half halves.area halves.column halves.at) cuts
    ∷ ready_node (high_half halves.area halves.column halves.at) cuts ∷ []) a
    (first_with_status b.nodes a k (Divided halves licence (length b.nodes)) h)

first_led : (b b' : Book) (events : List Event) (a : Area) → HasFirst b.nodes a → Leads b events b'
    → HasFirst b'.nodes a
first_led b b' [] a h leads = subst (λ (x : Book). HasFirst x.nodes a) leads h
first_led b b' (e ∷ events) a h leads = first_led (after b e) b' events a (first_after b e a h) leads.1

-- ---- the whole

accepted : (b : Book) (t : PlacedTree) → IsModel b.program → IsSound b → IsFinished b
    → HasFirst b.nodes (root b.program)
    → placed_tree (length b.program.rows + 1) [] (book_tree b) ≡ Some t → IsAccepted b.program (certificate_with b t)
accepted b t m sound finished first e =
    let tree = book_tree b in
    let used = entries_of_best b.best ++ entries_of_tree tree in
    let covers : Covers Anything (IsBookLeaf b) tree (root b.program ∷ []) =
    subst (λ (a : Area). Covers Anything (IsBookLeaf b) tree (a ∷ [])) first.area
    (tree_covers b (length b.nodes) 0 sound finished first.there (omega arith)) in
    let answers : All (IsAnswerOf b.program) used =
    All-append (IsAnswerOf b.program) (entries_of_best b.best) (entries_of_tree tree)
    (best_answers b.program b.best sound.incumbent) (tree_answers b tree (root b.program ∷ []) covers) in
    let entries = with_entries [] used in
    let proved : All (IsProvedEntry b.program) entries =
    all_entries b.program [] used (All-nil (IsProvedEntry b.program)) answers in
    let links : All (HasLink entries) used = links_there [] used in
    let placed = tree_placed b tree (root b.program ∷ []) [] t m covers tt e in
    record {
      point =
          best_point b.program b.best entries m sound.incumbent proved
          (all_left (HasLink entries) (entries_of_best b.best) (entries_of_tree tree) links);
      entries = proved;
      rising = rising_entries [] used (λ i j d before below. absurd (omega arith));
      cuts = placed.steps_are;
      tree =
          placed.closes (certificate_with b t)
          (record {
            extends = extends_itself t.steps;
            proved = proved;
            links = all_right (HasLink entries) (entries_of_best b.best) (entries_of_tree tree) links;
            current = current_best b.program b.best sound.incumbent;
          });
    }

pub finished_book_is_accepted : FinishedBookIsAccepted
finished_book_is_accepted l c m some run finished e =
    let sound = every_run_is_sound l m some run in
    let start = opening l.book.program l.book.workers l.book.limit in
    let first =
    first_led start l.book l.journal (root l.book.program) (record { there = omega arith; area = refl }) run in
    option_map_some (certificate_with l.book)
    (placed_tree (length l.book.program.rows + 1) [] (book_tree l.book)) c e
    (λ t is same. subst (IsAccepted l.book.program) same (accepted l.book t m sound finished first is))

-- ---- there is one

has_certificate : (b : Book) → IsSound b → IsFinished b → HasFirst b.nodes (root b.program)
    → IsSome (certificate_of b)
has_certificate b sound finished first =
    let tree = book_tree b in
    let covers : Covers Anything (IsBookLeaf b) tree ((node_at b.nodes 0).area ∷ []) =
    tree_covers b (length b.nodes) 0 sound finished first.there (omega arith) in
    let placed =
    can_place_tree (length b.program.rows + 1) b tree ((node_at b.nodes 0).area ∷ []) [] covers tt
    (λ i j c d e. absurd (omega arith)) in
    subst IsSome (sym (ap (option_map (certificate_with b)) placed.is)) refl

pub finished_book_has_certificate : FinishedBookHasCertificate
finished_book_has_certificate l m some run finished =
    let start = opening l.book.program l.book.workers l.book.limit in
    let first =
    first_led start l.book l.journal (root l.book.program) (record { there = omega arith; area = refl }) run in
    has_certificate l.book (every_run_is_sound l m some run) finished first
