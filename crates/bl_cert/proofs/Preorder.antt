-- The nodes of a book one after the other, and those that are still to come.
use Rattle.std.proofs.Common.{◌≡◌, ℕ, ◌+◌, ◌*◌, ◌<◌, refl, sym, ◌∙◌, ap, subst, arith, List, [], ◌∷◌, ◌++◌}
use Rattle.std.proofs.Common.{length}
use Rattle.std.proofs.Common.{append_assoc, ⊎_elim, take, drop, slice_index_or}
use Rattle.std.specs.List.{flat_map}
use Rattle.std.proofs.lemmas.Bool.{cases_lt}
use Rattle.std.proofs.lemmas.List.{append-nil, get_or_past, length-append, nil_from_length, take_more, drop_more}
use Rattle.std.proofs.lemmas.List.{take-append-drop}
use Rattle.std.proofs.lemmas.List.Concat.{flat_map-append}
use Rattle.bl_terms.specs.Trees.{BareNode}
use Rattle.bl_model.specs.Boxes.{Halved}
use Rattle.bl_leaf_terms.specs.Nodes.{NodeLicence}
use Rattle.bl_leaf_terms.specs.Leaves.{ClosedLeaf}
use Rattle.bl_book_terms.specs.Books.{Status, Ready, Claimed, Divided, Closed, Node, node_at, no_node, Book, IsLive}
use Rattle.bl_book_terms.specs.Books.{IsFinished}
use Rattle.bl_book_terms.specs.Laws.{KeepsStatus, IsSound, leaf_count}
use Rattle.bl_core.specs.Accounts.{IsUnsplit}
use Rattle.bl_cert_book.specs.BookCertificates.{book_tree}
use Rattle.bl_cert.specs.Order.{own_node, node_here, nodes_here, AreThere, IsPreorder, halves_by, halves_of}
use Rattle.bl_cert.proofs.Trees.{whole_tree, opened}

-- ---- halves

pub unsplit-halves : (b : Book) (k : ℕ) → IsUnsplit b k → halves_of b k ≡ []
unsplit-halves b k whole =
    ⊎_elim (λ there. by (node_at b.nodes k).status
    (λ h licence low is. whole h licence low (record { there = there; status = is })))
    (λ past. ap (λ (n : Node). halves_by n.status) (get_or_past b.nodes k no_node past))
    (cases_lt k (length b.nodes))
  where
    by : (s : Status) → ((h : Halved) (licence : NodeLicence) (low : ℕ) → s ≡ Divided h licence low → ⊥)
        → halves_by s ≡ []
    by Ready none = refl
    by (Claimed w u) none = refl
    by (Closed leaf) none = refl
    by (Divided h licence low) none = absurd (none h licence low refl)

-- ---- numbers of nodes that are there

there-append : (b : Book) (ks js : List ℕ) → AreThere b ks → AreThere b js → AreThere b (ks ++ js)
there-append b [] js f g = g
there-append b (k ∷ ks) js f g = (f.0, there-append b ks js f.1 g)

halves-there : (b : Book) (k : ℕ) → IsSound b → k < length b.nodes → AreThere b (halves_of b k)
halves-there b k sound there = by (node_at b.nodes k).status (sound.kept k there)
  where
    by : (s : Status) → KeepsStatus b k s → AreThere b (halves_by s)
    by Ready keeps = tt
    by (Claimed w u) keeps = tt
    by (Closed leaf) keeps = tt
    by (Divided h licence low) keeps = (let t = keeps.there in omega arith, (keeps.there, tt))

-- ---- the way through the tree

nodes-push : (b : Book) (ks : List ℕ) (k : ℕ) → nodes_here b (ks ++ k ∷ []) ≡ nodes_here b ks ++ node_here b k
nodes-push b ks k =
    flat_map-append (node_here b) ks (k ∷ [])
    ∙ ap (λ (ns : List (BareNode ClosedLeaf)). nodes_here b ks ++ ns) (append-nil (node_here b k))

-- one more of the first nodes, and the nodes around it
pub nodes-more : (b : Book) (ks : List ℕ) (i : ℕ) → i < length ks
    → nodes_here b (take i ks) ++ node_here b (slice_index_or ks i 0) ≡ nodes_here b (take (i + 1) ks)
nodes-more b ks i there =
    sym (ap (nodes_here b) (take_more ks i 0 there) ∙ nodes-push b (take i ks) (slice_index_or ks i 0))

pub nodes-around : (b : Book) (ks : List ℕ) (i : ℕ) → i < length ks
    → nodes_here b ks
    ≡ nodes_here b (take i ks) ++ (node_here b (slice_index_or ks i 0) ++ nodes_here b (drop (i + 1) ks))
nodes-around b ks i there =
    ap (nodes_here b) (sym (take-append-drop i ks))
    ∙ (flat_map-append (node_here b) (take i ks) (drop i ks)
    ∙ ap (λ (js : List ℕ). nodes_here b (take i ks) ++ nodes_here b js) (drop_more ks i 0 there))

-- the nodes so far, and then the trees under those that wait, are the nodes of the tree
pub record IsOnTheWay (b : Book) (ks waiting : List ℕ) : Type 0 where
  pub nodes : nodes_here b ks ++ flat_map (whole_tree b) waiting ≡ book_tree b
  pub there : AreThere b ks
  pub ahead : AreThere b waiting

first-there : (b : Book) → IsSound b → 0 < length b.nodes
first-there b sound =
    ⊎_elim (λ some. some) (λ none. absurd (empty (nil_from_length b.nodes (omega arith)) sound.made))
    (cases_lt 0 (length b.nodes))
  where
    empty : b.nodes ≡ [] → length b.nodes + 1 ≡ 2 * leaf_count b.nodes → ⊥
    empty e made =
        let m = subst (λ (nodes : List Node). length nodes + 1 ≡ 2 * leaf_count nodes) e made in omega arith

pub way-begins : (b : Book) → IsSound b → IsOnTheWay b [] (0 ∷ [])
way-begins b sound = record {
  nodes = append-nil (whole_tree b 0);
  there = tt;
  ahead = (first-there b sound, tt);
}

-- one node further
pub way-on : (b : Book) (ks waiting : List ℕ) (k : ℕ) → IsSound b → IsOnTheWay b ks (k ∷ waiting)
    → IsOnTheWay b (ks ++ k ∷ []) (halves_of b k ++ waiting)
way-on b ks waiting k sound way =
    let here = node_here b k in
    let under = flat_map (whole_tree b) (halves_of b k) in
    let rest = flat_map (whole_tree b) waiting in
    record {
      nodes =
          ap (λ (ns : List (BareNode ClosedLeaf)). ns ++ flat_map (whole_tree b) (halves_of b k ++ waiting))
          (nodes-push b ks k)
          ∙ (ap (λ (ns : List (BareNode ClosedLeaf)). (nodes_here b ks ++ here) ++ ns)
          (flat_map-append (whole_tree b) (halves_of b k) waiting)
          ∙ (append_assoc (nodes_here b ks) here (under ++ rest)
          ∙ (ap (λ (ns : List (BareNode ClosedLeaf)). nodes_here b ks ++ ns)
          (sym (append_assoc here under rest)
          ∙ ap (λ (ns : List (BareNode ClosedLeaf)). ns ++ rest) (sym (opened b k sound way.ahead.0)))
          ∙ way.nodes)));
      there = there-append b ks (k ∷ []) way.there (way.ahead.0, tt);
      ahead = there-append b (halves_of b k) waiting (halves-there b k sound way.ahead.0) way.ahead.1;
    }

pub way-ends : (b : Book) (ks : List ℕ) → IsOnTheWay b ks [] → IsPreorder b ks
way-ends b ks way = record {
  nodes = sym (append-nil (nodes_here b ks)) ∙ way.nodes;
  there = way.there;
}

-- ---- how many nodes are still to come

pub to_come : Book → List ℕ → ℕ
to_come b waiting = length (flat_map (whole_tree b) waiting)

one-node : (b : Book) (k : ℕ) → IsFinished b → k < length b.nodes → length (node_here b k) ≡ 1
one-node b k finished there = by (node_at b.nodes k).status (finished.none k there)
  where
    by : (s : Status) → ¬ IsLive s → length (own_node s) ≡ 1
    by Ready dead = absurd (dead tt)
    by (Claimed w u) dead = absurd (dead tt)
    by (Closed leaf) dead = refl
    by (Divided h licence low) dead = refl

pub fewer-to_come : (b : Book) (k : ℕ) (waiting : List ℕ) → IsSound b → IsFinished b → k < length b.nodes
    → to_come b (halves_of b k ++ waiting) < to_come b (k ∷ waiting)
unfolding to_come
fewer-to_come b k waiting sound finished there =
    let here = node_here b k in
    let under = flat_map (whole_tree b) (halves_of b k) in
    let rest = flat_map (whole_tree b) waiting in
    let one = one-node b k finished there in
    let tree = ap length (opened b k sound there) in
    let parts = length-append here under in
    let before = length-append (whole_tree b k) rest in
    let after =
    ap length (flat_map-append (whole_tree b) (halves_of b k) waiting) ∙ length-append under rest in
    omega arith
