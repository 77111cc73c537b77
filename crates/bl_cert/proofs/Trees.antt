-- The trees under the nodes of a book, as deep as they are.
use Rattle.std.proofs.Common.{◌≡◌, ℕ, zero, suc, ◌+◌, ◌<◌, ◌≤◌, refl, sym, ap, arith, List, ◌∷◌, ◌++◌, length}
use Rattle.std.proofs.lemmas.List.{append-nil}
use Rattle.std.specs.List.{flat_map}
use Rattle.bl_terms.specs.Trees.{BareNode, Split}
use Rattle.bl_leaf_terms.specs.Leaves.{ClosedLeaf}
use Rattle.bl_book_terms.specs.Books.{Status, Ready, Claimed, Divided, Closed, Book, node_at}
use Rattle.bl_book_terms.specs.Laws.{KeepsStatus, IsSound}
use Rattle.bl_cert_book.specs.BookCertificates.{by_status, tree_under}
use Rattle.bl_cert.specs.Order.{own_node, node_here, halves_by, halves_of}

-- the tree under a node
abbrev pub whole_tree : Book → ℕ → List (BareNode ClosedLeaf)
whole_tree b k = tree_under b.nodes (length b.nodes) k

-- no tree is deeper than the nodes from its root on are many
enough : (b : Book) (k d e : ℕ) → IsSound b → k < length b.nodes → length b.nodes ≤ k + d → length b.nodes ≤ k + e
    → tree_under b.nodes d k ≡ tree_under b.nodes e k
enough b k zero e sound there deep more = absurd (omega arith)
enough b k (suc d) zero sound there deep more = absurd (omega arith)
enough b k (suc d) (suc e) sound there deep more =
    by (node_at b.nodes k).status (sound.kept k there)
    (λ j later below. enough b j d e sound below (omega (arith, later)) (omega (arith, later)))
  where
    by : (s : Status) → KeepsStatus b k s
        → ((j : ℕ) → k < j → j < length b.nodes → tree_under b.nodes d j ≡ tree_under b.nodes e j)
        → by_status s (tree_under b.nodes d) ≡ by_status s (tree_under b.nodes e)
    by Ready keeps under = refl
    by (Claimed w u) keeps under = refl
    by (Closed leaf) keeps under = refl
    by (Divided h licence low) keeps under =
        let low_same : tree_under b.nodes d low ≡ tree_under b.nodes e low =
        under low keeps.higher (let t = keeps.there in omega arith) in
        let high_same : tree_under b.nodes d (suc low) ≡ tree_under b.nodes e (suc low) =
        under (suc low) (let t = keeps.higher in omega arith) keeps.there in
        rw low_same (rw high_same refl)

-- it is the node itself and the trees under its halves
pub opened : (b : Book) (k : ℕ) → IsSound b → k < length b.nodes
    → whole_tree b k ≡ node_here b k ++ flat_map (whole_tree b) (halves_of b k)
opened b k sound there = by (length b.nodes) refl
  where
    under : (m : ℕ) → length b.nodes ≡ suc m → (s : Status) → KeepsStatus b k s
        → by_status s (tree_under b.nodes m) ≡ own_node s ++ flat_map (whole_tree b) (halves_by s)
    under m is Ready keeps = refl
    under m is (Claimed w u) keeps = refl
    under m is (Closed leaf) keeps = refl
    under m is (Divided h licence low) keeps =
        let low_same : tree_under b.nodes m low ≡ whole_tree b low =
        enough b low m (length b.nodes) sound (let t = keeps.there in omega arith)
        (let t = keeps.higher in omega (arith, is)) (omega arith) in
        let high_same : tree_under b.nodes m (suc low) ≡ whole_tree b (suc low) =
        enough b (suc low) m (length b.nodes) sound keeps.there (let t = keeps.higher in omega (arith, is))
        (omega arith) in
        ap (λ (t : List (BareNode ClosedLeaf)). Split h.column h.at tt ∷ t)
        (rw low_same (rw high_same (ap (λ (t : List (BareNode ClosedLeaf)). whole_tree b low ++ t)
        (sym (append-nil (whole_tree b (suc low)))))))

    by : (n : ℕ) → length b.nodes ≡ n
        → tree_under b.nodes n k ≡ node_here b k ++ flat_map (whole_tree b) (halves_of b k)
    by zero is = absurd (omega (arith, is))
    by (suc m) is = under m is (node_at b.nodes k).status (sound.kept k there)
