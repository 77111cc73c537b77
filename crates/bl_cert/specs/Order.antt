-- Internal. The nodes of a book in preorder, by their numbers.
use Rattle.std.specs.Prelude.{ℕ, suc, ◌≡◌, ◌<◌, List, [], ◌∷◌, length}
use Rattle.std.specs.List.{AllByRecursion, flat_map}
use Rattle.bl_terms.specs.Trees.{BareNode, Leaf, Split}
use Rattle.bl_leaf_terms.specs.Leaves.{ClosedLeaf}
use Rattle.bl_book_terms.specs.Books.{Status, Ready, Claimed, Divided, Closed, Book, node_at}
use Rattle.bl_cert_book.specs.BookCertificates.{book_tree}

-- a node without those under it; nothing where it is still to be worked on
abbrev pub own_node : Status → List (BareNode ClosedLeaf)
own_node Ready = []
own_node (Claimed w u) = []
own_node (Divided h licence low) = Split h.column h.at tt ∷ []
own_node (Closed leaf) = Leaf leaf ∷ []

-- the node of a number, and those of numbers in turn
abbrev pub node_here : Book → ℕ → List (BareNode ClosedLeaf)
node_here b k = own_node (node_at b.nodes k).status

abbrev pub nodes_here : Book → List ℕ → List (BareNode ClosedLeaf)
nodes_here b ks = flat_map (node_here b) ks

-- nodes of these numbers are there
abbrev pub AreThere : Book → List ℕ → Type 0
AreThere b ks = AllByRecursion (λ k. k < length b.nodes) ks

-- these are the nodes of the book's tree in preorder
pub record IsPreorder (b : Book) (ks : List ℕ) : Type 0 where
  pub nodes : nodes_here b ks ≡ book_tree b
  pub there : AreThere b ks

-- the numbers of a node's halves, the low one first; none where it isn't split
abbrev pub halves_by : Status → List ℕ
halves_by Ready = []
halves_by (Claimed w u) = []
halves_by (Divided h licence low) = low ∷ suc low ∷ []
halves_by (Closed leaf) = []

abbrev pub halves_of : Book → ℕ → List ℕ
halves_of b k = halves_by (node_at b.nodes k).status
