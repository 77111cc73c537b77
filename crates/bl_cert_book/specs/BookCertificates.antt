-- Trusted. The certificate of a finished book, and that it is accepted.
use Rattle.std.specs.Prelude.{ℕ, zero, suc, ◌≡◌, ◌+◌, ◌≤◌, List, [], ◌∷◌, ◌++◌, length, Option, Some, None}
use Rattle.std.specs.Prelude.{option_map, IsSome}
use Rattle.bl_terms.specs.Programs.{Program, value_at}
use Rattle.bl_terms.specs.Trees.{BareNode, Leaf, Split}
use Rattle.bl_model.specs.View.{IsModel}
use Rattle.bl_leaf_terms.specs.Incumbents.{Incumbent}
use Rattle.bl_leaf_terms.specs.Leaves.{ClosedLeaf}
use Rattle.bl_book_terms.specs.Books.{Status, Ready, Claimed, Divided, Closed, Node, node_at, Book, Ledger, IsRun}
use Rattle.bl_book_terms.specs.Books.{IsFinished}
use Rattle.bl_cert_terms.specs.declared.stated.Statement.{Statement}
use Rattle.bl_cert_terms.specs.declared.stated.Statement.TheVariants.{Optimal, Infeasible}
use Rattle.bl_cert_terms.specs.Certificates.{Certificate, IsAccepted}
use Rattle.bl_cert_book.specs.Entries.{entries_of_best, entries_of_tree, with_entries}
use Rattle.bl_cert_book.specs.Leaves.{PlacedTree, placed_tree}

-- what a node stands for in the tree, by what the nodes stand for that are its halves, the lower half first. A node
-- that is still to be worked on stands for nothing
abbrev pub by_status : Status → (ℕ → List (BareNode ClosedLeaf)) → List (BareNode ClosedLeaf)
by_status Ready under = []
by_status (Claimed w u) under = []
by_status (Divided h licence low) under = Split h.column h.at tt ∷ under low ++ under (suc low)
by_status (Closed leaf) under = Leaf leaf ∷ []

-- the tree under a node in preorder, down to a depth
abbrev pub tree_under : List Node → ℕ → ℕ → List (BareNode ClosedLeaf)
tree_under nodes zero k = []
tree_under nodes (suc depth) k = by_status (node_at nodes k).status (tree_under nodes depth)

-- the tree of a book, which is no deeper than its nodes are many
abbrev pub book_tree : Book → List (BareNode ClosedLeaf)
book_tree b = tree_under b.nodes (length b.nodes) 0

-- its best incumbent is optimal; without one there is no bilevel feasible point
abbrev pub stated_by : Program → Option Incumbent → Statement
stated_by p None = Infeasible
stated_by p (Some f) = Optimal f.point (value_at p f.point)

-- how many rows stand before the cuts' in the problem of a leaf: those of the program, and the value row or its place
abbrev pub rows_before_cuts : Program → ℕ
rows_before_cuts p = length p.rows + 1

-- a book's statement and entries, with the cuts and the tree in which its leaves are placed
abbrev pub certificate_with : Book → PlacedTree → Certificate
certificate_with b t = record {
  statement = stated_by b.program b.best;
  entries = with_entries [] (entries_of_best b.best ++ entries_of_tree (book_tree b));
  cuts = t.steps;
  tree = t.nodes;
}

-- the certificate of a book. There is none where a leaf cites two cuts that are one, or where a cut uses two such
-- cuts, as none of a finished run does
abbrev pub certificate_of : Book → Option Certificate
certificate_of b = option_map (certificate_with b) (placed_tree (rows_before_cuts b.program) [] (book_tree b))

-- THE LAWS

-- the certificate of a finished run is accepted
abbrev pub FinishedBookIsAccepted : Type 0
FinishedBookIsAccepted =
    (l : Ledger) (c : Certificate) → IsModel l.book.program → 1 ≤ l.book.limit → IsRun l → IsFinished l.book
    → certificate_of l.book ≡ Some c → IsAccepted l.book.program c

-- and there is one
abbrev pub FinishedBookHasCertificate : Type 0
FinishedBookHasCertificate =
    (l : Ledger) → IsModel l.book.program → 1 ≤ l.book.limit → IsRun l → IsFinished l.book
    → IsSome (certificate_of l.book)
