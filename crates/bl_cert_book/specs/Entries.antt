-- Trusted. The entries of a book's certificate: those that its best incumbent and its leaves use, the first for each
-- link, in lexicographic order of their links.
use Rattle.std.specs.Prelude.{List, [], ◌∷◌, ◌++◌, Option, option_map, option_to_list}
use Rattle.std.specs.Ordering.{int_cmp, match_ordering}
use Rattle.std.specs.Cmp.Lexicographic.{slice_cmp}
use Rattle.bl_terms.specs.Trees.{BareNode, Leaf, Split}
use Rattle.bl_fproof.specs.Entries.{Admitted}
use Rattle.bl_fproof.specs.Steps.{entry_of, tree_of}
use Rattle.bl_leaf_terms.specs.Incumbents.{Incumbent}
use Rattle.bl_leaf_terms.specs.Leaves.{Evidence, Bounded, NoAnswer, ClosedLeaf}
use Rattle.bl_cert_terms.specs.Certificates.{ProvedEntry}

-- an admitted answer as an entry with its proof
abbrev pub proved_entry : Admitted → ProvedEntry
proved_entry e = record { link = e.link; entry = entry_of e.answered; proof = tree_of e.answered }

-- the entries that an incumbent uses, those of a leaf, and those of the leaves of a tree in preorder
abbrev pub entries_of_best : Option Incumbent → List Admitted
entries_of_best best = option_to_list (option_map (λ f. f.entry) best)

abbrev pub entries_of_leaf : Evidence → List Admitted
entries_of_leaf (Bounded w cuts entry) = option_to_list entry
entries_of_leaf (NoAnswer e) = e ∷ []

abbrev pub entries_of_tree : List (BareNode ClosedLeaf) → List Admitted
entries_of_tree [] = []
entries_of_tree (Split j v s ∷ nodes) = entries_of_tree nodes
entries_of_tree (Leaf leaf ∷ nodes) = entries_of_leaf leaf.evidence ++ entries_of_tree nodes

-- the list with an entry before those of later links; the list as it is where it has one of the same link
abbrev pub with_entry : List ProvedEntry → ProvedEntry → List ProvedEntry
with_entry [] e = e ∷ []
with_entry (x ∷ entries) e =
    match_ordering (slice_cmp int_cmp e.link x.link) (e ∷ x ∷ entries) (x ∷ entries) (x ∷ with_entry entries e)

-- the list with further entries, one after the other
abbrev pub with_entries : List ProvedEntry → List Admitted → List ProvedEntry
with_entries entries [] = entries
with_entries entries (e ∷ more) = with_entries (with_entry entries (proved_entry e)) more
