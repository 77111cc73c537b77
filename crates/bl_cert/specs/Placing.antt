-- Internal. The nodes of a tree that are placed one after the other.
use Rattle.std.specs.Prelude.{ℕ, ◌≡◌, List, ◌∷◌, [], ◌++◌, map, Some, None, option_map}
use Rattle.bl_terms.specs.Trees.{BareNode, Leaf}
use Rattle.bl_cut_terms.specs.NoGoods.{CutStep}
use Rattle.bl_leaf_terms.specs.Leaves.{ClosedLeaf, Evidence}
use Rattle.bl_cert_terms.specs.Certificates.{LeafProof}
use Rattle.bl_book_terms.specs.Books.{Book}
use Rattle.bl_cert_book.specs.BookCertificates.{book_tree, rows_before_cuts}
use Rattle.bl_cert_book.specs.Leaves.{PlacedTree, placed_tree, placed_leaf}
use Rattle.bl_certline.specs.Fields.{Bytes}
use Rattle.bl_certtext.specs.Texts.{text_of}
use Rattle.bl_check_terms.specs.Writing.{node_line}
use Rattle.bl_cut_proof.specs.declared.fault.CutFault.{CutFault}
use Rattle.bl_cut_proof.specs.declared.fault.CutFault.TheVariants as faults
use Rattle.bl_cert.specs.declared.tree.PlaceFail.{PlaceFail}
use Rattle.bl_cert.specs.declared.tree.PlaceFail.TheVariants.{Twice, Memory}

-- the tree with further nodes at the front
abbrev pub with_front : List (BareNode LeafProof) → PlacedTree → PlacedTree
with_front done t = record { steps = t.steps; nodes = done ++ t.nodes }

-- further nodes were placed behind the cuts so far, and their lines put at the end of the text
pub record PutsNodes (n : ℕ) (nodes : List (BareNode ClosedLeaf)) (old : List CutStep) (text : Bytes)
    (new : List CutStep) (more : Bytes) : Type 0 where
  pub done : List (BareNode LeafProof)
  pub placed : (rest : List (BareNode ClosedLeaf))
      → placed_tree n old (nodes ++ rest) ≡ option_map (with_front done) (placed_tree n new rest)
  pub spelled : more ≡ text ++ text_of (map node_line done)

-- none of the trees that go on so can be placed
abbrev pub CannotPlace : ℕ → List (BareNode ClosedLeaf) → List CutStep → Type 0
CannotPlace n nodes steps = (rest : List (BareNode ClosedLeaf)) → placed_tree n steps (nodes ++ rest) ≡ None

-- why a tree isn't placed: for this reason, or for want of memory
abbrev pub IsTwice : Type 0 → PlaceFail → Type 0
IsTwice P Twice = P
IsTwice P Memory = Unit {0}

-- the fault of a cut whose steps aren't taken over
abbrev pub fail_of : CutFault → PlaceFail
fail_of faults.Memory = Memory
fail_of faults.Size = Twice
fail_of faults.Inverse = Twice
fail_of faults.Tight = Twice
fail_of faults.Response = Twice

-- a leaf was placed behind the cuts so far, and its line put at the end of the text
pub record PutsLeaf (n : ℕ) (evidence : Evidence) (old : List CutStep) (text : Bytes) (new : List CutStep)
    (more : Bytes) : Type 0 where
  pub leaf : LeafProof
  pub placed : placed_leaf n old evidence ≡ Some (record { steps = new; leaf = leaf })
  pub spelled : more ≡ text ++ text_of (node_line (Leaf leaf) ∷ [])

-- the tree of a book was placed, and its lines put at the end of the text
pub record PutsBook (b : Book) (text : Bytes) (steps : List CutStep) (more : Bytes) : Type 0 where
  pub nodes : List (BareNode LeafProof)
  pub placed : placed_tree (rows_before_cuts b.program) [] (book_tree b)
      ≡ Some (record { steps = steps; nodes = nodes })
  pub spelled : more ≡ text ++ text_of (map node_line nodes)
