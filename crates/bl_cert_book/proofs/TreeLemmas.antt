-- The tree of a finished book covers the whole box, also as it stands in the certificate.
use Rattle.std.proofs.Common.{◌≡◌, ℕ, zero, suc, ◌+◌, ◌<◌, ◌≤◌, refl, subst, arith, List, [], ◌∷◌, ◌++◌, length}
use Rattle.std.proofs.Common.{Option, Some, None}
use Rattle.std.specs.Prelude.{ℤ, All, option_map}
use Rattle.std.proofs.lemmas.Option.{option_and_then_some}
use Rattle.std.proofs.lemmas.List.Elements.{All-head, All-tail, All-cons, All-nil, All-append}
use Rattle.bl_terms.specs.Points.{Area}
use Rattle.bl_terms.specs.Programs.{Program}
use Rattle.bl_terms.specs.Trees.{BareNode, Node, Leaf, Split, Anything, Covers, low_half, high_half}
use Rattle.bl_model.specs.View.{IsModel}
use Rattle.bl_cut_terms.specs.NoGoods.{CutStep, AreCutSteps}
use Rattle.bl_cut_proof.proofs.AdoptLemmas.{Extends, some_same}
use Rattle.bl_leaf_terms.specs.Incumbents.{cutoff_of}
use Rattle.bl_leaf_terms.specs.Leaves as leaves
use Rattle.bl_leaf_terms.specs.Leaves.{Evidence, ClosedLeaf, IsClosedLeaf, IsShownClosed, HasValueFor}
use Rattle.bl_book_terms.specs.Books.{Status, Ready, Claimed, Divided, Closed, node_at, Book, IsCurrent, IsFinished}
use Rattle.bl_book_terms.specs.Books.{best_value, IsLive}
use Rattle.bl_book_terms.specs.Laws.{KeepsStatus, IsSound}
use Rattle.bl_book_terms.proofs.NodeLemmas.{no_higher}
use Rattle.bl_cert_terms.specs.Certificates.{Certificate, Closes, stated_cutoff}
use Rattle.bl_cert_book.specs.Entries.{entries_of_leaf, entries_of_tree}
use Rattle.bl_cert_book.specs.Leaves.{PlacedLeaf, placed_leaf, PlacedTree, with_node, placed_tree}
use Rattle.bl_cert_book.specs.BookCertificates.{by_status, tree_under}
use Rattle.bl_cert_book.proofs.EntryLemmas.{IsAnswerOf, HasLink}
use Rattle.bl_cert_book.proofs.CutLemmas.{extends_itself, extends_more}
use Rattle.bl_cert_book.proofs.PlacedLeaves.{IsAround, IsPlaced, leaf_placed}

-- ---- the tree of a finished book

-- trees over one stack and over another are trees over both
covers_append : {S L : Type 0} (splits : Area → S → Type 0) (closes : Area → L → Type 0) (ns ms : List (Node S L))
    (stack more : List Area) → Covers splits closes ns stack → Covers splits closes ms more
    → Covers splits closes (ns ++ ms) (stack ++ more)
covers_append splits closes [] ms [] more f g = g
covers_append splits closes [] ms (a ∷ stack) more f g = absurd f
covers_append splits closes (Leaf x ∷ ns) ms [] more f g = absurd f
covers_append splits closes (Split j v s ∷ ns) ms [] more f g = absurd f
covers_append splits closes (Leaf x ∷ ns) ms (a ∷ stack) more f g =
    (f.0, covers_append splits closes ns ms stack more f.1 g)
covers_append splits closes (Split j v s ∷ ns) ms (a ∷ stack) more f g =
    (f.0, covers_append splits closes ns ms (low_half a j v ∷ high_half a j v ∷ stack) more f.1 g)

-- a closed leaf of the book's program with this box
pub record IsBookLeaf (b : Book) (a : Area) (leaf : ClosedLeaf) : Type 0 where
  pub program : leaf.program ≡ b.program
  pub area : leaf.area ≡ a
  pub holds : IsClosedLeaf leaf
  pub reached : IsCurrent (cutoff_of leaf.cutoff) (best_value b)

-- the nodes under each node are a tree over its box
pub tree_covers : (b : Book) (depth k : ℕ) → IsSound b → IsFinished b → k < length b.nodes
    → length b.nodes ≤ k + depth
    → Covers Anything (IsBookLeaf b) (tree_under b.nodes depth k) ((node_at b.nodes k).area ∷ [])
tree_covers b zero k sound finished there enough = absurd (omega arith)
tree_covers b (suc depth) k sound finished there enough =
    by (node_at b.nodes k).status (sound.kept k there) (finished.none k there)
    (λ i later below. tree_covers b depth i sound finished below (omega (arith, later)))
  where
    by : (s : Status) → KeepsStatus b k s → ¬ IsLive s
        → ((i : ℕ) → k < i → i < length b.nodes
        → Covers Anything (IsBookLeaf b) (tree_under b.nodes depth i) ((node_at b.nodes i).area ∷ []))
        → Covers Anything (IsBookLeaf b) (by_status s (tree_under b.nodes depth)) ((node_at b.nodes k).area ∷ [])
    by Ready keeps dead under = absurd (dead tt)
    by (Claimed w u) keeps dead under = absurd (dead tt)
    by (Closed leaf) keeps dead under =
        (record { program = keeps.program; area = keeps.area; holds = keeps.holds; reached = keeps.reached }, tt)
    by (Divided h licence low) keeps dead under =
        let low_tree = under low keeps.higher (let t = keeps.there in omega arith) in
        let high_tree = under (suc low) (let t = keeps.higher in omega arith) keeps.there in
        let halves : Covers Anything (IsBookLeaf b) (tree_under b.nodes depth low ++ tree_under b.nodes depth (suc low))
        (low_half h.area h.column h.at ∷ high_half h.area h.column h.at ∷ []) =
        covers_append Anything (IsBookLeaf b) (tree_under b.nodes depth low) (tree_under b.nodes depth (suc low))
        (low_half h.area h.column h.at ∷ []) (high_half h.area h.column h.at ∷ [])
        (subst (λ (a : Area). Covers Anything (IsBookLeaf b) (tree_under b.nodes depth low) (a ∷ [])) keeps.low_area
        low_tree)
        (subst (λ (a : Area). Covers Anything (IsBookLeaf b) (tree_under b.nodes depth (suc low)) (a ∷ []))
        keeps.high_area high_tree) in
        subst (λ (a : Area). Covers Anything (IsBookLeaf b)
        (Split h.column h.at tt ∷ tree_under b.nodes depth low ++ tree_under b.nodes depth (suc low)) (a ∷ []))
        keeps.area
        ((keeps.splits, tt), halves)

-- ---- its entries

-- what a leaf's evidence uses is an answer of the program
leaf_answers : (p : Program) (a : Area) (u : Option ℤ) (evidence : Evidence) → IsShownClosed p a u evidence
    → All (IsAnswerOf p) (entries_of_leaf evidence)
leaf_answers p a u (leaves.Bounded w cuts None) h = All-nil (IsAnswerOf p)
leaf_answers p a u (leaves.Bounded w cuts (Some e)) h = by h.value h.has
  where
    by : (value : Option ℤ) → HasValueFor p a w (Some e) value → All (IsAnswerOf p) (e ∷ [])
    by None has = absurd has
    by (Some v) has = All-cons (IsAnswerOf p) e [] (has.entry.admitted, has.entry.program) (All-nil (IsAnswerOf p))
leaf_answers p a u (leaves.NoAnswer e) h =
    All-cons (IsAnswerOf p) e [] (h.entry.admitted, h.entry.program) (All-nil (IsAnswerOf p))

-- the evidence of a leaf of the book shows its box closed
pub shown_leaf : (b : Book) (a : Area) (leaf : ClosedLeaf) → IsBookLeaf b a leaf
    → IsShownClosed b.program a (cutoff_of leaf.cutoff) leaf.evidence
shown_leaf b a leaf h =
    let of_program : IsShownClosed b.program leaf.area (cutoff_of leaf.cutoff) leaf.evidence =
    subst (λ (p : Program). IsShownClosed p leaf.area (cutoff_of leaf.cutoff) leaf.evidence) h.program h.holds.shown in
    subst (λ (x : Area). IsShownClosed b.program x (cutoff_of leaf.cutoff) leaf.evidence) h.area of_program

pub tree_answers : (b : Book) (nodes : List (BareNode ClosedLeaf)) (stack : List Area)
    → Covers Anything (IsBookLeaf b) nodes stack → All (IsAnswerOf b.program) (entries_of_tree nodes)
tree_answers b [] stack covers = All-nil (IsAnswerOf b.program)
tree_answers b (Leaf leaf ∷ nodes) [] covers = absurd covers
tree_answers b (Split j v s ∷ nodes) [] covers = absurd covers
tree_answers b (Leaf leaf ∷ nodes) (a ∷ stack) covers =
    All-append (IsAnswerOf b.program) (entries_of_leaf leaf.evidence) (entries_of_tree nodes)
    (leaf_answers b.program a (cutoff_of leaf.cutoff) leaf.evidence (shown_leaf b a leaf covers.0))
    (tree_answers b nodes stack covers.1)
tree_answers b (Split j v s ∷ nodes) (a ∷ stack) covers =
    tree_answers b nodes (low_half a j v ∷ high_half a j v ∷ stack) covers.1

-- ---- the tree in the certificate

pub option_map_some : {A B P : Type 0} (f : A → B) (o : Option A) (y : B) → option_map f o ≡ Some y
    → ((x : A) → o ≡ Some x → f x ≡ y → P) → P
option_map_some f None y e by = absurd cc
option_map_some f (Some x) y e by = by x refl (some_same (f x) y e)

-- what holds of each item of two lists holds of those of either
pub all_left : {X : Type 0} (P : X → Type 0) (xs ys : List X) → All P (xs ++ ys) → All P xs
all_left P [] ys each = All-nil P
all_left P (x ∷ xs) ys each =
    All-cons P x xs (All-head P x (xs ++ ys) each) (all_left P xs ys (All-tail P x (xs ++ ys) each))

pub all_right : {X : Type 0} (P : X → Type 0) (xs ys : List X) → All P (xs ++ ys) → All P ys
all_right P [] ys each = each
all_right P (x ∷ xs) ys each = all_right P xs ys (All-tail P x (xs ++ ys) each)

-- a tree is placed: the list of cuts goes on, and the nodes are trees over the boxes in each certificate around them
pub record IsTreePlaced (b : Book) (nodes : List (BareNode ClosedLeaf)) (stack : List Area) (steps : List CutStep)
    (t : PlacedTree) : Type 0 where
  pub steps_are : AreCutSteps b.program [] t.steps
  pub extends : Extends steps t.steps
  pub closes : (c : Certificate) → IsAround b.program (best_value b) t.steps (entries_of_tree nodes) c
      → Covers Anything (Closes b.program c) t.nodes stack

leaf_then : (b : Book) (a : Area) (leaf : ClosedLeaf) (nodes : List (BareNode ClosedLeaf)) (stack : List Area)
    (steps : List CutStep) (x : PlacedLeaf) (r : PlacedTree) → IsBookLeaf b a leaf
    → IsPlaced b.program a (cutoff_of leaf.cutoff) leaf.evidence steps x → IsTreePlaced b nodes stack x.steps r
    → IsTreePlaced b (Leaf leaf ∷ nodes) (a ∷ stack) steps (with_node (Leaf x.leaf) r)
leaf_then b a leaf nodes stack steps x r is placed rest = record {
  steps_are = rest.steps_are;
  extends = extends_more steps x.steps r.steps placed.extends rest.extends;
  closes = λ c around. (
    placed.closes c (record {
      extends = extends_more x.steps r.steps c.cuts rest.extends around.extends;
      proved = around.proved;
      links = all_left (HasLink c.entries) (entries_of_leaf leaf.evidence) (entries_of_tree nodes) around.links;
      current =
          no_higher (cutoff_of leaf.cutoff) (best_value b) (stated_cutoff b.program c.statement) is.reached
          around.current;
    }),
    rest.closes c (record {
      extends = around.extends;
      proved = around.proved;
      links = all_right (HasLink c.entries) (entries_of_leaf leaf.evidence) (entries_of_tree nodes) around.links;
      current = around.current;
    }),
  );
}

pub tree_placed : (b : Book) (nodes : List (BareNode ClosedLeaf)) (stack : List Area) (steps : List CutStep)
    (t : PlacedTree) → IsModel b.program → Covers Anything (IsBookLeaf b) nodes stack → AreCutSteps b.program [] steps
    → placed_tree (length b.program.rows + 1) steps nodes ≡ Some t → IsTreePlaced b nodes stack steps t
tree_placed b [] [] steps t m covers old e =
    subst (IsTreePlaced b [] [] steps) (some_same (record { steps = steps; nodes = [] }) t e)
    (record { steps_are = old; extends = extends_itself steps; closes = λ c around. tt })
tree_placed b [] (a ∷ stack) steps t m covers old e = absurd covers
tree_placed b (Leaf leaf ∷ nodes) [] steps t m covers old e = absurd covers
tree_placed b (Split j v s ∷ nodes) [] steps t m covers old e = absurd covers
tree_placed b (Leaf leaf ∷ nodes) (a ∷ stack) steps t m covers old e =
    let n = length b.program.rows + 1 in
    option_and_then_some (λ x. option_map (with_node (Leaf x.leaf)) (placed_tree n x.steps nodes))
    (placed_leaf n steps leaf.evidence) t e
    (λ x is f.
    let placed =
    leaf_placed b.program a (cutoff_of leaf.cutoff) leaf.evidence steps x m (shown_leaf b a leaf covers.0) old is in
    option_map_some (with_node (Leaf x.leaf)) (placed_tree n x.steps nodes) t f
    (λ r at same.
    let rest = tree_placed b nodes stack x.steps r m covers.1 placed.steps_are at in
    subst (IsTreePlaced b (Leaf leaf ∷ nodes) (a ∷ stack) steps) same
    (leaf_then b a leaf nodes stack steps x r covers.0 placed rest)))
tree_placed b (Split j v s ∷ nodes) (a ∷ stack) steps t m covers old e =
    option_map_some (with_node (Split j v tt)) (placed_tree (length b.program.rows + 1) steps nodes) t e
    (λ r at same.
    let rest = tree_placed b nodes (low_half a j v ∷ high_half a j v ∷ stack) steps r m covers.1 old at in
    subst (IsTreePlaced b (Split j v s ∷ nodes) (a ∷ stack) steps) same
    (record {
      steps_are = rest.steps_are;
      extends = rest.extends;
      closes = λ c around. ((covers.0.0, tt), rest.closes c around);
    }))
