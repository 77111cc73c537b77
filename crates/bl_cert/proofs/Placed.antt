-- Leaves and nodes that are placed behind the cuts so far.
use Rattle.std.proofs.Common.{◌≡◌, ℕ, Bool, true, List, [], ◌∷◌, ◌++◌, length, map, refl, sym, ap, ◌∙◌}
use Rattle.std.proofs.Common.{append_assoc, ⊎_elim}
use Rattle.std.specs.Prelude.{ℤ, Option, Some, None, option_and_then, option_map, is_some, if◌then◌else◌}
use Rattle.std.proofs.lemmas.Bool.{cases_lt}
use Rattle.std.proofs.lemmas.List.{append-nil, get_or_past, map-append}
use Rattle.bl_terms.specs.Bounds.{Multipliers}
use Rattle.bl_terms.specs.Trees.{BareNode, Leaf, Split}
use Rattle.bl_model.specs.Boxes.{Halved}
use Rattle.bl_fproof.specs.Entries.{Admitted}
use Rattle.bl_cut_terms.specs.NoGoods.{CutStep, NoGoodCut}
use Rattle.bl_leaf_terms.specs.Nodes.{NodeLicence}
use Rattle.bl_leaf_terms.specs.Leaves as leaves
use Rattle.bl_leaf_terms.specs.Leaves.{ClosedLeaf}
use Rattle.bl_book_terms.specs.Books.{Status, Ready, Claimed, Divided, Closed, Node, node_at, no_node, Book, HasStatus}
use Rattle.bl_core.specs.Accounts.{IsUnclosed, IsUnsplit, IsSplitInto}
use Rattle.bl_cert_terms.specs.Certificates.{LeafProof, Bounded}
use Rattle.bl_cert_book.specs.Leaves.{adopt_all, are_rising, cited_pairs, with_pairs, bounded_leaf, PlacedLeaf}
use Rattle.bl_cert_book.specs.Leaves.{placed_leaf, PlacedTree, with_node, placed_tree}
use Rattle.bl_certline.specs.declared.line.CertLine.{CertLine}
use Rattle.bl_certline.specs.Fields.{Bytes}
use Rattle.bl_certtext.specs.Texts.{text_of}
use Rattle.bl_check_terms.specs.Writing.{node_line}
use Rattle.bl_cert.specs.Order.{own_node, node_here}
use Rattle.bl_cert.specs.Placing.{with_front, PutsNodes, CannotPlace, IsTwice, PutsLeaf}
use Rattle.bl_cert.specs.declared.tree.PlaceFail.{PlaceFail}
use Rattle.bl_cert.specs.declared.tree.PlaceFail.TheVariants.{Twice, Memory}
use Rattle.bl_cert.proofs.Texts.{put-more}

-- ---- leaves

-- the leaf that cites pairs
abbrev pub citing : ℕ → Multipliers → Bool → List (ℕ × ℤ) → LeafProof
citing n w uses pairs = Bounded (with_pairs n w pairs) uses (map (λ x. x.0) pairs)

abbrev behind : ℕ → Multipliers → Bool → List CutStep → List (ℕ × ℤ) → PlacedLeaf
behind n w uses steps pairs = record { steps = steps; leaf = citing n w uses pairs }

-- it is placed where the cuts' steps were taken over and the places rise
pub placed-bounded : (n : ℕ) (w : Multipliers) (entry : Option Admitted) (cuts : List NoGoodCut)
    (old new : List CutStep) (places : List ℕ) (pairs : List (ℕ × ℤ))
    → adopt_all (record { steps = old; places = [] }) cuts ≡ Some (record { steps = new; places = places })
    → pairs ≡ cited_pairs n w places → are_rising (map (λ (x : ℕ × ℤ). x.0) pairs) ≡ true
    → placed_leaf n old (leaves.Bounded w cuts entry)
    ≡ Some (record { steps = new; leaf = citing n w (is_some entry) pairs })
placed-bounded n w entry cuts old new places pairs adopted are rising =
    ap (option_and_then (bounded_leaf n w (is_some entry))) adopted
    ∙ (ap (λ (ps : List (ℕ × ℤ)). if are_rising (map (λ (x : ℕ × ℤ). x.0) ps)
    then Some (behind n w (is_some entry) new ps) else None) (sym are)
    ∙ ap (λ (b : Bool). if b then Some (behind n w (is_some entry) new pairs) else None) rising)

-- ---- what a node is

pub closed-here : (b : Book) (k : ℕ) (leaf : ClosedLeaf) → HasStatus b k (Closed leaf)
    → node_here b k ≡ Leaf leaf ∷ []
closed-here b k leaf is = ap own_node is.status

pub divided-here : (b : Book) (k : ℕ) (h : Halved) (low high : ℕ) → IsSplitInto b k h low high
    → node_here b k ≡ Split h.column h.at tt ∷ []
divided-here b k h low high split = ap own_node split.split.status

pub nothing-here : (b : Book) (k : ℕ) → IsUnclosed b k → IsUnsplit b k → node_here b k ≡ []
nothing-here b k unclosed whole =
    ⊎_elim (λ there. by (node_at b.nodes k).status
    (λ leaf is. unclosed leaf (record { there = there; status = is }))
    (λ h licence low is. whole h licence low (record { there = there; status = is })))
    (λ past. ap (λ (n : Node). own_node n.status) (get_or_past b.nodes k no_node past))
    (cases_lt k (length b.nodes))
  where
    by : (s : Status) → ((leaf : ClosedLeaf) → s ≡ Closed leaf → ⊥)
        → ((h : Halved) (licence : NodeLicence) (low : ℕ) → s ≡ Divided h licence low → ⊥) → own_node s ≡ []
    by Ready not-closed not-split = refl
    by (Claimed w u) not-closed not-split = refl
    by (Closed leaf) not-closed not-split = absurd (not-closed leaf refl)
    by (Divided h licence low) not-closed not-split = absurd (not-split h licence low refl)

-- ---- nodes

front-none : (o : Option PlacedTree) → o ≡ option_map (with_front []) o
front-none None = refl
front-none (Some t) = refl

pub puts-none : (n : ℕ) (steps : List CutStep) (text : Bytes) → PutsNodes n [] steps text steps text
puts-none n steps text = record {
  done = [];
  placed = λ rest. front-none (placed_tree n steps rest);
  spelled = sym (append-nil text);
}

pub puts-leaf : (n : ℕ) (leaf : ClosedLeaf) (old : List CutStep) (text : Bytes) (new : List CutStep) (more : Bytes)
    → PutsLeaf n leaf.evidence old text new more → PutsNodes n (Leaf leaf ∷ []) old text new more
puts-leaf n leaf old text new more puts = record {
  done = Leaf puts.leaf ∷ [];
  placed = λ rest. ap (option_and_then (λ x. option_map (with_node (Leaf x.leaf)) (placed_tree n x.steps rest)))
      puts.placed;
  spelled = puts.spelled;
}

pub puts-split : (n : ℕ) (j : ℕ) (v : ℤ) (steps : List CutStep) (text more : Bytes)
    → more ≡ text ++ text_of (node_line (Split j v tt) ∷ [])
    → PutsNodes n (Split j v tt ∷ []) steps text steps more
puts-split n j v steps text more spelled = record {
  done = Split j v tt ∷ [];
  placed = λ rest. refl;
  spelled = spelled;
}

front-both : (done more : List (BareNode LeafProof)) (o : Option PlacedTree)
    → option_map (with_front done) (option_map (with_front more) o) ≡ option_map (with_front (done ++ more)) o
front-both done more None = refl
front-both done more (Some t) =
    ap (λ (ns : List (BareNode LeafProof)). Some (record { steps = t.steps; nodes = ns }))
    (sym (append_assoc done more t.nodes))

pub puts-more : (n : ℕ) (ns ms : List (BareNode ClosedLeaf)) (old mid new : List CutStep) (text first second : Bytes)
    → PutsNodes n ns old text mid first → PutsNodes n ms mid first new second
    → PutsNodes n (ns ++ ms) old text new second
puts-more n ns ms old mid new text first second puts more = record {
  done = puts.done ++ more.done;
  placed = λ rest.
      ap (placed_tree n old) (append_assoc ns ms rest)
      ∙ (puts.placed (ms ++ rest)
      ∙ (ap (option_map (with_front puts.done)) (more.placed rest)
      ∙ front-both puts.done more.done (placed_tree n new rest)));
  spelled =
      put-more text first second (map node_line puts.done) (map node_line more.done) puts.spelled more.spelled
      ∙ ap (λ (ls : List CertLine). text ++ text_of ls) (sym (map-append node_line puts.done more.done));
}

-- ---- nodes that can't be placed

pub cannot-later : (n : ℕ) (ns ms more : List (BareNode ClosedLeaf)) (old mid : List CutStep) (text first : Bytes)
    → PutsNodes n ns old text mid first → CannotPlace n ms mid → CannotPlace n (ns ++ (ms ++ more)) old
cannot-later n ns ms more old mid text first puts cannot rest =
    ap (placed_tree n old) (append_assoc ns (ms ++ more) rest)
    ∙ (puts.placed ((ms ++ more) ++ rest)
    ∙ ap (option_map (with_front puts.done))
    (ap (placed_tree n mid) (append_assoc ms more rest) ∙ cannot (more ++ rest)))

pub twice-weaker : {P Q : Type 0} (fail : PlaceFail) → (P → Q) → IsTwice P fail → IsTwice Q fail
twice-weaker Twice f h = f h
twice-weaker Memory f h = tt
