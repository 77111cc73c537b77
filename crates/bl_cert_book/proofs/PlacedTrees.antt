-- The leaves of a book can be written down one after the other.
use Rattle.std.proofs.Common.{◌≡◌, ◌≢◌, ℕ, ◌<◌, refl, sym, ◌∙◌, ap, subst, arith, Bool, true, false, cond}
use Rattle.std.proofs.Common.{◌&&◌, List, [], ◌∷◌, drop, Option, Some, None}
use Rattle.std.specs.Prelude.{ℤ, not, nat_lt, is_some, option_map, option_and_then}
use Rattle.std.specs.List.{zip}
use Rattle.std.proofs.lemmas.Bool.{false_from_ne_true}
use Rattle.std.proofs.lemmas.Bool.Decides.{nat_tests, Decides-ltb}
use Rattle.bl_terms.specs.Points.{Area}
use Rattle.bl_terms.specs.Programs.{Program}
use Rattle.bl_terms.specs.Trees.{BareNode, Leaf, Split, Anything, Covers, low_half, high_half}
use Rattle.bl_terms.specs.Bounds.{Multipliers}
use Rattle.bl_cut_terms.specs.NoGoods.{CutStep, AreCutSteps}
use Rattle.bl_cut_terms.specs.Adopting.{Adopted}
use Rattle.bl_leaf_terms.specs.Incumbents.{cutoff_of}
use Rattle.bl_leaf_terms.specs.Leaves as leaves
use Rattle.bl_leaf_terms.specs.Leaves.{Evidence, ClosedLeaf, IsShownClosed}
use Rattle.bl_book_terms.specs.Books.{Book}
use Rattle.bl_cert_terms.specs.Certificates.{Bounded, NoAnswer}
use Rattle.bl_cert_book.specs.Leaves.{put_by_place, by_place, are_rising, cited_pairs, with_pairs}
use Rattle.bl_cert_book.specs.Leaves.{PlacedLeaf, bounded_leaf, placed_leaf, PlacedTree, with_node, placed_tree}
use Rattle.bl_cut_proof.proofs.Sorting.{IsStrict, itself, IsOther, AreApart}
use Rattle.bl_cut_proof.proofs.Sorting.{put, IsRising, other_put, put_rising}
use Rattle.bl_cert_book.proofs.Weights.{places_of}
use Rattle.bl_cut_proof.proofs.TakenSteps.{AreDistinct}
use Rattle.bl_cert_book.proofs.CutLemmas.{cuts_taken}
use Rattle.bl_cert_book.proofs.AloneLemmas.{cuts_there, places_apart}
use Rattle.bl_cert_book.proofs.TreeLemmas.{IsBookLeaf, shown_leaf}

-- ---- the order of places

numbers_strict : IsStrict nat_lt
numbers_strict = record {
  other = λ x y ne. by x y ne (nat_lt y x) refl;
  chain = λ x y z e f. grind (arith, nat_tests);
  itself = λ x. grind (arith, nat_tests);
}
  where
    by : (x y : ℕ) → x ≢ y → (t : Bool) → nat_lt y x ≡ t → nat_lt x y ≡ not (nat_lt y x)
    by x y ne true e =
        false_from_ne_true (nat_lt x y)
        (λ f. let a = (Decides-ltb x y).0 f in let b = (Decides-ltb y x).0 e in omega arith) ∙ sym (ap not e)
    by x y ne false e =
        let least : x < y = grind (arith, nat_tests) in (Decides-ltb x y).1 least ∙ sym (ap not e)

put_same : (x : ℕ × ℤ) (xs : List (ℕ × ℤ)) → put_by_place x xs ≡ put nat_lt x xs
put_same x [] = refl
put_same x (y ∷ ys) = ap (λ l. cond (nat_lt y.0 x.0) (y ∷ l) (x ∷ y ∷ ys)) (put_same x ys)

other_sorted : (k : ℕ) (xs : List (ℕ × ℤ)) → IsOther itself k xs → IsOther itself k (by_place xs)
other_sorted k [] other = tt
other_sorted k (x ∷ xs) other =
    subst (IsOther itself k) (sym (put_same x (by_place xs)))
    (other_put nat_lt itself k x (by_place xs) other.0 (other_sorted k xs other.1))

-- pairs with other places rise when they are put in order
pub rising_sorted : (xs : List (ℕ × ℤ)) → AreApart itself xs → IsRising nat_lt (by_place xs)
rising_sorted [] apart = tt
rising_sorted (x ∷ xs) apart =
    subst (IsRising nat_lt) (sym (put_same x (by_place xs)))
    (put_rising nat_lt numbers_strict x (by_place xs) (rising_sorted xs apart.1) (other_sorted x.0 xs apart.0))

pub test_of_rising : (xs : List (ℕ × ℤ)) → IsRising nat_lt xs → are_rising (places_of xs) ≡ true
test_of_rising [] rising = refl
test_of_rising (x ∷ []) rising = refl
test_of_rising (x ∷ y ∷ xs) rising =
    ap (λ t. t && are_rising (places_of (y ∷ xs))) rising.0 ∙ test_of_rising (y ∷ xs) rising.1

-- ---- one leaf

-- it can be written down behind these steps
pub record CanPlace (p : Program) (c : ℕ) (steps : List CutStep) (evidence : Evidence) : Type 0 where
  pub placed : PlacedLeaf
  pub is : placed_leaf c steps evidence ≡ Some placed
  pub shown : AreCutSteps p [] placed.steps
  pub distinct : AreDistinct placed.steps

abbrev pub leaf_with : ℕ → Multipliers → Bool → Adopted → PlacedLeaf
leaf_with c w uses b = record {
  steps = b.steps;
  leaf = Bounded (with_pairs c w (cited_pairs c w b.places)) uses (places_of (cited_pairs c w b.places));
}

pub can_place : (c : ℕ) (p : Program) (a : Area) (u : Option ℤ) (evidence : Evidence) (steps : List CutStep)
    → IsShownClosed p a u evidence → AreCutSteps p [] steps → AreDistinct steps → CanPlace p c steps evidence
can_place c p a u (leaves.Bounded w cuts entry) steps h shown distinct =
    let start : Adopted = record { steps = steps; places = [] } in
    let there = cuts_there p a cuts steps [] h.valid distinct in
    let b = there.result in
    let taken = cuts_taken p a start b cuts h.valid shown there.is in
    let ms = drop c w.mult in
    let apart : AreApart itself (zip b.places ms) =
    subst (λ (ks : List ℕ). AreApart itself (zip ks ms)) (sym taken.noted)
    (places_apart b.steps cuts taken.further ms taken.stand h.distinct) in
    let rising = test_of_rising (cited_pairs c w b.places) (rising_sorted (zip b.places ms) apart) in
    record {
      placed = leaf_with c w (is_some entry) b;
      is =
          ap (option_and_then (bounded_leaf c w (is_some entry))) there.is
          ∙ ap (λ t. cond t (Some (leaf_with c w (is_some entry) b)) None) rising;
      shown = taken.steps;
      distinct = there.distinct;
    }
can_place c p a u (leaves.NoAnswer e) steps h shown distinct =
    record { placed = record { steps = steps; leaf = NoAnswer }; is = refl; shown = shown; distinct = distinct }

-- ---- all leaves of a tree

-- the tree can be written down behind these steps
pub record CanPlaceTree (c : ℕ) (steps : List CutStep) (nodes : List (BareNode ClosedLeaf)) : Type 0 where
  pub placed : PlacedTree
  pub is : placed_tree c steps nodes ≡ Some placed

pub can_place_tree : (c : ℕ) (b : Book) (nodes : List (BareNode ClosedLeaf)) (stack : List Area) (steps : List CutStep)
    → Covers Anything (IsBookLeaf b) nodes stack → AreCutSteps b.program [] steps → AreDistinct steps
    → CanPlaceTree c steps nodes
can_place_tree c b [] stack steps covers shown distinct =
    record { placed = record { steps = steps; nodes = [] }; is = refl }
can_place_tree c b (Leaf leaf ∷ nodes) [] steps covers shown distinct = absurd covers
can_place_tree c b (Split j v s ∷ nodes) [] steps covers shown distinct = absurd covers
can_place_tree c b (Leaf leaf ∷ nodes) (a ∷ stack) steps covers shown distinct =
    let one =
    can_place c b.program a (cutoff_of leaf.cutoff) leaf.evidence steps (shown_leaf b a leaf covers.0) shown distinct in
    let rest = can_place_tree c b nodes stack one.placed.steps covers.1 one.shown one.distinct in
    record {
      placed = with_node (Leaf one.placed.leaf) rest.placed;
      is =
          ap (option_and_then (λ x. option_map (with_node (Leaf x.leaf)) (placed_tree c x.steps nodes))) one.is
          ∙ ap (option_map (with_node (Leaf one.placed.leaf))) rest.is;
    }
can_place_tree c b (Split j v s ∷ nodes) (a ∷ stack) steps covers shown distinct =
    let rest =
    can_place_tree c b nodes (low_half a j v ∷ high_half a j v ∷ stack) steps covers.1 shown distinct in
    record {
      placed = with_node (Split j v tt) rest.placed;
      is = ap (option_map (with_node (Split j v tt))) rest.is;
    }
