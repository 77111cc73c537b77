-- Trusted. The cuts of a book's certificate, and what closes a leaf there. A cut of a leaf stands in the certificate as
-- the steps of its own list, each only where no equal one stands yet; a leaf cites it by the place of its last step.
use Rattle.std.specs.Prelude.{ℕ, ℤ, Bool, true, ◌&&◌, if◌then◌else◌, nat_lt, List, [], ◌∷◌, ◌++◌, map, take, drop}
use Rattle.std.specs.Prelude.{Option, Some, None, option_map, option_and_then, is_some}
use Rattle.std.specs.List.{zip}
use Rattle.bl_terms.specs.Bounds.{Multipliers}
use Rattle.bl_terms.specs.Trees.{BareNode, Leaf, Split}
use Rattle.bl_cut_terms.specs.NoGoods.{CutStep, NoGoodCut}
use Rattle.bl_cut_terms.specs.Adopting.{Adopted, adopt_cut}
use Rattle.bl_leaf_terms.specs.Leaves as leaves
use Rattle.bl_cert_terms.specs.Certificates.{LeafProof, Bounded, NoAnswer}

-- the steps of cuts are taken over one cut after the other, and the place of each cut's last step is noted
abbrev pub adopt_all : Adopted → List NoGoodCut → Option Adopted
adopt_all a [] = Some a
adopt_all a (c ∷ cuts) = option_and_then (λ b. adopt_all b cuts) (adopt_cut a c)

-- a place with its multiplier, put behind those of lower places; and all pairs in the order of their places
abbrev pub put_by_place : ℕ × ℤ → List (ℕ × ℤ) → List (ℕ × ℤ)
put_by_place x [] = x ∷ []
put_by_place x (y ∷ pairs) = if nat_lt y.0 x.0 then y ∷ put_by_place x pairs else x ∷ y ∷ pairs

abbrev pub by_place : List (ℕ × ℤ) → List (ℕ × ℤ)
by_place [] = []
by_place (x ∷ pairs) = put_by_place x (by_place pairs)

-- each place is below the next
abbrev pub are_rising : List ℕ → Bool
are_rising [] = true
are_rising (k ∷ []) = true
are_rising (k ∷ j ∷ places) = nat_lt k j && are_rising (j ∷ places)

-- the places of the cuts with their multipliers, which stand after those of n rows, in the order of the places
abbrev pub cited_pairs : ℕ → Multipliers → List ℕ → List (ℕ × ℤ)
cited_pairs n w places = by_place (zip places (drop n w.mult))

-- the multipliers of n rows, and behind them those of the pairs
abbrev pub with_pairs : ℕ → Multipliers → List (ℕ × ℤ) → Multipliers
with_pairs n w pairs = record { den = w.den; mult = take n w.mult ++ map (λ x. x.1) pairs }

-- the cuts so far, and what closes a leaf over them
pub record PlacedLeaf : Type 0 where
  pub steps : List CutStep
  pub leaf : LeafProof

-- the leaf that cites cuts at the noted places; none where two of them are one
abbrev pub bounded_leaf : ℕ → Multipliers → Bool → Adopted → Option PlacedLeaf
bounded_leaf n w uses a =
    if are_rising (map (λ x. x.0) (cited_pairs n w a.places))
    then Some (record {
      steps = a.steps;
      leaf =
          Bounded (with_pairs n w (cited_pairs n w a.places)) uses (map (λ x. x.0) (cited_pairs n w a.places));
    })
    else None

-- a leaf whose cuts are taken over behind the cuts so far
abbrev pub placed_leaf : ℕ → List CutStep → leaves.Evidence → Option PlacedLeaf
placed_leaf n steps (leaves.Bounded w cuts entry) =
    option_and_then (bounded_leaf n w (is_some entry)) (adopt_all (record { steps = steps; places = [] }) cuts)
placed_leaf n steps (leaves.NoAnswer e) = Some (record { steps = steps; leaf = NoAnswer })

-- the cuts so far, and the nodes of a tree over them
pub record PlacedTree : Type 0 where
  pub steps : List CutStep
  pub nodes : List (BareNode LeafProof)

-- one more node at the front
abbrev pub with_node : BareNode LeafProof → PlacedTree → PlacedTree
with_node n t = record { steps = t.steps; nodes = n ∷ t.nodes }

-- a tree whose leaves are placed one after the other, in preorder
abbrev pub placed_tree : ℕ → List CutStep → List (BareNode leaves.ClosedLeaf) → Option PlacedTree
placed_tree n steps [] = Some (record { steps = steps; nodes = [] })
placed_tree n steps (Split j v s ∷ nodes) = option_map (with_node (Split j v tt)) (placed_tree n steps nodes)
placed_tree n steps (Leaf leaf ∷ nodes) =
    option_and_then (λ x. option_map (with_node (Leaf x.leaf)) (placed_tree n x.steps nodes))
    (placed_leaf n steps leaf.evidence)
