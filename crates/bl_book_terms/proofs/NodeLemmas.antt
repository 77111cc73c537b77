-- Lists of nodes: what another status of a node leaves as it was, the weights of leaves, and best values.
use Rattle.std.proofs.Common.{◌≡◌, ◌≢◌, ℕ, zero, suc, ◌+◌, ◌<◌, ◌≤◌, refl, sym, ◌∙◌, ap, subst, arith}
use Rattle.std.proofs.Common.{Bool, true, false, cond, List, [], ◌∷◌, ◌++◌, length}
use Rattle.std.specs.Prelude.{ℤ, int_lt, Option, Some, None}
use Rattle.std.proofs.lemmas.Int.{ints}
use Rattle.bl_terms.specs.Points.{Area, IsArea}
use Rattle.bl_terms.specs.Programs.{Program}
use Rattle.bl_terms.specs.Trees.{point_count}
use Rattle.bl_terms.proofs.TreeLemmas.{point_count-positive}
use Rattle.bl_cut_terms.specs.NoGoods.{NoGoodCut}
use Rattle.bl_leaf_terms.specs.Incumbents.{Incumbent, AreIncumbents, cost_of, cutoff_of}
use Rattle.bl_book_terms.specs.Books.{Status, Ready, Claimed, Divided, Closed, Node, node_at, with_status}
use Rattle.bl_book_terms.specs.Books.{IsLeaf, IsLive}
use Rattle.bl_book_terms.specs.Books.{IsCurrent, improved, improved_by, Book, best_value, after}
use Rattle.bl_book_terms.specs.Books.{Claim, Back, Split, Close, Offer}
use Rattle.bl_book_terms.specs.Laws.{leaf_weight, leaf_sum, leaf_count, leaf_points, BestNeverRises}

-- ---- another status of a node

pub same_length : (nodes : List Node) (k : ℕ) (s : Status) → length (with_status nodes k s) ≡ length nodes
same_length [] k s = refl
same_length (n ∷ nodes) zero s = refl
same_length (n ∷ nodes) (suc k) s = ap (λ (m : ℕ). suc m) (same_length nodes k s)

-- it changes no box and no cuts
pub same_area : (nodes : List Node) (k : ℕ) (s : Status) (j : ℕ)
    → (node_at (with_status nodes k s) j).area ≡ (node_at nodes j).area
same_area [] k s j = refl
same_area (n ∷ nodes) zero s zero = refl
same_area (n ∷ nodes) zero s (suc j) = refl
same_area (n ∷ nodes) (suc k) s zero = refl
same_area (n ∷ nodes) (suc k) s (suc j) = same_area nodes k s j

-- nor any other status
pub other_status : (nodes : List Node) (k : ℕ) (s : Status) (j : ℕ) → j ≢ k
    → (node_at (with_status nodes k s) j).status ≡ (node_at nodes j).status
other_status [] k s j ne = refl
other_status (n ∷ nodes) zero s zero ne = absurd (ne refl)
other_status (n ∷ nodes) zero s (suc j) ne = refl
other_status (n ∷ nodes) (suc k) s zero ne = refl
other_status (n ∷ nodes) (suc k) s (suc j) ne = other_status nodes k s j (λ e. ne (ap (λ (m : ℕ). suc m) e))

pub new_status : (nodes : List Node) (k : ℕ) (s : Status) → k < length nodes
    → (node_at (with_status nodes k s) k).status ≡ s
new_status [] k s b = absurd (omega (arith, b))
new_status (n ∷ nodes) zero s b = refl
new_status (n ∷ nodes) (suc k) s b = new_status nodes k s (omega (arith, b))

-- nodes after the others
pub old_node : (nodes more : List Node) (j : ℕ) → j < length nodes → node_at (nodes ++ more) j ≡ node_at nodes j
old_node [] more j b = absurd (omega (arith, b))
old_node (n ∷ nodes) more zero b = refl
old_node (n ∷ nodes) more (suc j) b = old_node nodes more j (omega (arith, b))

pub more_node : (nodes : List Node) (m : Node) (more : List Node) (n : ℕ) → length nodes ≡ n
    → node_at (nodes ++ m ∷ more) n ≡ m
more_node [] m more zero e = refl
more_node [] m more (suc n) e = absurd (omega (arith, e))
more_node (x ∷ nodes) m more zero e = absurd (omega (arith, e))
more_node (x ∷ nodes) m more (suc n) e = more_node nodes m more n (omega (arith, e))

pub next_node : (nodes : List Node) (m m' : Node) (more : List Node) (n : ℕ) → length nodes ≡ n
    → node_at (nodes ++ m ∷ m' ∷ more) (suc n) ≡ m'
next_node [] m m' more zero e = refl
next_node [] m m' more (suc n) e = absurd (omega (arith, e))
next_node (x ∷ nodes) m m' more zero e = absurd (omega (arith, e))
next_node (x ∷ nodes) m m' more (suc n) e = next_node nodes m m' more n (omega (arith, e))

-- ---- the weights of leaves

weight_of_leaf : (weight : Area → ℕ) (a : Area) (cuts : List NoGoodCut) (s : Status) → IsLeaf s
    → leaf_weight weight (record { area = a; cuts = cuts; status = s }) ≡ weight a
weight_of_leaf weight a cuts Ready is = refl
weight_of_leaf weight a cuts (Claimed w u) is = refl
weight_of_leaf weight a cuts (Divided h licence low) is = absurd is
weight_of_leaf weight a cuts (Closed leaf) is = refl

-- a leaf that stays one weighs the same
pub leaf_sum-stays : (weight : Area → ℕ) (nodes : List Node) (k : ℕ) (s : Status) → IsLeaf (node_at nodes k).status
    → IsLeaf s → leaf_sum weight (with_status nodes k s) ≡ leaf_sum weight nodes
leaf_sum-stays weight [] k s old new = refl
leaf_sum-stays weight (n ∷ nodes) zero s old new =
    ap (λ (x : ℕ). x + leaf_sum weight nodes)
    (weight_of_leaf weight n.area n.cuts s new ∙ sym (weight_of_leaf weight n.area n.cuts n.status old))
leaf_sum-stays weight (n ∷ nodes) (suc k) s old new =
    ap (λ (x : ℕ). leaf_weight weight n + x) (leaf_sum-stays weight nodes k s old new)

-- one that is split loses its weight
pub leaf_sum-split : (weight : Area → ℕ) (nodes : List Node) (k : ℕ) (s : Status) → k < length nodes
    → IsLeaf (node_at nodes k).status → ¬ IsLeaf s
    → leaf_sum weight (with_status nodes k s) + weight (node_at nodes k).area ≡ leaf_sum weight nodes
leaf_sum-split weight [] k s b old new = absurd (omega (arith, b))
leaf_sum-split weight (n ∷ nodes) zero Ready b old new = absurd (new tt)
leaf_sum-split weight (n ∷ nodes) zero (Claimed w u) b old new = absurd (new tt)
leaf_sum-split weight (n ∷ nodes) zero (Closed leaf) b old new = absurd (new tt)
leaf_sum-split weight (n ∷ nodes) zero (Divided h licence low) b old new =
    let e : leaf_weight weight n ≡ weight n.area = weight_of_leaf weight n.area n.cuts n.status old in
    omega (arith, e)
leaf_sum-split weight (n ∷ nodes) (suc k) s b old new =
    let e = leaf_sum-split weight nodes k s (omega (arith, b)) old new in
    omega (arith, e)

pub leaf_sum-append : (weight : Area → ℕ) (xs ys : List Node)
    → leaf_sum weight (xs ++ ys) ≡ leaf_sum weight xs + leaf_sum weight ys
leaf_sum-append weight [] ys = omega arith
leaf_sum-append weight (x ∷ xs) ys = let e = leaf_sum-append weight xs ys in omega (arith, e)

-- each leaf has a point
light_leaf : (a : Area) (cuts : List NoGoodCut) (s : Status) → IsArea a
    → leaf_weight (λ _. 1) (record { area = a; cuts = cuts; status = s })
    ≤ leaf_weight point_count (record { area = a; cuts = cuts; status = s })
light_leaf a cuts Ready g = point_count-positive a g
light_leaf a cuts (Claimed w u) g = point_count-positive a g
light_leaf a cuts (Divided h licence low) g = omega arith
light_leaf a cuts (Closed leaf) g = point_count-positive a g

pub few_leaves : (nodes : List Node) → ((j : ℕ) → j < length nodes → IsArea (node_at nodes j).area)
    → leaf_count nodes ≤ leaf_points nodes
few_leaves [] areas = omega arith
few_leaves (n ∷ nodes) areas =
    let here = light_leaf n.area n.cuts n.status (areas 0 (omega arith)) in
    let rest = few_leaves nodes (λ j b. areas (suc j) (omega (arith, b))) in
    omega (arith, here, rest)

-- where a live one has several, there are more points than leaves
heavy_leaf : (a : Area) (cuts : List NoGoodCut) (s : Status) → IsLive s → 2 ≤ point_count a
    → leaf_weight (λ _. 1) (record { area = a; cuts = cuts; status = s }) + 1
    ≤ leaf_weight point_count (record { area = a; cuts = cuts; status = s })
heavy_leaf a cuts Ready live many = many
heavy_leaf a cuts (Claimed w u) live many = many
heavy_leaf a cuts (Divided h licence low) live many = absurd live
heavy_leaf a cuts (Closed leaf) live many = absurd live

pub fewer_leaves : (nodes : List Node) (k : ℕ) → ((j : ℕ) → j < length nodes → IsArea (node_at nodes j).area)
    → k < length nodes → IsLive (node_at nodes k).status → 2 ≤ point_count (node_at nodes k).area
    → leaf_count nodes + 1 ≤ leaf_points nodes
fewer_leaves [] k areas b live many = absurd (omega (arith, b))
fewer_leaves (n ∷ nodes) zero areas b live many =
    let here = heavy_leaf n.area n.cuts n.status live many in
    let rest = few_leaves nodes (λ j c. areas (suc j) (omega (arith, c))) in
    omega (arith, here, rest)
fewer_leaves (n ∷ nodes) (suc k) areas b live many =
    let here = light_leaf n.area n.cuts n.status (areas 0 (omega arith)) in
    let rest = fewer_leaves nodes k (λ j c. areas (suc j) (omega (arith, c))) (omega (arith, b)) live many in
    omega (arith, here, rest)

-- ---- best values

pub same_value : (u : Option ℤ) → IsCurrent u u
same_value None = tt
same_value (Some v) = omega (arith, ints)

pub no_higher : (u v w : Option ℤ) → IsCurrent u v → IsCurrent v w → IsCurrent u w
no_higher None v w h g = tt
no_higher (Some u) None w h g = absurd h
no_higher (Some u) (Some v) None h g = absurd g
no_higher (Some u) (Some v) (Some w) h g = omega (arith, ints, h, g)

-- the better one of two
improved_one : (g f : Incumbent) (t : Bool) → int_lt (cost_of f) (cost_of g) ≡ t
    → (IsCurrent (Some (cost_of g)) (cutoff_of (cond t (Some f) (Some g))))
    × (IsCurrent (Some (cost_of f)) (cutoff_of (cond t (Some f) (Some g))))
improved_one g f true e = (omega (arith, ints, e), omega (arith, ints))
improved_one g f false e = (omega (arith, ints), omega (arith, ints, e))

-- is no worse than either
pub improved-old : (best : Option Incumbent) (f : Incumbent) → IsCurrent (cutoff_of best) (cutoff_of (improved best f))
improved-old None f = tt
improved-old (Some g) f = (improved_one g f (int_lt (cost_of f) (cost_of g)) refl).0

pub improved-new : (best : Option Incumbent) (f : Incumbent)
    → IsCurrent (Some (cost_of f)) (cutoff_of (improved best f))
improved-new None f = omega (arith, ints)
improved-new (Some g) f = (improved_one g f (int_lt (cost_of f) (cost_of g)) refl).1

pub improved_by-old : (best u : Option Incumbent) → IsCurrent (cutoff_of best) (cutoff_of (improved_by best u))
improved_by-old best None = same_value (cutoff_of best)
improved_by-old best (Some f) = improved-old best f

pub improved_by-new : (best u : Option Incumbent) → IsCurrent (cutoff_of u) (cutoff_of (improved_by best u))
improved_by-new best None = tt
improved_by-new best (Some f) = improved-new best f

-- and an incumbent of the program
pub improved-are : (p : Program) (best : Option Incumbent) (f : Incumbent) → AreIncumbents p best
    → AreIncumbents p (Some f) → AreIncumbents p (improved best f)
improved-are p None f old new = new
improved-are p (Some g) f old new = by (int_lt (cost_of f) (cost_of g))
  where
    by : (t : Bool) → AreIncumbents p (cond t (Some f) (Some g))
    by true = new
    by false = old

pub improved_by-are : (p : Program) (best u : Option Incumbent) → AreIncumbents p best → AreIncumbents p u
    → AreIncumbents p (improved_by best u)
improved_by-are p best None old new = old
improved_by-are p best (Some f) old new = improved-are p best f old new

-- ---- the best value of a run

pub best_never_rises : BestNeverRises
best_never_rises b b' [] leads =
    let P : Book → Type 0 = λ x. IsCurrent (best_value b) (best_value x) in
    subst P leads (same_value (best_value b))
best_never_rises b b' (Claim w k ∷ events) leads = best_never_rises (after b (Claim w k)) b' events leads.1
best_never_rises b b' (Back w k ∷ events) leads = best_never_rises (after b (Back w k)) b' events leads.1
best_never_rises b b' (Split w k h licence cuts ∷ events) leads =
    no_higher (best_value b) (best_value (after b (Split w k h licence cuts))) (best_value b')
    (improved_by-old b.best licence.cutoff) (best_never_rises (after b (Split w k h licence cuts)) b' events leads.1)
best_never_rises b b' (Close w k leaf ∷ events) leads =
    no_higher (best_value b) (best_value (after b (Close w k leaf))) (best_value b')
    (improved_by-old b.best leaf.cutoff) (best_never_rises (after b (Close w k leaf)) b' events leads.1)
best_never_rises b b' (Offer w f ∷ events) leads =
    no_higher (best_value b) (best_value (after b (Offer w f))) (best_value b')
    (improved-old b.best f) (best_never_rises (after b (Offer w f)) b' events leads.1)
