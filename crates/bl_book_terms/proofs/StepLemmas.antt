-- Each allowed step leads from a sound book to a sound one.
use Rattle.std.proofs.Common.{◌≡◌, ◌≢◌, ℕ, suc, ◌+◌, ◌<◌, ◌≤◌, refl, sym, ◌∙◌, ap, subst, arith, inl, inr}
use Rattle.std.proofs.Common.{List, [], ◌∷◌, ◌++◌, length}
use Rattle.std.specs.Prelude.{ℤ, Option}
use Rattle.std.proofs.lemmas.Bool.{cases_eq, cases_lt}
use Rattle.std.proofs.lemmas.List.{length-append}
use Rattle.bl_terms.specs.Points.{Area, IsArea, InArea, IsWithinArea}
use Rattle.bl_terms.specs.Programs.{Program, root}
use Rattle.bl_terms.specs.Trees.{point_count, CanSplit, low_half, high_half}
use Rattle.bl_terms.proofs.PointLemmas.{part_of_part}
use Rattle.bl_model.specs.Boxes.{Halved}
use Rattle.bl_model.proofs.BoxLemmas.{low_half-area, high_half-area, low_half-within, high_half-within}
use Rattle.bl_model.proofs.BoxLemmas.{from_low_half, from_high_half, in_one_half, halves-point_count}
use Rattle.bl_cut_terms.specs.NoGoods.{NoGoodCut}
use Rattle.bl_leaf_terms.specs.Incumbents.{Incumbent, AreIncumbents, cutoff_of}
use Rattle.bl_leaf_terms.specs.Nodes.{NodeLicence}
use Rattle.bl_book_terms.specs.Books.{Status, Ready, Claimed, Divided, Closed, Node, ready_node, node_at, with_status}
use Rattle.bl_book_terms.specs.Books.{IsLeaf, IsCurrent, Book, best_value, after, IsAllowed, MaySplit}
use Rattle.bl_book_terms.specs.Books.{Event, Claim, Back, Split, Close, Offer, improved, improved_by}
use Rattle.bl_book_terms.specs.Laws.{IsSound, IsLeafOf, KeepsStatus, IsSplitNode, leaf_sum, leaf_count}
use Rattle.bl_book_terms.specs.Laws.{leaf_points}
use Rattle.bl_book_terms.proofs.NodeLemmas.{same_length, same_area, other_status, new_status, old_node, more_node}
use Rattle.bl_book_terms.proofs.NodeLemmas.{next_node, leaf_sum-stays, leaf_sum-split, leaf_sum-append, same_value}
use Rattle.bl_book_terms.proofs.NodeLemmas.{no_higher, improved-old, improved-are, improved_by-old}
use Rattle.bl_book_terms.proofs.NodeLemmas.{improved_by-new, improved_by-are}

-- ---- a book that goes on from another

-- the book with other nodes and another best
abbrev moved : Book → List Node → Option Incumbent → Book
moved b nodes best = record b { nodes = nodes; best = best }

-- the nodes of the book are there, with their boxes, and the best is no worse
record GoesOn (b : Book) (nodes : List Node) (best : Option Incumbent) : Type 0 where
  longer : length b.nodes ≤ length nodes
  areas : (j : ℕ) → j < length b.nodes → (node_at nodes j).area ≡ (node_at b.nodes j).area
  better : IsCurrent (best_value b) (cutoff_of best)

-- so each node keeps what its status asks for
status_kept : (b : Book) (nodes : List Node) (best : Option Incumbent) → GoesOn b nodes best
    → (k : ℕ) → k < length b.nodes → (s : Status) → KeepsStatus b k s → KeepsStatus (moved b nodes best) k s
status_kept b nodes best on k at Ready h = tt
status_kept b nodes best on k at (Claimed w u) h = (h.0, no_higher u (best_value b) (cutoff_of best) h.1 on.better)
status_kept b nodes best on k at (Divided split licence low) h =
    let there = h.there in
    let longer = on.longer in
    record {
      program = h.program;
      licence_area = h.licence_area ∙ sym (on.areas k at);
      holds = h.holds;
      reached = no_higher (cutoff_of licence.cutoff) (best_value b) (cutoff_of best) h.reached on.better;
      area = h.area ∙ sym (on.areas k at);
      splits = h.splits;
      higher = h.higher;
      there = omega arith;
      low_area = on.areas low (omega arith) ∙ h.low_area;
      high_area = on.areas (suc low) there ∙ h.high_area;
    }
status_kept b nodes best on k at (Closed leaf) h = record {
  program = h.program;
  area = h.area ∙ sym (on.areas k at);
  holds = h.holds;
  reached = no_higher (cutoff_of leaf.cutoff) (best_value b) (cutoff_of best) h.reached on.better;
}

-- ---- a leaf that stays one

-- a leaf gets another status of a leaf, and the best becomes no worse
module _ (b : Book) (k : ℕ) (s : Status) (best : Option Incumbent) where
  abbrev restated : Book
  restated = moved b (with_status b.nodes k s) best

  restated_leaf : IsLeaf (node_at b.nodes k).status → IsLeaf s → (j : ℕ) → j < length b.nodes
      → IsLeaf (node_at (with_status b.nodes k s) j).status → IsLeaf (node_at b.nodes j).status
  restated_leaf old new j at is = elim (cases_eq j k) [
    | inl same ↦ let P : ℕ → Type 0 = λ i. IsLeaf (node_at b.nodes i).status in subst P (sym same) old
    | inr other ↦ subst IsLeaf (other_status b.nodes k s j other) is
  ]

  leaf_restated : IsLeaf s → (j : ℕ) → j < length b.nodes
      → IsLeaf (node_at b.nodes j).status → IsLeaf (node_at (with_status b.nodes k s) j).status
  leaf_restated new j at is = elim (cases_eq j k) [
    | inl same ↦
        let P : ℕ → Type 0 = λ i. IsLeaf (node_at (with_status b.nodes k s) i).status in
        let there : k < length b.nodes = omega (arith, same, at) in
        subst P (sym same) (subst IsLeaf (sym (new_status b.nodes k s there)) new)
    | inr other ↦ subst IsLeaf (sym (other_status b.nodes k s j other)) is
  ]

  -- the leaves with a point are the same
  back_to_leaf : (z : List ℤ) (j : ℕ) → IsLeaf (node_at b.nodes k).status → IsLeaf s → IsLeafOf restated j z
      → IsLeafOf b j z
  back_to_leaf z j old new l =
      let at : j < length b.nodes = rw (sym (same_length b.nodes k s)) l.there in
      record {
        there = at;
        leaf = restated_leaf old new j at l.leaf;
        inside = (let P : Area → Type 0 = λ a. InArea a z in subst P (same_area b.nodes k s j) l.inside);
      }

  on_to_leaf : (z : List ℤ) (j : ℕ) → IsLeaf s → IsLeafOf b j z → IsLeafOf restated j z
  on_to_leaf z j new l = record {
    there = rw (same_length b.nodes k s) l.there;
    leaf = leaf_restated new j l.there l.leaf;
    inside = (let P : Area → Type 0 = λ a. InArea a z in subst P (sym (same_area b.nodes k s j)) l.inside);
  }

  goes_on_restated : IsCurrent (best_value b) (cutoff_of best) → GoesOn b (with_status b.nodes k s) best
  goes_on_restated better = record {
    longer = (let e = same_length b.nodes k s in omega arith);
    areas = λ j at. same_area b.nodes k s j;
    better = better;
  }

  restated_kept : IsSound b → IsCurrent (best_value b) (cutoff_of best) → KeepsStatus restated k s
      → (j : ℕ) → j < length b.nodes → KeepsStatus restated j (node_at restated.nodes j).status
  restated_kept sound better keeps j at = elim (cases_eq j k) [
    | inl same ↦
        let P : ℕ → Type 0 = λ i. KeepsStatus restated i (node_at restated.nodes i).status in
        let Q : Status → Type 0 = λ t. KeepsStatus restated k t in
        let there : k < length b.nodes = omega (arith, same, at) in
        subst P (sym same) (subst Q (sym (new_status b.nodes k s there)) keeps)
    | inr other ↦
        let Q : Status → Type 0 = λ t. KeepsStatus restated j t in
        subst Q (sym (other_status b.nodes k s j other))
        (status_kept b (with_status b.nodes k s) best (goes_on_restated better) j at (node_at b.nodes j).status
        (sound.kept j at))
  ]

  restated_sound : IsSound b → IsLeaf (node_at b.nodes k).status → IsLeaf s
      → IsCurrent (best_value b) (cutoff_of best) → AreIncumbents b.program best → KeepsStatus restated k s
      → IsSound restated
  restated_sound sound old new better are keeps =
      let len = same_length b.nodes k s in
      record {
        areas = λ j at. subst IsArea (sym (same_area b.nodes k s j)) (sound.areas j (omega (arith, len, at)));
        within = λ j at.
            let P : Area → Type 0 = λ a. IsWithinArea a (root b.program) in
            subst P (sym (same_area b.nodes k s j)) (sound.within j (omega (arith, len, at)));
        covered = λ z inside. let l = sound.covered z inside in (l.0, on_to_leaf z l.0 new l.1);
        once = λ z j j' l l'. sound.once z j j' (back_to_leaf z j old new l) (back_to_leaf z j' old new l');
        points = leaf_sum-stays point_count b.nodes k s old new ∙ sound.points;
        made =
            (let made = sound.made in let e = leaf_sum-stays (λ _. 1) b.nodes k s old new in omega arith);
        few = (let few = sound.few in omega arith);
        incumbent = are;
        kept = λ j at. restated_kept sound better keeps j (omega (arith, len, at));
      }

-- ---- a leaf that is split

module _ (b : Book) (k : ℕ) (h : Halved) (licence : NodeLicence) (cuts : List NoGoodCut) where
  abbrev low : Area
  low = low_half h.area h.column h.at

  abbrev high : Area
  high = high_half h.area h.column h.at

  abbrev count : ℕ
  count = length b.nodes

  abbrev divided : Status
  divided = Divided h licence (length b.nodes)

  abbrev halves : List Node
  halves = ready_node low cuts ∷ ready_node high cuts ∷ []

  abbrev split_nodes : List Node
  split_nodes = with_status b.nodes k divided ++ halves

  abbrev split : Book
  split = moved b split_nodes (improved_by b.best licence.cutoff)

  split_length : length split_nodes ≡ length b.nodes + 2
  split_length =
      let e = length-append (with_status b.nodes k divided) halves in
      let e' = same_length b.nodes k divided in
      omega (arith, e, e')

  -- the nodes of the split book
  split_old : (j : ℕ) → j < length b.nodes → node_at split_nodes j ≡ node_at (with_status b.nodes k divided) j
  split_old j at =
      let e = same_length b.nodes k divided in
      old_node (with_status b.nodes k divided) halves j (omega (arith, e, at))

  split_area : (j : ℕ) → j < length b.nodes → (node_at split_nodes j).area ≡ (node_at b.nodes j).area
  split_area j at = ap (λ (n : Node). n.area) (split_old j at) ∙ same_area b.nodes k divided j

  split_other : (j : ℕ) → j < length b.nodes → j ≢ k → (node_at split_nodes j).status ≡ (node_at b.nodes j).status
  split_other j at ne = ap (λ (n : Node). n.status) (split_old j at) ∙ other_status b.nodes k divided j ne

  split_this : k < length b.nodes → (node_at split_nodes k).status ≡ divided
  split_this at = ap (λ (n : Node). n.status) (split_old k at) ∙ new_status b.nodes k divided at

  split_low : node_at split_nodes (length b.nodes) ≡ ready_node low cuts
  split_low =
      more_node (with_status b.nodes k divided) (ready_node low cuts) (ready_node high cuts ∷ []) (length b.nodes)
      (same_length b.nodes k divided)

  split_high : node_at split_nodes (suc (length b.nodes)) ≡ ready_node high cuts
  split_high =
      next_node (with_status b.nodes k divided) (ready_node low cuts) (ready_node high cuts) [] (length b.nodes)
      (same_length b.nodes k divided)

  -- a node of the split book is an old one, or a half
  data Which (j : ℕ) : Type 0 where
    Old : j < length b.nodes → Which j
    Low : j ≡ length b.nodes → Which j
    High : j ≡ suc (length b.nodes) → Which j

  which : (j : ℕ) → j < length split_nodes → Which j
  which j at = elim (cases_lt j (length b.nodes)) [
    | inl old ↦ Old old
    | inr new ↦ elim (cases_eq j (length b.nodes)) [
      | inl low ↦ Low low
      | inr other ↦ High (let e = split_length in omega (arith, e, at, new, other))
    ]
  ]

  -- a leaf with the point z is another old leaf with it, or a half of the split one with it
  data Descends (j : ℕ) (z : List ℤ) : Type 0 where
    Stays : j < length b.nodes → j ≢ k → IsLeafOf b j z → Descends j z
    InLow : j ≡ length b.nodes → InArea low z → IsLeafOf b k z → Descends j z
    InHigh : j ≡ suc (length b.nodes) → InArea high z → IsLeafOf b k z → Descends j z

  module _ (there : k < length b.nodes) (leaf : IsLeaf (node_at b.nodes k).status)
      (e : h.area ≡ (node_at b.nodes k).area) (can : CanSplit h.area h.column h.at) (area : IsArea h.area) where
    parent : (z : List ℤ) → InArea h.area z → IsLeafOf b k z
    parent z inside = record {
      there = there;
      leaf = leaf;
      inside = (let P : Area → Type 0 = λ a. InArea a z in subst P e inside);
    }

    old_leaf : (j : ℕ) (z : List ℤ) → j < length b.nodes → IsLeafOf split j z → Descends j z
    old_leaf j z at l = elim (cases_eq j k) [
      | inl same ↦
          let P : ℕ → Type 0 = λ i. IsLeaf (node_at split_nodes i).status in
          absurd (subst IsLeaf (split_this there) (subst P same l.leaf))
      | inr other ↦ Stays at other (record {
        there = at;
        leaf = subst IsLeaf (split_other j at other) l.leaf;
        inside = (let P : Area → Type 0 = λ a. InArea a z in subst P (split_area j at) l.inside);
      })
    ]

    descends : (j : ℕ) (z : List ℤ) → IsLeafOf split j z → Descends j z
    descends j z l = elim (which j l.there) [
      | Old at ↦ old_leaf j z at l
      | Low same ↦
          let P : ℕ → Type 0 = λ i. InArea (node_at split_nodes i).area z in
          let Q : Node → Type 0 = λ n. InArea n.area z in
          let inside = subst Q split_low (subst P same l.inside) in
          InLow same inside (parent z (from_low_half h.area h.column h.at z can area inside))
      | High same ↦
          let P : ℕ → Type 0 = λ i. InArea (node_at split_nodes i).area z in
          let Q : Node → Type 0 = λ n. InArea n.area z in
          let inside = subst Q split_high (subst P same l.inside) in
          InHigh same inside (parent z (from_high_half h.area h.column h.at z can area inside))
    ]

    not_both : (z : List ℤ) → InArea low z → InArea high z → ⊥
    not_both z l r =
        elim (in_one_half h.area h.column h.at z can area (from_low_half h.area h.column h.at z can area l)) [
          | inl one ↦ one.1 r
          | inr one ↦ one.1 l
        ]

    split_once : ((z : List ℤ) (j j' : ℕ) → IsLeafOf b j z → IsLeafOf b j' z → j ≡ j')
        → (z : List ℤ) (j j' : ℕ) → Descends j z → Descends j' z → j ≡ j'
    split_once once z j j' (Stays at ne l) (Stays at' ne' l') = once z j j' l l'
    split_once once z j j' (Stays at ne l) (InLow x i p) = absurd (ne (once z j k l p))
    split_once once z j j' (Stays at ne l) (InHigh x i p) = absurd (ne (once z j k l p))
    split_once once z j j' (InLow x i p) (Stays at ne l) = absurd (ne (once z j' k l p))
    split_once once z j j' (InLow x i p) (InLow x' i' p') = x ∙ sym x'
    split_once once z j j' (InLow x i p) (InHigh x' i' p') = absurd (not_both z i i')
    split_once once z j j' (InHigh x i p) (Stays at ne l) = absurd (ne (once z j' k l p))
    split_once once z j j' (InHigh x i p) (InLow x' i' p') = absurd (not_both z i' i)
    split_once once z j j' (InHigh x i p) (InHigh x' i' p') = x ∙ sym x'

    -- a point of the split leaf lies in a half
    low_leaf : (z : List ℤ) → InArea low z → IsLeafOf split (length b.nodes) z
    low_leaf z inside = record {
      there = (let c = split_length in omega arith);
      leaf = (let Q : Node → Type 0 = λ n. IsLeaf n.status in subst Q (sym split_low) tt);
      inside = (let Q : Node → Type 0 = λ n. InArea n.area z in subst Q (sym split_low) inside);
    }

    high_leaf : (z : List ℤ) → InArea high z → IsLeafOf split (suc (length b.nodes)) z
    high_leaf z inside = record {
      there = (let c = split_length in omega arith);
      leaf = (let Q : Node → Type 0 = λ n. IsLeaf n.status in subst Q (sym split_high) tt);
      inside = (let Q : Node → Type 0 = λ n. InArea n.area z in subst Q (sym split_high) inside);
    }

    split_covered : (z : List ℤ) (j : ℕ) → IsLeafOf b j z → (i : ℕ) × IsLeafOf split i z
    split_covered z j l = elim (cases_eq j k) [
      | inl same ↦
          let P : ℕ → Type 0 = λ i. InArea (node_at b.nodes i).area z in
          let P' : Area → Type 0 = λ a. InArea a z in
          let inside = subst P' (sym e) (subst P same l.inside) in
          elim (in_one_half h.area h.column h.at z can area inside) [
            | inl one ↦ (length b.nodes, low_leaf z one.0)
            | inr one ↦ (suc (length b.nodes), high_leaf z one.0)
          ]
      | inr other ↦ (
        j,
        record {
          there = (let c = split_length in let at = l.there in omega arith);
          leaf = subst IsLeaf (sym (split_other j l.there other)) l.leaf;
          inside = (let P : Area → Type 0 = λ a. InArea a z in subst P (sym (split_area j l.there)) l.inside);
        },
      )
    ]

    -- what holds of the box of each old node and of both halves holds of each node's box
    each_area : (P : Area → Type 0) → ((j : ℕ) → j < length b.nodes → P (node_at b.nodes j).area) → P low → P high
        → (j : ℕ) → j < length split_nodes → P (node_at split_nodes j).area
    each_area P old l r j at = elim (which j at) [
      | Old o ↦ subst P (sym (split_area j o)) (old j o)
      | Low same ↦
          let Q : ℕ → Type 0 = λ i. P (node_at split_nodes i).area in
          let Q' : Node → Type 0 = λ n. P n.area in
          subst Q (sym same) (subst Q' (sym split_low) l)
      | High same ↦
          let Q : ℕ → Type 0 = λ i. P (node_at split_nodes i).area in
          let Q' : Node → Type 0 = λ n. P n.area in
          subst Q (sym same) (subst Q' (sym split_high) r)
    ]

    split_weight : (weight : Area → ℕ)
        → leaf_sum weight split_nodes + weight (node_at b.nodes k).area
        ≡ leaf_sum weight b.nodes + (weight low + weight high)
    split_weight weight =
        let both = leaf_sum-append weight (with_status b.nodes k divided) halves in
        let lost = leaf_sum-split weight b.nodes k divided there leaf (λ is. is) in
        omega (arith, both, lost)

    split_points : leaf_points split_nodes ≡ leaf_points b.nodes
    split_points =
        let all = split_weight point_count in
        let parts = halves-point_count h.area h.column h.at can area in
        let same = ap point_count e in
        omega (arith, all, parts, same)

    split_count : leaf_count split_nodes ≡ leaf_count b.nodes + 1
    split_count = let all = split_weight (λ _. 1) in omega (arith, all)

  goes_on_split : GoesOn b split_nodes (improved_by b.best licence.cutoff)
  goes_on_split = record {
    longer = (let c = split_length in omega arith);
    areas = split_area;
    better = improved_by-old b.best licence.cutoff;
  }

  module _ (w : ℕ) (sound : IsSound b) (may : MaySplit b w k h licence) where
    new_kept : IsSplitNode split k h licence (length b.nodes)
    new_kept =
        let there = may.claimed.there in
        let c = split_length in
        record {
          program = may.program;
          licence_area = may.area ∙ sym (split_area k there);
          holds = may.holds;
          reached = improved_by-new b.best licence.cutoff;
          area = may.halves ∙ sym (split_area k there);
          splits = may.splits;
          higher = there;
          there = omega arith;
          low_area = ap (λ (n : Node). n.area) split_low;
          high_area = ap (λ (n : Node). n.area) split_high;
        }

    ready_kept : (j : ℕ) (n : Node) → node_at split_nodes j ≡ n → n.status ≡ Ready
        → KeepsStatus split j (node_at split_nodes j).status
    ready_kept j n at is =
        let Q : Status → Type 0 = λ t. KeepsStatus split j t in
        subst Q (sym (ap (λ (m : Node). m.status) at ∙ is)) tt

    old_kept : (j : ℕ) → j < length b.nodes → KeepsStatus split j (node_at split_nodes j).status
    old_kept j at = elim (cases_eq j k) [
      | inl same ↦
          let P : ℕ → Type 0 = λ i. KeepsStatus split i (node_at split_nodes i).status in
          let Q : Status → Type 0 = λ t. KeepsStatus split k t in
          subst P (sym same) (subst Q (sym (split_this may.claimed.there)) new_kept)
      | inr other ↦
          let Q : Status → Type 0 = λ t. KeepsStatus split j t in
          subst Q (sym (split_other j at other))
          (status_kept b split_nodes (improved_by b.best licence.cutoff) goes_on_split j at (node_at b.nodes j).status
          (sound.kept j at))
    ]

    split_kept : (j : ℕ) → j < length split_nodes → KeepsStatus split j (node_at split_nodes j).status
    split_kept j at = elim (which j at) [
      | Old old ↦ old_kept j old
      | Low same ↦
          ready_kept j (ready_node low cuts) (ap (λ (i : ℕ). node_at split_nodes i) same ∙ split_low) refl
      | High same ↦
          ready_kept j (ready_node high cuts) (ap (λ (i : ℕ). node_at split_nodes i) same ∙ split_high) refl
    ]

    split_sound : IsSound split
    split_sound =
        let there = may.claimed.there in
        let leaf : IsLeaf (node_at b.nodes k).status = subst IsLeaf (sym may.claimed.status) tt in
        let e = may.halves in
        let can = may.splits in
        let area : IsArea h.area = subst IsArea (sym e) (sound.areas k there) in
        let P : Area → Type 0 = λ a. IsWithinArea a (root b.program) in
        let part : IsWithinArea h.area (root b.program) = subst P (sym e) (sound.within k there) in
        let len = split_length in
        record {
          areas =
              each_area there leaf e can area IsArea sound.areas (low_half-area h.area h.column h.at can area)
              (high_half-area h.area h.column h.at can area);
          within =
              each_area there leaf e can area P sound.within
              (part_of_part (low_half-within h.area h.column h.at can area) part)
              (part_of_part (high_half-within h.area h.column h.at can area) part);
          covered = λ z inside.
              let l = sound.covered z inside in split_covered there leaf e can area z l.0 l.1;
          once = λ z j j' l l'.
              split_once there leaf e can area sound.once z j j' (descends there leaf e can area j z l)
              (descends there leaf e can area j' z l');
          points = split_points there leaf e can area ∙ sound.points;
          made = (let made = sound.made in let c = split_count there leaf e can area in omega arith);
          few = (let room = may.room in omega arith);
          incumbent =
              (let Q : Program → Type 0 = λ p. AreIncumbents p licence.cutoff in
              improved_by-are b.program b.best licence.cutoff sound.incumbent
              (subst Q may.program may.holds.incumbent));
          kept = split_kept;
        }

-- ---- the best alone

offered_sound : (b : Book) (best : Option Incumbent) → IsSound b → IsCurrent (best_value b) (cutoff_of best)
    → AreIncumbents b.program best → IsSound (moved b b.nodes best)
offered_sound b best sound better are =
    let on : GoesOn b b.nodes best = record { longer = omega arith; areas = λ j at. refl; better = better } in
    record {
      areas = sound.areas;
      within = sound.within;
      covered = λ z inside.
          let l = sound.covered z inside in
          (l.0, record { there = l.1.there; leaf = l.1.leaf; inside = l.1.inside });
      once = λ z j j' l l'.
          sound.once z j j' (record { there = l.there; leaf = l.leaf; inside = l.inside })
          (record { there = l'.there; leaf = l'.leaf; inside = l'.inside });
      points = sound.points;
      made = sound.made;
      few = sound.few;
      incumbent = are;
      kept = λ j at. status_kept b b.nodes best on j at (node_at b.nodes j).status (sound.kept j at);
    }

-- ---- each step

pub step_sound : (b : Book) (e : Event) → IsSound b → IsAllowed b e → IsSound (after b e)
step_sound b (Claim w k) sound (his, ready) =
    restated_sound b k (Claimed w (best_value b)) b.best sound (subst IsLeaf (sym ready.status) tt) tt
    (same_value (best_value b)) sound.incumbent (his, same_value (best_value b))
step_sound b (Back w k) sound (his, (u, claimed)) =
    restated_sound b k Ready b.best sound (subst IsLeaf (sym claimed.status) tt) tt
    (same_value (best_value b)) sound.incumbent tt
step_sound b (Split w k h licence cuts) sound (his, may) = split_sound b k h licence cuts w sound may
step_sound b (Close w k leaf) sound (his, may) =
    let Q : Program → Type 0 = λ p. AreIncumbents p leaf.cutoff in
    restated_sound b k (Closed leaf) (improved_by b.best leaf.cutoff) sound
    (subst IsLeaf (sym may.claimed.status) tt) tt (improved_by-old b.best leaf.cutoff)
    (improved_by-are b.program b.best leaf.cutoff sound.incumbent (subst Q may.program may.holds.incumbent))
    (record {
      program = may.program;
      area = may.area ∙ sym (same_area b.nodes k (Closed leaf) k);
      holds = may.holds;
      reached = improved_by-new b.best leaf.cutoff;
    })
step_sound b (Offer w f) sound (his, may) =
    offered_sound b (improved b.best f) sound (improved-old b.best f)
    (improved-are b.program b.best f sound.incumbent (may.program, may.holds))
