-- Right lines of the tree.
use Rattle.std.proofs.Common.{◌≡◌, ℕ, ◌+◌, refl, sym, ap, subst, arith, Bool, List, [], ◌∷◌, ◌++◌, length}
use Rattle.std.specs.Prelude.{ℤ, map, unsigned_abs}
use Rattle.std.proofs.lemmas.List.{length-map}
use Rattle.bl_terms.specs.Points.{Area}
use Rattle.bl_terms.specs.Programs.{Program, root}
use Rattle.bl_terms.specs.Trees.{BareNode, Leaf, CanSplit, high_half}
use Rattle.bl_terms.specs.Bounds.{Multipliers}
use Rattle.bl_cert_terms.specs.Certificates.{LeafProof, Bounded, NoAnswer, Certificate, IsBounded, IsUnanswered, Closes}
use Rattle.bl_cert_terms.specs.Certificates.{IsAccepted}
use Rattle.bl_certline.specs.declared.line.CertLine.TheVariants as lines
use Rattle.bl_certtext.specs.declared.part.Part.{Part}
use Rattle.bl_certtext.specs.declared.part.Part.TheVariants as parts
use Rattle.bl_certtext.specs.Places.{IsLeaf, SplitsAt}
use Rattle.bl_check_terms.specs.declared.rule.CertRule.TheVariants as rules
use Rattle.bl_check_terms.specs.Values.{multipliers}
use Rattle.bl_check_terms.specs.Reading.{add_node, leaf_of}
use Rattle.bl_check_terms.specs.Rules.{CitesRightly, ProvesLeaf}
use Rattle.bl_check_terms.proofs.Numbers.{cited_rise}
use Rattle.bl_check_terms.proofs.Standing.{Stands, Steps, TreeLeaves, treeless, tree_parts}
use Rattle.bl_check_terms.proofs.Trees.{LeadsTo, covers, leaf_more, split_more}

pub step_head : (p : Program) (cuts : ℕ) → Steps p (parts.Head cuts)
step_head p cuts rest c lines.TreeHead s h = record {
  boxes = [];
  parts = ap (λ (ps : List Part). parts.End ∷ ps) s.0;
  leaves = record {
    answered = s.1.answered;
    cuts = s.1.cuts;
    leads = subst (λ (nodes : List (BareNode LeafProof)).
        LeadsTo (Closes p (treeless c)) nodes (root p ∷ []) (root p ∷ [])) (sym s.1.tree) refl;
  };
}
step_head p cuts rest c line s h = absurd h.formed.form

-- behind a leaf the next box is expected, or the end
next_box : (p : Program) (c : Certificate) (cuts : ℕ) (rest : List Part) (boxes : List Area)
    → rest ≡ tree_parts cuts boxes ++ parts.End ∷ [] → TreeLeaves p c boxes → Stands p rest c
next_box p c cuts rest [] e leaves = subst (λ (ps : List Part). Stands p ps c) (sym e) (refl, leaves)
next_box p c cuts rest (b ∷ boxes) e leaves =
    subst (λ (ps : List Part). Stands p ps c) (sym e) (record { boxes = boxes; parts = refl; leaves = leaves })

leaf_leaves : (p : Program) (c : Certificate) (a : Area) (boxes : List Area) (x : LeafProof)
    → TreeLeaves p c (a ∷ boxes) → Closes p (treeless c) a x → TreeLeaves p (add_node (Leaf x) c) boxes
leaf_leaves p c a boxes x h closes = record {
  answered = h.answered;
  cuts = h.cuts;
  leads = leaf_more (Closes p (treeless c)) c.tree (root p ∷ []) a boxes x h.leads closes;
}

bounded : (p : Program) (c : Certificate) (a : Area) (cuts : ℕ) (w : Multipliers) (uses : Bool) (cited : List ℤ)
    (mult : List (ℤ × ℤ)) → IsLeaf p cuts uses cited mult → CitesRightly p c a uses (map unsigned_abs cited)
    → ProvesLeaf p c a w uses (map unsigned_abs cited) → IsBounded p (treeless c) a w uses (map unsigned_abs cited)
bounded p c a cuts w uses cited mult leaf cites proves = record {
  few = let few = leaf.few in omega (arith, length-map cited unsigned_abs);
  rising = cited_rise cuts cited leaf.there leaf.rising;
  there = cites.cuts;
  value = proves.value;
  has = proves.has;
  proof = proves.proof;
}

pub step_tree : (p : Program) (a : Area) (cuts : ℕ) → Steps p (parts.Tree a cuts)
step_tree p a cuts rest c (lines.Split column place) s h =
    let k = unsigned_abs column in
    let splits : SplitsAt a column place = h.placed.begins in
    let can : CanSplit a k place =
    subst (λ (n : ℕ). CanSplit a n place) (sym (ap unsigned_abs splits.1)) splits.2 in
    record {
      boxes = high_half a k place ∷ s.boxes;
      parts = ap (λ (ps : List Part). parts.Tree (high_half a k place) cuts ∷ ps) s.parts;
      leaves = record {
        answered = s.leaves.answered;
        cuts = s.leaves.cuts;
        leads = split_more (Closes p (treeless c)) c.tree (root p ∷ []) a s.boxes k place s.leaves.leads can;
      };
    }
step_tree p a cuts rest c (lines.Close den uses count cited mult) s h =
    let w = multipliers (length p.rows + 1 + length cited) den mult in
    let cites : CitesRightly p c a uses (map unsigned_abs cited) = h.rules 8 rules.Sense (omega arith) in
    let proves : ProvesLeaf p c a w uses (map unsigned_abs cited) = h.rules 9 rules.Sense (omega arith) in
    next_box p (add_node (Leaf (leaf_of p den uses cited mult)) c) cuts rest s.boxes s.parts
    (leaf_leaves p c a s.boxes (leaf_of p den uses cited mult) s.leaves
    (bounded p c a cuts w uses cited mult h.placed.begins cites proves))
step_tree p a cuts rest c lines.NoAnswer s h =
    let rule : IsUnanswered p c a = h.rules 8 rules.Sense (omega arith) in
    next_box p (add_node (Leaf NoAnswer) c) cuts rest s.boxes s.parts
    (leaf_leaves p c a s.boxes NoAnswer s.leaves (record { fixes = rule.fixes; none = rule.none }))
step_tree p a cuts rest c line s h = absurd h.formed.form

-- what closes a box where the tree isn't said yet closes it in the whole
closes_in_whole : (p : Program) (c : Certificate) (a : Area) (x : LeafProof) → Closes p (treeless c) a x
    → Closes p c a x
closes_in_whole p c a (Bounded w uses cited) h = record {
  few = h.few;
  rising = h.rising;
  there = h.there;
  value = h.value;
  has = h.has;
  proof = h.proof;
}
closes_in_whole p c a NoAnswer h = record { fixes = h.fixes; none = h.none }

pub step_end : (p : Program) → Steps p parts.End
step_end p rest c lines.End s h =
    let accepted : IsAccepted p c = record {
      point = s.1.answered.point;
      entries = s.1.answered.proved;
      rising = s.1.answered.rising;
      cuts = s.1.cuts;
      tree = covers (Closes p (treeless c)) (Closes p c) c.tree (root p ∷ []) (closes_in_whole p c) s.1.leads;
    } in
    subst (λ (ps : List Part). Stands p ps c) (sym s.0) accepted
step_end p rest c line s h = absurd h.formed.form
