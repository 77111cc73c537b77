-- Leaves that are shown closed, or aren't.
use Rattle.std.proofs.Common.{◌≡◌, refl, sym, subst, List, true, false}
use Rattle.std.specs.Prelude.{ℤ, Option, Some, None, MatchOption, Result, Ok, Err, OnOk, option_map}
use Rattle.std.specs.Option.{is_some}
use Rattle.bl_terms.specs.Points.{Area, IsArea, IsWithinArea}
use Rattle.bl_terms.specs.Programs.{Program, root}
use Rattle.bl_terms.specs.Responses.{Entry, Best, NoResponse}
use Rattle.bl_terms.specs.Bounds.{Multipliers}
use Rattle.bl_model.specs.View.{IsModel}
use Rattle.bl_fproof.specs.Entries.{Admitted, IsAdmitted}
use Rattle.bl_fproof.specs.Steps.{entry_of}
use Rattle.bl_cut_terms.specs.NoGoods.{NoGoodCut}
use Rattle.bl_leaf_terms.specs.Incumbents.{Incumbent, IsIncumbent, AreIncumbents, cutoff_of}
use Rattle.bl_leaf_terms.specs.Leaves.{ClosedLeaf, IsClosedLeaf, IsBounded}
use Rattle.bl_tree.specs.declared.leaf.Leaf.{Leaf}
use Rattle.bl_tree.specs.declared.leaf.Leaf.TheVariants.{Bounded, NoAnswer}
use Rattle.bl_tree.specs.declared.leaf.LeafFail.{LeafFail}
use Rattle.bl_tree.specs.Values.{GivesNoValue}
use Rattle.bl_tree.specs.Closing.{evidence_of, entry_used, IsAnswered, HasItsLink}
use Rattle.bl_tree.specs.Bounds.{IsOfBox}
use Rattle.bl_tree.proofs.Incumbents.{are_incumbents, model_of_entry}

-- ---- entries without a value

-- where the entry of the box's link gives no value, it has no response
unanswered : (p : Program) (a : Area) (e : Admitted) (x : Entry) → IsAdmitted e → IsOfBox p a e
    → GivesNoValue p a (Some e) → entry_of e.answered ≡ x → x ≡ NoResponse
unanswered p a e NoResponse is of none best = refl
unanswered p a e (Best y v) is of none best =
    absurd (none v (record {
      fixes = of.fixes;
      entry = record { admitted = is; program = of.program; link = of.link };
      best = (y, best);
    }))

lacks : (p : Program) (a : Area) (entry : Option Admitted) → MatchOption entry (Unit {0}) IsAdmitted
    → MatchOption entry (Unit {0}) (IsOfBox p a) → is_some entry ≡ true → GivesNoValue p a entry
    → MatchOption entry ⊥ (λ e. ¬ IsAnswered e)
lacks p a None is of there none = cc
lacks p a (Some e) is of there none = λ h. h (unanswered p a e (entry_of e.answered) is of none refl)

none_given : (o : Option ℤ) (P : Type 0) (Q : ℤ → Type 0) → is_some o ≡ false → MatchOption o P Q → P
none_given None P Q e h = h
none_given (Some v) P Q e h = cc

there_mapped : {X : Type 0} (row : Option X) (f : X → Admitted) → is_some row ≡ true → is_some (option_map f row) ≡ true
there_mapped None f e = e
there_mapped (Some x) f e = e

pub lacks_value : {X : Type 0} (row : Option X) (f : X → Admitted) (p : Program) (a : Area) (o : Option ℤ)
    (Q : ℤ → Type 0) → MatchOption (option_map f row) (Unit {0}) IsAdmitted
    → MatchOption (option_map f row) (Unit {0}) (IsOfBox p a) → is_some row ≡ true → is_some o ≡ false
    → MatchOption o (GivesNoValue p a (option_map f row)) Q
    → MatchOption (option_map f row) ⊥ (λ e. ¬ IsAnswered e)
lacks_value row f p a o Q is of there none h =
    lacks p a (option_map f row) is of (there_mapped row f there)
    (none_given o (GivesNoValue p a (option_map f row)) Q none h)

-- ---- closed leaves

-- what a leaf of these parts is
abbrev pub parts : Program → Area → Option Incumbent → Leaf → ClosedLeaf
parts p a best leaf = record { program = p; area = a; cutoff = best; evidence = evidence_of leaf }

incumbents_of : (p : Program) (a : Area) (best : Option Incumbent) (leaf : Leaf) → HasItsLink p a best leaf
    → MatchOption best (Unit {0}) IsIncumbent → AreIncumbents p best
incumbents_of p a best leaf link is = are_incumbents p best is link.cuts.model.cutoff

closed_by_bound : (p : Program) (a : Area) (best : Option Incumbent) (w : Multipliers) (cuts : List NoGoodCut)
    (row : Option Admitted) → IsModel p → IsArea a → IsWithinArea a (root p)
    → HasItsLink p a best (Bounded w cuts row) → MatchOption best (Unit {0}) IsIncumbent
    → IsBounded p a (cutoff_of best) w cuts row → IsClosedLeaf (parts p a best (Bounded w cuts row))
closed_by_bound p a best w cuts row m area within link is bounded = record {
  model = m;
  area = area;
  within = within;
  incumbent = incumbents_of p a best (Bounded w cuts row) link is;
  shown = bounded;
}

pub bounded_leaf : (p : Program) (a : Area) (best : Option Incumbent) (u : Option ℤ) (w : Multipliers)
    (cuts : List NoGoodCut) (row : Option Admitted) (leaf : Leaf) (r : Result (Unit {0}) LeafFail)
    → IsWithinArea a (root p) → leaf ≡ Bounded w cuts row → HasItsLink p a best leaf
    → MatchOption best (Unit {0}) IsIncumbent → u ≡ cutoff_of best → OnOk r (IsBounded p a u w cuts row)
    → OnOk r (IsModel p) → OnOk r (IsArea a) → OnOk r (IsClosedLeaf (parts p a best leaf))
bounded_leaf p a best u w cuts row leaf (Err e) within same link is cutoff bounded m area = tt
bounded_leaf p a best u w cuts row leaf (Ok x) within same link is cutoff bounded m area =
    subst (λ (l : Leaf). IsClosedLeaf (parts p a best l)) (sym same)
    (closed_by_bound p a best w cuts row m area within (subst (λ (l : Leaf). HasItsLink p a best l) same link) is
    (subst (λ (v : Option ℤ). IsBounded p a v w cuts row) cutoff bounded))

closed_by_silence : (p : Program) (a : Area) (best : Option Incumbent) (e : Admitted) → IsAdmitted e → IsArea a
    → IsWithinArea a (root p) → HasItsLink p a best (NoAnswer e) → MatchOption best (Unit {0}) IsIncumbent
    → entry_of e.answered ≡ NoResponse → IsClosedLeaf (parts p a best (NoAnswer e))
closed_by_silence p a best e admitted area within link is none = record {
  model = model_of_entry p e admitted link.cuts.model.entry;
  area = area;
  within = within;
  incumbent = incumbents_of p a best (NoAnswer e) link is;
  shown = record {
    fixes = link.entry.0;
    entry = record { admitted = admitted; program = link.cuts.model.entry; link = link.entry.1 };
    none = none;
  };
}

pub silent_leaf : (p : Program) (a : Area) (best : Option Incumbent) (e : Admitted) (leaf : Leaf)
    (r : Result (Unit {0}) LeafFail) → IsAdmitted e → MatchOption (entry_used leaf) (Unit {0}) (λ _. IsArea a)
    → IsWithinArea a (root p) → leaf ≡ NoAnswer e → HasItsLink p a best leaf
    → MatchOption best (Unit {0}) IsIncumbent → OnOk r (entry_of e.answered ≡ NoResponse)
    → OnOk r (IsClosedLeaf (parts p a best leaf))
silent_leaf p a best e leaf (Err fail) admitted area within same link is none = tt
silent_leaf p a best e leaf (Ok x) admitted area within same link is none =
    subst (λ (l : Leaf). IsClosedLeaf (parts p a best l)) (sym same)
    (closed_by_silence p a best e admitted
    (subst (λ (l : Leaf). MatchOption (entry_used l) (Unit {0}) (λ _. IsArea a)) same area) within
    (subst (λ (l : Leaf). HasItsLink p a best l) same link) is none)
