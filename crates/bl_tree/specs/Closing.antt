-- Trusted. What a leaf stands for, and why it isn't proved.
use Rattle.std.specs.Prelude.{◌≡◌, ◌≢◌, ◌<◌, ◌≤◌, ℕ, pos, List, [], length, map, Option, Some, None}
use Rattle.std.specs.Prelude.{MatchOption, All, ℤ}
use Rattle.bl_whole.specs.Sums.{component}
use Rattle.bl_limits.specs.declared.TheConstants.{MAX_CUTS}
use Rattle.bl_terms.specs.Points.{Area, IsWithinArea, Fixes, Linear}
use Rattle.bl_terms.specs.Programs.{Program}
use Rattle.bl_terms.specs.Responses.{Best, NoResponse}
use Rattle.bl_terms.specs.Bounds.{Multipliers, Proves}
use Rattle.bl_fproof.specs.Entries.{Admitted}
use Rattle.bl_fproof.specs.Steps.{entry_of}
use Rattle.bl_cut_terms.specs.NoGoods.{NoGoodCut, cut_of}
use Rattle.bl_cut.specs.Cuts.{cut_at}
use Rattle.bl_leaf_terms.specs.Incumbents.{Incumbent, cutoff_of}
use Rattle.bl_leaf_terms.specs.Nodes.{fixed_link}
use Rattle.bl_leaf_terms.specs.Leaves as leaves
use Rattle.bl_tree.specs.declared.leaf.Leaf.{Leaf}
use Rattle.bl_tree.specs.declared.leaf.Leaf.TheVariants.{Bounded, NoAnswer}
use Rattle.bl_tree.specs.declared.leaf.LeafFail.{LeafFail}
use Rattle.bl_tree.specs.declared.leaf.LeafFail.TheVariants.{OtherModel, TooMany, CutArea, LinkFree, OtherLink}
use Rattle.bl_tree.specs.declared.leaf.LeafFail.TheVariants.{HasResponse, NoValue, Proof, Memory}

-- a leaf as evidence
abbrev pub evidence_of : Leaf → leaves.Evidence
evidence_of (Bounded proof cuts value_row) = leaves.Bounded proof cuts value_row
evidence_of (NoAnswer kept) = leaves.NoAnswer kept

-- the cuts and the entry that a leaf uses
abbrev pub cuts_used : Leaf → List NoGoodCut
cuts_used (Bounded proof cuts value_row) = cuts
cuts_used (NoAnswer kept) = []

abbrev pub entry_used : Leaf → Option Admitted
entry_used (Bounded proof cuts value_row) = value_row
entry_used (NoAnswer kept) = Some kept

-- the rows of cuts
abbrev pub rows_of : List NoGoodCut → List Linear
rows_of cuts = map (λ c. (cut_of c).row) cuts

-- all that the leaf uses is of the program
pub record IsOfModel (p : Program) (best : Option Incumbent) (leaf : Leaf) : Type 0 where
  pub cutoff : MatchOption best (Unit {0}) (λ f. f.program ≡ p)
  pub cuts : All (λ c. c.program ≡ p) (cuts_used leaf)
  pub entry : MatchOption (entry_used leaf) (Unit {0}) (λ e. e.program ≡ p)

-- k is the first of these cuts whose box doesn't contain the box
pub record IsFirstOutside (a : Area) (cuts : List NoGoodCut) (k : ℕ) : Type 0 where
  pub place : k < length cuts
  pub outside : ¬ IsWithinArea a (cut_of (cut_at cuts k)).area
  pub earlier : (i : ℕ) → i < k → IsWithinArea a (cut_of (cut_at cuts i)).area

-- the leaf cites few cuts, no two of which have the same box and row
abbrev pub CitesFewCuts : Leaf → Type 0
CitesFewCuts leaf = (length (cuts_used leaf) ≤ MAX_CUTS) × leaves.AreDistinctCuts (cuts_used leaf)

-- all that the leaf uses is of the program, and its cuts are few, differ from each other and are valid on the box
pub record HasItsCuts (p : Program) (a : Area) (cutoff : Option Incumbent) (leaf : Leaf) : Type 0 where
  pub model : IsOfModel p cutoff leaf
  pub few : CitesFewCuts leaf
  pub within : All (λ c. IsWithinArea a (cut_of c).area) (cuts_used leaf)

-- ... and where it uses an entry, the box fixes its link
pub record HasItsLink (p : Program) (a : Area) (cutoff : Option Incumbent) (leaf : Leaf) : Type 0 where
  pub cuts : HasItsCuts p a cutoff leaf
  pub entry : MatchOption (entry_used leaf) (Unit {0}) (λ e. Fixes a p.links × (e.link ≡ fixed_link p a))

-- the value of a value row, where there is one
abbrev pub IsValueOf : Option Admitted → Option ℤ → Type 0
IsValueOf None value = value ≡ None
IsValueOf (Some e) value = MatchOption value ⊥ (λ v. (y : List ℤ) × (entry_of e.answered ≡ Best y v))

-- the multipliers prove the cutoff with this value, and without a value the place of its row has the multiplier 0
pub record IsProofWith (p : Program) (a : Area) (u : Option ℤ) (w : Multipliers) (cuts : List NoGoodCut)
    (value : Option ℤ) : Type 0 where
  pub proof : Proves (leaves.leaf_problem p a value (rows_of cuts)) u w
  pub free : value ≡ None → component w.mult (length p.rows) ≡ pos 0

-- the entry has a response
abbrev pub IsAnswered : Admitted → Type 0
IsAnswered e = entry_of e.answered ≢ NoResponse

-- the leaf uses an entry without a response as one that shows the box empty, or one as a value, or a proof; it fails
abbrev pub HasAnswer : Leaf → Type 0
HasAnswer (Bounded proof cuts value_row) = ⊥
HasAnswer (NoAnswer kept) = IsAnswered kept

abbrev pub LacksValue : Leaf → Type 0
LacksValue (Bounded proof cuts value_row) = MatchOption value_row ⊥ (λ e. ¬ IsAnswered e)
LacksValue (NoAnswer kept) = ⊥

abbrev pub FailsToBound : Program → Area → Option ℤ → Leaf → Type 0
FailsToBound p a u (Bounded proof cuts value_row) =
    (value : Option ℤ) × IsValueOf value_row value × ¬ IsProofWith p a u proof cuts value
FailsToBound p a u (NoAnswer kept) = ⊥

-- the first test that fails, in the order of these cases
abbrev pub IsLeafFailure : Program → Area → Option Incumbent → Leaf → LeafFail → Type 0
IsLeafFailure p a cutoff leaf OtherModel = ¬ IsOfModel p cutoff leaf
IsLeafFailure p a cutoff leaf TooMany = IsOfModel p cutoff leaf × ¬ CitesFewCuts leaf
IsLeafFailure p a cutoff leaf (CutArea cut) =
    IsOfModel p cutoff leaf × CitesFewCuts leaf × IsFirstOutside a (cuts_used leaf) cut
IsLeafFailure p a cutoff leaf LinkFree =
    HasItsCuts p a cutoff leaf × MatchOption (entry_used leaf) ⊥ (λ _. ¬ Fixes a p.links)
IsLeafFailure p a cutoff leaf OtherLink =
    HasItsCuts p a cutoff leaf
    × MatchOption (entry_used leaf) ⊥ (λ e. Fixes a p.links × (e.link ≢ fixed_link p a))
IsLeafFailure p a cutoff leaf HasResponse = HasItsLink p a cutoff leaf × HasAnswer leaf
IsLeafFailure p a cutoff leaf NoValue = HasItsLink p a cutoff leaf × LacksValue leaf
IsLeafFailure p a cutoff leaf Proof = HasItsLink p a cutoff leaf × FailsToBound p a (cutoff_of cutoff) leaf
IsLeafFailure p a cutoff leaf Memory = Unit {0}
