-- Internal. An entry of a box, and why a bound over it isn't proved.
use Rattle.std.specs.Prelude.{◌≡◌, ℤ, List, Option, MatchOption}
use Rattle.bl_terms.specs.Points.{Area, Fixes}
use Rattle.bl_terms.specs.Programs.{Program}
use Rattle.bl_terms.specs.Bounds.{Multipliers}
use Rattle.bl_fproof.specs.Entries.{Admitted}
use Rattle.bl_cut_terms.specs.NoGoods.{NoGoodCut}
use Rattle.bl_leaf_terms.specs.Nodes.{fixed_link}
use Rattle.bl_tree.specs.declared.leaf.LeafFail.{LeafFail}
use Rattle.bl_tree.specs.declared.leaf.LeafFail.TheVariants.{NoValue, Proof, Memory}
use Rattle.bl_tree.specs.Closing.{IsAnswered, IsValueOf, IsProofWith}

-- the box fixes the linking columns, and the entry is of the program and of their link
pub record IsOfBox (p : Program) (a : Area) (e : Admitted) : Type 0 where
  pub program : e.program ≡ p
  pub fixes : Fixes a p.links
  pub link : e.link ≡ fixed_link p a

-- the entry lacks a response, or the multipliers don't prove the cutoff
abbrev pub IsBoundFailure : Program → Area → Option ℤ → Multipliers → List NoGoodCut → Option Admitted → LeafFail
    → Type 0
IsBoundFailure p a u w cuts entry NoValue = MatchOption entry ⊥ (λ e. ¬ IsAnswered e)
IsBoundFailure p a u w cuts entry Proof =
    (value : Option ℤ) × IsValueOf entry value × ¬ IsProofWith p a u w cuts value
IsBoundFailure p a u w cuts entry Memory = Unit {0}
IsBoundFailure p a u w cuts entry _ = ⊥
