-- Trusted. What fixes the meaning of every text.
use Rattle.std.specs.Prelude.{◌≡◌, ◌⊎◌, ℕ, ◌^◌, ◌<◌, ◌≤◌, List, length}
use Rattle.bl_limits.specs.declared.TheConstants.{MAX_TEXT_BYTES}
use Rattle.bl_raw.specs.declared.raw.RawAux.{RawAux}
use Rattle.bl_raw.specs.Raw.{FitsModel}
use Rattle.bl_aux.specs.declared.fault.AuxFault.{AuxFault}
use Rattle.bl_aux.specs.Canonical.{aux_text}
use Rattle.bl_aux.specs.Given.{Sizes}
use Rattle.bl_aux.specs.Texts.{Says, IsFirstFault}

-- Each text says a follower or has a first fault, never both, and one of them at most.
pub record TellsOne : Type 0 where
  pub one : (sizes : Sizes) (text : List ℕ)
      → ((aux : RawAux) × Says sizes text aux) ⊎ ((fault : AuxFault) × IsFirstFault sizes text fault)
  pub apart : (sizes : Sizes) (text : List ℕ) (aux : RawAux) (fault : AuxFault) → Says sizes text aux
      → IsFirstFault sizes text fault → ⊥
  pub follower : (sizes : Sizes) (text : List ℕ) (a b : RawAux) → Says sizes text a → Says sizes text b → a ≡ b
  pub fault : (sizes : Sizes) (text : List ℕ) (f g : AuxFault) → IsFirstFault sizes text f → IsFirstFault sizes text g
      → f ≡ g

-- What a text says is a follower of the model.
abbrev pub SaysFollowers : Type 0
SaysFollowers = (sizes : Sizes) (text : List ℕ) (aux : RawAux) → Says sizes text aux
    → FitsModel sizes.columns sizes.rows aux

-- A follower's canonical text says that follower, for a model with so many columns and rows as can be given.
abbrev pub ReadsBack : Type 0
ReadsBack = (sizes : Sizes) (aux : RawAux) → sizes.columns < 2 ^ 32 → sizes.rows < 2 ^ 32
    → FitsModel sizes.columns sizes.rows aux → length (aux_text aux) ≤ MAX_TEXT_BYTES → Says sizes (aux_text aux) aux
