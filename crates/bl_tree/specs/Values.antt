-- Trusted. The value that an entry gives a box.
use Rattle.std.specs.Prelude.{ℤ, Option, MatchOption}
use Rattle.bl_terms.specs.Points.{Area}
use Rattle.bl_terms.specs.Programs.{Program}
use Rattle.bl_fproof.specs.Entries.{Admitted}
use Rattle.bl_leaf_terms.specs.Nodes.{HasValue}

-- there is an entry, and it gives the box the value v
abbrev pub GivesValue : Program → Area → Option Admitted → ℤ → Type 0
GivesValue p a entry v = MatchOption entry ⊥ (λ e. HasValue p a e v)

-- no value is given to the box
abbrev pub GivesNoValue : Program → Area → Option Admitted → Type 0
GivesNoValue p a entry = (v : ℤ) → ¬ GivesValue p a entry v
