-- Internal. The map of a pool: its keys are the links of its entries.
use Rattle.std.specs.Prelude.{◌≡◌, ℤ, List}
use Rattle.std.specs.List.{AllByRecursion}
use Rattle.std.specs.declared.vec.Vec.{Vec}
use Rattle.bl_fproof.specs.Entries.{Admitted}

-- each key is its entry's link
abbrev pub AreByLink : {Z : Type 0} → List (Vec ℤ Z × Admitted) → Type 0
AreByLink entries = AllByRecursion (λ e. e.0.items ≡ e.1.link) entries
