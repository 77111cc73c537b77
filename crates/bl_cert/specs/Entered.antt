-- Internal. The entries that were gathered, by their links.
use Rattle.std.specs.Prelude.{◌≡◌, ℤ, List, map}
use Rattle.std.specs.BTreeMap.{BTreeMap, values}
use Rattle.std.specs.List.{AllByRecursion}
use Rattle.std.specs.declared.vec.Vec.{Vec}
use Rattle.bl_fproof.specs.Entries.{Admitted}
use Rattle.bl_cert_terms.specs.Certificates.{ProvedEntry}
use Rattle.bl_cert_book.specs.Entries.{proved_entry}

-- each key is its entry's link
abbrev pub AreByLink : {Z : Type 0} → List (Vec ℤ Z × Admitted) → Type 0
AreByLink entries = AllByRecursion (λ e. e.0.items ≡ e.1.link) entries

-- the entries in the order of their links
abbrev pub entered : {Z : Type 0} → BTreeMap (Vec ℤ Z) Admitted → List ProvedEntry
entered m = map proved_entry (values m)
