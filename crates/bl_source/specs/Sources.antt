-- Trusted. What a source of entries keeps, and why it refuses one.
use Rattle.std.specs.Prelude.{◌≡◌, List, Option, None, MatchOption, Contains}
use Rattle.bl_fproof.specs.Entries.{Admitted}
use Rattle.bl_source.specs.declared.source.KeepFail.{KeepFail}
use Rattle.bl_source.specs.declared.source.KeepFail.TheVariants.{OtherModel, Memory}

-- whether the entries are told stays, and each entry that is there stays
abbrev pub KeepsEntries : Option (List Admitted) → Option (List Admitted) → Type 0
KeepsEntries old new =
    MatchOption old (new ≡ None)
    (λ entries. MatchOption new ⊥ (λ later. (e : Admitted) → Contains entries e → Contains later e))

-- an entry that is refused is handed back
abbrev pub IsKeepFailure : Admitted → KeepFail → Type 0
IsKeepFailure e (OtherModel back) = back ≡ e
IsKeepFailure e Memory = Unit {0}
