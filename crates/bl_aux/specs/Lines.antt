-- Trusted. What a line of an auxiliary text says by itself, and which rule it breaks by itself.
use Rattle.std.specs.Prelude.{ℕ, ℤ, Bool, false, ◌||◌, ◌==◌, nat_lt, List, [], ◌∷◌, Option, None, Some, Result, Ok, Err}
use Rattle.std.specs.Prelude.{codes, slice_index, slice_index_or, unsigned_abs, if◌then◌else◌}
use Rattle.std.specs.Str.{bytes_eq}
use Rattle.bl_limits.specs.declared.TheConstants.{MAX_NUMBER}
use Rattle.bl_num.specs.declared.fault.NumFault.{NumFault}
use Rattle.bl_num.specs.declared.fault.NumFault.TheVariants.{NotNumber, NotWhole as NumNotWhole}
use Rattle.bl_num.specs.declared.fault.NumFault.TheVariants.{TooLarge as NumTooLarge}
use Rattle.bl_num.specs.Numbers.{read_of}
use Rattle.bl_aux.specs.declared.keys.Key.{Key}
use Rattle.bl_aux.specs.declared.line.Entry.{Entry}
use Rattle.bl_aux.specs.declared.keys.Key.TheVariants.{N, M, Lc, Lr, Lo, Os}
use Rattle.bl_aux.specs.declared.fault.AuxRule.{AuxRule}
use Rattle.bl_aux.specs.declared.fault.AuxRule.TheVariants.{Unsupported, BadKey, BadNumber, NotWhole, TooLarge}

abbrev pub key_of : List ℕ → Option Key
key_of word =
    if bytes_eq word (codes "N") then Some N else (
    if bytes_eq word (codes "M") then Some M else (
    if bytes_eq word (codes "LC") then Some Lc else (
    if bytes_eq word (codes "LR") then Some Lr else (
    if bytes_eq word (codes "LO") then Some Lo else (
    if bytes_eq word (codes "OS") then Some Os else None)))))

-- `IC` or `IB`, or a word that begins with `@`
abbrev pub is_unsupported : List ℕ → Bool
is_unsupported word = bytes_eq word (codes "IC") || (bytes_eq word (codes "IB") || slice_index word 0 == 64)

-- a cost above its limit
abbrev pub is_large : Key → ℤ → Bool
is_large Lo number = nat_lt MAX_NUMBER (unsigned_abs number)
is_large _ number = false

abbrev pub sized : Key → ℤ → Result Entry AuxRule
sized key number = if is_large key number then Err TooLarge else Ok (record { key = key; number = number })

abbrev pub numbered : Key → Result ℤ NumFault → Result Entry AuxRule
numbered key (Ok number) = sized key number
numbered key (Err NotNumber) = Err BadNumber
numbered key (Err NumNotWhole) = Err NotWhole
numbered key (Err (NumTooLarge negative)) = Err TooLarge

abbrev pub keyed : Option Key → List ℕ → Result Entry AuxRule
keyed (Some key) number = numbered key (read_of number)
keyed None number = Err BadKey

abbrev pub two_fields : List (List ℕ) → Result Entry AuxRule
two_fields (word ∷ number ∷ []) = keyed (key_of word) number
two_fields _ = Err BadKey

-- what a line with these fields, one at least, says by itself, or the rule that it breaks by itself
unfoldable pub said : List (List ℕ) → Result Entry AuxRule
said fields = if is_unsupported (slice_index_or fields 0 []) then Err Unsupported else two_fields fields

-- the same of a line that may have no fields, and then says nothing
abbrev pub some_said : Result Entry AuxRule → Result (Option Entry) AuxRule
some_said (Ok entry) = Ok (Some entry)
some_said (Err rule) = Err rule

abbrev pub line_said : List (List ℕ) → Result (Option Entry) AuxRule
line_said [] = Ok None
line_said (field ∷ fields) = some_said (said (field ∷ fields))
